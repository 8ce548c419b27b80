use Rattle.std.proofs.Common.{◌≡◌, ◌+◌, drop}
use Rattle.lava_base.specs.Ids.{same_made_symbol}
use Rattle.js_text.specs.Values.{same_key}
use Rattle.js_text.specs.declared.value.Key.TheVariants.{Text}
use Rattle.js_store.specs.Few.{entries_before}
use Rattle.js_store.proofs.named.place_of_text.Given as goal

-- no entry before stands at the text
abbrev pub invariant-loop-at : goal.invariant-loop-at
invariant-loop-at l = entries_before (same_key same_made_symbol (Text l.text)) l.few ≡ l.at + entries_before (same_key same_made_symbol (Text l.text)) (drop l.at l.few)
