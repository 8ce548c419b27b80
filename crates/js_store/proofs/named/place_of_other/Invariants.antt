use Rattle.std.proofs.Common.{◌≡◌, ◌+◌, drop}
use Rattle.lava_base.specs.Ids.{same_made_symbol}
use Rattle.js_text.specs.Values.{same_key}
use Rattle.js_store.specs.Few.{entries_before}
use Rattle.js_store.proofs.named.place_of_other.Given as goal

-- no entry before stands at the key
abbrev pub invariant-loop-at : goal.invariant-loop-at
invariant-loop-at l = entries_before (same_key same_made_symbol l.key) l.few ≡ l.at + entries_before (same_key same_made_symbol l.key) (drop l.at l.few)
