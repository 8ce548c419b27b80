use Rattle.std.proofs.Common.{◌≡◌, drop}
use Rattle.js_natives.proofs.items.are_texts.Given as goal
use Rattle.js_native.specs.TextNatives.{are_texts}

abbrev pub invariant-loop-value : goal.invariant-loop-value
invariant-loop-value l = are_texts l.values ≡ are_texts (drop l.value-index l.values)
