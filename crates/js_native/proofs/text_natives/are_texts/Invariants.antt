-- All are texts where the rest are.
use Rattle.std.proofs.Common.{◌≡◌, drop}
use Rattle.js_native.proofs.text_natives.are_texts.Given as goal
use Rattle.js_native.specs.TextNatives.{are_texts}

abbrev pub invariant-loop-value : goal.invariant-loop-value
invariant-loop-value l = are_texts l.args ≡ are_texts (drop l.value-index l.args)
