-- The texts so far are joined.
use Rattle.std.proofs.Common.{◌≡◌, take}
use Rattle.js_native.proofs.text_natives.joined_texts.Given as goal
use Rattle.js_native.specs.TextNatives.{joined_texts}

abbrev pub invariant-loop-value : goal.invariant-loop-value
invariant-loop-value l = l.joined ≡ joined_texts (take l.value-index l.args)
