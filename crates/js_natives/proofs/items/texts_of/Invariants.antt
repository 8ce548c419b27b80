use Rattle.std.proofs.Common.{◌≡◌, map, take}
use Rattle.js_natives.proofs.items.texts_of.Given as goal
use Rattle.js_native.specs.TextNatives.{text_of_value}

abbrev pub invariant-loop-value : goal.invariant-loop-value
invariant-loop-value l = l.texts ≡ map text_of_value (take l.value-index l.values)
