-- The keys before the place are values.
use Rattle.std.proofs.Common.{◌≡◌, take}
use Rattle.js_object_natives.proofs.resume.values_of_keys.Given as goal
use Rattle.js_object_natives.specs.Resumed.{values_of_keys}

abbrev pub invariant-loop-key : goal.invariant-loop-key
invariant-loop-key l = l.values ≡ values_of_keys (take l.key-index l.keys)
