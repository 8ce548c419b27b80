-- The items before the place are copied.
use Rattle.std.proofs.Common.{◌≡◌, take}
use Rattle.js_desc.proofs.copy.copy_modules.Given as goal

abbrev pub invariant-loop-name : goal.invariant-loop-name
invariant-loop-name l = l.copies ≡ take l.name-index l.modules
