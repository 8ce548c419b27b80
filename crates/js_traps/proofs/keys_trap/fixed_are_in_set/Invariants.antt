-- The fixed ones are told where those of the rest are.
use Rattle.std.proofs.Common.{◌≡◌, drop}
use Rattle.lava_base.specs.Ids.{same_made_symbol}
use Rattle.js_traps.proofs.keys_trap.fixed_are_in_set.Given as goal
use Rattle.js_traps.specs.KeysTrap.{fixed_are_among}

abbrev pub invariant-loop-at : goal.invariant-loop-at
invariant-loop-at l = fixed_are_among same_made_symbol l.told l.there l.fixed ≡ fixed_are_among same_made_symbol l.told (drop l.at l.there) (drop l.at l.fixed)
