-- All are among the others where the rest are.
use Rattle.std.proofs.Common.{◌≡◌, drop}
use Rattle.lava_base.specs.Ids.{same_made_symbol}
use Rattle.js_operations.proofs.key_lists.are_in_set.Given as goal
use Rattle.js_operations.specs.KeyLists.{are_among}

abbrev pub invariant-loop-at : goal.invariant-loop-at
invariant-loop-at l = are_among same_made_symbol l.keys l.others ≡ are_among same_made_symbol (drop l.at l.keys) l.others
