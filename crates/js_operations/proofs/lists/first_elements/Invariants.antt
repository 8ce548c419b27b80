-- The elements before the place are there.
use Rattle.std.proofs.Common.{◌≡◌}
use Rattle.lava_base.specs.Ids.{same_made_symbol}
use Rattle.js_store.specs.Objects.{object_at}
use Rattle.js_operations.proofs.lists.first_elements.Given as goal
use Rattle.js_operations.specs.Lists.{first_elements}

abbrev pub invariant-loop-at : goal.invariant-loop-at
invariant-loop-at g l = l.values ≡ first_elements same_made_symbol (object_at (g.S.Store.objects l.store) l.id.0) l.at
