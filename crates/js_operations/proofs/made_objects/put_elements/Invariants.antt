-- The elements so far are there.
use Rattle.std.proofs.Common.{◌≡◌, take}
use Rattle.lava_base.specs.Ids.{same_made_symbol}
use Rattle.js_store.specs.Objects.{at_place}
use Rattle.js_operations.proofs.made_objects.put_elements.Given as goal
use Rattle.js_operations.specs.MadeObjects.{with_elements}

abbrev pub invariant-loop-at : goal.invariant-loop-at
invariant-loop-at g l = record {
  objects : g.S.Store.objects l.store ≡ at_place (g.S.Store.objects l.initial.store) l.id.0 (with_elements same_made_symbol 0 (take l.at l.values));
  party : g.S.Store.owner l.store ≡ g.S.Store.owner l.initial.store;
}
