use Rattle.std.proofs.Common.{◌≡◌, length}
use Rattle.js_store.specs.Objects.{object_at}
use Rattle.js_exotic.proofs.Lowering_laws.{IsLowered}
use Rattle.js_exotic.proofs.array_length.delete_elements.Given as goal

-- what is to come of the objects is what was to come of them at first
abbrev pub invariant-loop-last : goal.invariant-loop-last
invariant-loop-last g l = IsLowered l.least l.id.0 (g.S.Store.objects l.initial.store) (g.S.Store.objects l.store) × (g.S.Store.owner l.store ≡ g.S.Store.owner l.initial.store)

abbrev pub decreases-loop-last : goal.decreases-loop-last
decreases-loop-last g l = length (object_at (g.S.Store.objects l.store) l.id.0).properties
