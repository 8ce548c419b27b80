-- The natives in front of the place have their slots.
use Rattle.std.proofs.Common.{◌≡◌, map, take}
use Rattle.ses_prelude.specs.Functions.{operation_slot}
use Rattle.ses_prelude.proofs.operations.operation_slots.Given as goal

abbrev pub invariant-loop-operation : goal.invariant-loop-operation
invariant-loop-operation l = l.frame ≡ map operation_slot (take l.operation-index l.operations)
