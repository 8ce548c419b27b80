use Rattle.js_in_place.proofs.Returning.{init_holds, operator_holds, slot_holds}
use Rattle.js_in_place.proofs.leaves.held_by.Goals as goal

pub returns-in-SetLocal : goal.returns-in-SetLocal
returns-in-SetLocal c = slot_holds c.args.node c.in-SetLocal.hops c.in-SetLocal.slot c.in-SetLocal.constant c.in-SetLocal.value c.in-SetLocal.is

pub returns-in-Init : goal.returns-in-Init
returns-in-Init c = init_holds c.args.node c.in-Init.hops c.in-Init.slot c.in-Init.value c.in-Init.is

pub returns-in-Binary : goal.returns-in-Binary
returns-in-Binary c = operator_holds c.args.node c.in-Binary.operator c.in-Binary.left c.in-Binary.right c.in-Binary.is
