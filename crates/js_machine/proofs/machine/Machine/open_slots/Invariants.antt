use Rattle.std.proofs.Common.{◌≡◌, ◌-◌, ◌++◌, None, replicate, take}
use Rattle.js_code.specs.Tables.{part_of}
use Rattle.js_operation.specs.js_run.Functions.{other_slots}
use Rattle.js_machine.specs.Filling.{with_open_scope}
use Rattle.js_machine.proofs.machine.Machine.open_slots.Given as goal

abbrev pub invariant-loop-i : goal.invariant-loop-i
invariant-loop-i g l =
    l.self ≡ with_open_scope l.outer (replicate l.first None ++ other_slots (take l.i (part_of l.row.undefined_start l.row.undefined_count l.fn.self.code.numbers)) l.row.params (l.row.slots - l.row.params)) l.fn.self
