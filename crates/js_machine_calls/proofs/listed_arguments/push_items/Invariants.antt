use Rattle.std.proofs.Common.{◌≡◌, ◌++◌, reverse}
use Rattle.js_text.specs.Naming.{naming_of}
use Rattle.js_ordinary.specs.Targets.{object_seen}
use Rattle.js_machine.specs.js_run.Functions.{items_from}
use Rattle.js_machine_calls.proofs.listed_arguments.push_items.Given as goal

abbrev pub invariant-loop-at : goal.invariant-loop-at
invariant-loop-at g l = l.machine ≡ record l.fn.machine { values = reverse (items_from (naming_of l.fn.machine.me) (object_seen l.fn.machine.objects l.fn.machine.common l.target) 0 l.at) ++ l.fn.machine.values }
