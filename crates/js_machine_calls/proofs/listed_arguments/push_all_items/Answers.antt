use Rattle.std.proofs.Common.{◌∙◌, ◌++◌, ap, length, reverse, sym}
use Rattle.js_text.specs.Naming.{naming_of}
use Rattle.js_ordinary.specs.Targets.{object_seen}
use Rattle.js_machine_calls.proofs.Spread_out.{as_many}
use Rattle.js_machine_calls.proofs.listed_arguments.push_all_items.Goals as goal

pub returns-clause-count : goal.returns-clause-count
returns-clause-count g c =
    let o = object_seen c.args.machine.now.objects c.args.machine.now.common c.args.target in
    sym (ap length c.in_ok-count.ensures ∙ as_many (naming_of c.args.machine.now.me) o 0 c.in_ok-count.count)

pub returns-clause-pushed : goal.returns-clause-pushed
returns-clause-pushed g c = c.in_ok-push_items.ensures ∙ ap (λ xs. record c.args.machine.now { values = reverse xs ++ c.args.machine.now.values }) (sym c.in_ok-count.ensures)
