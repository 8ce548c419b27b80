use Rattle.js_text.specs.Naming.{naming_of}
use Rattle.js_machine.specs.js_operation.Deeds.{look_deed}
use Rattle.js_machine.specs.Views.{party_of}
use Rattle.js_machine.proofs.Operated.{seen_callable}
use Rattle.js_machine_operators.proofs.operators.look_at.Goals as goal

pub returns : goal.returns
returns g c =
    let old = c.args.machine.now in
    seen_callable c.looked.result c.marks_of-callable.result c.args.object (λ a. look_deed (naming_of old.me) a.shared c.args.look c.args.object c.args.held (party_of a old)) old c.looked.new.machine c.marks_of-callable.ensures c.looked.ensures
