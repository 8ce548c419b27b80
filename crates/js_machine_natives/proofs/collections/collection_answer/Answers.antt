use Rattle.std.proofs.Common.{◌≡◌, IfOk, subst}
use Rattle.js_text.specs.Naming.{origin_of}
use Rattle.js_store.specs.Tables.{entries_of}
use Rattle.js_machine.specs.Collecting.{table_by}
use Rattle.js_machine.specs.Views.{View}
use Rattle.js_machine.specs.Ways.{object_in}
use Rattle.js_machine_natives.proofs.Collected.{answer_there}
use Rattle.js_machine_natives.proofs.collections.collection_answer.Goals as goal

pub returns-in-Some : goal.returns-in-Some
returns-in-Some g c =
    let s = c.machine.inside in
    subst (λ (w : View). IfOk c.answer_in.result (λ v. v ≡ (table_by (entries_of (object_in w c.args.me).slot) w.asked.ask).0)) c.machine.view_is
    (answer_there c.answer_in.result (g.S.Store.objects s.store) s.common (origin_of (g.S.Store.owner s.store).0 c.args.me) c.find_target.result c.in-Some.target c.slot.result.now s.asked.ask c.find_target.ensures.found c.in-Some.is c.slot.ensures c.answer_in.ensures)
