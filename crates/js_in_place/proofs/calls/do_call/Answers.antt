use Rattle.std.proofs.Common.{◌≡◌, ◌∙◌, None, Some, subst, sym}
use Rattle.js_machine.specs.Closures.{closure_in}
use Rattle.js_machine.specs.Views.{View}
use Rattle.js_store.specs.Objects.{object_at}
use Rattle.js_in_place.specs.Calls.{HasFunction}
use Rattle.js_in_place.proofs.calls.do_call.Goals as goal

pub returns-in_default-plain_home : goal.returns-in_default-plain_home
returns-in_default-plain_home g c = λ e.
    c.call_arrow.ensures c.args.callee c.args.arguments e (sym c.argument_row.ensures ∙ c.in-Listed.is) c.in-Some.ensures (subst (λ (w : View). HasFunction w.objects c.in-Some.id.0 c.in-Some-body_at.body) c.machine.view_is c.in-Some-body_at.ensures)

pub returns : goal.returns
returns g c = λ e.
    c.call_with.ensures c.args.callee c.args.arguments e (sym c.argument_row.ensures ∙ c.in-Listed.is) c.in-Some.ensures (subst (λ (w : View). HasFunction w.objects c.in-Some.id.0 c.in-Some-body_at.body) c.machine.view_is c.in-Some-body_at.ensures)
    (subst (λ (w : View). closure_in (object_at w.objects c.in-Some.id.0).slot ≡ Some (record { home = c.in-Some-plain_home.plain.home; lexical = None })) c.machine.view_is c.in-Some-plain_home.ensures)
