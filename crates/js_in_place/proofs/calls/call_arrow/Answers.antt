use Rattle.std.proofs.Common.{◌≡◌, ◌∙◌, Some, sym, subst}
use Rattle.js_machine.specs.Closures.{closure_in}
use Rattle.js_machine.specs.Views.{View}
use Rattle.js_store.specs.Objects.{object_at}
use Rattle.js_in_place.proofs.calls.call_arrow.Goals as goal

pub returns : goal.returns
returns g c = λ callee arguments e i h has.
    c.call_with.ensures callee arguments e i h has (subst (λ (w : View). closure_in (object_at w.objects c.args.id.0).slot ≡ Some c.in-Some.closure) c.machine.view_is (sym c.in-Ok.ensures ∙ c.in-Some.is))
