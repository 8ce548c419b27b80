use Rattle.std.proofs.Common.{◌≡◌, ◌≤◌, ◌∙◌, sym, length, reverse, ap, arith}
use Rattle.std.proofs.lemmas.List.{length-reverse}
use Rattle.js_machine.specs.Views.{View, args_on}
use Rattle.js_machine_natives.proofs.Native_deeds.{slice_on}
use Rattle.js_machine_natives.proofs.natives.last_values.Goals as goal

pub returns : goal.returns
returns g c =
    let xs = c.machine.inside.values.items in
    let read = c.deref.result.now in
    let view = ap (λ (w : View). w.values) c.machine.view_is in
    let size = ap (λ vs. length vs) c.deref.ensures.value in
    let there : c.given.result ≤ length read = omega (arith, c.given.ensures.there, length-reverse xs, ap (λ vs. length vs) view, size) in
    slice_on read c.len.result c.given.result (c.len.ensures ∙ sym c.deref.ensures.len) there
    ∙ ap (λ vs. args_on c.given.result (reverse vs)) c.deref.ensures.value ∙ ap (λ vs. args_on c.given.result vs) view ∙ c.given.ensures.same
