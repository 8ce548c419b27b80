use Rattle.std.proofs.Common.{◌≡◌, ◌∙◌, ap, arith, length, rules, subst, sym, w64}
use Rattle.std.proofs.lemmas.Int.{to_z-of_z}
use Rattle.js_text.specs.declared.value.Value.TheVariants as value
use Rattle.js_machine.specs.Views.{View, top}
use Rattle.js_in_place.proofs.Newest.{top_is}
use Rattle.js_in_place.proofs.deliver.number_below.Goals as goal

pub returns-in-Int : goal.returns-in-Int
returns-in-Int g c =
    let count : c.len-count.result ≡ length c.machine.inside.values.items = search (rules, arith) in
    subst (λ i. top c.args.machine.now.values ≡ value.Int i) (sym (to_z-of_z w64 c.in-Int.number (search rules)))
    (sym (ap (λ (w : View). top w.values) c.machine.view_is) ∙ top_is c.index.result.now c.machine.inside.values.items c.len-count.result count c.if-count-eq0.false c.index.ensures ∙ c.in-Int.is)
