use Rattle.std.proofs.Common.{ap, arith, refl, subst, sym}
use Rattle.js_in_place.specs.Places.{ComesTo, at_form, at_list}
use Rattle.js_in_place.proofs.Parts.{list_ends}
use Rattle.js_in_place.proofs.Placed.{stands_at, went_next}
use Rattle.js_in_place.proofs.lists.only.Goals as goal

pub returns : goal.returns
returns g c =
    let w = c.args.machine.now in
    let from = at_list c.args.start 1 w in
    went_next c.args.left c.args.left w w from c.next.new.seat c.next.result
    (stands_at c.args.left c.args.left c.number.result w w w from c.next.new.seat refl (ap (λ s. s.at) c.next.ensures.form)
    (subst (λ k. ComesTo c.args.left w w from (at_form k w) c.args.left) (sym c.number.ensures) (list_ends c.in-Ok.there c.args.start 1 c.args.left w c.in-Ok.ensures.there (omega (arith, c.in-Ok.ensures.most, c.if-there-eq0.false)) c.in-Ok.ensures.most)))
    c.next.ensures.went
