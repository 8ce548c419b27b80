use Rattle.std.proofs.Common.{◌≡◌, ◌+◌, ◌++◌, [], ◌∷◌, length, arith, ap, ◌∙◌}
use Rattle.std.proofs.lemmas.List.{length_push}
use Rattle.js_store.specs.Objects.{at_place, fresh, not_extensible}
use Rattle.js_store.specs.Frozen.{common_at}
use Rattle.ses_lockdown.specs.Lockdown.{own_at, more, common_slot}
use Rattle.ses_lockdown.specs.Permits.{permits}
use Rattle.ses_lockdown.proofs.Making_laws.{at_seam, length_at}
use Rattle.ses_lockdown.proofs.copied.copy_object.Goals as goal

pub copy_properties-requires-clause-made : goal.copy_properties-requires-clause-made
copy_properties-requires-clause-made c =
    let n : length c.make.new.self.objects ≡ length c.args.objects.now.objects + 1 = ap length c.in_ok-made.ensures.ok ∙ length_push c.args.objects.now.objects _ in
    let i : c.in_ok-made.made.0 ≡ length c.args.objects.now.objects = c.in_ok-made.ensures.id in
    omega (arith, n, i)

pub prevent-requires : goal.prevent-requires
prevent-requires c =
    let n : length c.make.new.self.objects ≡ length c.args.objects.now.objects + 1 = ap length c.in_ok-made.ensures.ok ∙ length_push c.args.objects.now.objects _ in
    let i : c.in_ok-made.made.0 ≡ length c.args.objects.now.objects = c.in_ok-made.ensures.id in
    let m : length c.copy_properties.new.objects.objects ≡ length c.make.new.self.objects = ap length c.in_ok-copy_properties.ensures ∙ length_at c.make.new.self.objects c.in_ok-made.made.0 (more (λ r. own_at r (common_at c.args.common.now c.args.place)) c.args.place (common_at c.args.common.now c.args.place).marks.callable permits) in
    omega (arith, n, i, m)

pub returns : goal.returns
returns c =
    let o = common_at c.args.common.now c.args.place in
    let old = c.args.objects.now.objects in
    let made = fresh o.prototype o.marks (common_slot o.slot) in
    let put : c.make.new.self.objects ≡ old ++ made ∷ [] = c.in_ok-made.ensures.ok
    ∙ ap (λ p. old ++ fresh p c.marks.result c.in_ok-slot.slot ∷ []) c.proto.ensures
    ∙ ap (λ m. old ++ fresh o.prototype m c.in_ok-slot.slot ∷ []) c.marks.ensures
    ∙ ap (λ s. old ++ fresh o.prototype o.marks s ∷ []) (c.in_ok-slot.ensures ∙ ap common_slot c.slot.ensures) in
    let all : c.copy_properties.new.objects.objects ≡ old ++ more (λ r. own_at r o) c.args.place o.marks.callable permits made ∷ [] = c.in_ok-copy_properties.ensures ∙ ap (λ xs. at_place xs c.in_ok-made.made.0 (more (λ r. own_at r o) c.args.place o.marks.callable permits)) put ∙ ap (λ i. at_place (old ++ made ∷ []) i (more (λ r. own_at r o) c.args.place o.marks.callable permits)) c.in_ok-made.ensures.id ∙ at_seam old made (more (λ r. own_at r o) c.args.place o.marks.callable permits) in
    c.prevent.ensures.objects ∙ ap (λ xs. at_place xs c.in_ok-made.made.0 not_extensible) all ∙ ap (λ i. at_place (old ++ more (λ r. own_at r o) c.args.place o.marks.callable permits made ∷ []) i not_extensible) c.in_ok-made.ensures.id ∙ at_seam old (more (λ r. own_at r o) c.args.place o.marks.callable permits made) not_extensible
