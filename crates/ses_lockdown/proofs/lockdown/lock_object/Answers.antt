use Rattle.std.proofs.Common.{◌≡◌, ◌+◌, ◌++◌, [], ◌∷◌, length, arith, ap, ◌∙◌}
use Rattle.std.proofs.lemmas.List.{length_push}
use Rattle.js_store.specs.Objects.{object_at, at_place, fresh, not_extensible}
use Rattle.ses_lockdown.specs.Lockdown.{locked_at, more, common_prototype, held_or, kept_by, role_at}
use Rattle.ses_lockdown.specs.Permits.{permits}
use Rattle.ses_lockdown.proofs.Making_laws.{at_seam, length_at}
use Rattle.ses_lockdown.proofs.lockdown.lock_object.Goals as goal

pub lock_properties-requires-clause-made : goal.lock_properties-requires-clause-made
lock_properties-requires-clause-made c =
    let n : length c.make.new.self.objects ≡ length c.args.locked.now.objects + 1 = ap length c.in_ok-made.ensures.ok ∙ length_push c.args.locked.now.objects _ in
    let i : c.in_ok-made.made.0 ≡ length c.args.locked.now.objects = c.in_ok-made.ensures.id in
    omega (arith, n, i)

pub prevent-requires : goal.prevent-requires
prevent-requires c =
    let n : length c.make.new.self.objects ≡ length c.args.locked.now.objects + 1 = ap length c.in_ok-made.ensures.ok ∙ length_push c.args.locked.now.objects _ in
    let i : c.in_ok-made.made.0 ≡ length c.args.locked.now.objects = c.in_ok-made.ensures.id in
    let m : length c.lock_properties.new.locked.objects ≡ length c.make.new.self.objects = ap length c.in_ok-lock_properties.ensures ∙ length_at c.make.new.self.objects c.in_ok-made.made.0 (more (λ r. locked_at r (object_at c.args.objects.now.objects c.args.place)) c.args.place (object_at c.args.objects.now.objects c.args.place).marks.callable permits) in
    omega (arith, n, i, m)

pub returns : goal.returns
returns c =
    let o = object_at c.args.objects.now.objects c.args.place in
    let old = c.args.locked.now.objects in
    let slot = held_or (kept_by c.args.objects.now.objects (role_at c.args.place)) o.slot in
    let made = fresh (common_prototype o.prototype) o.marks slot in
    let put : c.make.new.self.objects ≡ old ++ made ∷ [] = c.in_ok-made.ensures.ok
    ∙ ap (λ p. old ++ fresh p c.marks.result c.in_ok-slot.slot ∷ []) (c.common_prototype-prototype.ensures ∙ ap common_prototype c.proto.ensures)
    ∙ ap (λ m. old ++ fresh (common_prototype o.prototype) m c.in_ok-slot.slot ∷ []) c.marks.ensures
    ∙ ap (λ s. old ++ fresh (common_prototype o.prototype) o.marks s ∷ []) c.in_ok-slot.ensures in
    let all : c.lock_properties.new.locked.objects ≡ old ++ more (λ r. locked_at r o) c.args.place o.marks.callable permits made ∷ [] = c.in_ok-lock_properties.ensures ∙ ap (λ xs. at_place xs c.in_ok-made.made.0 (more (λ r. locked_at r o) c.args.place o.marks.callable permits)) put ∙ ap (λ i. at_place (old ++ made ∷ []) i (more (λ r. locked_at r o) c.args.place o.marks.callable permits)) c.in_ok-made.ensures.id ∙ at_seam old made (more (λ r. locked_at r o) c.args.place o.marks.callable permits) in
    c.prevent.ensures.objects ∙ ap (λ xs. at_place xs c.in_ok-made.made.0 not_extensible) all ∙ ap (λ i. at_place (old ++ more (λ r. locked_at r o) c.args.place o.marks.callable permits made ∷ []) i not_extensible) c.in_ok-made.ensures.id ∙ at_seam old (more (λ r. locked_at r o) c.args.place o.marks.callable permits made) not_extensible
