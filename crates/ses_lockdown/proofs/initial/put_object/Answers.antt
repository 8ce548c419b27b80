use Rattle.std.proofs.Common.{◌≡◌, ◌+◌, ◌++◌, [], ◌∷◌, length, arith, ap, ◌∙◌}
use Rattle.std.specs.Option.{option_map}
use Rattle.std.proofs.lemmas.List.{length_push}
use Rattle.js_store.specs.Frozen.{common_ref}
use Rattle.js_store.specs.Objects.{at_place, fresh}
use Rattle.js_store.specs.declared.slot.Slot.TheVariants as slot
use Rattle.ses_lockdown.specs.Intrinsics.{initial_at, marks_of}
use Rattle.ses_lockdown.specs.Lockdown.{more}
use Rattle.ses_lockdown.specs.Permits.{permits, place_at}
use Rattle.ses_lockdown.proofs.Making_laws.{at_seam}
use Rattle.ses_lockdown.proofs.initial.put_object.Goals as goal

pub put_properties-requires : goal.put_properties-requires
put_properties-requires c =
    let n : length c.make.new.self.objects ≡ length c.args.objects.now.objects + 1 = ap length c.in_ok-made.ensures.ok ∙ length_push c.args.objects.now.objects _ in
    let i : c.in_ok-made.made.0 ≡ length c.args.objects.now.objects = c.in_ok-made.ensures.id in
    omega (arith, n, i)

pub returns : goal.returns
returns c =
    let old = c.args.objects.now.objects in
    let row = place_at c.args.at in
    let made = fresh (option_map common_ref row.1) (marks_of row.0) slot.Plain in
    let m : c.marks_of-marks.result ≡ marks_of row.0 = c.marks_of-marks.ensures ∙ ap (λ r. marks_of r.0) c.place-kind.ensures in
    let put : c.make.new.self.objects ≡ old ++ made ∷ [] = c.in_ok-made.ensures.ok
    ∙ ap (λ p. old ++ fresh p c.marks_of-marks.result slot.Plain ∷ []) (c.parent.ensures ∙ ap (λ r. option_map common_ref r.1) c.place-kind.ensures)
    ∙ ap (λ k. old ++ fresh (option_map common_ref row.1) k slot.Plain ∷ []) m in
    let all = more (initial_at c.args.at) c.args.at (marks_of row.0).callable permits in
    c.in_ok-put_properties.ensures
    ∙ ap (λ k. at_place c.make.new.self.objects c.in_ok-made.made.0 (more (initial_at c.args.at) c.args.at k.callable permits)) m
    ∙ ap (λ xs. at_place xs c.in_ok-made.made.0 all) put
    ∙ ap (λ i. at_place (old ++ made ∷ []) i all) c.in_ok-made.ensures.id
    ∙ at_seam old made all
