use Rattle.std.proofs.Common.{◌≡◌, ◌++◌, ◌∷◌, [], ap, ◌∙◌}
use Rattle.lava_base.specs.declared.ids.PartyId.{PartyId}
use Rattle.lava_start.specs.Making.{with_intrinsics}
use Rattle.lava_start.proofs.Global_laws.{bare, bare_global}
use Rattle.lava_start.proofs.Made_laws.{Last, changed}
use Rattle.lava_start.proofs.global.bare_store.Goals as goal

pub returns-clause-objects : goal.returns-clause-objects
returns-clause-objects c =
    let os = c.empty-objects.result.objects in
    let at = c.in_ok-global.global.0 in
    let q : PartyId = c.put_object.new.objects.party in
    let e : q ≡ c.args.party = c.in_ok-global.ensures.party ∙ c.empty-objects.ensures.party in
    let a = c.put_object.new.objects.objects in
    let b = c.put_intrinsics.new.objects.objects in
    let l0 : Last os bare_global at a = record { is = c.in_ok-global.ensures.made; at = c.in_ok-global.ensures.id } in
    let l1 = changed os bare_global at a b (with_intrinsics q.0) l0 c.in_ok-put_intrinsics.ensures.objects in
    l1.is ∙ (λ j. c.empty-objects.ensures.none j ++ with_intrinsics (e j).0 bare_global ∷ []) ∙ ap (λ t. [] ++ t ∷ []) (bare c.args.party.0)
