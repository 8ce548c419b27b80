use Rattle.std.proofs.Common.{◌≡◌, ◌<◌, length, ◌∙◌, ap, subst, sym, arith}
use Rattle.std.specs.Prelude.{slice_get}
use Rattle.js_text.specs.CommonPaths.{common_paths}
use Rattle.js_store.specs.Objects.{at_place}
use Rattle.lava_start.specs.Making.{with_found}
use Rattle.lava_start.proofs.Global_laws.{last_place, next_place}
use Rattle.lava_start.proofs.Made_laws.{length_at}
use Rattle.lava_start.proofs.global.put_intrinsics.Goals as goal

pub loop-place-preserved : goal.loop-place-preserved
loop-place-preserved c =
    let p = c.args.objects.now.party.0 in
    let n = c.loop-place.place in
    let i = c.args.at.0 in
    let xs = c.loop-place.objects.objects in
    let ys = c.put_place.new.objects.objects in
    let e : ys ≡ at_place xs i (with_found p n (slice_get common_paths n)) = c.in_ok-put_place.ensures.objects ∙ ap (λ q. at_place xs i (with_found q.0 n (slice_get common_paths n))) c.loop-place.invariant.party in
    let lt : n < 222 = omega arith in
    record {
      inside = subst (λ k. i < k) (sym (ap length e ∙ length_at xs i (with_found p n (slice_get common_paths n)))) c.loop-place.invariant.inside;
      party = c.in_ok-put_place.ensures.party ∙ c.loop-place.invariant.party;
      left = next_place p n i xs ys _ lt c.loop-place.invariant.inside e c.loop-place.invariant.left;
    }

pub returns-clause-objects : goal.returns-clause-objects
returns-clause-objects c =
    let e : c.loop-place.place ≡ 222 = omega arith in
    last_place c.args.objects.now.party.0 c.loop-place.place c.args.at.0 c.loop-place.objects.objects _ e c.loop-place.invariant.left
