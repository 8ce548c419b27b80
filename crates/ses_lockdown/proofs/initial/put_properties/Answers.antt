use Rattle.std.proofs.Common.{◌≡◌, ◌<◌, length, arith, ap, ◌∙◌, subst, sym}
use Rattle.js_store.specs.Objects.{at_place}
use Rattle.ses_lockdown.specs.Intrinsics.{initial_at}
use Rattle.ses_lockdown.specs.Lockdown.{one_more}
use Rattle.ses_lockdown.specs.Permits.{permit_at, permit_count}
use Rattle.ses_lockdown.proofs.Making_laws.{step, last_step, length_at}
use Rattle.ses_lockdown.proofs.initial.put_properties.Goals as goal

pub loop-at-preserved : goal.loop-at-preserved
unfolding permit_count
loop-at-preserved c =
    let f = one_more (initial_at c.args.place) c.args.place c.args.callable in
    let e : c.put_property.new.objects.objects ≡ at_place c.loop-at.objects.objects c.args.made.0 (f (permit_at c.loop-at.at)) = c.in_ok-put_property.ensures ∙ ap (λ r. at_place c.loop-at.objects.objects c.args.made.0 (f r)) c.permit.ensures in
    record {
      inside = subst (λ n. c.args.made.0 < n) (sym (ap length e ∙ length_at c.loop-at.objects.objects c.args.made.0 (f (permit_at c.loop-at.at)))) c.loop-at.invariant.inside;
      left = step (initial_at c.args.place) c.args.place c.args.callable c.loop-at.at c.args.made.0 c.loop-at.objects.objects c.put_property.new.objects.objects _ c.loop-at-test.true c.loop-at.invariant.inside e c.loop-at.invariant.left;
    }

pub returns : goal.returns
unfolding permit_count
returns c =
    let e : c.loop-at.at ≡ 161 = omega arith in
    last_step (initial_at c.args.place) c.args.place c.args.callable c.args.made.0 c.loop-at.objects.objects _ c.loop-at.at e c.loop-at.invariant.left
