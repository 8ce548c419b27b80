use Rattle.std.proofs.Common.{◌≡◌, ◌<◌, length, arith, ap, ◌∙◌, subst, sym}
use Rattle.js_store.specs.Objects.{object_at, at_place}
use Rattle.ses_lockdown.specs.Lockdown.{locked_at, one_more}
use Rattle.ses_lockdown.specs.Permits.{permit_at, permit_count}
use Rattle.ses_lockdown.proofs.Making_laws.{step, last_step, length_at}
use Rattle.ses_lockdown.proofs.lockdown.lock_properties.Goals as goal

pub loop-at-preserved : goal.loop-at-preserved
unfolding permit_count
loop-at-preserved c =
    let o = object_at c.args.objects.now.objects c.args.place in
    let e : c.lock_property.new.locked.objects ≡ at_place c.loop-at.locked.objects c.args.made.0 (one_more (λ r. locked_at r o) c.args.place o.marks.callable (permit_at c.loop-at.at)) = c.in_ok-lock_property.ensures ∙ ap (λ r. at_place c.loop-at.locked.objects c.args.made.0 (one_more (λ r. locked_at r o) c.args.place o.marks.callable r)) c.permit.ensures in
    record {
      inside = subst (λ n. c.args.made.0 < n) (sym (ap length e ∙ length_at c.loop-at.locked.objects c.args.made.0 (one_more (λ r. locked_at r o) c.args.place o.marks.callable (permit_at c.loop-at.at)))) c.loop-at.invariant.inside;
      left = step (λ r. locked_at r o) c.args.place o.marks.callable c.loop-at.at c.args.made.0 c.loop-at.locked.objects c.lock_property.new.locked.objects _ c.loop-at-test.true c.loop-at.invariant.inside e c.loop-at.invariant.left;
    }

pub returns : goal.returns
unfolding permit_count
returns c =
    let o = object_at c.args.objects.now.objects c.args.place in
    let e : c.loop-at.at ≡ 161 = omega arith in
    last_step (λ r. locked_at r o) c.args.place o.marks.callable c.args.made.0 c.loop-at.locked.objects _ c.loop-at.at e c.loop-at.invariant.left
