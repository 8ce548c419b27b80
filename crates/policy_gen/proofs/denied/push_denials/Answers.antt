-- One import more.
use Rattle.std.proofs.Common.{◌++◌, ap, ◌∙◌}
use Rattle.std.specs.Option.{option_to_list}
use Rattle.policy_gen.specs.Denials.{denial_of}
use Rattle.policy_gen.proofs.PassLemmas.{picked_more}
use Rattle.policy_gen.proofs.denied.push_denials.Goals as goal

pub loop-request-preserved : goal.loop-request-preserved
loop-request-preserved c =
    let f = denial_of c.args.packages.now c.args.policy.now c.args.owner in
    let old = c.loop-request.denials in
    picked_more f c.as_slice-request-items.result.now c.loop-request.request-index c.loop-request-item.result c.args.denials.now old c.push_denial.new.denials c.loop-request-test.true
    c.loop-request.invariant (c.in_ok-push_denial.ensures ∙ ap (λ e. old ++ option_to_list (f e)) c.loop-request-item.is)
