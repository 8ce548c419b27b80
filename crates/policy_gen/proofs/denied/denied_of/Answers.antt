-- The denials of one package more.
use Rattle.std.proofs.Common.{sym, ◌∙◌}
use Rattle.policy_gen.proofs.PassLemmas.{denials_more}
use Rattle.policy_gen.proofs.denied.denied_of.Goals as goal

pub loop-owner-preserved : goal.loop-owner-preserved
loop-owner-preserved c =
    denials_more c.args.packages.now c.args.policy.now c.args.imports.now c.loop-owner.denials c.push_denials.new.denials c.loop-owner.owner _ c.index-imports-owner.result
    c.loop-owner-test.true (sym c.requires) c.index-imports-owner.is c.in_ok-push_denials.ensures
    ∙ c.loop-owner.invariant
