-- One row more.
use Rattle.std.proofs.Common.{sym, ◌∙◌}
use Rattle.policy_gen.proofs.PassLemmas.{row_more}
use Rattle.policy_gen.proofs.generate.policy_of.Goals as goal

pub loop-owner-preserved : goal.loop-owner-preserved
loop-owner-preserved c =
    row_more c.args.packages.now c.args.keys.now c.args.imports.now c.loop-owner.policy c.put_row.new.policy c.loop-owner.owner _ c.index-keys-owner.result c.index-imports-owner.result
    c.loop-owner-test.true (sym c.requires.keys) (sym c.requires.imports) c.index-keys-owner.is c.index-imports-owner.is c.in_ok-put_row.ensures
    ∙ c.loop-owner.invariant
