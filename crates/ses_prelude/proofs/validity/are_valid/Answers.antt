use Rattle.std.proofs.Common.{arith}
use Rattle.ses_prelude.proofs.Validity_laws.{first_not, first_valid, none_left}
use Rattle.ses_prelude.proofs.validity.are_valid.Goals as goal

pub returns-then-not-branch : goal.returns-then-not-branch
returns-then-not-branch c =
    first_not c.loop-left.left.now c.first-item.result c.args.templates.now (omega (arith, c.in-len1-up.len_at_least)) c.first-item.is c.in_ok-valid_term.field-0
    c.in_ok-valid_term.ensures.exact c.if-not-branch.true c.loop-left.invariant

pub loop-left-preserved : goal.loop-left-preserved
loop-left-preserved c =
    first_valid c.loop-left.left.now c.first-item.result c.args.templates.now (omega (arith, c.in-len1-up.len_at_least)) c.first-item.is c.in_ok-valid_term.field-0
    c.in_ok-valid_term.ensures.exact c.if-not-branch.false c.loop-left.invariant

pub returns : goal.returns
returns c = none_left c.loop-left.left.now c.args.templates.now c.in_default.len_below c.loop-left.invariant
