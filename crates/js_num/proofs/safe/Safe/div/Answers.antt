use Rattle.js_num.proofs.Divisions.{quotient_at, safe_quotient, no_quotient_of_zero, no_quotient}
use Rattle.js_num.proofs.Results.{if_ok_at, not_err}
use Rattle.js_num.proofs.safe.Safe.div.Goals as goal
use Rattle.js_num.proofs.safe.Safe.div.Goals.{then-b-eq0-via-then-b-eq0, then-b-eq0-via-else-b-eq0+then-self-b-ne0}

pub returns-then-b-eq0-clause-err : goal.returns-then-b-eq0-clause-err
returns-then-b-eq0-clause-err c =
    elim c.then-b-eq0.branch [
      | then-b-eq0-via-then-b-eq0 w ↦
          no_quotient_of_zero _ _ _ _ c.self.invariant c.b.invariant c.self.view_is c.b.view_is w.if-b-eq0.true
      | then-b-eq0-via-else-b-eq0+then-self-b-ne0 w ↦
          no_quotient _ _ _ _ c.self.invariant c.b.invariant c.self.view_is c.b.view_is w.if-self-b-ne0.true
    ]

pub returns-clause-ok : goal.returns-clause-ok
returns-clause-ok c =
    if_ok_at _ c.new.result _ c.new.ensures.ok
    (quotient_at _ _ _ _ c.self.invariant c.b.invariant c.self.view_is c.b.view_is c.if-b-eq0.false c.if-self-b-ne0.false)

pub returns-clause-err : goal.returns-clause-err
returns-clause-err c =
    not_err _ _ c.new.result c.new.ensures.err (safe_quotient _ _ _ _ c.self.invariant c.b.invariant c.self.view_is c.b.view_is)
