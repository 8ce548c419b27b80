use Rattle.js_num.proofs.Divisions.{remainder_at}
use Rattle.js_num.proofs.Results.{if_ok_at}
use Rattle.js_num.proofs.safe.Safe.rem.Goals as goal

pub returns-clause-ok : goal.returns-clause-ok
returns-clause-ok c =
    if_ok_at _ c.new.result _ c.new.ensures.ok
    (remainder_at _ _ _ _ c.self.invariant c.b.invariant c.self.view_is c.b.view_is c.if-b-eq0.false)
