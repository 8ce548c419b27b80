use Rattle.std.proofs.Common.{refl, arith}
use Rattle.js_machine_statements.proofs.Ordered.{more_left}
use Rattle.js_machine_statements.proofs.sequences.in_order.Goals as goal

pub returns : goal.returns
returns g c =
    more_left c.wait.result c.in_ok-there.there c.args.start c.args.count _ _ c.number-first.result c.args.machine.now c.wait.new.self c.in_ok-there.ensures.there (omega (arith, c.if-there-eq0.false, c.if-there-eq1.false))
    c.in_ok-there.ensures.most refl refl c.number-first.ensures c.wait.ensures.leads
