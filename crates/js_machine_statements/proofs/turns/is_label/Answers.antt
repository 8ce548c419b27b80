use Rattle.std.proofs.Common.{arith}
use Rattle.js_machine_statements.proofs.Turned.{label_found, label_missed}
use Rattle.js_machine_statements.proofs.turns.is_label.Goals as goal

pub returns-then-is_same_text : goal.returns-then-is_same_text
returns-then-is_same_text g c =
    label_found c.args.machine.now.code _ c.args.start c.args.count c.in_ok-there.there c.loop-i.i c.number.result c.is_same_text.result c.loop-i.invariant c.in_ok-there.ensures.there c.in_ok-there.ensures.most c.loop-i-test.true
    c.number.ensures c.is_same_text.ensures c.if-is_same_text.true

pub loop-i-preserved : goal.loop-i-preserved
loop-i-preserved g c =
    label_missed c.args.machine.now.code _ c.args.start c.args.count c.in_ok-there.there c.loop-i.i _ c.number.result c.is_same_text.result c.loop-i.invariant c.in_ok-there.ensures.there c.in_ok-there.ensures.most c.loop-i-test.true
    c.number.ensures c.is_same_text.ensures c.if-is_same_text.false (omega arith)
