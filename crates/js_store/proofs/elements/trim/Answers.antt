use Rattle.std.proofs.Common.{rules, ◌∙◌, arith}
use Rattle.js_store.proofs.Dense_laws.{all_shown, none_there, shown_less}
use Rattle.js_store.proofs.elements.trim.Goals as goal

pub loop-len-init : goal.loop-len-init
loop-len-init c = all_shown c.len-len.result c.args.dense.now.items (search rules)

pub loop-len-preserved : goal.loop-len-preserved
loop-len-preserved c = (shown_less c.loop-len.len c.args.dense.now.items c.loop-len-test.true c.loop-len.invariant.1 (none_there c.args.dense.now.items _ c.index.result.now c.index.ensures c.if-is_none.ensures) ∙ c.loop-len.invariant.0, let le = c.loop-len.invariant.1 in grind (arith))
