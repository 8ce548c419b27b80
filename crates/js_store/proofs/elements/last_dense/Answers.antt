use Rattle.std.proofs.Common.{ap, refl, sym, ◌∙◌, ◌≤◌, arith}
use Rattle.js_store.proofs.Dense_laws.{all_shown, last_shown, none_there, shown_less}
use Rattle.js_store.specs.Dense.{last_of}
use Rattle.js_store.proofs.elements.last_dense.Goals as goal

pub loop-len-init : goal.loop-len-init
loop-len-init c = all_shown _ c.args.dense.now refl

pub returns-then-is_some : goal.returns-then-is_some
returns-then-is_some c = sym (last_shown c.loop-len.len c.args.dense.now c.index-dense-len.result c.loop-len-test.true c.loop-len.invariant.1 c.index-dense-len.is (sym c.is_some.ensures ∙ c.if-is_some.true)) ∙ ap last_of c.loop-len.invariant.0

pub loop-len-preserved : goal.loop-len-preserved
loop-len-preserved c = (shown_less c.loop-len.len c.args.dense.now c.loop-len-test.true c.loop-len.invariant.1 (none_there c.args.dense.now _ c.index-dense-len.result c.index-dense-len.is (sym c.is_some.ensures ∙ c.if-is_some.false)) ∙ c.loop-len.invariant.0, let le = c.loop-len.invariant.1 in omega arith)
