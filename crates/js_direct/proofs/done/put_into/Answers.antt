use Rattle.std.proofs.Common.{arith}
use Rattle.js_code.specs.declared.node.Node.TheVariants as node
use Rattle.js_direct.specs.Direct.{seen}
use Rattle.js_direct.proofs.Doing.{write_row_does}
use Rattle.js_direct.proofs.done.put_into.Goals as goal

pub returns-in-Some-clause-does : goal.returns-in-Some-clause-does
returns-in-Some-clause-does g c = λ l.
    write_row_does (seen (g.S.Store.owner c.args.store.now) (g.S.Store.objects c.args.store.now) c.args.code.now c.args.scopes.now c.args.scope) c.args.common.now (node.Put c.args.object c.args.key c.args.value) (g.S.Store.objects c.write_at.new.store) c.in-Some.direct c.in-Some.ensures.write

pub returns-in-Some-clause-none : goal.returns-in-Some-clause-none
returns-in-Some-clause-none g c = λ e. absurd (omega (arith, e, c.in-Some.ensures.some))
