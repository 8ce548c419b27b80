use Rattle.js_direct.specs.Direct.{seen, value_of}
use Rattle.js_direct.proofs.Doing.{value_does}
use Rattle.js_direct.proofs.done.only_value.Goals as goal

pub returns-clause-does : goal.returns-clause-does
returns-clause-does g c = λ l common.
    value_does (seen (g.S.Store.owner c.args.store.now) (g.S.Store.objects c.args.store.now) c.args.code.now c.args.scopes.now c.args.scope) common c.args.at (value_of c.value_into-steps.new.given) c.value_into-steps.result (c.value_into-steps.ensures l)
