use Rattle.std.proofs.Common.{ap, ◌∙◌}
use Rattle.js_code.specs.Decoded.{layer_of, term_at}
use Rattle.js_direct.specs.Direct.{seen}
use Rattle.js_direct.proofs.Given.{null, slot, truth, undefined}
use Rattle.js_direct.proofs.direct.other_at.Goals as goal

pub returns-in-Undefined : goal.returns-in-Undefined
returns-in-Undefined g c = undefined (seen (g.S.Store.owner c.args.store.now) (g.S.Store.objects c.args.store.now) c.args.code.now c.args.scopes.now c.args.scope) c.args.at (c.node.ensures.term ∙ ap (layer_of c.args.code.now (term_at c.args.code.now)) c.in-Undefined.is)

pub returns-in-Null : goal.returns-in-Null
returns-in-Null g c = null (seen (g.S.Store.owner c.args.store.now) (g.S.Store.objects c.args.store.now) c.args.code.now c.args.scopes.now c.args.scope) c.args.at (c.node.ensures.term ∙ ap (layer_of c.args.code.now (term_at c.args.code.now)) c.in-Null.is)

pub returns-in-Bool : goal.returns-in-Bool
returns-in-Bool g c = truth (seen (g.S.Store.owner c.args.store.now) (g.S.Store.objects c.args.store.now) c.args.code.now c.args.scopes.now c.args.scope) c.args.at c.in-Bool.truth (c.node.ensures.term ∙ ap (layer_of c.args.code.now (term_at c.args.code.now)) c.in-Bool.is)

pub returns-in-Some : goal.returns-in-Some
returns-in-Some g c =
    let s = seen (g.S.Store.owner c.args.store.now) (g.S.Store.objects c.args.store.now) c.args.code.now c.args.scopes.now c.args.scope in
    slot s c.args.at c.in-Local.hops c.in-Local.slot _ (c.node.ensures.term ∙ ap (layer_of c.args.code.now (term_at c.args.code.now)) c.in-Local.is) c.in-Some.ensures
