use Rattle.std.proofs.Common.{rules}
use Rattle.js_direct.specs.Direct.{seen}
use Rattle.js_direct.proofs.Put.{direct_put}
use Rattle.js_direct.proofs.puts.put_at.Goals as goal

pub returns-clause-put : goal.returns-clause-put
returns-clause-put g c =
    let named = c.in-Some-key_at.named in
    direct_put (seen (g.S.Store.owner c.args.store.now) (g.S.Store.objects c.args.store.now) c.args.code.now c.args.scopes.now c.args.scope) c.args.object c.args.key c.args.value c.in-Some.id.0 named.key named.steps c.in-Some-steps_within.steps c.in-Some-value_at.given (g.S.Store.objects c.write_data.new.store)
    c.in-Some.ensures c.in-Some-value_at.ensures c.in-Some-key_at.ensures c.in-Some-steps_within.ensures.0 (c.write_data.ensures.written (search rules))
