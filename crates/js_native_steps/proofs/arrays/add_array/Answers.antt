use Rattle.js_native_steps.proofs.Array_laws.{array_made}
use Rattle.js_native_steps.proofs.arrays.add_array.Goals as goal

pub returns-clause-made : goal.returns-clause-made
returns-clause-made g c = array_made c.make_array.result (g.S.Store.owner c.args.store.now).0 c.args.values.now (g.S.Store.objects c.args.store.now) (g.S.Store.objects c.make_array.new.store) c.make_array.ensures.ok
