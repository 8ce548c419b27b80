use Rattle.js_machine.proofs.Faulted.{bare_made}
use Rattle.js_machine.proofs.faults.bare_error.Goals as goal

pub returns-then-frozen-clause-made : goal.returns-then-frozen-clause-made
returns-then-frozen-clause-made g c =
    bare_made (g.S.Store.objects c.args.store.now) (g.S.Store.objects c.make.new.self) (g.S.Store.objects c.prevent.new.self) c.args.frozen c.args.prototype c.in_ok-id.id.0 c.if-frozen.true c.in_ok-id.ensures.ok c.in_ok-id.ensures.id c.prevent.ensures.objects
