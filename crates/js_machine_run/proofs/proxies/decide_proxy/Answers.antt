use Rattle.js_machine_natives.proofs.Proxied_laws.{decided_so}
use Rattle.js_machine_run.proofs.proxies.decide_proxy.Goals as goal

pub returns : goal.returns
returns g c = decided_so c.follow_proxy.result c.args.me c.in_ok-decision.decision c.args.machine.now c.follow_proxy.new.machine c.in_ok-decision.ensures c.follow_proxy.ensures
