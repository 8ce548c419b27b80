use Rattle.js_machine_natives.proofs.Proxied_laws.{resumed_so}
use Rattle.js_machine_run.proofs.proxies.resume_proxy.Goals as goal

pub returns : goal.returns
returns g c =
    resumed_so c.follow_proxy.result c.args.next c.args.reply c.in_ok-decision.decision c.args.machine.now c.next_of_proxy.new.machine c.follow_proxy.new.machine
    c.in_ok-decision.ensures.decided c.in_ok-decision.ensures.rest c.follow_proxy.ensures
