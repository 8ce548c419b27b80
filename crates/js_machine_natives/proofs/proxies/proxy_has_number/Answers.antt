use Rattle.std.proofs.Common.{w64}
use Rattle.std.proofs.lemmas.Int.{to_z-of_z}
use Rattle.js_machine_natives.proofs.Proxied_laws.{number_had}
use Rattle.js_machine_natives.proofs.proxies.proxy_has_number.Goals as goal

pub returns : goal.returns
returns g c =
    number_had c.follow_proxy_once.result c.args.next c.args.number c.in_ok-decision.decision c.args.machine.now c.next_of_proxy.new.machine c.follow_proxy_once.new.machine
    (to_z-of_z w64 c.args.number c.ranges.number) c.in_ok-decision.ensures.decided c.in_ok-decision.ensures.rest c.follow_proxy_once.ensures
