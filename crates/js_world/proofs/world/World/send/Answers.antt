use Rattle.js_world.proofs.Crossed.{sent_so}
use Rattle.js_world.proofs.world.World.send.Goals as goal

pub returns : goal.returns
returns g c =
    let sent = c.in_ok-ask.ensures in
    sent_so c.in_ok-mode.mode c.args.target c.args.steps c.args.self.now c.send_away.new.self c.keep_ask.new.self c.hand_over.new.self c.in_ok-ask.ask sent.ask sent.none sent.there sent.sent c.in_ok-keep_ask.ensures c.in_ok-mode.ensures
