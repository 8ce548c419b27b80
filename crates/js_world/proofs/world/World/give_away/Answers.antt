use Rattle.std.proofs.Common.{◌∙◌, ap}
use Rattle.js_crossing.specs.Shows.{shows_reply}
use Rattle.js_world.proofs.Given_laws.{given}
use Rattle.js_world.proofs.world.World.give_away.Goals as goal

pub returns-clause-given : goal.returns-clause-given
returns-clause-given g c =
    let r = c.take_reply-reply.result in
    given r c.args.steps c.take_reply-reply.new.self.values c.take_reply-reply.new.self.answer c.party-party.result.0 c.show_reply.new.machine c.charge.new.self _ c.args.self.now c.in_ok-charge.ensures.charged c.party-party.ensures
    (c.in_ok-show_reply.ensures ∙ ap (shows_reply r) c.take_reply-reply.ensures.rest) c.self.view_is
