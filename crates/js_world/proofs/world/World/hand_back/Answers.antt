use Rattle.std.proofs.Common.{◌∙◌, sym}
use Rattle.js_world.proofs.Crossed.{ends_with, gives_back}
use Rattle.js_world.proofs.world.World.hand_back.Goals as goal

pub returns-in_ok-mode-in-Some : goal.returns-in_ok-mode-in-Some
returns-in_ok-mode-in-Some g c =
    let given = c.in_ok-reply.ensures in
    gives_back c.in_ok-reply.reply c.args.mode c.args.steps c.in-Some.waiting c.args.self.now c.give_away.new.self c.take_waiting.new.self c.go_back.new.self c.in_ok-mode-in-Some.mode given.given given.reply given.there (sym c.take_waiting.ensures.body ∙ c.in-Some.is) c.take_waiting.ensures.rest c.in_ok-mode-in-Some.ensures

pub returns-in_ok-keep_reply-in-None : goal.returns-in_ok-keep_reply-in-None
returns-in_ok-keep_reply-in-None g c =
    let given = c.in_ok-reply.ensures in
    ends_with c.in_ok-reply.reply c.args.mode c.args.steps c.args.self.now c.give_away.new.self c.take_waiting.new.self c.keep_reply.new.self c.end_with.new.self c.end_with.result given.given given.reply given.there (sym c.take_waiting.ensures.body ∙ c.in-None.is) c.take_waiting.ensures.rest c.in_ok-keep_reply-in-None.ensures c.end_with.ensures.over c.end_with.ensures.kept
