use Rattle.js_world.proofs.Outside_laws.{answers_so}
use Rattle.js_world.proofs.world.World.answer_on.Goals as goal

pub returns : goal.returns
returns g c =
    let gone = c.in_ok-stop.ensures in
    answers_so c.follow.result c.args.pause c.args.answer c.in_ok-stop.stop c.args.self.now c.go_on_after.new.self c.follow.new.self gone.goes gone.there gone.rest c.follow.ensures
