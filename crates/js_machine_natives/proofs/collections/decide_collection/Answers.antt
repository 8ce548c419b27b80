use Rattle.js_machine.specs.Collecting.{collected}
use Rattle.js_machine_natives.proofs.Collected.{given_so}
use Rattle.js_machine_natives.proofs.collections.decide_collection.Goals as goal

pub returns : goal.returns
returns g c =
    given_so c.give_found.result c.args.me (collected c.args.machine.now c.args.me) c.in_ok-answer.answer c.args.machine.now c.collect.new.machine c.give_found.new.machine c.in_ok-answer.ensures.answer c.in_ok-answer.ensures.changed c.give_found.ensures
