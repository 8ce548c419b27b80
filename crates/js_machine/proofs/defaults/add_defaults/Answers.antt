use Rattle.js_machine.proofs.Defaulted.{extended_twice, extends_itself, none_ready, one_default_more}
use Rattle.js_machine.proofs.defaults.add_defaults.Goals as goal

pub loop-class-init : goal.loop-class-init
loop-class-init c = (none_ready c.args.code.now c.new-places.result.items c.new-places.ensures.items, extends_itself c.args.code.now)

pub loop-class-preserved : goal.loop-class-preserved
loop-class-preserved c = (
  one_default_more c.loop-class.code c.add_default.new.code c.loop-class.places.items c.push.new.self.items c.in_ok-place.place c.loop-class.invariant.0 c.in_ok-place.ensures.extends c.in_ok-place.ensures.place c.in_ok-push.ensures.items,
  extended_twice c.args.code.now c.loop-class.code c.add_default.new.code c.loop-class.invariant.1 c.in_ok-place.ensures.extends,
)
