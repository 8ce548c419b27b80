use Rattle.std.proofs.Common.{◌+◌, arith}
use Rattle.js_machine_natives.proofs.Unit_laws.{unit_next, unit_stops}
use Rattle.js_machine_natives.proofs.units.read_units.Goals as goal

pub returns-in-Stop : goal.returns-in-Stop
returns-in-Stop c read h =
    unit_stops read c.args.items.now c.args.from c.loop-at.at (c.loop-at.at + 1) c.index-items-at.result c.args.units.now c.loop-at.units c.in_ok-unit.field-0 c.in-Stop.reading (omega arith) c.loop-at-test.true c.index-items-at.is
    (c.loop-at.invariant read h) (c.in_ok-unit.ensures read h) c.in-Stop.is

pub loop-at-preserved : goal.loop-at-preserved
loop-at-preserved c read h =
    unit_next read c.args.items.now c.args.from c.loop-at.at (c.loop-at.at + 1) c.index-items-at.result c.args.units.now c.loop-at.units c.push.new.self c.in_ok-unit.field-0 c.in-Unit.unit (omega arith) c.loop-at-test.true c.index-items-at.is
    (c.loop-at.invariant read h) (c.in_ok-unit.ensures read h) c.in-Unit.is c.in_ok-push-in-Unit.ensures.ok
