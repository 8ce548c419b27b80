use Rattle.std.proofs.Common.{arith}
use Rattle.js_machine_run.proofs.Charged.{runs_charged, runs_free}
use Rattle.js_machine_run.proofs.run.run.Goals as goal

pub returns : goal.returns
returns g c =
    runs_charged c.run_for-2.result c.args.free c.args.meter _ c.args.limit c.args.steps c.args.mode c.args.machine.now c.run_for-2.new.machine c.if-free.false (omega (arith, c.saturating_sub.ensures)) c.run_for-2.ensures

pub returns-then-free : goal.returns-then-free
returns-then-free g c =
    runs_free c.args.free c.args.meter c.args.limit c.args.steps c.args.mode c.args.machine.now c.run_for.new.machine c.in_ok-stop.stop c.with_steps.result c.if-free.true c.in_ok-stop.ensures c.with_steps.ensures
