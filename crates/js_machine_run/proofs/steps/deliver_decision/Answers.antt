use Rattle.js_machine_run.proofs.Woken_laws.{jump_left}
use Rattle.js_machine_run.proofs.steps.deliver_decision.Goals as goal

pub resume_jumped-requires : goal.resume_jumped-requires
resume_jumped-requires g c = jump_left c.args.mode c.requires c.in_default.not-Value c.in_default.not-Throw
