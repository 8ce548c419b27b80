use Rattle.ses_lockdown.proofs.Locked_laws.{locks}
use Rattle.ses_lockdown.proofs.laws.lockdown_locks.Goals as goal

pub returns : goal.returns
returns c = locks
