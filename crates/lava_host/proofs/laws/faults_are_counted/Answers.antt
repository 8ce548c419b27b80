use Rattle.lava_host.proofs.Fault_laws as faults
use Rattle.lava_host.proofs.laws.faults_are_counted.Goals as goal

pub returns : goal.returns
returns c = faults.faults_are_counted
