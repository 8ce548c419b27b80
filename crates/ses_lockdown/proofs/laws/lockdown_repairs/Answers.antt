use Rattle.ses_lockdown.proofs.Repair_laws.{they_repair}
use Rattle.ses_lockdown.proofs.laws.lockdown_repairs.Goals as goal

pub returns : goal.returns
returns c objects h = they_repair (record { last = c.written_keeps_places.ensures.new; others = c.own_after_a_change.ensures.others_than_written }) c.common_paths_rise.ensures objects h
