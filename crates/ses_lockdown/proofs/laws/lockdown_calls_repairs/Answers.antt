use Rattle.ses_lockdown.proofs.Accessor_laws.{call_repairs}
use Rattle.ses_lockdown.proofs.laws.lockdown_calls_repairs.Goals as goal

pub returns : goal.returns
returns c objects h t = call_repairs (record { last = c.written_keeps_places.ensures.new; others = c.own_after_a_change.ensures.others_than_written }) objects h t
