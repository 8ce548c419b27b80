use Rattle.ses_lockdown.proofs.Again_laws.{all_in_order}
use Rattle.ses_lockdown.proofs.laws.lockdown_orders.Goals as goal

pub returns : goal.returns
returns c objects h = all_in_order (record { last = c.written_keeps_places.ensures.new; others = c.own_after_a_change.ensures.others_than_written }) objects h
