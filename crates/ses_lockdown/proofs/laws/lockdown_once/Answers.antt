use Rattle.ses_lockdown.proofs.Again_laws.{again, same_copied}
use Rattle.ses_lockdown.proofs.Entries_laws.{Writes}
use Rattle.ses_lockdown.proofs.laws.lockdown_once.Goals as goal

pub returns : goal.returns
returns c objects h =
    let laws : Writes = record { last = c.written_keeps_places.ensures.new; others = c.own_after_a_change.ensures.others_than_written } in
    record { intrinsics = same_copied laws objects h; again = again laws objects h }
