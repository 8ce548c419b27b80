use Rattle.policy_row.proofs.Writing_laws.{entries_done}
use Rattle.policy_row.proofs.writing.entries_value.Goals as goal

pub returns : goal.returns
returns c =
    entries_done c.loop-name.members c.args.entries.now c.as_slice-name-items.result.now c.loop-name.name-index c.as_slice-name-items.ensures c.loop-name-test.false c.requires c.loop-name.invariant
