-- The entries before the place are put.
use Rattle.std.proofs.Common.{◌≡◌, take}
use Rattle.serde_json.specs.Data.{no_members}
use Rattle.serde_json.specs.View.{members_view}
use Rattle.policy_row.specs.Writing.{grade_data, put_each}
use Rattle.policy_row.proofs.writing.entries_value.Given as goal

abbrev pub invariant-loop-name : goal.invariant-loop-name
invariant-loop-name l = members_view l.members.entries ≡ put_each grade_data no_members (take l.name-index l.entries)
