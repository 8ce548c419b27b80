-- What is read and what the members that are left give make what all give.
use Rattle.std.proofs.Common.{◌≡◌, ◌++◌}
use Rattle.std.specs.Map.{keys_of}
use Rattle.serde_json.specs.View.{members_view}
use Rattle.policy_row.specs.Reading.{rows_in}
use Rattle.policy_row.specs.Texts.{by_bytes}
use Rattle.policy_row.proofs.Reading_laws.{behind}
use Rattle.policy_row.proofs.reading.rows_of_members.Given as goal

abbrev pub invariant-loop-name : goal.invariant-loop-name
invariant-loop-name l =
    (behind l.policy (rows_in l.file (members_view l.name-iterator)) ≡ rows_in l.file (members_view l.initial.name-iterator))
    × (keys_of l.policy ++ keys_of (by_bytes l.name-iterator) ≡ keys_of (by_bytes l.initial.name-iterator))
