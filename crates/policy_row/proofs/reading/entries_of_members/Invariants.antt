-- What is read and what the members that are left give make what all give.
use Rattle.std.proofs.Common.{◌≡◌, ◌++◌, true}
use Rattle.std.specs.List.{list_all}
use Rattle.std.specs.Map.{keys_of}
use Rattle.serde_json.specs.View.{members_view}
use Rattle.policy_row.specs.Reading.{entries_in}
use Rattle.policy_row.specs.Rows.{may_stand}
use Rattle.policy_row.specs.Texts.{by_bytes}
use Rattle.policy_row.proofs.Reading_laws.{behind}
use Rattle.policy_row.proofs.reading.entries_of_members.Given as goal

abbrev pub invariant-loop-key : goal.invariant-loop-key
invariant-loop-key l =
    (behind l.entries (entries_in l.file l.row l.kind (members_view l.key-iterator)) ≡ entries_in l.file l.row l.kind (members_view l.initial.key-iterator))
    × (keys_of l.entries ++ keys_of (by_bytes l.key-iterator) ≡ keys_of (by_bytes l.initial.key-iterator))
    × (list_all (λ e. may_stand l.kind e.1) l.entries ≡ true)
