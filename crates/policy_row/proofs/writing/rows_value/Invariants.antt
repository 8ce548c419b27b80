-- The rows that are left, put to the members, make what all would have made, and each is kept.
use Rattle.std.proofs.Common.{◌≡◌, true}
use Rattle.std.specs.List.{list_all}
use Rattle.serde_json.specs.Data.{no_members}
use Rattle.serde_json.specs.View.{members_view}
use Rattle.policy_row.specs.Rows.{is_kept}
use Rattle.policy_row.specs.Texts.{by_bytes}
use Rattle.policy_row.specs.Writing.{row_data, put_each}
use Rattle.policy_row.proofs.writing.rows_value.Given as goal

abbrev pub invariant-loop-name : goal.invariant-loop-name
invariant-loop-name l =
    (put_each row_data (members_view l.members.entries) (by_bytes l.name-iterator) ≡ put_each row_data no_members (by_bytes l.initial.name-iterator)) × (list_all (λ e. is_kept e.1) l.name-iterator ≡ true)
