-- The rows that are left, put over the policy as it is, make what all would have made of it, and each is kept.
use Rattle.std.proofs.Common.{◌≡◌, true}
use Rattle.std.specs.List.{list_all}
use Rattle.policy_row.specs.Merging.{rows_over}
use Rattle.policy_row.specs.Rows.{is_kept}
use Rattle.policy_row.specs.Texts.{by_bytes}
use Rattle.policy_row.proofs.merging.put_over.Given as goal

abbrev pub invariant-loop-name : goal.invariant-loop-name
invariant-loop-name l =
    (rows_over l.policy (by_bytes l.name-iterator) ≡ rows_over l.initial.policy (by_bytes l.initial.name-iterator)) × (list_all (λ e. is_kept e.1) l.name-iterator ≡ true)
