-- The rows that are left, put to the policy as it is, make what all would have made.
use Rattle.std.proofs.Common.{◌≡◌, ◌-◌, fold}
use Rattle.std.specs.List.{range_with_len}
use Rattle.policy_gen.specs.Passes.{with_row_at, rows_by_place}
use Rattle.policy_gen.proofs.generate.policy_of.Given as goal

abbrev pub invariant-loop-owner : goal.invariant-loop-owner
invariant-loop-owner l =
    fold (with_row_at l.packages l.keys l.imports) l.policy (range_with_len l.owner (l.owner-end - l.owner)) ≡ rows_by_place l.packages l.keys l.imports
