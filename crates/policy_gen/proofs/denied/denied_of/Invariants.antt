-- What is listed, and what is denied the packages that are left, is all.
use Rattle.std.proofs.Common.{◌≡◌, ◌-◌, ◌++◌}
use Rattle.std.specs.List.{flat_map, range_with_len}
use Rattle.policy_gen.specs.Passes.{denials_at, denied_by_place}
use Rattle.policy_gen.proofs.denied.denied_of.Given as goal

abbrev pub invariant-loop-owner : goal.invariant-loop-owner
invariant-loop-owner l =
    l.denials ++ flat_map (denials_at l.packages l.policy l.imports) (range_with_len l.owner (l.owner-end - l.owner)) ≡ denied_by_place l.packages l.policy l.imports
