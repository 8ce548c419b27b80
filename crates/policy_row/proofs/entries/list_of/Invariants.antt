-- What is listed and what the map has left is the whole map.
use Rattle.std.proofs.Common.{◌≡◌, ◌++◌}
use Rattle.policy_row.specs.Texts.{by_bytes}
use Rattle.policy_row.proofs.entries.list_of.Given as goal

abbrev pub invariant-loop-name : goal.invariant-loop-name
invariant-loop-name l = l.entries ++ by_bytes l.name-iterator ≡ by_bytes l.initial.name-iterator
