-- What is listed and what the map has left is the whole map.
use Rattle.std.proofs.Common.{◌≡◌, ◌++◌}
use Rattle.policy_row.specs.Texts.{by_bytes}
use Rattle.policy_gen.proofs.imports.Imports.list.Given as goal

abbrev pub invariant-loop-request : goal.invariant-loop-request
invariant-loop-request l = l.list ++ by_bytes l.request-iterator ≡ by_bytes l.initial.request-iterator
