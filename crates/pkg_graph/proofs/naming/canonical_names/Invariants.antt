use Rattle.std.proofs.Common.{◌≡◌, drop}
use Rattle.pkg_graph.specs.Naming.{named_from}
use Rattle.pkg_graph.proofs.naming.canonical_names.Given as goal

abbrev pub invariant-loop-at : goal.invariant-loop-at
invariant-loop-at l = named_from l.initial.names.items 0 l.fn.links ≡ named_from l.names.items l.at (drop l.at l.fn.links)
