use Rattle.std.proofs.Common.{◌≡◌, drop}
use Rattle.pkg_graph.specs.Naming.{named_by_all}
use Rattle.pkg_graph.proofs.naming.name_by_all.Given as goal

abbrev pub invariant-loop-link : goal.invariant-loop-link
invariant-loop-link l = named_by_all l.initial.names.items l.from l.link-items ≡ named_by_all l.names.items l.from (drop l.link-index l.link-items)
