use Rattle.std.proofs.Common.{◌≡◌, drop, fold, map, string_bytes}
use Rattle.pkg_graph.specs.Naming.{with_first, first_places}
use Rattle.pkg_graph.proofs.order.first_places.Given as goal

abbrev pub invariant-loop-name : goal.invariant-loop-name
invariant-loop-name l = first_places l.names ≡ fold with_first (map string_bytes l.set.keys) (drop l.name-index l.names)
