use Rattle.std.proofs.Common.{◌≡◌, ◌++◌, drop, map}
use Rattle.pkg_graph.specs.Naming.{package_of}
use Rattle.pkg_graph.proofs.order.packages_in.Given as goal

abbrev pub invariant-loop-name : goal.invariant-loop-name
invariant-loop-name l =
    map (package_of l.reading l.names l.order) l.order ≡ l.packages ++ map (package_of l.reading l.names l.order) (drop l.name-index l.order)
