use Rattle.std.proofs.Common.{◌≡◌, ◌++◌, map, length}
use Rattle.pkg_graph.specs.declared.graph.Package.{Package}
use Rattle.lava_packages.proofs.names.add_names.Given as goal

abbrev pub invariant-loop-packages : goal.invariant-loop-packages
invariant-loop-packages l = l.names ++ map (λ (p : Package). p.name) l.packages ≡ l.fn.names ++ map (λ (p : Package). p.name) l.fn.packages

abbrev pub decreases-loop-packages : goal.decreases-loop-packages
decreases-loop-packages l = length l.packages
