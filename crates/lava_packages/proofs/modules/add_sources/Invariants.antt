use Rattle.std.proofs.Common.{◌≡◌, ◌++◌, length}
use Rattle.lava_packages.specs.Modules.{sources_of}
use Rattle.lava_packages.proofs.modules.add_sources.Given as goal

abbrev pub invariant-loop-modules : goal.invariant-loop-modules
invariant-loop-modules l = l.sources.items ++ sources_of l.owner l.modules ≡ l.fn.sources.items ++ sources_of l.fn.owner l.fn.modules

abbrev pub decreases-loop-modules : goal.decreases-loop-modules
decreases-loop-modules l = length l.modules
