use Rattle.std.proofs.Common.{length}
use Rattle.pkg_graph.proofs.nearest.+find_nearest.Given as goal

abbrev pub decreases-find_nearest : goal.decreases-find_nearest
decreases-find_nearest g l = length l.under.now
