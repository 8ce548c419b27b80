use Rattle.std.proofs.Common.{length}
use Rattle.js_natives.proofs.seen.+all_are_there.Given as goal

abbrev pub decreases-all_are_there : goal.decreases-all_are_there
decreases-all_are_there g l = length l.values.now
