use Rattle.std.proofs.Common.{◌≡◌, ◌-◌, ◌≤◌, length, replicate}
use Rattle.js_text.specs.CommonPaths.{common_paths}
use Rattle.js_store.specs.Frozen.{bare}
use Rattle.js_store.proofs.frozen.bare_common.Given as goal

abbrev pub invariant-loop-store : goal.invariant-loop-store
invariant-loop-store l = (l.store.objects ≡ replicate l.at bare) × (l.at ≤ length common_paths)

abbrev pub decreases-loop-store : goal.decreases-loop-store
decreases-loop-store l = length common_paths - l.at
