-- The path stands at none of the places before.
use Rattle.std.proofs.Common.{◌≡◌, ◌-◌, ◌≤◌, drop, length}
use Rattle.js_text.specs.CommonPaths.{common_paths}
use Rattle.lava_trace.specs.Items.{place_from}
use Rattle.lava_trace.proofs.names.place_of.Given as goal

abbrev pub invariant-loop-known : goal.invariant-loop-known
invariant-loop-known l = (place_from l.place l.path (drop l.place common_paths) ≡ place_from 0 l.path common_paths) × (l.place ≤ length common_paths)

abbrev pub decreases-loop-known : goal.decreases-loop-known
decreases-loop-known l = length common_paths - l.place
