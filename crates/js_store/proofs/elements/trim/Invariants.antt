use Rattle.std.proofs.Common.{◌≡◌, ◌≤◌, length, take}
use Rattle.js_store.specs.Dense.{present}
use Rattle.js_store.proofs.elements.trim.Given as goal

abbrev pub invariant-loop-len : goal.invariant-loop-len
invariant-loop-len l = (present 0 (take l.len l.dense.items) ≡ present 0 l.dense.items) × (l.len ≤ length l.dense.items)

abbrev pub decreases-loop-len : goal.decreases-loop-len
decreases-loop-len l = l.len
