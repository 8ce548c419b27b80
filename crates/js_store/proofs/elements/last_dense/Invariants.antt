use Rattle.std.proofs.Common.{◌≡◌, ◌≤◌, length, take}
use Rattle.js_store.specs.Dense.{present}
use Rattle.js_store.proofs.elements.last_dense.Given as goal

-- what is left shows all that there is
abbrev pub invariant-loop-len : goal.invariant-loop-len
invariant-loop-len l = (present 0 (take l.len l.dense) ≡ present 0 l.dense) × (l.len ≤ length l.dense)

abbrev pub decreases-loop-len : goal.decreases-loop-len
decreases-loop-len l = l.len
