-- The units so far are counted.
use Rattle.std.proofs.Common.{◌≡◌, ◌≤◌, ◌*◌, take}
use Rattle.js_native.proofs.costs.units_of_values.Given as goal
use Rattle.js_native.specs.Costs.{units_of_values}

abbrev pub invariant-loop-value : goal.invariant-loop-value
invariant-loop-value l = (l.units ≡ units_of_values (take l.value-index l.values)) × (l.units ≤ 1048576 * l.value-index)
