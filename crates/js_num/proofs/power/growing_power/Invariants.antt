use Rattle.std.proofs.Common.{◌≡◌, ◌^◌, ◌≤◌}
use Rattle.js_num.specs.SafeRange.{max_safe}
use Rattle.js_num.proofs.power.growing_power.Given as goal

abbrev pub invariant-loop : goal.invariant-loop
invariant-loop l = (l.power ≡ l.base ^ l.counter) × (l.power ≤ max_safe)
