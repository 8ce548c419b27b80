use Rattle.std.proofs.Common.{◌≡◌, ◌*◌, ◌^◌, ◌≤◌}
use Rattle.js_num.specs.SafeRange.{max_safe}
use Rattle.js_num.proofs.magnitude.with_zeros.Given as goal

abbrev pub invariant-loop : goal.invariant-loop
invariant-loop l = (l.next ≡ l.number * 10 ^ l.counter) × (l.next ≤ max_safe)
