-- What follows leads as far as the whole.
use Rattle.std.proofs.Common.{◌≡◌, ◌+◌, ◌-◌, ◌≤◌, length, drop}
use Rattle.std.specs.List.{prefix_len}
use Rattle.js_literals.specs.Plain.{is_plain}
use Rattle.js_literals.proofs.plain.plain_len.Given as goal

abbrev pub invariant-loop-end : goal.invariant-loop-end
invariant-loop-end l = (l.end ≤ length l.bytes) × (l.end + prefix_len (is_plain l.delimiter) (drop l.end l.bytes) ≡ prefix_len (is_plain l.delimiter) l.bytes)

abbrev pub decreases-loop-end : goal.decreases-loop-end
decreases-loop-end l = length l.bytes - l.end
