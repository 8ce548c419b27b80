-- The entries before the place are copied.
use Rattle.std.proofs.Common.{◌≡◌, take}
use Rattle.policy_row.proofs.entries.copy_entries.Given as goal

abbrev pub invariant-loop-name : goal.invariant-loop-name
invariant-loop-name l = l.copies ≡ take l.name-index l.entries
