-- The entries before the place are put.
use Rattle.std.proofs.Common.{◌≡◌, take}
use Rattle.policy_row.specs.Merging.{merged_entries}
use Rattle.policy_row.specs.Texts.{by_bytes}
use Rattle.policy_row.proofs.entries.put_entries.Given as goal

abbrev pub invariant-loop-name : goal.invariant-loop-name
invariant-loop-name l = by_bytes l.map.entries ≡ merged_entries (by_bytes l.initial.map.entries) (take l.name-index l.entries)
