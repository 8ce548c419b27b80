-- The keys before the place are put.
use Rattle.std.proofs.Common.{◌≡◌, take}
use Rattle.policy_row.specs.Texts.{by_bytes}
use Rattle.policy_globals.specs.Keys.{firsts}
use Rattle.policy_globals.proofs.keys.firsts_of.Given as goal

abbrev pub invariant-loop-key : goal.invariant-loop-key
invariant-loop-key l = by_bytes l.map.entries ≡ firsts (take l.key-index l.keys)
