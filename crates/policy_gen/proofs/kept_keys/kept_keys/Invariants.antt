-- The keys before the place are kept.
use Rattle.std.proofs.Common.{◌≡◌, [], take, fold}
use Rattle.policy_gen.specs.Kept.{with_kept}
use Rattle.policy_gen.proofs.kept_keys.kept_keys.Given as goal

abbrev pub invariant-loop-key : goal.invariant-loop-key
invariant-loop-key l = l.kept ≡ fold (with_kept l.keys) [] (take l.key-index l.key-items)
