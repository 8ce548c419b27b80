-- The paths before the place are taken in.
use Rattle.std.proofs.Common.{◌≡◌, take, fold}
use Rattle.policy_gen.specs.Uses.{with_path}
use Rattle.policy_gen.proofs.used_keys.add_paths.Given as goal

abbrev pub invariant-loop-path : goal.invariant-loop-path
invariant-loop-path l = l.keys ≡ fold with_path l.initial.keys (take l.path-index l.paths)
