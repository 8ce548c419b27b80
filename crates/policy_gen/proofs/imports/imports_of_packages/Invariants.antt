-- The modules before the place are taken in.
use Rattle.std.proofs.Common.{◌≡◌, [], length, take, fold, replicate}
use Rattle.policy_gen.specs.Passes.{with_module_imports}
use Rattle.policy_gen.proofs.imports.imports_of_packages.Given as goal

abbrev pub invariant-loop-loaded : goal.invariant-loop-loaded
invariant-loop-loaded l =
    l.all.items ≡ fold (with_module_imports l.app.packages) (replicate (length l.app.packages) []) (take l.loaded-index l.loaded-items)
