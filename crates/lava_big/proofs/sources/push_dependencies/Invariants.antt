use Rattle.std.proofs.Common.{◌≡◌, ◌++◌, string_bytes}
use Rattle.lava_big.specs.BigFiles.{dependencies}
use Rattle.lava_big.proofs.sources.push_dependencies.Given as goal

abbrev pub invariant-loop-below : goal.invariant-loop-below
invariant-loop-below l = string_bytes l.text ≡ string_bytes l.initial.text ++ dependencies l.below
