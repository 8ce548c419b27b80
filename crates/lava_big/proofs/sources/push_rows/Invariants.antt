use Rattle.std.proofs.Common.{◌≡◌, ◌++◌, string_bytes}
use Rattle.lava_big.specs.BigFiles.{rows}
use Rattle.lava_big.proofs.sources.push_rows.Given as goal

abbrev pub invariant-loop-below : goal.invariant-loop-below
invariant-loop-below l = string_bytes l.text ≡ string_bytes l.initial.text ++ rows l.below
