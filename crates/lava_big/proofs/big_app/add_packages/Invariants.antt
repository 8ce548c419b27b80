use Rattle.std.proofs.Common.{◌≡◌, ◌++◌}
use Rattle.lava_big.specs.BigFiles.{packages_files}
use Rattle.lava_big.proofs.big_app.add_packages.Given as goal

abbrev pub invariant-loop-below : goal.invariant-loop-below
invariant-loop-below l = record {
  files : l.folder.files ≡ l.initial.folder.files ++ packages_files l.below;
  failing : l.folder.failing ≡ l.initial.folder.failing;
}
