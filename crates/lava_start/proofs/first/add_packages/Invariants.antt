use Rattle.std.proofs.Common.{◌≡◌, suc, take}
use Rattle.lava_start.specs.Firsts.{AreAppended}
use Rattle.lava_start.specs.Templates.{KeepsTemplates}
use Rattle.lava_start.proofs.first.add_packages.Given as goal

abbrev pub invariant-loop-source : goal.invariant-loop-source
invariant-loop-source l = record {
  number : l.party ≡ suc l.source-index;
  packages : AreAppended l.initial.others.items l.code (take l.source-index l.packages) l.others.items;
  keeps : KeepsTemplates l.initial.code l.code;
}
