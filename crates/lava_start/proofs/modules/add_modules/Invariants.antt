use Rattle.std.proofs.Common.{take}
use Rattle.lava_start.specs.Templates.{HaveSources, KeepsTemplates}
use Rattle.lava_start.proofs.modules.add_modules.Given as goal

abbrev pub invariant-loop-source : goal.invariant-loop-source
invariant-loop-source l = record {
  have : HaveSources l.code l.modules.items (take l.source-index l.sources);
  keeps : KeepsTemplates l.initial.code l.code;
}
