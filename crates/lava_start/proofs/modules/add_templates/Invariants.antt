use Rattle.std.proofs.Common.{take}
use Rattle.lava_start.specs.Templates.{HaveTemplates, KeepsTemplates}
use Rattle.lava_start.proofs.modules.add_templates.Given as goal

abbrev pub invariant-loop-template : goal.invariant-loop-template
invariant-loop-template l = record {
  have : HaveTemplates l.code l.places.items (take l.template-index l.templates);
  keeps : KeepsTemplates l.initial.code l.code;
}
