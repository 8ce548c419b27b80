use Rattle.std.proofs.Common.{◌∙◌}
use Rattle.js_text.specs.Naming.{naming_of}
use Rattle.lava_start.proofs.accessors.put_half.Goals as goal

pub returns-clause-reference : goal.returns-clause-reference
returns-clause-reference c = c.own.ensures ∙ (λ j. (naming_of (c.in_ok-at.ensures.party j).0).own (c.in_ok-at.ensures.id j))
