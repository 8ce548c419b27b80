use Rattle.std.proofs.Common.{arith}
use Rattle.js_literals.proofs.Plain_laws.{behind_first, first_ascii, template_plain}
use Rattle.js_literals.proofs.plain.plain_template.Goals as goal

pub returns-in-len1-up-clause-utf8 : goal.returns-in-len1-up-clause-utf8
returns-in-len1-up-clause-utf8 c =
    first_ascii c.plain_inside.result c.args.part.now _ (behind_first c.args.part.now) c.in-len1-up.len_at_least (omega arith) c.plain_inside.ensures.ascii

pub returns-in-len1-up-clause-value : goal.returns-in-len1-up-clause-value
returns-in-len1-up-clause-value c =
    template_plain (λ s. s.now) c.plain_inside.result c.args.part.now _ (behind_first c.args.part.now) c.in-len1-up.len_at_least (omega arith) c.plain_inside.ensures.ascii c.plain_inside.ensures.value
