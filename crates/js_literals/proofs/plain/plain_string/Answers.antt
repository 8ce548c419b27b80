use Rattle.std.proofs.Common.{arith}
use Rattle.js_literals.proofs.Plain_laws.{behind_first, first_ascii, string_plain}
use Rattle.js_literals.proofs.plain.plain_string.Goals as goal

pub returns-in-len1-up-clause-utf8 : goal.returns-in-len1-up-clause-utf8
returns-in-len1-up-clause-utf8 c =
    first_ascii c.plain_inside.result c.args.literal.now _ (behind_first c.args.literal.now) c.in-len1-up.len_at_least (omega arith) c.plain_inside.ensures.ascii

pub returns-in-len1-up-clause-value : goal.returns-in-len1-up-clause-value
returns-in-len1-up-clause-value c =
    string_plain (λ s. s.now) c.plain_inside.result c.args.literal.now _ c.from.result c.from.ensures (behind_first c.args.literal.now) c.in-len1-up.len_at_least (omega arith) c.plain_inside.ensures.ascii c.plain_inside.ensures.value
