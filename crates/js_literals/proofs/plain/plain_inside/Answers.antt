use Rattle.std.proofs.Common.{◌≡◌, ◌∙◌, true, drop, subst, sym}
use Rattle.std.specs.Str.{IsAscii}
use Rattle.js_literals.specs.StringValues.{is_end}
use Rattle.js_literals.proofs.Plain_laws.{plain_inside_ascii, plain_all_ascii, plain_value}
use Rattle.js_literals.proofs.plain.plain_inside.Goals as goal

pub returns-then-is_close-clause-ascii : goal.returns-then-is_close-clause-ascii
returns-then-is_close-clause-ascii c =
    plain_all_ascii c.args.delimiter c.args.bytes.now c.plain_len.result c.plain_len.ensures.len
    (subst IsAscii c.split_at.ensures.back (c.is_close.ensures.ascii c.if-is_close.true))

pub returns-then-is_close-clause-inside : goal.returns-then-is_close-clause-inside
returns-then-is_close-clause-inside c =
    subst IsAscii (sym c.split_at.ensures.front) (plain_inside_ascii c.args.delimiter c.args.bytes.now c.plain_len.result c.plain_len.ensures.len)

pub returns-then-is_close-clause-value : goal.returns-then-is_close-clause-value
returns-then-is_close-clause-value c =
    let end : is_end c.args.delimiter (drop c.plain_len.result c.args.bytes.now) ≡ true =
    subst (λ l. is_end c.args.delimiter l ≡ true) c.split_at.ensures.back (c.is_close.ensures.end c.if-is_close.true) in
    plain_value c.args.delimiter c.args.bytes.now c.plain_len.result c.plain_len.ensures.len end ∙ sym c.split_at.ensures.front
