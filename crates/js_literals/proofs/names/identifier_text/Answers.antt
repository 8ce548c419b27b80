use Rattle.std.proofs.Common.{rules, ◌≡◌, subst, sym, length, ◌≤◌}
use Rattle.std.specs.Prelude.{IfOk}
use Rattle.std.specs.Str.{IsAscii}
use Rattle.std.proofs.lemmas.Str.{IsUtf8-from_ascii}
use Rattle.js_text.specs.Utf8.{utf16_of}
use Rattle.js_text.specs.declared.text.TheConstants.{MAX_UNITS}
use Rattle.js_literals.proofs.Answers_laws.{whole_not_utf8, whole_too_long, on_ok}
use Rattle.js_literals.proofs.Plain_laws.{ascii_units}
use Rattle.js_literals.proofs.names.identifier_text.Goals as goal

pub returns-then-is_ascii-clause-utf8 : goal.returns-then-is_ascii-clause-utf8
returns-then-is_ascii-clause-utf8 c =
    let ascii : IsAscii c.args.name.now = search rules in on_ok c.ascii_text.result (IsUtf8-from_ascii c.args.name.now ascii)

pub returns-then-is_ascii-clause-units : goal.returns-then-is_ascii-clause-units
returns-then-is_ascii-clause-units c =
    let ascii : IsAscii c.args.name.now = search rules in
    subst (λ l. IfOk c.ascii_text.result (λ text. text ≡ l)) (sym (ascii_units c.args.name.now ascii)) c.ascii_text.ensures.units

pub returns-then-is_ascii-clause-not_utf8 : goal.returns-then-is_ascii-clause-not_utf8
returns-then-is_ascii-clause-not_utf8 c = λ at small.
    let ascii : IsAscii c.args.name.now = search rules in
    whole_not_utf8 c.ascii_text.result c.args.name.now c.args.name.now (IsUtf8-from_ascii c.args.name.now ascii) c.ascii_text.ensures.too_long c.ascii_text.ensures.memory at

pub returns-then-is_ascii-clause-too_long : goal.returns-then-is_ascii-clause-too_long
returns-then-is_ascii-clause-too_long c =
    let ascii : IsAscii c.args.name.now = search rules in
    whole_too_long c.ascii_text.result c.args.name.now c.args.name.now utf16_of (IsUtf8-from_ascii c.args.name.now ascii) (ascii_units c.args.name.now ascii) c.ascii_text.ensures.too_long

pub returns-then-is_ascii-clause-memory : goal.returns-then-is_ascii-clause-memory
returns-then-is_ascii-clause-memory c = λ utf8 l.
    let ascii : IsAscii c.args.name.now = search rules in
    c.ascii_text.ensures.memory (subst (λ l. length l ≤ MAX_UNITS) (ascii_units c.args.name.now ascii) l)
