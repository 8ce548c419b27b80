-- The machine of strings and templates, one function a
-- Rust function. `Grammar` says what they mean.
use Rattle.std.specs.Prelude.{ℕ, ◌==◌, ◌||◌, if◌then◌else◌, Result, Err}
use Rattle.js_lexer.specs.declared.machine.Step.{Step}
use Rattle.js_lexer.specs.declared.machine.Step.TheVariants.{Go, With, Before, Bad}
use Rattle.js_lexer.specs.declared.machine.Stop.{Stop}
use Rattle.js_lexer.specs.declared.machine.Stop.TheVariants as stops
use Rattle.js_lexer.specs.declared.escapes.Escape.{Escape}
use Rattle.js_lexer.specs.declared.escapes.Escape.TheVariants as escapes
use Rattle.js_lexer.specs.declared.quoted.Quote.{Quote}
use Rattle.js_lexer.specs.declared.quoted.Quote.TheVariants as quotes
use Rattle.js_lexer.specs.declared.quoted.End.{End}
use Rattle.js_lexer.specs.declared.quoted.End.TheVariants as ends
use Rattle.js_lexer.specs.declared.quoted.Part.{Part}
use Rattle.js_lexer.specs.declared.quoted.Part.TheVariants as parts
use Rattle.js_lexer.specs.declared.quoted.Quoted.{Quoted}
use Rattle.js_lexer.specs.Characters.{is_digit, is_hex_digit}
use Rattle.js_lexer.specs.Escapes.{escape_step}

abbrev pub QuotedStep : Type 0
QuotedStep = Step Quoted End

abbrev pub opened : Quote → Quoted
opened quote = record { quote = quote; part = parts.Plain }

abbrev pub go : Quote → Part → QuotedStep
go quote part = Go (record { quote = quote; part = part })

abbrev pub string_step : Quote → ℕ → ℕ → QuotedStep
string_step quote close c =
    if c == close then With ends.Closed
    else if c == 92 then go quote parts.Backslash
    else if c == 10 || c == 13 then Bad
    else go quote parts.Plain

abbrev pub template_step : ℕ → QuotedStep
template_step c =
    if c == 96 then With ends.Closed
    else if c == 92 then go quotes.Template parts.Backslash
    else if c == 36 then go quotes.Template parts.Dollar
    else go quotes.Template parts.Plain

abbrev pub plain_step : Quote → ℕ → QuotedStep
plain_step quotes.Double c = string_step quotes.Double 34 c
plain_step quotes.Single c = string_step quotes.Single 39 c
plain_step quotes.Template c = template_step c

abbrev pub after_backslash_step : Quote → ℕ → QuotedStep
after_backslash_step quote c =
    if c == 48 then go quote parts.Zero
    else if is_digit c then Bad
    else if c == 120 then go quote parts.TwoHexDigits
    else if c == 117 then go quote (parts.Escape escapes.Unicode)
    else if c == 13 then go quote parts.CarriageReturn
    else go quote parts.Plain

abbrev pub after_escape : Quote → Step Escape (Unit {0}) → QuotedStep
after_escape quote (Go escape) = go quote (parts.Escape escape)
after_escape quote (With outcome) = go quote parts.Plain
after_escape quote (Before outcome) = Bad
after_escape quote Bad = Bad

abbrev pub part_step : Quote → Part → ℕ → QuotedStep
part_step quote parts.Plain c = plain_step quote c
part_step quote parts.Backslash c = after_backslash_step quote c
part_step quote parts.Zero c = if is_digit c then Bad else plain_step quote c
part_step quote parts.TwoHexDigits c = if is_hex_digit c then go quote parts.OneHexDigit else Bad
part_step quote parts.OneHexDigit c = if is_hex_digit c then go quote parts.Plain else Bad
part_step quote (parts.Escape escape) c = after_escape quote (escape_step escape c)
part_step quote parts.CarriageReturn c =
    if c == 10 then go quote parts.Plain else plain_step quote c
part_step quote parts.Dollar c = if c == 123 then With ends.Substitution else plain_step quote c

abbrev pub quoted_step : Quoted → ℕ → QuotedStep
quoted_step s c = part_step s.quote s.part c

abbrev pub quoted_stop : Quoted → Result End Stop
quoted_stop s = Err stops.Cut
