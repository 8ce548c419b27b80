-- The machine of `u` escapes, one function a Rust function. `Grammar` says what they mean.
use Rattle.std.specs.Prelude.{ℕ, ◌+◌, ◌*◌, ◌==◌, ◌&&◌, nat_lt, if◌then◌else◌, Result, Err}
use Rattle.js_lexer.specs.declared.machine.Step.{Step}
use Rattle.js_lexer.specs.declared.machine.Step.TheVariants.{Go, With, Bad}
use Rattle.js_lexer.specs.declared.machine.Stop.{Stop}
use Rattle.js_lexer.specs.declared.machine.Stop.TheVariants as stops
use Rattle.js_lexer.specs.declared.escapes.Escape.{Escape}
use Rattle.js_lexer.specs.declared.escapes.Escape.TheVariants as escapes
use Rattle.js_lexer.specs.Characters.{is_hex_digit, hex_value}

abbrev pub EscapeStep : Type 0
EscapeStep = Step Escape (Unit {0})

abbrev pub backslash_step : ℕ → EscapeStep
backslash_step c = if c == 117 then Go escapes.Unicode else Bad

abbrev pub hex_step : EscapeStep → ℕ → EscapeStep
hex_step next c = if is_hex_digit c then next else Bad

abbrev pub unicode_step : ℕ → EscapeStep
unicode_step c = if c == 123 then Go escapes.Brace else hex_step (Go escapes.ThreeDigits) c

abbrev pub first_step : ℕ → EscapeStep
first_step c = if is_hex_digit c then Go (escapes.CodePoint (hex_value c)) else Bad

abbrev pub digits_step : ℕ → ℕ → EscapeStep
digits_step value c =
    if c == 125 then With tt
    else if nat_lt value 0x11000 && is_hex_digit c then Go (escapes.CodePoint (value * 16 + hex_value c))
    else Bad

abbrev pub escape_step : Escape → ℕ → EscapeStep
escape_step escapes.Backslash c = backslash_step c
escape_step escapes.Unicode c = unicode_step c
escape_step escapes.ThreeDigits c = hex_step (Go escapes.TwoDigits) c
escape_step escapes.TwoDigits c = hex_step (Go escapes.OneDigit) c
escape_step escapes.OneDigit c = hex_step (With tt) c
escape_step escapes.Brace c = first_step c
escape_step (escapes.CodePoint value) c = digits_step value c

abbrev pub escape_stop : Escape → Result (Unit {0}) Stop
escape_stop s = Err stops.Cut
