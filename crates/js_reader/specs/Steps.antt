-- One token of a source after the other, with a semicolon before it where one is inserted, and what the reader comes to.
use Rattle.std.specs.Prelude.{◌≡◌, ℕ, ◌+◌, Bool, true, false, cond, List, [], ◌∷◌, Option, Some, None, ◌⊎◌, Result, Ok, Err}
use Rattle.lava_base.specs.declared.place.Place.{Place}
use Rattle.js_grammar.specs.declared.lexeme.Lexeme.{Lexeme}
use Rattle.js_grammar.specs.declared.symbols.Terminal.{Terminal}
use Rattle.js_grammar.specs.declared.symbols.Terminal.TheVariants as terminal
use Rattle.js_grammar.specs.Flat.{Flat, fed_in}
use Rattle.js_grammar.specs.Grammar.{after}
use Rattle.js_grammar.specs.Laws.{semi, do_semi, rule_stands}
use Rattle.js_lexer.specs.declared.token.Token.{Token}
use Rattle.js_fault.specs.declared.fault.SyntaxFault.{SyntaxFault}
use Rattle.js_fault.specs.declared.fault.SyntaxFault.TheVariants as fault
use Rattle.js_reader.specs.declared.halt.HaltCause.{HaltCause}
use Rattle.js_reader.specs.declared.halt.HaltCause.TheVariants as cause
use Rattle.js_reader.specs.declared.halt.Halt.{Halt}
use Rattle.js_reader.specs.Halts.{halt, told_of, IsFaultOf}
use Rattle.js_reader.specs.Terminals.{terminal_of}

-- the start and the end of a source
abbrev pub alone : Terminal → Lexeme
alone k = record { terminal = k; after_line = false; at = 0 }

abbrev pub start : Lexeme
start = alone terminal.Start

abbrev pub end : Lexeme
end = alone terminal.End

-- the token at a place of the list, before these
abbrev pub lexeme_of : List ℕ → ℕ → Token → List Token → Lexeme
lexeme_of source at t later = record { terminal = terminal_of source t later; after_line = t.after_line; at = at }

-- two tokens, of which the first is an inserted semicolon
abbrev pub paired_in : Lexeme → Flat → Lexeme → Option Flat
paired_in mark q t = after (fed_in q mark) (λ p. fed_in p t)

abbrev pub or_so : Option Flat → Option Flat → Option Flat
or_so (Some q) o = Some q
or_so None o = o

-- one token, with a semicolon before it where it is offending and a rule stands
-- ECMA-262 Rules of Automatic Semicolon Insertion
abbrev pub stepped_in : Flat → Lexeme → Option Flat
stepped_in q t = or_so (fed_in q t) (cond (rule_stands t) (paired_in semi q t) (paired_in do_semi q t))

-- whether a token is taken, and what stands then
abbrev pub Accepts : Option Flat → Flat → Bool → Type 0
Accepts o new true = o ≡ Some new
Accepts o new false = o ≡ None

-- what comes of some tokens: all are taken, or the reading stops at one
pub data Course : Type 0 where
  Through : Flat → Course
  Stuck : Halt → Course

abbrev pub unless : Place → Option HaltCause → Course → Course
unless p None c = c
unless p (Some s) c = Stuck (halt p s)

abbrev pub after_step : Place → Option Flat → (Flat → Course) → Course
after_step p None go = Stuck (halt p cause.Unexpected)
after_step p (Some q) go = unless p (told_of q) (go q)

abbrev pub course : List ℕ → ℕ → Flat → List Token → Course
course source at q [] = Through q
course source at q (t ∷ ts) = after_step t.start (stepped_in q (lexeme_of source at t ts)) (λ p. course source (at + 1) p ts)

abbrev pub to_end : Place → Course → Course
to_end place (Through q) = after_step place (stepped_in q end) (λ p. Through p)
to_end place (Stuck h) = Stuck h

-- the tokens of a source from its start to its end, which stands at this place
abbrev pub source_course : List ℕ → Flat → List Token → Place → Course
source_course source q ts place = after_step place (stepped_in q start) (λ p. to_end place (course source 0 p ts))

-- what the program comes to: where it stops, if it does
abbrev pub Reaches : Course → Flat → Option Halt → Type 0
Reaches (Through q) new None = new ≡ q
Reaches (Stuck p) new (Some h) = h ≡ p
Reaches _ new _ = ⊥

-- the answer for a course: what stands, or the refusal of a token; want of memory may come anywhere
abbrev pub Answers_course : Course → Result Flat SyntaxFault → Type 0
Answers_course (Through q) (Ok r) = r ≡ q
Answers_course (Stuck h) (Ok r) = ⊥
Answers_course (Through q) (Err f) = f ≡ fault.OutOfMemory
Answers_course (Stuck h) (Err f) = IsFaultOf h.place h.cause f ⊎ (f ≡ fault.OutOfMemory)
