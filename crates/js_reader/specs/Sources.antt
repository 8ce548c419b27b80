-- What a source is by the grammars: its tree, or what is wrong with it.
use Rattle.std.specs.Prelude.{◌≡◌, ℕ, List, ◌⊎◌}
use Rattle.lava_base.specs.declared.place.Place.{Place}
use Rattle.js_fault.specs.declared.fault.SyntaxFault.{SyntaxFault}
use Rattle.js_fault.specs.declared.fault.SyntaxFault.TheVariants as fault
use Rattle.js_fault.specs.declared.fault.SyntaxWhat.{SyntaxWhat}
use Rattle.js_grammar.specs.Flat.{Flat}
use Rattle.js_grammar.specs.Grammar.{Row}
use Rattle.js_lexer.specs.Answers.{IsFault}
use Rattle.js_lexer.specs.Sources.{IsTokens, end_place}
use Rattle.js_lexer.specs.declared.token.Token.{Token}
use Rattle.js_reader.specs.Reading.{IsTree, IsInLanguage, HasReason, events_of}

-- the tokens of a source have the tree of a module within the language
-- ECMA-262 ParseText, with Module as the goal
abbrev pub HasSourceTree : List ℕ → Type 0
HasSourceTree source = (ts : List Token) × (parts : Row) × IsTokens source ts × IsTree source ts parts × IsInLanguage source ts

-- these are the source's tokens, and what stands is their tree
abbrev pub IsReading : List ℕ → List Token → Flat → Type 0
IsReading source ts q = (parts : Row) × IsTokens source ts × IsTree source ts parts × IsInLanguage source ts × (q.out ≡ events_of parts)

-- what is wrong with a source, and at which place: by the lexical grammar, or by the syntactic grammar where it has tokens
-- own: which of several faults is told, and where
abbrev pub IsSyntaxFault : List ℕ → Place → SyntaxWhat → Type 0
IsSyntaxFault source place what =
    IsFault source place what
    ⊎ ((ts : List Token) × IsTokens source ts × HasReason source ts (end_place source) (fault.At place what))

-- a refusal has its cause; want of memory may come anywhere
abbrev pub HasSyntaxCause : List ℕ → SyntaxFault → Type 0
HasSyntaxCause source (fault.At place what) = IsSyntaxFault source place what
HasSyntaxCause source fault.OutOfMemory = Unit {0}
