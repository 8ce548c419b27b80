-- What the tokens of a source have by the grammar: a tree, or where a reading of them stops.
use Rattle.std.specs.Prelude.{◌≡◌, ℕ, ◌+◌, Bool, List, [], ◌∷◌, ◌++◌, ◌⊎◌}
use Rattle.lava_base.specs.declared.place.Place.{Place}
use Rattle.js_fault.specs.declared.fault.SyntaxFault.{SyntaxFault}
use Rattle.js_fault.specs.declared.fault.SyntaxFault.TheVariants as fault
use Rattle.js_fault.specs.declared.fault.SyntaxWhat.{SyntaxWhat}
use Rattle.js_fault.specs.declared.fault.SyntaxWhat.TheVariants as what
use Rattle.js_grammar.specs.declared.left_out.LeftOut.{LeftOut}
use Rattle.js_grammar.specs.declared.lexeme.Lexeme.{Lexeme}
use Rattle.js_grammar.specs.declared.nesting.TheConstants.{MAX_LEVELS}
use Rattle.js_grammar.specs.declared.event.Event.{Event}
use Rattle.js_grammar.specs.declared.symbols.Production.TheVariants as production
use Rattle.js_grammar.specs.Grammar.{Node, Row}
use Rattle.js_grammar.specs.Inserted.{Choice}
use Rattle.js_grammar.specs.Flat.{laid}
use Rattle.js_grammar.specs.Laws.{Begins, Has, HasLow, Is_right, with_semicolons}
use Rattle.js_grammar.specs.Profile.{HasWithout, any_form, is_form}
use Rattle.js_lexer.specs.declared.token.Token.{Token}
use Rattle.js_reader.specs.declared.halt.HaltCause.{HaltCause}
use Rattle.js_reader.specs.declared.halt.HaltCause.TheVariants as cause
use Rattle.js_reader.specs.Halts.{form_name}
use Rattle.js_reader.specs.Steps.{start, end, lexeme_of}

-- the tokens of a source, each with its place in the list
abbrev pub lexemes : List ℕ → ℕ → List Token → List Lexeme
lexemes source at [] = []
lexemes source at (t ∷ ts) = lexeme_of source at t ts ∷ lexemes source (at + 1) ts

-- the same as they stand before some others
abbrev pub ahead : List ℕ → ℕ → List Token → List Token → List Lexeme
ahead source at [] rest = []
ahead source at (t ∷ ts) rest = lexeme_of source at t (ts ++ rest) ∷ ahead source (at + 1) ts rest

-- the first tokens of a source, from its start, whatever stands behind them
abbrev pub front : List ℕ → List Token → List Lexeme
front source ts = start ∷ lexemes source 0 ts

-- the first tokens of a source, from its start, as they stand before some others
abbrev pub standing : List ℕ → List Token → List Token → List Lexeme
standing source ts rest = start ∷ ahead source 0 ts rest

-- all tokens of a source, from its start to its end
abbrev pub whole : List ℕ → List Token → List Lexeme
whole source ts = start ∷ lexemes source 0 ts ++ end ∷ []

-- the first tokens of a source with the next one, or with its end
abbrev pub with_next : List ℕ → List Token → List Token → List Lexeme
with_next source ts [] = whole source ts
with_next source ts (t ∷ rest) = standing source (ts ++ t ∷ []) rest

abbrev pub next_place : List Token → Place → Place
next_place [] end = end
next_place (t ∷ rest) end = t.start

-- these first tokens have a partial tree, with semicolons inserted
-- ECMA-262 Grammar Summary
-- ECMA-262 Rules of Automatic Semicolon Insertion
abbrev pub HasPartialTree : List ℕ → List Token → Type 0
HasPartialTree source ts = Begins (front source ts)

-- all tokens have the tree of a module with these parts, with semicolons inserted
-- ECMA-262 Grammar Summary
-- ECMA-262 Rules of Automatic Semicolon Insertion
abbrev pub IsTree : List ℕ → List Token → Row → Type 0
IsTree source ts parts = Has (whole source ts) (Node production.Module parts)

-- tokens with a partial tree that has none of these forms, with semicolons inserted
-- own: the profile leaves these forms out of ECMA-262's grammar
abbrev pub IsWithout : (LeftOut → Bool) → List Lexeme → Type 0
IsWithout forms ts = (xs : List Choice) × Is_right ts xs × HasWithout forms (with_semicolons xs)

-- tokens with a partial tree that has as few levels as a tree may have
-- own: nesting is limited, and ECMA-262 has no limit
abbrev pub IsShallow_enough : List Lexeme → Type 0
IsShallow_enough ts = (xs : List Choice) × Is_right ts xs × HasLow MAX_LEVELS (with_semicolons xs)

-- tokens within the language, as far as they go
abbrev pub IsWithin : List Lexeme → Type 0
IsWithin ts = IsWithout any_form ts × IsShallow_enough ts

-- so are the tokens up to each place among these, as they stand before the rest
abbrev pub AllWithin : List ℕ → List Token → List Token → Type 0
AllWithin source ts rest = (before behind : List Token) → ts ≡ before ++ behind → IsWithin (standing source before (behind ++ rest))

-- the tokens of a source are within the language, up to each of them and to its end
abbrev pub IsInLanguage : List ℕ → List Token → Type 0
IsInLanguage source ts = AllWithin source ts [] × IsWithin (whole source ts)

-- behind these tokens the next one is impossible, or the end of the source is: with it tokens have a partial tree where they have a tree
abbrev pub IsImpossible : List ℕ → List Token → List Token → Type 0
IsImpossible source before [] = (parts : Row) → IsTree source before parts → ⊥
IsImpossible source before (t ∷ rest) = HasPartialTree source (before ++ t ∷ []) → ⊥

-- why a reading stops behind these tokens, at the next one: it is impossible, or each partial tree that they have with it has this form, or
-- none has as few levels as a tree may have
-- own: which of several faults is told
abbrev pub Stops_by : List ℕ → List Token → List Token → HaltCause → Type 0
Stops_by source before rest cause.Unexpected = HasPartialTree source before × IsImpossible source before rest
Stops_by source before rest (cause.LeftOut form) =
    Begins (with_next source before rest) × (IsWithout (is_form form) (with_next source before rest) → ⊥)
Stops_by source before rest cause.TooDeep =
    IsWithout any_form (with_next source before rest) × (IsShallow_enough (with_next source before rest) → ⊥)

-- a reading of the tokens stops at this place: what stands before it is within the language
-- own: which token is told, and where
abbrev pub IsStop : List ℕ → List Token → Place → Place → HaltCause → Type 0
IsStop source tokens end place why =
    (before : List Token) × (rest : List Token) × (tokens ≡ before ++ rest) × (place ≡ next_place rest end)
    × AllWithin source before rest × Stops_by source before rest why

-- the events of a tree with these parts, the latest first
abbrev pub events_of : Row → List Event
events_of parts = laid parts []

-- a refusal has its cause; want of memory may come anywhere
abbrev pub HasReason : List ℕ → List Token → Place → SyntaxFault → Type 0
HasReason source tokens end (fault.At place what.Unexpected) = IsStop source tokens end place cause.Unexpected
HasReason source tokens end (fault.At place what.TooDeep) = IsStop source tokens end place cause.TooDeep
HasReason source tokens end (fault.At place (what.Unsupported name)) =
    (form : LeftOut) × (name ≡ form_name form) × IsStop source tokens end place (cause.LeftOut form)
HasReason source tokens end (fault.At place _) = ⊥
HasReason source tokens end fault.OutOfMemory = Unit {0}

-- the refusal at this place, or want of memory; where a form is left out, others may be at the same token, and one of them is told
abbrev pub IsRefusal : Place → SyntaxWhat → SyntaxFault → Type 0
IsRefusal place (what.Unsupported name) f = ((other : List ℕ) × (f ≡ fault.At place (what.Unsupported other))) ⊎ (f ≡ fault.OutOfMemory)
IsRefusal place w f = (f ≡ fault.At place w) ⊎ (f ≡ fault.OutOfMemory)
