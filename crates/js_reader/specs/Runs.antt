-- The longest run of tokens that may begin an expression: what it is, what an expression there is, and what the program comes to.
use Rattle.std.specs.Prelude.{◌≡◌, ℕ, ◌+◌, ◌≤◌, Bool, List, [], ◌∷◌, ◌++◌, Option, Some, None, cond, length}
use Rattle.lava_base.specs.declared.place.Place.{Place}
use Rattle.js_grammar.specs.declared.left_out.LeftOut.{LeftOut}
use Rattle.js_grammar.specs.declared.lexeme.Lexeme.{Lexeme}
use Rattle.js_grammar.specs.declared.nesting.TheConstants.{MAX_LEVELS}
use Rattle.js_grammar.specs.declared.event.Event.{Event}
use Rattle.js_grammar.specs.Grammar.{Tree, Leaf, Row, Nil, Then}
use Rattle.js_grammar.specs.Inserted.{Choice}
use Rattle.js_grammar.specs.Flat.{Flat, fed_in, laid}
use Rattle.js_grammar.specs.Laws.{semi, do_semi, rule_stands}
use Rattle.js_grammar.specs.Profile.{any_form, is_form}
use Rattle.js_grammar.specs.Expressions.{HasExpression, BeginsExpression, HasExpressionWithout, HasLowExpression, Is_right_expression, semicolons_in, end_mark}
use Rattle.js_lexer.specs.declared.token.Token.{Token}
use Rattle.js_reader.specs.declared.halt.Halt.{Halt}
use Rattle.js_reader.specs.declared.halt.HaltCause.{HaltCause}
use Rattle.js_reader.specs.declared.halt.HaltCause.TheVariants as cause
use Rattle.js_reader.specs.declared.run.RunStep.{RunStep}
use Rattle.js_reader.specs.declared.run.RunStep.TheVariants as stepped
use Rattle.js_reader.specs.declared.run.RunEnd.{RunEnd}
use Rattle.js_reader.specs.declared.run.RunEnd.TheVariants as ended
use Rattle.js_reader.specs.declared.run.RunReading.{RunReading}
use Rattle.js_reader.specs.declared.run.RunAnswer.{RunAnswer}
use Rattle.js_reader.specs.declared.run.RunAnswer.TheVariants as answer
use Rattle.js_reader.specs.Halts.{halt, told_of}
use Rattle.js_reader.specs.Steps.{lexeme_of, paired_in}
use Rattle.js_reader.specs.Reading.{ahead, next_place}

-- these first tokens have a partial tree of an expression, as they stand before the rest, with semicolons inserted
-- ECMA-262 Expression
abbrev pub BeginsRun : List ℕ → List Token → List Token → Type 0
BeginsRun source before rest = BeginsExpression (ahead source 0 before rest)

-- no more of the tokens have one
abbrev pub IsLongest : List ℕ → List Token → List Token → Type 0
IsLongest source tokens before = (b r : List Token) → tokens ≡ b ++ r → BeginsRun source b r → length b ≤ length before

-- the longest run of the tokens that has a partial tree of an expression
-- own: how far a reader of expressions goes
abbrev pub IsRun : List ℕ → List Token → List Token → List Token → Type 0
IsRun source tokens before rest = (tokens ≡ before ++ rest) × BeginsRun source before rest × IsLongest source tokens before

-- the tokens of the run have this tree of an expression
-- ECMA-262 Expression
abbrev pub IsRunTree : List ℕ → List Token → List Token → Tree → Type 0
IsRunTree source before rest x = HasExpression (ahead source 0 before rest) x

-- tokens with a partial tree that has none of these forms
-- own: the profile leaves these forms out of ECMA-262's grammar
abbrev pub IsRunWithout : (LeftOut → Bool) → List Lexeme → Type 0
IsRunWithout forms ts = (xs : List Choice) × Is_right_expression ts xs × HasExpressionWithout forms (semicolons_in xs)

-- tokens with a partial tree that has as few levels as a tree may have
-- own: nesting is limited, and ECMA-262 has no limit
abbrev pub IsRunShallow : List Lexeme → Type 0
IsRunShallow ts = (xs : List Choice) × Is_right_expression ts xs × HasLowExpression MAX_LEVELS (semicolons_in xs)

abbrev pub IsRunWithin : List Lexeme → Type 0
IsRunWithin ts = IsRunWithout any_form ts × IsRunShallow ts

-- the tokens up to each place among these are within the language, as they stand before the rest
abbrev pub RunWithin : List ℕ → List Token → List Token → Type 0
RunWithin source before rest = (b d : List Token) → before ≡ b ++ d → IsRunWithin (ahead source 0 b (d ++ rest))

-- the longest run of the tokens is an expression of the language, with this tree
abbrev pub IsExpressionAt : List ℕ → List Token → List Token → List Token → Tree → Type 0
IsExpressionAt source tokens before rest x = IsRun source tokens before rest × IsRunTree source before rest x × RunWithin source before rest

-- why the reading of an expression stops behind these tokens: they are the longest run, and no expression; or each partial tree that they have with
-- the next token has this form, or none has as few levels as a tree may have
-- own: which of several faults is told
abbrev pub Run_stops_by : List ℕ → List Token → List Token → List Token → HaltCause → Type 0
Run_stops_by source tokens before rest cause.Unexpected = IsRun source tokens before rest × ((x : Tree) → IsRunTree source before rest x → ⊥)
Run_stops_by source tokens before [] _ = ⊥
Run_stops_by source tokens before (t ∷ rest) (cause.LeftOut form) =
    BeginsRun source (before ++ t ∷ []) rest × (IsRunWithout (is_form form) (ahead source 0 (before ++ t ∷ []) rest) → ⊥)
Run_stops_by source tokens before (t ∷ rest) cause.TooDeep =
    IsRunWithout any_form (ahead source 0 (before ++ t ∷ []) rest) × (IsRunShallow (ahead source 0 (before ++ t ∷ []) rest) → ⊥)

-- the reading of an expression stops at this place: what stands before it is within the language
-- own: which token is told, and where
abbrev pub IsRunStop : List ℕ → List Token → Place → Place → HaltCause → Type 0
IsRunStop source tokens end place why =
    (before : List Token) × (rest : List Token) × (tokens ≡ before ++ rest) × (place ≡ next_place rest end)
    × RunWithin source before rest × Run_stops_by source tokens before rest why

-- the events of an expression, the latest first: the last is the end behind it
abbrev pub expression_events : Tree → List Event
expression_events x = laid (Then (Then Nil x) (Leaf end_mark)) []

-- a token with a semicolon before it
abbrev pub marked_in : Flat → Lexeme → Option Flat
marked_in q t = cond (rule_stands t) (paired_in semi q t) (paired_in do_semi q t)

-- what comes of a token in a run: the run goes on with it, an expression stands whole before it, or neither
pub data Stepped : Type 0 where
  Onward : Flat → Stepped
  Over : Flat → Stepped
  Refused : Stepped

abbrev pub on_first : Option Flat → Stepped → Stepped
on_first (Some q) y = Onward q
on_first None y = y

abbrev pub on_over : Option Flat → Stepped → Stepped
on_over (Some q) y = Over q
on_over None y = y

-- a semicolon is inserted where no expression stands whole
abbrev pub run_step : Flat → Lexeme → Stepped
run_step q t = on_first (fed_in q t) (on_over (fed_in q end_mark) (on_first (marked_in q t) Refused))

-- what the program finds
abbrev pub Steps_to : Stepped → Flat → RunStep → Type 0
Steps_to (Onward q) new stepped.Goes = (new ≡ q) × (told_of q ≡ None)
Steps_to (Onward q) new (stepped.Halts c) = told_of q ≡ Some c
Steps_to (Over q) new stepped.Ends = new ≡ q
Steps_to Refused new (stepped.Halts c) = c ≡ cause.Unexpected
Steps_to _ new _ = ⊥

-- what comes of some tokens: an expression stands whole behind so many, or the reading stops
pub data RunCourse : Type 0 where
  Whole : ℕ → Flat → RunCourse
  Halted : Halt → RunCourse

abbrev pub unless_run : Place → Option HaltCause → RunCourse → RunCourse
unless_run p None c = c
unless_run p (Some s) c = Halted (halt p s)

abbrev pub after_run : Place → ℕ → Stepped → (Flat → RunCourse) → RunCourse
after_run p at (Onward q) go = unless_run p (told_of q) (go q)
after_run p at (Over q) go = Whole at q
after_run p at Refused go = Halted (halt p cause.Unexpected)

abbrev pub at_end_of : Place → ℕ → Option Flat → RunCourse
at_end_of p at (Some q) = Whole at q
at_end_of p at None = Halted (halt p cause.Unexpected)

abbrev pub run_course : List ℕ → Place → ℕ → Flat → List Token → RunCourse
run_course source place at q [] = at_end_of place at (fed_in q end_mark)
run_course source place at q (t ∷ ts) = after_run t.start at (run_step q (lexeme_of source at t ts)) (λ p. run_course source place (at + 1) p ts)

-- what the program comes to
abbrev pub Reaches_run : RunCourse → Flat → RunEnd → Type 0
Reaches_run (Whole n q) new (ended.Whole m) = (m ≡ n) × (new ≡ q)
Reaches_run (Halted h) new (ended.Halted g) = g ≡ h
Reaches_run _ new _ = ⊥

-- the answer for it
abbrev pub Answers_run : RunCourse → RunAnswer → Type 0
Answers_run (Whole n q) (answer.Read r) = (r.length ≡ n) × (r.tree ≡ q)
Answers_run (Halted h) (answer.Stopped g) = g ≡ h
Answers_run _ _ = ⊥

-- an expression is read: its tree stands, and so many tokens are its
abbrev pub IsRunReading : List ℕ → List Token → RunReading → Type 0
IsRunReading source tokens r =
    (before : List Token) × (rest : List Token) × (x : Tree) × IsExpressionAt source tokens before rest x
    × (r.length ≡ length before) × (r.tree.out ≡ expression_events x)

-- an answer has its cause
abbrev pub Tells_run : List ℕ → List Token → Place → RunAnswer → Type 0
Tells_run source tokens end (answer.Read r) = IsRunReading source tokens r
Tells_run source tokens end (answer.Stopped h) = IsRunStop source tokens end h.place h.cause

abbrev pub IsRead : RunAnswer → Type 0
IsRead (answer.Read r) = Unit {0}
IsRead (answer.Stopped h) = ⊥
