-- An expression at the start of some tokens: its tree, its partial trees, and the reader that begins where one is wanted.
use Rattle.std.specs.Prelude.{◌≡◌, ℕ, Bool, true, false, List, [], ◌∷◌, Option, Some, None}
use Rattle.js_grammar.specs.declared.left_out.LeftOut.{LeftOut}
use Rattle.js_grammar.specs.declared.lexeme.Lexeme.{Lexeme}
use Rattle.js_grammar.specs.declared.nesting.TheConstants.{MAX_LEVELS}
use Rattle.js_grammar.specs.declared.symbols.Terminal.{Terminal}
use Rattle.js_grammar.specs.declared.symbols.Terminal.TheVariants as terminal
use Rattle.js_grammar.specs.declared.symbols.Nonterminal.TheVariants as nonterminal
use Rattle.js_grammar.specs.declared.symbols.Production.{Production}
use Rattle.js_grammar.specs.declared.symbols.Production.TheVariants as production
use Rattle.js_grammar.specs.declared.constituents.Terminals.TheVariants.{Is}
use Rattle.js_grammar.specs.declared.constituents.Constituent.TheVariants.{Token, Part}
use Rattle.js_grammar.specs.Grammar.{Tree, Leaf, Row, Nil, Then, HasPartial}
use Rattle.js_grammar.specs.Machine.{State, item, feed, feeds}
use Rattle.js_grammar.specs.Inserted.{Choice, HasTree, IsBegun, Rightly, marked, steps}
use Rattle.js_grammar.specs.Inserted as inserted
use Rattle.js_grammar.specs.Levels.{LowPartial, cost_of, step_of}
use Rattle.js_grammar.specs.Flat.{Flat, flat_of}
use Rattle.js_grammar.specs.Fits.{grammar, table}
use Rattle.js_grammar.specs.Laws.{semi, do_semi, rule_stands}
use Rattle.js_grammar.specs.Profile.{counts, no_step, any_form, is_form, is_too_deep, left_out}

-- the tokens have this tree of an expression, with semicolons inserted: in an expression they stand in the bodies of functions alone
-- ECMA-262 Expression
-- ECMA-262 Rules of Automatic Semicolon Insertion
abbrev pub HasExpression : List Lexeme → Tree → Type 0
HasExpression ts x = HasTree grammar nonterminal.Expression semi do_semi rule_stands ts x

-- the tokens have a partial tree of an expression, with semicolons inserted
abbrev pub BeginsExpression : List Lexeme → Type 0
BeginsExpression ts = IsBegun grammar nonterminal.Expression semi do_semi rule_stands ts

-- the same without semicolons inserted
abbrev pub HasBeginningExpression : List Lexeme → Type 0
HasBeginningExpression ts = HasPartial grammar nonterminal.Expression ts

-- a partial tree of at most n levels, as some count has them
abbrev pub HasExpressionWithin : (Production → Row → ℕ) → (Production → Row → ℕ) → ℕ → List Lexeme → Type 0
HasExpressionWithin cost step n ts = (h : HasBeginningExpression ts) × LowPartial cost step 0 n h.0

-- a partial tree of at most n levels
abbrev pub HasLowExpression : ℕ → List Lexeme → Type 0
HasLowExpression n ts = HasExpressionWithin cost_of step_of n ts

-- a partial tree without these forms
abbrev pub HasExpressionWithout : (LeftOut → Bool) → List Lexeme → Type 0
HasExpressionWithout P ts = HasExpressionWithin (counts P) no_step 0 ts

-- semicolons are inserted rightly
abbrev pub Is_right_expression : List Lexeme → List Choice → Type 0
Is_right_expression ts xs = (inserted.plain xs ≡ ts) × Rightly grammar nonterminal.Expression semi do_semi rule_stands [] xs

abbrev pub semicolons_in : List Choice → List Lexeme
semicolons_in xs = marked grammar nonterminal.Expression semi do_semi rule_stands xs

-- the end of a source, which is no token of its text
unfoldable pub is_end : Terminal → Bool
is_end terminal.End = true
is_end _ = false

abbrev pub NoEnd : List Lexeme → Type 0
NoEnd [] = Unit {0}
NoEnd (t ∷ ts) = (is_end t.terminal ≡ false) × NoEnd ts

abbrev pub end_mark : Lexeme
end_mark = record { terminal = terminal.End; after_line = false; at = 0 }

-- the reader begins where an expression is wanted, and the end behind it
abbrev pub from_expression : State
from_expression = item production.Source Nil (Part nonterminal.Expression ∷ Token (Is terminal.End) ∷ []) ∷ []

abbrev pub expression_flat : Flat
expression_flat = flat_of from_expression

-- an expression stands whole, and the end behind it
abbrev pub whole_expression : Tree → State
whole_expression x = item production.Source (Then (Then Nil x) (Leaf end_mark)) [] ∷ []

-- what the reader has after some tokens
abbrev pub ReadsExpression : List Lexeme → State → Type 0
ReadsExpression ts q = feeds table from_expression ts ≡ Some q

-- the same with semicolons inserted
abbrev pub StepsExpression : List Lexeme → Option State → Type 0
StepsExpression ts o = steps table semi do_semi rule_stands from_expression ts ≡ o

-- what is taken has a partial tree of an expression
abbrev pub Expression_begun : Type 0
Expression_begun = (ts : List Lexeme) (q : State) → NoEnd ts → StepsExpression ts (Some q) → BeginsExpression ts

-- and what has one is taken
abbrev pub Expression_refused : Type 0
Expression_refused = (ts : List Lexeme) → NoEnd ts → StepsExpression ts None → BeginsExpression ts → ⊥

-- an expression is read, and stands whole where the end follows
abbrev pub Expression_read : Type 0
Expression_read = (ts : List Lexeme) (x : Tree) → NoEnd ts → HasExpression ts x → (q : State) × StepsExpression ts (Some q) × (feed table q end_mark ≡ Some (whole_expression x))

-- and what the end may follow is an expression, which no semicolon follows
abbrev pub Expression_whole : Type 0
Expression_whole = (ts : List Lexeme) (q p : State) → NoEnd ts → StepsExpression ts (Some q) → feed table q end_mark ≡ Some p →
    (x : Tree) × (p ≡ whole_expression x) × HasExpression ts x × (feed table q semi ≡ None) × (feed table q do_semi ≡ None)

-- tokens have one tree of an expression at most
abbrev pub Expression_one : Type 0
Expression_one = (ts : List Lexeme) (x y : Tree) → NoEnd ts → HasExpression ts x → HasExpression ts y → x ≡ y

-- where semicolons are inserted rightly, and the tokens with them have a partial tree, they are what the reader has
abbrev pub Expression_same : Type 0
Expression_same = (ts : List Lexeme) (q : State) (xs : List Choice) → NoEnd ts → StepsExpression ts (Some q) → Is_right_expression ts xs → HasBeginningExpression (semicolons_in xs) → ReadsExpression (semicolons_in xs) q

-- what the program has after some tokens
abbrev pub HoldsExpression : List Lexeme → Flat → Type 0
HoldsExpression ts x = (q : State) × NoEnd ts × ReadsExpression ts q × (x ≡ flat_of q)

-- no partial tree of the tokens has as few levels as a tree may have, or one has
abbrev pub Expression_tells_deep : Flat → Bool → Type 0
Expression_tells_deep x true = (ts : List Lexeme) → HoldsExpression ts x → HasLowExpression MAX_LEVELS ts → ⊥
Expression_tells_deep x false = (ts : List Lexeme) → HoldsExpression ts x → HasLowExpression MAX_LEVELS ts

-- each partial tree of the tokens has this form, or one has none that is left out
abbrev pub Expression_tells_form : Flat → Option LeftOut → Type 0
Expression_tells_form x None = (ts : List Lexeme) → HoldsExpression ts x → HasExpressionWithout any_form ts
Expression_tells_form x (Some f) = (ts : List Lexeme) → HoldsExpression ts x → HasExpressionWithout (is_form f) ts → ⊥

abbrev pub Expression_deep : Type 0
Expression_deep = (x : Flat) → Expression_tells_deep x (is_too_deep x)

abbrev pub Expression_forms : Type 0
Expression_forms = (x : Flat) → Expression_tells_form x (left_out x)
