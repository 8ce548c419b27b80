-- The laws of the grammar, of its levels and of its semicolons.
use Rattle.std.specs.Prelude.{◌≡◌, ℕ, Bool, true, false, ◌||◌, List, [], ◌∷◌, ◌++◌, Option, Some, None}
use Rattle.js_grammar.specs.declared.lexeme.Lexeme.{Lexeme}
use Rattle.js_grammar.specs.declared.symbols.Terminal.{Terminal}
use Rattle.js_grammar.specs.declared.symbols.Terminal.TheVariants as terminal
use Rattle.js_grammar.specs.declared.symbols.Nonterminal.TheVariants as nonterminal
use Rattle.js_grammar.specs.declared.symbols.Production.{Production}
use Rattle.js_grammar.specs.declared.symbols.Production.TheVariants as production
use Rattle.js_grammar.specs.declared.constituents.Constituent.TheVariants.{Part}
use Rattle.js_grammar.specs.declared.event.Event.{Event}
use Rattle.js_grammar.specs.Grammar.{Tree, Node, Row, Nil, IsSpelled, HasPartial}
use Rattle.js_grammar.specs.Machine.{State, item, feed, feeds}
use Rattle.js_grammar.specs.Inserted.{Choice, HasTree, IsBegun, Rightly, marked, steps}
use Rattle.js_grammar.specs.Inserted as inserted
use Rattle.js_grammar.specs.Levels.{LowPartial, Shallow, cost_of, step_of}
use Rattle.js_grammar.specs.Flat.{Shape, Flat, fed_flat, flat_of, laid_open, laid_out}
use Rattle.js_grammar.specs.Would.{would}
use Rattle.js_grammar.specs.Fits.{grammar, table}
use Rattle.js_grammar.specs.Table.{plain_of}

-- the reader begins where a source is wanted
abbrev pub from : State
from = item production.Source Nil (Part nonterminal.Module ∷ []) ∷ []

abbrev pub from_flat : Flat
from_flat = flat_of from

-- a module stands whole
abbrev pub whole_state : Row → State
whole_state r = item production.Module r [] ∷ from

-- what the reader has after some tokens
abbrev pub Reads : List Lexeme → State → Type 0
Reads ts q = feeds table from ts ≡ Some q

-- tokens that are a whole module, without semicolons inserted
abbrev pub IsModule : List Lexeme → Tree → Type 0
IsModule ts x = IsSpelled grammar nonterminal.Module ts x

-- tokens that have a partial tree
abbrev pub HasBeginning : List Lexeme → Type 0
HasBeginning ts = HasPartial grammar nonterminal.Module ts

-- what is taken has a partial tree
abbrev pub Good : Type 0
Good = (ts : List Lexeme) (q : State) → Reads ts q → HasBeginning ts

-- and what has a partial tree is taken
abbrev pub Exact : Type 0
Exact = (ts : List Lexeme) → HasBeginning ts → (q : State) × Reads ts q

-- a module's tree is read, and stands whole
abbrev pub Read : Type 0
Read = (ts : List Lexeme) (x : Tree) → IsModule ts x → (r : Row) × (x ≡ Node production.Module r) × Reads ts (whole_state r)

-- and what stands whole is a module's tree
abbrev pub Stands_whole : Type 0
Stands_whole = (ts : List Lexeme) (r : Row) → Reads ts (whole_state r) → IsModule ts (Node production.Module r)

-- the token without regard to the next one
abbrev pub plain : Lexeme → Lexeme
plain t = record { terminal = plain_of t.terminal; after_line = t.after_line; at = t.at }

-- whether tokens have a partial tree does not hang on the token behind them
abbrev pub Kept : Type 0
Kept = (ts : List Lexeme) (t : Lexeme) → HasBeginning (ts ++ t ∷ []) → HasBeginning (ts ++ plain t ∷ [])

abbrev pub Kept_back : Type 0
Kept_back = (ts : List Lexeme) (t : Lexeme) → HasBeginning (ts ++ plain t ∷ []) → HasBeginning (ts ++ t ∷ [])

-- tokens that have a partial tree of at most n levels, as some count has them
abbrev pub HasWithin : (Production → Row → ℕ) → (Production → Row → ℕ) → ℕ → List Lexeme → Type 0
HasWithin cost step n ts = (h : HasBeginning ts) × LowPartial cost step 0 n h.0

-- tokens that have a partial tree of at most n levels
abbrev pub HasLow : ℕ → List Lexeme → Type 0
HasLow n ts = HasWithin cost_of step_of n ts

-- what stands and what is open is at most n levels deep
abbrev pub IsShallow : ℕ → State → Type 0
IsShallow n q = Shallow cost_of step_of n q

abbrev pub Low : Type 0
Low = (ts : List Lexeme) (q : State) (n : ℕ) → Reads ts q → HasLow n ts → IsShallow n q

abbrev pub Low_enough : Type 0
Low_enough = (ts : List Lexeme) (q : State) (n : ℕ) → Reads ts q → IsShallow n q → HasLow n ts

abbrev pub so : Option State → Option Flat
so None = None
so (Some s) = Some (flat_of s)

-- the reader over flat output does what the reader of trees does
abbrev pub Flatly : Type 0
Flatly = (s : State) (t : Lexeme) → fed_flat (laid_open s) (laid_out s) t ≡ so (feed table s t)

abbrev pub is_some : Option Flat → Bool
is_some None = false
is_some (Some q) = true

-- a token is taken exactly where the look ahead says so
abbrev pub Looks_ahead : Type 0
Looks_ahead = (s : List Shape) (o : List Event) (t : Lexeme) → is_some (fed_flat s o t) ≡ would s t

abbrev pub semi : Lexeme
semi = record { terminal = terminal.Inserted; after_line = false; at = 0 }

abbrev pub do_semi : Lexeme
do_semi = record { terminal = terminal.InsertedAfterDoWhile; after_line = false; at = 0 }

abbrev pub is_closing : Terminal → Bool
is_closing terminal.RightBrace = true
is_closing terminal.End = true
is_closing _ = false

-- a semicolon may stand before a token after a line terminator, before `}` and before the end
-- ECMA-262 Rules of Automatic Semicolon Insertion
abbrev pub rule_stands : Lexeme → Bool
rule_stands t = t.after_line || is_closing t.terminal

-- what the reader has after some tokens, with semicolons inserted
abbrev pub Steps : List Lexeme → Option State → Type 0
Steps ts o = steps table semi do_semi rule_stands from ts ≡ o

-- the tokens have this tree, with semicolons inserted
abbrev pub Has : List Lexeme → Tree → Type 0
Has ts x = HasTree grammar nonterminal.Module semi do_semi rule_stands ts x

-- the tokens have a partial tree, with semicolons inserted
abbrev pub Begins : List Lexeme → Type 0
Begins ts = IsBegun grammar nonterminal.Module semi do_semi rule_stands ts

abbrev pub Begun : Type 0
Begun = (ts : List Lexeme) (q : State) → Steps ts (Some q) → Begins ts

abbrev pub Refused : Type 0
Refused = (ts : List Lexeme) → Steps ts None → Begins ts → ⊥

abbrev pub Inserted_read : Type 0
Inserted_read = (ts : List Lexeme) (x : Tree) → Has ts x → (r : Row) × (x ≡ Node production.Module r) × Steps ts (Some (whole_state r))

abbrev pub Read_inserted : Type 0
Read_inserted = (ts : List Lexeme) (r : Row) → Steps ts (Some (whole_state r)) → Has ts (Node production.Module r)

-- tokens have one tree at most
abbrev pub One_tree : Type 0
One_tree = (ts : List Lexeme) (x y : Tree) → Has ts x → Has ts y → x ≡ y

-- where semicolons are inserted rightly, and the tokens with them have a partial tree, they are what the reader has
abbrev pub Is_right : List Lexeme → List Choice → Type 0
Is_right ts xs = (inserted.plain xs ≡ ts) × Rightly grammar nonterminal.Module semi do_semi rule_stands [] xs

abbrev pub with_semicolons : List Choice → List Lexeme
with_semicolons xs = marked grammar nonterminal.Module semi do_semi rule_stands xs

abbrev pub Same_read : Type 0
Same_read = (ts : List Lexeme) (q : State) (xs : List Choice) → Steps ts (Some q) → Is_right ts xs → HasBeginning (with_semicolons xs) → Reads (with_semicolons xs) q

-- what ends with the end of a source is a module that stands whole
abbrev pub Ends_whole : Type 0
Ends_whole = (ts : List Lexeme) (t : Lexeme) (q : State) → Reads (ts ++ t ∷ []) q → t.terminal ≡ terminal.End → (r : Row) × (q ≡ whole_state r)
