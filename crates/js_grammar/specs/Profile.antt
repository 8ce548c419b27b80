-- What the language limits and leaves out of ECMA-262's grammar, and what the program tells of it.
use Rattle.std.specs.Prelude.{◌≡◌, ℕ, Bool, true, false, not, cond, nat_eq, nat_le, List, Option, Some, None}
use denote.Enum.Declared.{tag_of}
use Rattle.js_grammar.specs.contracts.left_out.LeftOut.{the_type as the_forms}
use Rattle.js_grammar.specs.declared.left_out.LeftOut.{LeftOut}
use Rattle.js_grammar.specs.declared.lexeme.Lexeme.{Lexeme}
use Rattle.js_grammar.specs.declared.nesting.TheConstants.{MAX_LEVELS}
use Rattle.js_grammar.specs.declared.symbols.Production.{Production}
use Rattle.js_grammar.specs.Grammar.{Row}
use Rattle.js_grammar.specs.Machine.{State}
use Rattle.js_grammar.specs.Nesting.{left_out_by}
use Rattle.js_grammar.specs.Fits.{summary_of}
use Rattle.js_grammar.specs.Flat.{Flat, flat_of, nesting_on}
use Rattle.js_grammar.specs.Laws.{Reads, HasWithin, HasLow}

-- what the program has after some tokens
abbrev pub Holds : List Lexeme → Flat → Type 0
Holds ts x = (q : State) × Reads ts q × (x ≡ flat_of q)

abbrev pub is_too_deep : Flat → Bool
is_too_deep x = not (nat_le (nesting_on x.items).level MAX_LEVELS)

-- no partial tree of the tokens has as few levels as a tree may have, or one has
abbrev pub Tells_deep : Flat → Bool → Type 0
Tells_deep x true = (ts : List Lexeme) → Holds ts x → HasLow MAX_LEVELS ts → ⊥
Tells_deep x false = (ts : List Lexeme) → Holds ts x → HasLow MAX_LEVELS ts

abbrev pub counted : (LeftOut → Bool) → Option LeftOut → ℕ
counted P None = 0
counted P (Some x) = cond (P x) 1 0

-- how many forms that are left out, and that are among some, a production with these parts is
abbrev pub counts : (LeftOut → Bool) → Production → Row → ℕ
counts P f r = counted P (left_out_by f (summary_of r))

abbrev pub no_step : Production → Row → ℕ
no_step f r = 0

-- tokens that have a partial tree without these forms
abbrev pub HasWithout : (LeftOut → Bool) → List Lexeme → Type 0
HasWithout P ts = HasWithin (counts P) no_step 0 ts

abbrev pub any_form : LeftOut → Bool
any_form x = true

abbrev pub is_form : LeftOut → LeftOut → Bool
is_form f x = nat_eq (tag_of the_forms f) (tag_of the_forms x)

abbrev pub left_out : Flat → Option LeftOut
left_out x = (nesting_on x.items).left_out

-- each partial tree of the tokens has this form, or one has none that is left out
abbrev pub Tells_form : Flat → Option LeftOut → Type 0
Tells_form x None = (ts : List Lexeme) → Holds ts x → HasWithout any_form ts
Tells_form x (Some f) = (ts : List Lexeme) → Holds ts x → HasWithout (is_form f) ts → ⊥

-- what the program tells of any partial tree is so
abbrev pub Deep_told : Type 0
Deep_told = (x : Flat) → Tells_deep x (is_too_deep x)

abbrev pub Form_told : Type 0
Form_told = (x : Flat) → Tells_form x (left_out x)
