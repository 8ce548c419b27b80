-- Every production, nonterminal and terminal stands at its place in the table.
use Rattle.std.proofs.Common.{zero, suc, ◌≡◌, ℕ, List, [], ◌∷◌, Option, Some, None, refl}
use Rattle.js_grammar.specs.declared.symbols.Terminal.{Terminal}
use Rattle.js_grammar.specs.declared.symbols.Terminal.TheVariants as terminal
use Rattle.js_grammar.specs.declared.symbols.Nonterminal.{Nonterminal}
use Rattle.js_grammar.specs.declared.symbols.Nonterminal.TheVariants as nonterminal
use Rattle.js_grammar.specs.declared.symbols.Production.{Production}
use Rattle.js_grammar.specs.declared.symbols.Production.TheVariants as production
use Rattle.js_grammar.specs.declared.constituents.Constituent.{Constituent}
use Rattle.js_grammar.specs.declared.constituents.NonterminalRow.{NonterminalRow}
use Rattle.js_grammar.specs.declared.table.TheConstants.{RULES, NONTERMINALS}
use Rattle.js_grammar.specs.declared.heads.TheConstants.{HEADS}
use Rattle.js_grammar.specs.Table.{place_of, index_of, number_of}

abbrev pub at : {A : Type 0} → ℕ → List A → Option A
at n [] = None
at zero (x ∷ xs) = Some x
at (suc n) (x ∷ xs) = at n xs

abbrev productions_in : List (Production × record { now : List Constituent }) → List Production
productions_in [] = []
productions_in (x ∷ xs) = x.0 ∷ productions_in xs

abbrev nonterminals_in : List NonterminalRow → List Nonterminal
nonterminals_in [] = []
nonterminals_in (x ∷ xs) = x.nonterminal ∷ nonterminals_in xs

abbrev terminals_in : List (Terminal × record { now : List Production } × record { now : List Production }) → List Terminal
terminals_in [] = []
terminals_in (x ∷ xs) = x.0 ∷ terminals_in xs

unfoldable pub productions : List Production
productions = productions_in RULES

unfoldable pub nonterminals : List Nonterminal
nonterminals = nonterminals_in NONTERMINALS

unfoldable pub terminals : List Terminal
terminals = terminals_in HEADS

pub production_at : (f : Production) → at (place_of f) productions ≡ Some f
unfolding productions
production_at production.NewMemberName = refl
production_at _ = refl

pub nonterminal_at : (c : Nonterminal) → at (index_of c) nonterminals ≡ Some c
unfolding nonterminals
nonterminal_at nonterminal.Callee = refl
nonterminal_at _ = refl

pub terminal_at : (k : Terminal) → at (number_of k) terminals ≡ Some k
unfolding terminals
terminal_at terminal.Get = refl
terminal_at _ = refl
