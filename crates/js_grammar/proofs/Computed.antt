-- What the tests need of the table: operators, lists that end, and which tokens go on with what, computed from the rules.
use Rattle.std.proofs.Common.{zero, suc, ℕ, Bool, true, false, not, ◌&&◌, ◌||◌, nat_eq, ◌/◌, ◌%◌, ◌^◌, List, [], ◌∷◌}
use Rattle.js_grammar.specs.declared.lexeme.Lexeme.{Lexeme}
use Rattle.js_grammar.specs.declared.symbols.Terminal.{Terminal}
use Rattle.js_grammar.specs.declared.symbols.Nonterminal.{Nonterminal}
use Rattle.js_grammar.specs.declared.constituents.Constituent.{Constituent}
use Rattle.js_grammar.specs.declared.constituents.Constituent.TheVariants.{Token, Part}
use Rattle.js_grammar.specs.declared.symbols.Production.{Production}
use Rattle.js_grammar.specs.declared.symbols.Production.TheVariants as production
use Rattle.js_grammar.specs.Table
use Rattle.js_grammar.specs.Table.{rule_of, may_of, has_of, operators_at, index_of, number_of, place_of}
use Rattle.js_grammar.proofs.Masks.{harmless_masks, edge_masks}
use Rattle.js_grammar.proofs.Places

abbrev pub goes_on : List Constituent → Bool
goes_on (Part d ∷ Token w ∷ ps) = true
goes_on _ = false

-- whether a production goes on with a tree as its first part
unfoldable pub operator_of : Production → Bool
operator_of production.ExpressionStatement = false
operator_of f = goes_on (rule_of f)

-- whether a nonterminal has a production after which a list is over
unfoldable pub closes_of : Nonterminal → Bool
closes_of c = has_of c production.BindingRestElement || (has_of c production.BindingRestProperty || has_of c production.CommaBindingRestElement)

abbrev pub unwrapped : Nonterminal → List Production → Bool
unwrapped c [] = true
unwrapped c (f ∷ fs) = not (may_of c f) && unwrapped c fs

abbrev pub lexeme : ℕ → Terminal → Bool → Lexeme
lexeme n k l = record { terminal = k; after_line = l; at = n }

abbrev pub mask_at : List ℕ → ℕ → ℕ
mask_at [] n = 0
mask_at (x ∷ xs) zero = x
mask_at (x ∷ xs) (suc n) = mask_at xs n

abbrev pub bit : ℕ → ℕ → Bool
bit m k = nat_eq ((m / 2 ^ k) % 2) 1

-- which tokens go on with nothing of a nonterminal, and with nothing at the right edge of a production
abbrev pub harmless_of : Nonterminal → Terminal → Bool
harmless_of c k = bit (mask_at harmless_masks (index_of c)) (number_of k)

abbrev pub edge_of : Production → Terminal → Bool
edge_of f k = bit (mask_at edge_masks (place_of f)) (number_of k)

-- everything that a proof by computing opens
unfoldable pub tables : Unit {0}
unfolding Places.productions Places.nonterminals Places.terminals Table.rule_of Table.ends_of Table.stands_of Table.members_of Table.guards Table.may_members Table.has_members Table.guard_at_start Table.inner_of Table.heads_of Table.operators_at Table.wrap_of Table.opens_of Table.start_of operator_of closes_of
tables = tt
