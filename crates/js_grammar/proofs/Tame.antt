-- The table meets the tests of the theory.
use Rattle.std.proofs.Common.{zero, suc, ◌≡◌, ℕ, Bool, true, false, ◌&&◌, ◌||◌, nat_eq, List, [], ◌∷◌, Option, Some, None, refl, sym, ap, ◌∙◌, arith}
use Rattle.std.proofs.lemmas.Bool.Decides.{nat_tests}
use Rattle.js_grammar.specs.declared.lexeme.Lexeme.{Lexeme}
use Rattle.js_grammar.specs.declared.symbols.Terminal.{Terminal}
use Rattle.js_grammar.specs.declared.constituents.Terminals.{Terminals}
use Rattle.js_grammar.specs.declared.symbols.Nonterminal.{Nonterminal}
use Rattle.js_grammar.specs.declared.constituents.Constituent.{Constituent}
use Rattle.js_grammar.specs.declared.constituents.Constituent.TheVariants.{Token, Part}
use Rattle.js_grammar.specs.declared.symbols.Production.{Production}
use Rattle.js_grammar.specs.declared.symbols.Production.TheVariants as production
use Rattle.js_grammar.specs.Table.{rule_of, place_of, index_of, number_of, start_of, opens_of, guard_of, ends_of, stands_of, may_of, has_of, wrap_of, operators_at, first_in, heads_of}
use Rattle.js_grammar.specs.Fits.{table}
use Rattle.js_grammar.proofs.Sound.{and_true}
use Rattle.js_grammar.proofs.Calm.{implies, settles, edge}
use Rattle.js_grammar.proofs.Places.{at, productions, nonterminals, terminals, production_at, nonterminal_at, terminal_at}
use Rattle.js_grammar.proofs.Masks
use Rattle.js_grammar.proofs.Computed.{operator_of, harmless_of, edge_of, closes_of, tables, lexeme, unwrapped}

-- a test of each value of a list
abbrev pub all : {A : Type 0} → (A → Bool) → List A → Bool
all P [] = true
all P (x ∷ xs) = P x && all P xs

pub all_at : {A : Type 0} (P : A → Bool) (xs : List A) (n : ℕ) (x : A) → all P xs ≡ true → at n xs ≡ Some x → P x ≡ true
all_at P [] n x h e = cc
all_at P (y ∷ xs) zero x h e =
    let m = and_true (P y) (all P xs) h in
    let same : y ≡ x = cc in rw (← same) m.0
all_at P (y ∷ xs) (suc n) x h e = all_at P xs n x (and_true (P y) (all P xs) h).1 e

pub each_production : (P : Production → Bool) → all P productions ≡ true → (f : Production) → P f ≡ true
each_production P h f = all_at P productions (place_of f) f h (production_at f)

pub each_nonterminal : (P : Nonterminal → Bool) → all P nonterminals ≡ true → (c : Nonterminal) → P c ≡ true
each_nonterminal P h c = all_at P nonterminals (index_of c) c h (nonterminal_at c)

pub each_terminal : (P : Terminal → Bool) → all P terminals ≡ true → (k : Terminal) → P k ≡ true
each_terminal P h k = all_at P terminals (number_of k) k h (terminal_at k)

pub some_same : {A : Type 0} (x y : A) → Some x ≡ Some y → x ≡ y
some_same x y h = cc

pub number_is : (a b : ℕ) → nat_eq a b ≡ true → a ≡ b
number_is a b h = grind (arith, nat_tests)

pub same_production : (f g : Production) → nat_eq (place_of f) (place_of g) ≡ true → f ≡ g
same_production f g h =
    let e = number_is (place_of f) (place_of g) h in
    some_same f g (sym (production_at f) ∙ ap (λ n. at n productions) e ∙ production_at g)

abbrev pub same_productions : List Production → List Production → Bool
same_productions [] [] = true
same_productions [] (g ∷ gs) = false
same_productions (f ∷ fs) [] = false
same_productions (f ∷ fs) (g ∷ gs) = nat_eq (place_of f) (place_of g) && same_productions fs gs

pub same_productions_is : (fs gs : List Production) → same_productions fs gs ≡ true → fs ≡ gs
same_productions_is [] [] h = refl
same_productions_is [] (g ∷ gs) h = cc
same_productions_is (f ∷ fs) [] h = cc
same_productions_is (f ∷ fs) (g ∷ gs) h =
    let m = and_true (nat_eq (place_of f) (place_of g)) (same_productions fs gs) h in
    rw (same_production f g m.0, same_productions_is fs gs m.1) refl

-- 1. what a nonterminal opens is asked for, each production by the one before it
abbrev pub asks : List Constituent → Production → Terminal → Bool → Bool
asks (Part d ∷ ps) h k l = may_of d h && guard_of d k l
asks _ h k l = false

abbrev pub linked : Production → List Production → Terminal → Bool → Bool
linked f [] k l = true
linked f (h ∷ fs) k l = asks (rule_of f) h k l && linked h fs k l

abbrev pub opens_right : Nonterminal → Terminal → Bool → List Production → Bool
opens_right c k l [] = true
opens_right c k l (f ∷ fs) = may_of c f && linked f fs k l

abbrev pub opens_test : Bool
opens_test = all (λ c. all (λ k. opens_right c k false (opens_of c k false) && opens_right c k true (opens_of c k true)) terminals) nonterminals

pub opens_all : opens_test ≡ true
unfolding tables
opens_all = refl

-- 2. how a production begins where a nonterminal has it
abbrev pub leads_test : Nonterminal → Nonterminal → Bool
leads_test c d = all (λ h. implies (may_of d h) (may_of c h)) productions

abbrev pub is_some_form : Production → Option Production → Bool
is_some_form f None = false
is_some_form f (Some g) = nat_eq (place_of g) (place_of f)

abbrev pub wraps_test : Nonterminal → Nonterminal → Terminals → Production → Bool
wraps_test c d w f = all (λ k. implies (stands_of w k) (all (λ h. implies (has_of d h) (is_some_form f (wrap_of c h k))) productions)) terminals

abbrev pub word_test : Nonterminal → Terminals → Production → Bool
word_test c w f = all (λ k. implies (stands_of w k) (is_some_form f (first_in c (heads_of k)))) terminals

abbrev pub starts_so : Production → List Production → List Production → Bool
starts_so f [] ys = true
starts_so f (x ∷ xs) ys = same_productions ys (f ∷ x ∷ xs)

abbrev pub part_test : Nonterminal → Nonterminal → Production → Bool
part_test c d f = all (λ k. implies (guard_of c k false) (starts_so f (start_of d k false) (start_of c k false)) && implies (guard_of c k true) (starts_so f (start_of d k true) (start_of c k true))) terminals

abbrev pub way_test : Nonterminal → Production → Bool → List Constituent → Bool
way_test c f false (Token w ∷ ps) = word_test c w f
way_test c f false (Part d ∷ ps) = part_test c d f
way_test c f true (Part d ∷ Token w ∷ ps) = leads_test c d && wraps_test c d w f
way_test c f _ _ = false

abbrev pub ways_test : Bool
ways_test = all (λ c. all (λ f. implies (may_of c f) (way_test c f (operator_of f) (rule_of f))) productions) nonterminals

pub ways_all : ways_test ≡ true
unfolding tables Masks.harmless_masks Masks.edge_masks
ways_all = refl

-- 3. a nonterminal's strict productions are among its productions
abbrev pub has_test : Bool
has_test = all (λ c. all (λ f. implies (has_of c f) (may_of c f)) productions) nonterminals

pub has_all : has_test ≡ true
unfolding tables
has_all = refl

-- 4. a harmless lexeme wraps no tree of the nonterminal
abbrev pub harmless_test : Bool
harmless_test = all (λ c. all (λ k. implies (harmless_of c k) (unwrapped c (operators_at k))) terminals) nonterminals

pub harmless_all : harmless_test ≡ true
unfolding tables Masks.harmless_masks Masks.edge_masks
harmless_all = refl

-- 5. nor does it go on at the right edge of one of the nonterminal's productions
abbrev pub edges_test : Bool
edges_test = all (λ c. all (λ f. implies (has_of c f) (all (λ k. implies (harmless_of c k) (edge_of f k)) terminals)) productions) nonterminals

pub edges_all : edges_test ≡ true
unfolding tables Masks.harmless_masks Masks.edge_masks
edges_all = refl

abbrev pub harmless : Nonterminal → Lexeme → Bool
harmless c t = harmless_of c t.terminal

abbrev pub edge_test : ℕ → Bool
edge_test n = all (λ f. all (λ k. implies (edge_of f k) (edge table operator_of harmless closes_of f (lexeme n k false) && edge table operator_of harmless closes_of f (lexeme n k true))) terminals) productions

pub edge_all : (n : ℕ) → edge_test n ≡ true
unfolding tables Masks.harmless_masks Masks.edge_masks
edge_all n = refl

-- 6. inside a production each part is followed by what does not go on with it
abbrev pub inside_test : ℕ → Bool
inside_test n = all (λ f. all (λ k. settles table operator_of harmless closes_of false (lexeme n k false) (operator_of f) (rule_of f) && settles table operator_of harmless closes_of false (lexeme n k true) (operator_of f) (rule_of f)) terminals) productions

pub inside_all : (n : ℕ) → inside_test n ≡ true
unfolding tables Masks.harmless_masks Masks.edge_masks
inside_all n = refl

-- 7. an operator does not go on at the right edge of its first part
abbrev pub is_special : Production → Bool
is_special production.IfElseStatement = true
is_special production.NewWithArguments = true
is_special _ = false

abbrev pub firsts_test : Production → List Constituent → Bool
firsts_test f (Part d ∷ Token w ∷ ps) = all (λ k. implies (stands_of w k) (all (λ h. implies (has_of d h) (edge_of h k)) productions)) terminals
firsts_test f _ = false

abbrev pub first_test : Bool
first_test = all (λ f. implies (operator_of f) (is_special f || firsts_test f (rule_of f))) productions

pub first_all : first_test ≡ true
unfolding tables Masks.harmless_masks Masks.edge_masks
first_all = refl

-- 8. only some nonterminals have a production after which a list is over
abbrev pub closes_test : Bool
closes_test = all (λ c. all (λ f. implies (has_of c f) (implies (ends_of f) (closes_of c))) productions) nonterminals

pub closes_all : closes_test ≡ true
unfolding tables Masks.harmless_masks Masks.edge_masks
closes_all = refl
