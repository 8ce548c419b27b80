-- Each test of the table is a rule at each entry.
use Rattle.std.proofs.Common.{◌≡◌, Bool, true, false, not, ◌&&◌, cond, List, [], ◌∷◌, Option, Some, None, refl, ap, ◌∙◌}
use Rattle.js_grammar.specs.declared.lexeme.Lexeme.{Lexeme}
use Rattle.js_grammar.specs.declared.symbols.Terminal.{Terminal}
use Rattle.js_grammar.specs.declared.symbols.Nonterminal.{Nonterminal}
use Rattle.js_grammar.specs.declared.constituents.Constituent.{Constituent}
use Rattle.js_grammar.specs.declared.constituents.Constituent.TheVariants.{Token, Part, Optional, Further}
use Rattle.js_grammar.specs.declared.symbols.Production.{Production}
use Rattle.js_grammar.specs.declared.symbols.Production.TheVariants as production
use Rattle.js_grammar.specs.Grammar.{Row, Nil}
use Rattle.js_grammar.specs.Machine.{State, item}
use Rattle.js_grammar.specs.Table.{rule_of, ends_of, start_of, opens_of, guard_of, stands_of, may_of, has_of, wrap_of, pick, chosen, operators_at, firsts_of, first_in, heads_of, opens_with}
use Rattle.js_grammar.specs.Fits.{fits_of, refined, table}
use Rattle.js_grammar.proofs.Sound.{and_true, Below, Opens, Asked}
use Rattle.js_grammar.proofs.Ways.{Way, by_word, by_operator, by_part}
use Rattle.js_grammar.proofs.Calm.{implies, implied, settles, edge}
use Rattle.js_grammar.proofs.Places.{productions, terminals}
use Rattle.js_grammar.proofs.Computed.{operator_of, harmless_of, edge_of, closes_of, lexeme, unwrapped}
use Rattle.js_grammar.proofs.Tame.{all, each_production, each_nonterminal, each_terminal, same_production, same_productions_is, asks, linked, opens_right, opens_all, leads_test, is_some_form, wraps_test, starts_so, part_test, way_test, ways_all, has_all, harmless_all, edges_all, harmless, edge_all, inside_all, closes_all}

abbrev Opening : State → List Production → Lexeme → Type 0
Opening s fs t = Opens table production.Source s fs t

asked : (ps : List Constituent) (h : Production) (t : Lexeme) → asks ps h t.terminal t.after_line ≡ true → Asked table production.Source ps h (t ∷ [])
asked [] h t e = cc
asked (Token w ∷ ps) h t e = cc
asked (Optional c k ∷ ps) h t e = cc
asked (Further c w ∷ ps) h t e = cc
asked (Part d ∷ ps) h t e =
    let m = and_true (may_of d h) (guard_of d t.terminal t.after_line) e in
    (m.0, λ us. m.1)

opening : (fs : List Production) (f : Production) (s : State) (t : Lexeme) → linked f fs t.terminal t.after_line ≡ true → Opening (item f Nil (rule_of f) ∷ s) fs t
opening [] f s t e = tt
opening (h ∷ []) f s t e = asked (rule_of f) h t (and_true (asks (rule_of f) h t.terminal t.after_line) true e).0
opening (h ∷ g ∷ fs) f s t e =
    let m = and_true (asks (rule_of f) h t.terminal t.after_line) (linked h (g ∷ fs) t.terminal t.after_line) e in
    (asked (rule_of f) h t m.0, opening (g ∷ fs) h (item f Nil (rule_of f) ∷ s) t m.1)

opening_first : (fs : List Production) (c : Nonterminal) (s : State) (t : Lexeme) → opens_right c t.terminal t.after_line fs ≡ true → ((f : Production) → may_of c f ≡ true → Below table production.Source s f (t ∷ [])) → Opening s fs t
opening_first [] c s t e k = tt
opening_first (f ∷ []) c s t e k = k f (and_true (may_of c f) true e).0
opening_first (f ∷ h ∷ fs) c s t e k =
    let m = and_true (may_of c f) (linked f (h ∷ fs) t.terminal t.after_line) e in
    (k f m.0, opening (h ∷ fs) f s t m.1)

opens_at : (c : Nonterminal) (k : Terminal) (l : Bool) → opens_right c k l (opens_of c k l) ≡ true
opens_at c k true = (and_true (opens_right c k false (opens_of c k false)) (opens_right c k true (opens_of c k true)) (each_terminal (λ k. opens_right c k false (opens_of c k false) && opens_right c k true (opens_of c k true)) (each_nonterminal _ opens_all c) k)).1
opens_at c k false = (and_true (opens_right c k false (opens_of c k false)) (opens_right c k true (opens_of c k true)) (each_terminal (λ k. opens_right c k false (opens_of c k false) && opens_right c k true (opens_of c k true)) (each_nonterminal _ opens_all c) k)).0

pub start_opens : (c : Nonterminal) (t : Lexeme) (s : State) → ((f : Production) → may_of c f ≡ true → guard_of c t.terminal t.after_line ≡ true → Below table production.Source s f (t ∷ [])) → Opening s (start_of c t.terminal t.after_line) t
unfolding start_of
start_opens c t s h = go (guard_of c t.terminal t.after_line) refl
  where
    go : (b : Bool) → guard_of c t.terminal t.after_line ≡ b → Opening s (cond b (opens_of c t.terminal t.after_line) []) t
    go true e = opening_first (opens_of c t.terminal t.after_line) c s t (opens_at c t.terminal t.after_line) (λ f m. h f m e)
    go false e = tt

pick_one : (g : Production) (c : Nonterminal) (h f : Production) (b : Bool) (o : Option Production) → (may_of c g && firsts_of (rule_of g) h) ≡ b → chosen b g o ≡ Some f → (o ≡ Some f → may_of c f ≡ true) → may_of c f ≡ true
pick_one g c h f true o x k n = let same : g ≡ f = cc in rw (← same) (and_true (may_of c g) (firsts_of (rule_of g) h) x).0
pick_one g c h f false o x k n = n k

pick_may : (fs : List Production) (c : Nonterminal) (h f : Production) → pick c h fs ≡ Some f → may_of c f ≡ true
pick_may [] c h f e = cc
pick_may (g ∷ fs) c h f e = pick_one g c h f (may_of c g && firsts_of (rule_of g) h) (pick c h fs) refl e (λ k. pick_may fs c h f k)

pub wrap_may : (c : Nonterminal) (h : Production) (t : Lexeme) (f : Production) → wrap_of c h t.terminal ≡ Some f → may_of c f ≡ true
unfolding wrap_of
wrap_may c h t f e = pick_may (operators_at t.terminal) c h f e

pub fits_has : (c : Nonterminal) (h : Production) (r : Row) → fits_of c h r ≡ true → has_of c h ≡ true
unfolding fits_of
fits_has c h r e = (and_true (has_of c h) (refined c h r) e).0

pub fits_leads : (c : Nonterminal) (h : Production) (r : Row) → fits_of c h r ≡ true → may_of c h ≡ true
fits_leads c h r e = implied (has_of c h) (may_of c h) (each_production _ (each_nonterminal _ has_all c) h) (fits_has c h r e)

-- how a production begins
start_is : (c : Nonterminal) (k : Terminal) (l : Bool) (fs : List Production) → guard_of c k l ≡ true → opens_of c k l ≡ fs → start_of c k l ≡ fs
unfolding start_of
start_is c k l fs g e = rw (g, e) refl

abbrev all_wraps : Nonterminal → Nonterminal → Production → Terminal → Bool
all_wraps c d f k = all (λ h. implies (has_of d h) (is_some_form f (wrap_of c h k))) productions

some_form : (f : Production) (o : Option Production) → is_some_form f o ≡ true → o ≡ Some f
some_form f None e = cc
some_form f (Some g) e = ap Some (same_production g f e)

opens_is : (c : Nonterminal) (k : Terminal) (l : Bool) (f : Production) → first_in c (heads_of k) ≡ Some f → opens_of c k l ≡ f ∷ []
unfolding opens_of
opens_is c k l f e = ap (λ o. opens_with o c k l) e

starts_so_is : (f : Production) (xs ys : List Production) (h : Production) (hs : List Production) → starts_so f xs ys ≡ true → xs ≡ h ∷ hs → ys ≡ f ∷ h ∷ hs
starts_so_is f [] ys h hs e k = cc
starts_so_is f (x ∷ xs) ys h hs e k = same_productions_is ys (f ∷ x ∷ xs) e ∙ ap (λ z. f ∷ z) k

part_at : (c d : Nonterminal) (f : Production) (k : Terminal) (l : Bool) → part_test c d f ≡ true → guard_of c k l ≡ true → starts_so f (start_of d k l) (start_of c k l) ≡ true
part_at c d f k true p g =
    let m = each_terminal _ p k in
    implied (guard_of c k true) (starts_so f (start_of d k true) (start_of c k true)) (and_true (implies (guard_of c k false) (starts_so f (start_of d k false) (start_of c k false))) (implies (guard_of c k true) (starts_so f (start_of d k true) (start_of c k true))) m).1 g
part_at c d f k false p g =
    let m = each_terminal _ p k in
    implied (guard_of c k false) (starts_so f (start_of d k false) (start_of c k false)) (and_true (implies (guard_of c k false) (starts_so f (start_of d k false) (start_of c k false))) (implies (guard_of c k true) (starts_so f (start_of d k true) (start_of c k true))) m).0 g

way_is : (c : Nonterminal) (f : Production) (b : Bool) (ps : List Constituent) → operator_of f ≡ b → rule_of f ≡ ps → way_test c f b ps ≡ true → Way table operator_of may_of c f
way_is c f false [] o r e = cc
way_is c f false (Optional d k ∷ ps) o r e = cc
way_is c f false (Further d w ∷ ps) o r e = cc
way_is c f false (Token w ∷ ps) o r e = by_word w ps r o (λ t s g. start_is c t.terminal t.after_line (f ∷ []) g (opens_is c t.terminal t.after_line f (some_form f (first_in c (heads_of t.terminal)) (implied (stands_of w t.terminal) (is_some_form f (first_in c (heads_of t.terminal))) (each_terminal (λ k. implies (stands_of w k) (is_some_form f (first_in c (heads_of k)))) e t.terminal) s))))
way_is c f false (Part d ∷ ps) o r e = by_part d ps r o (λ t h hs g m. starts_so_is f (start_of d t.terminal t.after_line) (start_of c t.terminal t.after_line) h hs (part_at c d f t.terminal t.after_line e g) m)
way_is c f true [] o r e = cc
way_is c f true (Optional d k ∷ ps) o r e = cc
way_is c f true (Further d w ∷ ps) o r e = cc
way_is c f true (Token w ∷ ps) o r e = cc
way_is c f true (Part d ∷ []) o r e = cc
way_is c f true (Part d ∷ Part a ∷ ps) o r e = cc
way_is c f true (Part d ∷ Optional a k ∷ ps) o r e = cc
way_is c f true (Part d ∷ Further a k ∷ ps) o r e = cc
way_is c f true (Part d ∷ Token w ∷ ps) o r e =
    let m = and_true (leads_test c d) (wraps_test c d w f) e in
    by_operator d w ps r o
    (λ h x. implied (may_of d h) (may_of c h) (each_production (λ h. implies (may_of d h) (may_of c h)) m.0 h) x)
    (λ h q t x s.
    let n = implied (stands_of w t.terminal) _ (each_terminal (λ k. implies (stands_of w k) (all_wraps c d f k)) m.1 t.terminal) s in
    some_form f (wrap_of c h t.terminal) (implied (has_of d h) (is_some_form f (wrap_of c h t.terminal)) (each_production (λ h. implies (has_of d h) (is_some_form f (wrap_of c h t.terminal))) n h) (fits_has d h q x)))

pub way : (c : Nonterminal) (f : Production) → may_of c f ≡ true → Way table operator_of may_of c f
way c f m = way_is c f (operator_of f) (rule_of f) refl refl (implied (may_of c f) (way_test c f (operator_of f) (rule_of f)) (each_production (λ f. implies (may_of c f) (way_test c f (operator_of f) (rule_of f))) (each_nonterminal _ ways_all c) f) m)

-- what goes on with nothing
not_chosen : (b x : Bool) (f : Production) (o : Option Production) → not b ≡ true → o ≡ None → chosen (b && x) f o ≡ None
not_chosen true x f o e n = cc
not_chosen false x f o e n = n

unwrapped_none : (fs : List Production) (c : Nonterminal) (h : Production) → unwrapped c fs ≡ true → pick c h fs ≡ None
unwrapped_none [] c h e = refl
unwrapped_none (f ∷ fs) c h e =
    let m = and_true (not (may_of c f)) (unwrapped c fs) e in
    not_chosen (may_of c f) (firsts_of (rule_of f) h) f (pick c h fs) m.0 (unwrapped_none fs c h m.1)

pub harmless_wrap : (c : Nonterminal) (h : Production) (t : Lexeme) → harmless c t ≡ true → wrap_of c h t.terminal ≡ None
unfolding wrap_of
harmless_wrap c h t e = unwrapped_none (operators_at t.terminal) c h (implied (harmless_of c t.terminal) (unwrapped c (operators_at t.terminal)) (each_terminal (λ k. implies (harmless_of c k) (unwrapped c (operators_at k))) (each_nonterminal _ harmless_all c) t.terminal) e)

pub edge_at : (f : Production) (t : Lexeme) → edge_of f t.terminal ≡ true → edge table operator_of harmless closes_of f t ≡ true
edge_at f t e =
    let m = implied (edge_of f t.terminal) _ (each_terminal (λ k. implies (edge_of f k) (edge table operator_of harmless closes_of f (lexeme t.at k false) && edge table operator_of harmless closes_of f (lexeme t.at k true))) (each_production _ (edge_all t.at) f) t.terminal) e in
    let n = and_true (edge table operator_of harmless closes_of f (lexeme t.at t.terminal false)) (edge table operator_of harmless closes_of f (lexeme t.at t.terminal true)) m in
    go t.after_line n.0 n.1
  where
    go : (l : Bool) → edge table operator_of harmless closes_of f (lexeme t.at t.terminal false) ≡ true → edge table operator_of harmless closes_of f (lexeme t.at t.terminal true) ≡ true → edge table operator_of harmless closes_of f (lexeme t.at t.terminal l) ≡ true
    go true a b = b
    go false a b = a

pub harmless_edge : (c : Nonterminal) (h : Production) (r : Row) (t : Lexeme) → harmless c t ≡ true → fits_of c h r ≡ true → edge table operator_of harmless closes_of h t ≡ true
harmless_edge c h r t e f =
    let m = implied (has_of c h) _ (each_production (λ f. implies (has_of c f) (all (λ k. implies (harmless_of c k) (edge_of f k)) terminals)) (each_nonterminal _ edges_all c) h) (fits_has c h r f) in
    edge_at h t (implied (harmless_of c t.terminal) (edge_of h t.terminal) (each_terminal (λ k. implies (harmless_of c k) (edge_of h k)) m t.terminal) e)

pub inside : (f : Production) (t : Lexeme) → settles table operator_of harmless closes_of false t (operator_of f) (rule_of f) ≡ true
inside f t =
    let m = each_terminal (λ k. settles table operator_of harmless closes_of false (lexeme t.at k false) (operator_of f) (rule_of f) && settles table operator_of harmless closes_of false (lexeme t.at k true) (operator_of f) (rule_of f)) (each_production _ (inside_all t.at) f) t.terminal in
    let n = and_true (settles table operator_of harmless closes_of false (lexeme t.at t.terminal false) (operator_of f) (rule_of f)) (settles table operator_of harmless closes_of false (lexeme t.at t.terminal true) (operator_of f) (rule_of f)) m in
    go t.after_line n.0 n.1
  where
    go : (l : Bool) → settles table operator_of harmless closes_of false (lexeme t.at t.terminal false) (operator_of f) (rule_of f) ≡ true → settles table operator_of harmless closes_of false (lexeme t.at t.terminal true) (operator_of f) (rule_of f) ≡ true → settles table operator_of harmless closes_of false (lexeme t.at t.terminal l) (operator_of f) (rule_of f) ≡ true
    go true a b = b
    go false a b = a

pub ending : (c : Nonterminal) (h : Production) (r : Row) → fits_of c h r ≡ true → ends_of h ≡ true → closes_of c ≡ true
ending c h r f e = implied (ends_of h) (closes_of c) (implied (has_of c h) _ (each_production (λ f. implies (has_of c f) (implies (ends_of f) (closes_of c))) (each_nonterminal _ closes_all c) h) (fits_has c h r f)) e
