-- A token whose terminal hangs on the next token stands wherever the plain one does: so the tokens up to and with it have a partial tree, or
-- have none, whatever comes next.
use Rattle.std.proofs.Common.{◌≡◌, ℕ, Bool, true, false, not, ◌&&◌, ◌||◌, List, [], ◌∷◌, ◌++◌, Option, Some, None, refl, sym, ap, subst, ◌∙◌, ◌⊎◌, inl, inr}
use Rattle.js_grammar.specs.declared.lexeme.Lexeme.{Lexeme}
use Rattle.js_grammar.specs.declared.symbols.Terminal.{Terminal}
use Rattle.js_grammar.specs.declared.symbols.Nonterminal.{Nonterminal}
use Rattle.js_grammar.specs.declared.symbols.Nonterminal.TheVariants as nonterminal
use Rattle.js_grammar.specs.declared.symbols.Production.{Production}
use Rattle.js_grammar.specs.declared.symbols.Production.TheVariants as production
use Rattle.js_grammar.specs.declared.constituents.Terminals.{Terminals}
use Rattle.js_grammar.specs.declared.constituents.Repetition.{Repetition}
use Rattle.js_grammar.specs.declared.constituents.Repetition.TheVariants.{Once, Many, Listed}
use Rattle.js_grammar.specs.declared.constituents.Constituent.{Constituent}
use Rattle.js_grammar.specs.declared.constituents.Constituent.TheVariants.{Token, Part, Optional, Further}
use Rattle.js_grammar.specs.declared.summary.Summary.{Summary}
use Rattle.js_grammar.specs.Grammar.{Tree, Leaf, Node, Absent, Row, Nil, Then, is, left, takes, follow, behind, spells}
use Rattle.js_grammar.specs.Machine.{State, feed, feeds}
use Rattle.js_grammar.specs.Table
use Rattle.js_grammar.specs.Table.{rule_of, ends_of, stands_of, start_of, wrap_of, pick, operators_at, plain_of}
use Rattle.js_grammar.specs.Fits.{with_absent, grammar, table, with_node, summary_of}
use Rattle.js_grammar.specs.Flat.{fit_by, Shape, shape, nesting_on, laid_open, laid_out}
use Rattle.js_grammar.specs.Would.{opened_would, or_would, onward_would, wrapped_would, joined_would, put_would, complete_would, would}
use Rattle.js_grammar.specs.Laws.{from, so, is_some, plain, HasBeginning}
use Rattle.js_grammar.proofs.Sound.{and_true, after_is, only_some, Fine, feeds_comes}
use Rattle.js_grammar.proofs.Ways.{is_empty, is_nil}
use Rattle.js_grammar.proofs.Topped.{Topped, feed_tops}
use Rattle.js_grammar.proofs.Places.{productions, terminals}
use Rattle.js_grammar.proofs.Computed.{lexeme, tables}
use Rattle.js_grammar.proofs.Tame.{all, each_production, each_terminal, same_productions, same_productions_is}
use Rattle.js_grammar.proofs.Entries.{start_opens, wrap_may}
use Rattle.js_grammar.proofs.Exact.{good, exact, from_fine}
use Rattle.js_grammar.proofs.Flattened.{fed_is}
use Rattle.js_grammar.proofs.Looking.{would_is}

-- both hold, or none
abbrev same : Bool → Bool → Bool
same true b = b
same false b = not b

same_is : (a b : Bool) → same a b ≡ true → a ≡ b
same_is true b h = sym h
same_is false true h = cc
same_is false false h = refl

-- a constituent takes the terminal exactly where it takes the plain one
abbrev starts_same : ℕ → Nonterminal → Terminal → Bool → Bool
starts_same n c k l = same (is_empty (start_of c k l)) (is_empty (start_of c (plain_of k) l)) && same (opened_would (start_of c k l) (lexeme n k l)) (opened_would (start_of c (plain_of k) l) (lexeme n (plain_of k) l))

abbrev part_same : ℕ → Nonterminal → Terminal → Bool
part_same n c k = starts_same n c k false && starts_same n c k true

abbrev set_same : Terminals → Terminal → Bool
set_same w k = same (stands_of w k) (stands_of w (plain_of k))

abbrev steady_at : ℕ → Terminal → Constituent → Bool
steady_at n k (Token w) = set_same w k
steady_at n k (Part c) = part_same n c k
steady_at n k (Optional c Once) = part_same n c k
steady_at n k (Optional c Many) = part_same n c k
steady_at n k (Optional c (Listed w)) = part_same n c k && set_same w k
steady_at n k (Further c w) = part_same n c k && set_same w k

abbrev steady : ℕ → Terminal → List Constituent → Bool
steady n k [] = true
steady n k (p ∷ ps) = steady_at n k p && steady n k ps

-- a rule begins with a constituent that stands
abbrev firm : List Constituent → Bool
firm [] = false
firm (Token w ∷ ps) = true
firm (Part c ∷ ps) = true
firm (Optional c v ∷ ps) = false
firm (Further c w ∷ ps) = false

-- the tests of the table
abbrev steady_test : ℕ → Bool
steady_test n = all (λ f. firm (rule_of f) && all (λ k. steady n k (behind (rule_of f))) terminals) productions

steady_all : (n : ℕ) → steady_test n ≡ true
unfolding tables Table.plain_of
steady_all n = refl

source_test : (n : ℕ) → all (λ k. part_same n nonterminal.Module k) terminals ≡ true
unfolding tables Table.plain_of
source_test n = refl

operators_test : all (λ k. same_productions (operators_at k) (operators_at (plain_of k))) terminals ≡ true
unfolding tables Table.plain_of
operators_test = refl

rule_test : (f : Production) (n : ℕ) → (firm (rule_of f) ≡ true) × (all (λ k. steady n k (behind (rule_of f))) terminals ≡ true)
rule_test f n = and_true (firm (rule_of f)) (all (λ k. steady n k (behind (rule_of f))) terminals) (each_production (λ f. firm (rule_of f) && all (λ k. steady n k (behind (rule_of f))) terminals) (steady_all n) f)

steady_rule : (f : Production) (t : Lexeme) → steady t.at t.terminal (behind (rule_of f)) ≡ true
steady_rule f t = each_terminal (λ k. steady t.at k (behind (rule_of f))) (rule_test f t.at).1 t.terminal

-- what the tests say of one token
by_line : (n : ℕ) (c : Nonterminal) (k : Terminal) (l : Bool) → part_same n c k ≡ true → starts_same n c k l ≡ true
by_line n c k true h = (and_true (starts_same n c k false) (starts_same n c k true) h).1
by_line n c k false h = (and_true (starts_same n c k false) (starts_same n c k true) h).0

abbrev Starts_as : Nonterminal → Lexeme → Type 0
Starts_as c t = (is_empty (start_of c t.terminal t.after_line) ≡ is_empty (start_of c (plain_of t.terminal) t.after_line)) × (opened_would (start_of c t.terminal t.after_line) t ≡ opened_would (start_of c (plain_of t.terminal) t.after_line) (plain t))

start_same : (c : Nonterminal) (t : Lexeme) → part_same t.at c t.terminal ≡ true → Starts_as c t
start_same c t h =
    let m = and_true (same (is_empty (start_of c t.terminal t.after_line)) (is_empty (start_of c (plain_of t.terminal) t.after_line))) (same (opened_would (start_of c t.terminal t.after_line) (lexeme t.at t.terminal t.after_line)) (opened_would (start_of c (plain_of t.terminal) t.after_line) (lexeme t.at (plain_of t.terminal) t.after_line))) (by_line t.at c t.terminal t.after_line h) in
    (same_is _ _ m.0, same_is _ _ m.1)

part_of : (n : ℕ) (k : Terminal) (c : Nonterminal) (v : Repetition) → steady_at n k (Optional c v) ≡ true → part_same n c k ≡ true
part_of n k c Once h = h
part_of n k c Many h = h
part_of n k c (Listed w) h = (and_true (part_same n c k) (set_same w k) h).0

or_same : (a b : List Production) (x y u v : Bool) → is_empty a ≡ is_empty b → x ≡ y → u ≡ v → or_would a x u ≡ or_would b y v
or_same [] [] x y u v e h k = h
or_same [] (g ∷ gs) x y u v e h k = cc
or_same (f ∷ fs) [] x y u v e h k = cc
or_same (f ∷ fs) (g ∷ gs) x y u v e h k = k

either_same : (a b x y : Bool) → a ≡ b → x ≡ y → (a || x) ≡ (b || y)
either_same a b x y e h = rw (e, h) refl

abbrev Ended_as : (Production → Summary → Bool) → (Production → Summary → Bool) → Type 0
Ended_as k l = (f : Production) (m : Summary) → k f m ≡ l f m

onward_same : (k l : Production → Summary → Bool) (f : Production) (m : Summary) (ps : List Constituent) (t : Lexeme) → steady t.at t.terminal ps ≡ true → Ended_as k l → onward_would k f m ps t ≡ onward_would l f m ps (plain t)
onward_same k l f m [] t h e = e f m
onward_same k l f m (Token w ∷ ps) t h e = same_is _ _ (and_true (set_same w t.terminal) (steady t.at t.terminal ps) h).0
onward_same k l f m (Part c ∷ ps) t h e = (start_same c t (and_true (part_same t.at c t.terminal) (steady t.at t.terminal ps) h).0).1
onward_same k l f m (Optional c v ∷ ps) t h e =
    let a = and_true (steady_at t.at t.terminal (Optional c v)) (steady t.at t.terminal ps) h in
    let b = start_same c t (part_of t.at t.terminal c v a.0) in
    or_same (start_of c t.terminal t.after_line) (start_of c (plain_of t.terminal) t.after_line) _ _ _ _ b.0 (onward_same k l f (with_absent m) ps t a.1 e) b.1
onward_same k l f m (Further c w ∷ ps) t h e =
    let a = and_true (part_same t.at c t.terminal && set_same w t.terminal) (steady t.at t.terminal ps) h in
    let b = and_true (part_same t.at c t.terminal) (set_same w t.terminal) a.0 in
    either_same _ _ _ _ (same_is _ _ b.1) (onward_same k l f (with_absent m) ps t a.1 e)

steady_behind : (n : ℕ) (k : Terminal) (ps : List Constituent) → steady n k ps ≡ true → steady n k (behind ps) ≡ true
steady_behind n k [] h = refl
steady_behind n k (p ∷ ps) h = (and_true (steady_at n k p) (steady n k ps) h).1

steady_follow : (n : ℕ) (k : Terminal) (o : Bool) (c : Nonterminal) (v : Repetition) (ps : List Constituent) → steady n k (Optional c v ∷ ps) ≡ true → steady n k (follow o c v ps) ≡ true
steady_follow n k true c Once ps h = steady_behind n k ps (and_true (part_same n c k) (steady n k ps) h).1
steady_follow n k false c Once ps h = (and_true (part_same n c k) (steady n k ps) h).1
steady_follow n k true c Many ps h = (and_true (part_same n c k) (steady n k ps) h).1
steady_follow n k false c Many ps h = h
steady_follow n k true c (Listed w) ps h = (and_true (part_same n c k && set_same w k) (steady n k ps) h).1
steady_follow n k false c (Listed w) ps h = h

wrap_same : (c : Nonterminal) (h : Production) (k : Terminal) → wrap_of c h k ≡ wrap_of c h (plain_of k)
unfolding wrap_of
wrap_same c h k = ap (pick c h) (same_productions_is (operators_at k) (operators_at (plain_of k)) (each_terminal (λ k. same_productions (operators_at k) (operators_at (plain_of k))) operators_test k))

wrapped_same : (ps : List Constituent) (h : Production) (x : Summary) (t : Lexeme) → steady t.at t.terminal (behind ps) ≡ true → wrapped_would ps h x t ≡ wrapped_would ps h x (plain t)
wrapped_same [] h x t e = refl
wrapped_same (Token w ∷ ps) h x t e = refl
wrapped_same (Optional c v ∷ ps) h x t e = refl
wrapped_same (Further c w ∷ ps) h x t e = refl
wrapped_same (Part c ∷ []) h x t e = refl
wrapped_same (Part c ∷ Part d ∷ ps) h x t e = refl
wrapped_same (Part c ∷ Optional d v ∷ ps) h x t e = refl
wrapped_same (Part c ∷ Further d w ∷ ps) h x t e = refl
wrapped_same (Part c ∷ Token w ∷ ps) h x t e = ap (λ b. fit_by c h x && b) (same_is _ _ (and_true (set_same w t.terminal) (steady t.at t.terminal ps) e).0)

joined_same : (o p : Option Production) (a b : Bool) (v w : Production → Bool) → o ≡ p → a ≡ b → ((u : Production) → v u ≡ w u) → joined_would o a v ≡ joined_would p b w
joined_same None p a b v w e h k = rw (← e) h
joined_same (Some u) p a b v w e h k = rw (← e) (k u)

-- what waits for a part
abbrev Waits : ℕ → Terminal → List Constituent → Type 0
Waits n k [] = Unit {0}
Waits n k (Token w ∷ ps) = Unit {0}
Waits n k (Part c ∷ ps) = steady n k ps ≡ true
Waits n k (Optional c v ∷ ps) = steady n k (Optional c v ∷ ps) ≡ true
Waits n k (Further c w ∷ ps) = Unit {0}

put_same : (k l : Production → Summary → Bool) (f : Production) (m : Summary) (ps : List Constituent) (h : Production) (x : Summary) (t : Lexeme) → Waits t.at t.terminal ps → Ended_as k l → put_would k f m ps h x t ≡ put_would l f m ps h x (plain t)
put_same k l f m [] h x t w e = refl
put_same k l f m (Token a ∷ ps) h x t w e = refl
put_same k l f m (Further c a ∷ ps) h x t w e = refl
put_same k l f m (Part c ∷ ps) h x t w e =
    joined_same (wrap_of c h t.terminal) (wrap_of c h (plain_of t.terminal)) _ _ _ _ (wrap_same c h t.terminal)
    (ap (λ b. fit_by c h x && b) (onward_same k l f (with_node m h x) ps t w e))
    (λ u. wrapped_same (rule_of u) h x t (steady_rule u t))
put_same k l f m (Optional c v ∷ ps) h x t w e =
    joined_same (wrap_of c h t.terminal) (wrap_of c h (plain_of t.terminal)) _ _ _ _ (wrap_same c h t.terminal)
    (ap (λ b. fit_by c h x && b) (onward_same k l f (with_node m h x) (follow (ends_of h) c v ps) t (steady_follow t.at t.terminal (ends_of h) c v ps w) e))
    (λ u. wrapped_same (rule_of u) h x t (steady_rule u t))

abbrev Waiting : ℕ → Terminal → List Shape → Type 0
Waiting n k [] = Unit {0}
Waiting n k (i ∷ s) = Waits n k i.rest × Waiting n k s

complete_same : (s : List Shape) (t : Lexeme) → Waiting t.at t.terminal s → Ended_as (λ h x. complete_would s h x t) (λ h x. complete_would s h x (plain t))
complete_same [] t w h x = refl
complete_same (i ∷ s) t w h x = put_same (λ f m. complete_would s f m t) (λ f m. complete_would s f m (plain t)) i.production i.summary i.rest h x t w.0 (complete_same s t w.1)

would_same : (i : Shape) (s : List Shape) (t : Lexeme) → steady t.at t.terminal i.rest ≡ true → Waiting t.at t.terminal s → would (i ∷ s) t ≡ would (i ∷ s) (plain t)
would_same i s t h w = onward_same (λ f m. complete_would s f m t) (λ f m. complete_would s f m (plain t)) i.production i.summary i.rest t h (complete_same s t w)

-- the constituents that are left of a rule
kid_first : (n : ℕ) (k : Terminal) (is : Nonterminal → Bool) (ps qs : List Constituent) (x : Tree) → takes grammar is ps x ≡ Some qs → firm ps ≡ true → steady n k (behind ps) ≡ true → steady n k qs ≡ true
kid_first n k is [] qs x e f h = cc
kid_first n k is (Optional c v ∷ ps) qs x e f h = cc
kid_first n k is (Further c v ∷ ps) qs x e f h = cc
kid_first n k is (Token w ∷ ps) qs (Leaf u) e f h =
    let m = only_some (grammar.stands w u) _ qs e in
    let same : ps ≡ qs = cc in rw (← same) h
kid_first n k is (Token w ∷ ps) qs (Node g r) e f h = cc
kid_first n k is (Token w ∷ ps) qs Absent e f h = cc
kid_first n k is (Part c ∷ ps) qs (Leaf u) e f h = cc
kid_first n k is (Part c ∷ ps) qs (Node g r) e f h =
    let m = only_some (is c) _ qs e in
    let same : ps ≡ qs = cc in rw (← same) h
kid_first n k is (Part c ∷ ps) qs Absent e f h = cc

kid_later : (n : ℕ) (k : Terminal) (is : Nonterminal → Bool) (ps qs : List Constituent) (x : Tree) → takes grammar is ps x ≡ Some qs → steady n k ps ≡ true → steady n k qs ≡ true
kid_later n k is [] qs x e h = cc
kid_later n k is (Token w ∷ ps) qs (Leaf u) e h =
    let m = only_some (grammar.stands w u) _ qs e in
    let same : ps ≡ qs = cc in rw (← same) (and_true (set_same w k) (steady n k ps) h).1
kid_later n k is (Token w ∷ ps) qs (Node g r) e h = cc
kid_later n k is (Token w ∷ ps) qs Absent e h = cc
kid_later n k is (Part c ∷ ps) qs (Leaf u) e h = cc
kid_later n k is (Part c ∷ ps) qs (Node g r) e h =
    let m = only_some (is c) _ qs e in
    let same : ps ≡ qs = cc in rw (← same) (and_true (part_same n c k) (steady n k ps) h).1
kid_later n k is (Part c ∷ ps) qs Absent e h = cc
kid_later n k is (Optional c v ∷ ps) qs (Leaf u) e h = cc
kid_later n k is (Optional c v ∷ ps) qs (Node g r) e h =
    let m = only_some (is c) _ qs e in
    let same : follow (ends_of g) c v ps ≡ qs = cc in rw (← same) (steady_follow n k (ends_of g) c v ps h)
kid_later n k is (Optional c v ∷ ps) qs Absent e h =
    let same : ps ≡ qs = cc in rw (← same) (and_true (steady_at n k (Optional c v)) (steady n k ps) h).1
kid_later n k is (Further c w ∷ ps) qs (Leaf u) e h =
    let m = only_some (grammar.stands w u) _ qs e in
    let same : Optional c (Listed w) ∷ ps ≡ qs = cc in rw (← same) h
kid_later n k is (Further c w ∷ ps) qs (Node g r) e h = cc
kid_later n k is (Further c w ∷ ps) qs Absent e h =
    let same : ps ≡ qs = cc in rw (← same) (and_true (part_same n c k && set_same w k) (steady n k ps) h).1

left_steady : (r : Row) (f : Production) (x : Tree) (ps : List Constituent) (t : Lexeme) → left grammar f (Then r x) ≡ Some ps → steady t.at t.terminal ps ≡ true
left_steady Nil f x ps t h = kid_first t.at t.terminal (is grammar x) (rule_of f) ps x h (rule_test f t.at).0 (steady_rule f t)
left_steady (Then r y) f x ps t h =
    let m = after_is (left grammar f (Then r y)) _ ps h in
    kid_later t.at t.terminal (is grammar x) m.0 ps x m.2 (left_steady r f y m.0 t m.1)

waits_steady : (n : ℕ) (k : Terminal) (ps : List Constituent) → steady n k ps ≡ true → Waits n k ps
waits_steady n k [] h = tt
waits_steady n k (Token w ∷ ps) h = tt
waits_steady n k (Part c ∷ ps) h = (and_true (part_same n c k) (steady n k ps) h).1
waits_steady n k (Optional c v ∷ ps) h = h
waits_steady n k (Further c w ∷ ps) h = tt

waits_firm : (n : ℕ) (k : Terminal) (ps : List Constituent) → firm ps ≡ true → steady n k (behind ps) ≡ true → Waits n k ps
waits_firm n k [] f h = tt
waits_firm n k (Token w ∷ ps) f h = tt
waits_firm n k (Part c ∷ ps) f h = h
waits_firm n k (Optional c v ∷ ps) f h = cc
waits_firm n k (Further c w ∷ ps) f h = tt

waits_left : (r : Row) (f : Production) (ps : List Constituent) (t : Lexeme) → left grammar f r ≡ Some ps → Waits t.at t.terminal ps
waits_left Nil f ps t h =
    let same : rule_of f ≡ ps = cc in
    let P : List Constituent → Type 0 = λ x. Waits t.at t.terminal x in
    subst P same (waits_firm t.at t.terminal (rule_of f) (rule_test f t.at).0 (steady_rule f t))
waits_left (Then r x) f ps t h = waits_steady t.at t.terminal ps (left_steady r f x ps t h)

fine_waiting : (s : State) (ts : List Lexeme) (t : Lexeme) → Fine table production.Source s ts → Waiting t.at t.terminal (laid_open s)
fine_waiting [] ts t h = tt
fine_waiting (i ∷ s) ts t h = (waits_left i.done i.production i.rest t h.0, fine_waiting s (spells i.done ++ ts) t h.2)

-- what the reader has after some tokens: nothing yet, or a part at the top
abbrev Ready : State → Type 0
Ready q = (q ≡ from) ⊎ Topped q

ready : (ts : List Lexeme) (s q : State) → Ready s → feeds table s ts ≡ Some q → Ready q
ready [] s q h e = let same : s ≡ q = cc in subst Ready same h
ready (t ∷ ts) s q h e =
    let m = after_is (feed table s t) _ q e in
    ready ts m.0 q (inr (feed_tops s t m.0 m.1)) m.2

row_steady : (r : Row) (f : Production) (ps : List Constituent) (t : Lexeme) → is_nil r ≡ false → left grammar f r ≡ Some ps → steady t.at t.terminal ps ≡ true
row_steady Nil f ps t n h = cc
row_steady (Then r x) f ps t n h = left_steady r f x ps t h

from_same : (t : Lexeme) → would (laid_open from) t ≡ would (laid_open from) (plain t)
from_same t = (start_same nonterminal.Module t (each_terminal (λ k. part_same t.at nonterminal.Module k) (source_test t.at) t.terminal)).1

state_same : (q : State) (t : Lexeme) → Fine table production.Source q [] → Ready q → would (laid_open q) t ≡ would (laid_open q) (plain t)
state_same q t h (inl e) = let P : State → Type 0 = λ q. would (laid_open q) t ≡ would (laid_open q) (plain t) in subst P (sym e) (from_same t)
state_same [] t h (inr n) = refl
state_same (i ∷ s) t h (inr n) = would_same (shape i.production (summary_of i.done) (nesting_on (laid_open s)) i.rest) (laid_open s) t (row_steady i.done i.production i.rest t n h.0) (fine_waiting s (spells i.done ++ []) t h.2)

would_feed : (s : State) (t : Lexeme) → is_some (so (feed table s t)) ≡ would (laid_open s) t
would_feed s t = ap is_some (sym (fed_is s t)) ∙ would_is (laid_open s) (laid_out s) t

fed_some : (o : Option State) (q : State) → o ≡ Some q → is_some (so o) ≡ true
fed_some None q e = cc
fed_some (Some p) q e = refl

some_fed : (o : Option State) → is_some (so o) ≡ true → (q : State) × (o ≡ Some q)
some_fed None e = cc
some_fed (Some q) e = (q, refl)

step_on : (u : Lexeme) (a : List Lexeme) (s p q : State) → feed table s u ≡ Some p → feeds table p a ≡ Some q → feeds table s (u ∷ a) ≡ Some q
step_on u a s p q e h = rw e h

split : (a : List Lexeme) (t : Lexeme) (s q : State) → feeds table s (a ++ t ∷ []) ≡ Some q → (p : State) × (feeds table s a ≡ Some p) × (feed table p t ≡ Some q)
split [] t s q h =
    let m = after_is (feed table s t) _ q h in
    (s, refl, m.1 ∙ m.2)
split (u ∷ a) t s q h =
    let m = after_is (feed table s u) _ q h in
    let n = split a t m.0 q m.2 in
    (n.0, step_on u a s m.0 n.0 m.1 n.1, n.2)

joint : (a : List Lexeme) (t : Lexeme) (s p q : State) → feeds table s a ≡ Some p → feed table p t ≡ Some q → feeds table s (a ++ t ∷ []) ≡ Some q
joint [] t s p q h k = let same : s ≡ p = cc in rw (same, k) refl
joint (u ∷ a) t s p q h k =
    let m = after_is (feed table s u) _ p h in
    rw m.1 (joint a t m.0 p q m.2 k)

fine_after : (ts : List Lexeme) (q : State) → feeds table from ts ≡ Some q → Fine table production.Source q []
fine_after ts q h = (feeds_comes table production.Source start_opens wrap_may ts from q from_fine h).0

-- what has a partial tree with the token has one with the plain one
pub kept : (ts : List Lexeme) (t : Lexeme) → HasBeginning (ts ++ t ∷ []) → HasBeginning (ts ++ plain t ∷ [])
kept ts t h =
    let m = exact (ts ++ t ∷ []) h in
    let n = split ts t from m.0 m.1 in
    let e = state_same n.0 t (fine_after ts n.0 n.1) (ready ts from n.0 (inl refl) n.1) in
    let yes : is_some (so (feed table n.0 (plain t))) ≡ true = would_feed n.0 (plain t) ∙ sym e ∙ sym (would_feed n.0 t) ∙ fed_some (feed table n.0 t) m.0 n.2 in
    let p = some_fed (feed table n.0 (plain t)) yes in
    good (ts ++ plain t ∷ []) p.0 (joint ts (plain t) from n.0 p.0 n.1 p.1)

-- and the other way
pub kept_back : (ts : List Lexeme) (t : Lexeme) → HasBeginning (ts ++ plain t ∷ []) → HasBeginning (ts ++ t ∷ [])
kept_back ts t h =
    let m = exact (ts ++ plain t ∷ []) h in
    let n = split ts (plain t) from m.0 m.1 in
    let e = state_same n.0 t (fine_after ts n.0 n.1) (ready ts from n.0 (inl refl) n.1) in
    let yes : is_some (so (feed table n.0 t)) ≡ true = would_feed n.0 t ∙ e ∙ sym (would_feed n.0 (plain t)) ∙ fed_some (feed table n.0 (plain t)) m.0 n.2 in
    let p = some_fed (feed table n.0 t) yes in
    good (ts ++ t ∷ []) p.0 (joint ts t from n.0 p.0 n.1 p.1)
