-- The reader over flat output does what the reader of trees does.
use Rattle.std.proofs.Common.{◌≡◌, Bool, true, false, ◌&&◌, List, [], ◌∷◌, Option, Some, None, refl, sym, ap, ◌∙◌}
use Rattle.js_grammar.specs.declared.lexeme.Lexeme.{Lexeme}
use Rattle.js_grammar.specs.declared.symbols.Nonterminal.{Nonterminal}
use Rattle.js_grammar.specs.declared.constituents.Constituent.{Constituent}
use Rattle.js_grammar.specs.declared.constituents.Constituent.TheVariants.{Token, Part, Optional, Further}
use Rattle.js_grammar.specs.declared.symbols.Production.{Production}
use Rattle.js_grammar.specs.declared.summary.Summary.{Summary}
use Rattle.js_grammar.specs.declared.event.Event.{Event}
use Rattle.js_grammar.specs.declared.event.Event.TheVariants as event
use Rattle.js_grammar.specs.Grammar.{Tree, Leaf, Node, Absent, Row, Nil, Then, spells, fit, only_if, follow}
use Rattle.js_grammar.specs.Machine.{State, item, begun, opened, or_else, choose, onward, wrapped, joined, put, complete, feed}
use Rattle.js_grammar.specs.Table.{rule_of, ends_of, stands_of, has_of, start_of, wrap_of}
use Rattle.js_grammar.specs.Fits.{grammar, table, fits_of, refined_by, summary_of, first_some}
use Rattle.js_grammar.specs.Guarded.{head_of}
use Rattle.js_grammar.specs.Laws.{so}
use Rattle.js_grammar.specs.Flat.{led_by, fit_by, Flat, chosen_of, or_opened, joined_to, begun_flat, opened_flat, onward_flat, wrapped_flat, put_flat, complete_flat, fed_flat, laid, laid_out, laid_open, nesting_on}
use Rattle.js_grammar.proofs.Pushed.{head_append, led_head}

so_only : (b : Bool) (o : Option State) → only_if b (so o) ≡ so (only_if b o)
so_only true o = refl
so_only false o = refl

first_none : (o : Option Lexeme) → o ≡ first_some o None
first_none None = refl
first_none (Some t) = refl

-- the summary knows the first lexeme
first_is : (r : Row) → (summary_of r).first ≡ head_of (spells r)
first_is Nil = refl
first_is (Then r (Leaf t)) = rw (first_is r) (sym (head_append (spells r) (t ∷ [])))
first_is (Then r (Node f q)) = rw (first_is r, first_is q) (sym (head_append (spells r) (spells q)))
first_is (Then r Absent) = first_is r ∙ first_none (head_of (spells r)) ∙ sym (head_append (spells r) [])

fit_is : (c : Nonterminal) (h : Production) (r : Row) → fit_by c h (summary_of r) ≡ fit grammar c (Node h r)
unfolding fits_of
fit_is c h r = ap (λ b. (has_of c h && refined_by c h (summary_of r)) && b) (ap (led_by c) (first_is r) ∙ sym (led_head c (spells r)))

begun_is : (f : Production) (ps : List Constituent) (s : State) (t : Lexeme) → begun_flat f ps (laid_open s) (laid_out s) t ≡ so (begun table f ps s t)
begun_is f [] s t = refl
begun_is f (Part c ∷ ps) s t = refl
begun_is f (Optional c k ∷ ps) s t = refl
begun_is f (Further c w ∷ ps) s t = refl
begun_is f (Token w ∷ ps) s t = so_only (stands_of w t.terminal) (Some (item f (Then Nil (Leaf t)) ps ∷ s))

opened_is : (fs : List Production) (s : State) (t : Lexeme) → opened_flat fs (laid_open s) (laid_out s) t ≡ so (opened table fs s t)
opened_is [] s t = refl
opened_is (f ∷ []) s t = begun_is f (rule_of f) s t
opened_is (f ∷ h ∷ fs) s t = opened_is (h ∷ fs) (item f Nil (rule_of f) ∷ s) t

or_is : (fs : List Production) (a b : Option State) (x y : Option Flat) → x ≡ so a → y ≡ so b → or_opened fs x y ≡ so (or_else fs a b)
or_is [] a b x y e k = e
or_is (f ∷ fs) a b x y e k = k

choose_is : (v : Bool) (a b : Option State) (x y : Option Flat) → x ≡ so a → y ≡ so b → chosen_of v x y ≡ so (choose v a b)
choose_is true a b x y e k = e
choose_is false a b x y e k = k

joined_is : (o : Option Production) (a : Option State) (x : Option Flat) (w : Production → Option State) (v : Production → Option Flat) → x ≡ so a → ((f : Production) → v f ≡ so (w f)) → joined_to o x v ≡ so (joined o a w)
joined_is None a x w v e k = e
joined_is (Some f) a x w v e k = k f

abbrev Ended : (Tree → Option State) → (Production → Summary → List Event → Option Flat) → List Event → Type 0
Ended ended flatly o = (f : Production) (r : Row) → flatly f (summary_of r) (event.Node f (summary_of r).parts ∷ laid r o) ≡ so (ended (Node f r))

onward_is : (ended : Tree → Option State) (flatly : Production → Summary → List Event → Option Flat) (s : State) (f : Production) (r : Row) (ps : List Constituent) (t : Lexeme) → Ended ended flatly (laid_out s) → onward_flat flatly (laid_open s) (laid r (laid_out s)) f (summary_of r) (nesting_on (laid_open s)) ps t ≡ so (onward table ended s f r ps t)
onward_is ended flatly s f r [] t e = e f r
onward_is ended flatly s f r (Token w ∷ ps) t e = so_only (stands_of w t.terminal) (Some (item f (Then r (Leaf t)) ps ∷ s))
onward_is ended flatly s f r (Part c ∷ ps) t e = opened_is (start_of c t.terminal t.after_line) (item f r (Part c ∷ ps) ∷ s) t
onward_is ended flatly s f r (Optional c k ∷ ps) t e = or_is (start_of c t.terminal t.after_line) _ _ _ _ (onward_is ended flatly s f (Then r Absent) ps t e) (opened_is (start_of c t.terminal t.after_line) (item f r (Optional c k ∷ ps) ∷ s) t)
onward_is ended flatly s f r (Further c w ∷ ps) t e = choose_is (stands_of w t.terminal) _ _ _ _ refl (onward_is ended flatly s f (Then r Absent) ps t e)

only_is : (b c : Bool) (x : Option Flat) (a : Option State) → b ≡ c → x ≡ so a → only_if b x ≡ so (only_if c a)
only_is b c x a e k = rw (e, k) (so_only c a)

wrapped_is : (f : Production) (ps : List Constituent) (s : State) (h : Production) (r : Row) (t : Lexeme) → wrapped_flat f ps (laid_open s) (event.Node h (summary_of r).parts ∷ laid r (laid_out s)) h (summary_of r) t ≡ so (wrapped table f ps s (Node h r) t)
wrapped_is f [] s h r t = refl
wrapped_is f (Token w ∷ ps) s h r t = refl
wrapped_is f (Optional c k ∷ ps) s h r t = refl
wrapped_is f (Further c k ∷ ps) s h r t = refl
wrapped_is f (Part c ∷ []) s h r t = refl
wrapped_is f (Part c ∷ Part d ∷ ps) s h r t = refl
wrapped_is f (Part c ∷ Optional d k ∷ ps) s h r t = refl
wrapped_is f (Part c ∷ Further d k ∷ ps) s h r t = refl
wrapped_is f (Part c ∷ Token w ∷ ps) s h r t = only_is (fit_by c h (summary_of r)) (fit grammar c (Node h r)) _ _ (fit_is c h r) (so_only (stands_of w t.terminal) (Some (item f (Then (Then Nil (Node h r)) (Leaf t)) ps ∷ s)))

put_is : (ended : Tree → Option State) (flatly : Production → Summary → List Event → Option Flat) (s : State) (f : Production) (r : Row) (ps : List Constituent) (h : Production) (x : Row) (t : Lexeme) → Ended ended flatly (laid_out s) → put_flat flatly (laid_open s) (event.Node h (summary_of x).parts ∷ laid x (laid r (laid_out s))) f (summary_of r) (nesting_on (laid_open s)) ps h (summary_of x) t ≡ so (put table ended s f r ps (Node h x) t)
put_is ended flatly s f r [] h x t e = refl
put_is ended flatly s f r (Token w ∷ ps) h x t e = refl
put_is ended flatly s f r (Further c w ∷ ps) h x t e = refl
put_is ended flatly s f r (Part c ∷ ps) h x t e =
    joined_is (wrap_of c h t.terminal) _ _ _ _
    (only_is (fit_by c h (summary_of x)) (fit grammar c (Node h x)) _ _ (fit_is c h x) (onward_is ended flatly s f (Then r (Node h x)) ps t e))
    (λ u. wrapped_is u (rule_of u) (item f r (Part c ∷ ps) ∷ s) h x t)
put_is ended flatly s f r (Optional c k ∷ ps) h x t e =
    joined_is (wrap_of c h t.terminal) _ _ _ _
    (only_is (fit_by c h (summary_of x)) (fit grammar c (Node h x)) _ _ (fit_is c h x) (onward_is ended flatly s f (Then r (Node h x)) (follow (ends_of h) c k ps) t e))
    (λ u. wrapped_is u (rule_of u) (item f r (Optional c k ∷ ps) ∷ s) h x t)

complete_is : (s : State) (t : Lexeme) → Ended (λ y. complete table s y t) (λ f m o. complete_flat (laid_open s) o f m t) (laid_out s)
complete_is [] t h x = refl
complete_is (i ∷ s) t h x = put_is (λ y. complete table s y t) (λ f m o. complete_flat (laid_open s) o f m t) s i.production i.done i.rest h x t (complete_is s t)

-- one lexeme, flatly
pub fed_is : (s : State) (t : Lexeme) → fed_flat (laid_open s) (laid_out s) t ≡ so (feed table s t)
fed_is [] t = refl
fed_is (i ∷ s) t = onward_is (λ y. complete table s y t) (λ f m o. complete_flat (laid_open s) o f m t) s i.production i.done i.rest t (complete_is s t)
