-- The two places where a tree may be gone on with: `else`, and the arguments of `new`.
use Rattle.std.proofs.Common.{◌≡◌, Bool, true, false, not, ◌&&◌, ◌||◌, nat_eq, List, [], ◌∷◌, Option, Some, None, refl, sym, ap, subst, ◌∙◌}
use Rattle.js_grammar.specs.declared.lexeme.Lexeme.{Lexeme}
use Rattle.js_grammar.specs.declared.symbols.Terminal.{Terminal}
use Rattle.js_grammar.specs.declared.symbols.Terminal.TheVariants as terminal
use Rattle.js_grammar.specs.declared.constituents.Terminals.TheVariants.{Is}
use Rattle.js_grammar.specs.declared.symbols.Nonterminal.{Nonterminal}
use Rattle.js_grammar.specs.declared.symbols.Nonterminal.TheVariants as nonterminal
use Rattle.js_grammar.specs.declared.constituents.Constituent.{Constituent}
use Rattle.js_grammar.specs.declared.constituents.Constituent.TheVariants.{Token, Part, Optional, Further}
use Rattle.js_grammar.specs.declared.symbols.Production.{Production}
use Rattle.js_grammar.specs.declared.symbols.Production.TheVariants as production
use Rattle.js_grammar.specs.Grammar.{Tree, Leaf, Node, Absent, Row, Nil, Then, is, led, left, takes, over, spells}
use Rattle.js_grammar.specs.Table
use Rattle.js_grammar.specs.Table.{rule_of, place_of, number_of, stands_of, has_of, wrap_of}
use Rattle.js_grammar.specs.Fits
use Rattle.js_grammar.specs.Fits.{fits_of, refined, grammar, table, closed_row, closed, ends_with_statement, is_if, is_new, is_called_new}
use Rattle.js_grammar.proofs.Sound.{and_true, only_some, after_is}
use Rattle.js_grammar.proofs.Ways.{is_none, is_nil}
use Rattle.js_grammar.proofs.Quiet.{clear}
use Rattle.js_grammar.proofs.Calm.{implies, implied, both, edge, tight, Firsts}
use Rattle.js_grammar.proofs.Masks
use Rattle.js_grammar.proofs.Places.{productions, terminals, terminal_at, at}
use Rattle.js_grammar.proofs.Computed.{operator_of, edge_of, closes_of, tables}
use Rattle.js_grammar.proofs.Tame.{all, each_production, each_terminal, some_same, number_is, same_production, harmless, is_special, firsts_test, first_all}
use Rattle.js_grammar.proofs.Entries.{edge_at, fits_has}

kind_is : (a b : Terminal) → stands_of (Is a) b ≡ true → a ≡ b
unfolding stands_of
kind_is a b h = some_same a b (sym (terminal_at a) ∙ ap (λ n. at n terminals) (number_is (number_of a) (number_of b) h) ∙ terminal_at b)

-- a rule of words and parts that stand, with this part at its end
abbrev IsPlain : List Constituent → Type 0
IsPlain [] = Unit {0}
IsPlain (Token w ∷ ps) = IsPlain ps
IsPlain (Part d ∷ ps) = IsPlain ps
IsPlain (Optional d k ∷ ps) = ⊥
IsPlain (Further d w ∷ ps) = ⊥

abbrev EndsSo : Nonterminal → List Constituent → Type 0
EndsSo d [] = Unit {0}
EndsSo d (p ∷ []) = p ≡ Part d
EndsSo d (p ∷ q ∷ qs) = EndsSo d (q ∷ qs)

ends_behind : (d : Nonterminal) (p : Constituent) (ps : List Constituent) → EndsSo d (p ∷ ps) → EndsSo d ps
ends_behind d p [] h = tt
ends_behind d p (q ∷ qs) h = h

some_is : (a b : List Constituent) → Some a ≡ Some b → a ≡ b
some_is a b h = cc

kid_plain : (d : Nonterminal) (is : Nonterminal → Bool) (ps qs : List Constituent) (x : Tree) → takes grammar is ps x ≡ Some qs → IsPlain ps → EndsSo d ps → IsPlain qs × EndsSo d qs
kid_plain d is [] qs x k p e = cc
kid_plain d is (Optional a v ∷ ps) qs x k p e = elim p [ ]
kid_plain d is (Further a v ∷ ps) qs x k p e = elim p [ ]
kid_plain d is (Token w ∷ ps) qs (Leaf u) k p e =
    let m = only_some (grammar.stands w u) _ qs k in
    let P : List Constituent → Type 0 = λ x. IsPlain x × EndsSo d x in subst P (some_is ps qs m.1) (p, ends_behind d (Token w) ps e)
kid_plain d is (Token w ∷ ps) qs (Node f r) k p e = cc
kid_plain d is (Token w ∷ ps) qs Absent k p e = cc
kid_plain d is (Part a ∷ ps) qs (Leaf u) k p e = cc
kid_plain d is (Part a ∷ ps) qs (Node f r) k p e =
    let m = only_some (is a) _ qs k in
    let P : List Constituent → Type 0 = λ x. IsPlain x × EndsSo d x in subst P (some_is ps qs m.1) (p, ends_behind d (Part a) ps e)
kid_plain d is (Part a ∷ ps) qs Absent k p e = cc

row_plain : (d : Nonterminal) (f : Production) (r : Row) (ps : List Constituent) → left grammar f r ≡ Some ps → IsPlain (rule_of f) → EndsSo d (rule_of f) → IsPlain ps × EndsSo d ps
row_plain d f Nil ps k p e = let P : List Constituent → Type 0 = λ x. IsPlain x × EndsSo d x in subst P (some_is (rule_of f) ps k) (p, e)
row_plain d f (Then r x) ps k p e =
    let m = after_is (left grammar f r) _ ps k in
    let n = row_plain d f r m.0 m.1 p e in
    kid_plain d (is grammar x) m.0 ps x m.2 n.0 n.1

same_part : (a d : Nonterminal) → Part a ≡ Part d → a ≡ d
same_part a d h = cc

-- the last part of such a rule is a tree of the nonterminal
last_plain : (d : Nonterminal) (ps : List Constituent) (x : Tree) → takes grammar (is grammar x) ps x ≡ Some [] → IsPlain ps → EndsSo d ps → (h : Production) × (q : Row) × (x ≡ Node h q) × (ps ≡ Part d ∷ []) × (is grammar (Node h q) d ≡ true)
last_plain d [] x k p e = cc
last_plain d (Optional a v ∷ ps) x k p e = elim p [ ]
last_plain d (Further a v ∷ ps) x k p e = elim p [ ]
last_plain d (Token w ∷ ps) (Leaf u) k p e =
    let m = only_some (grammar.stands w u) _ [] k in
    let same = some_is ps [] m.1 in
    let z : Token w ≡ Part d = rw same at e in cc
last_plain d (Token w ∷ ps) (Node h q) k p e = cc
last_plain d (Token w ∷ ps) Absent k p e = cc
last_plain d (Part a ∷ ps) (Leaf u) k p e = cc
last_plain d (Part a ∷ ps) Absent k p e = cc
last_plain d (Part a ∷ ps) (Node h q) k p e =
    let m = only_some (is grammar (Node h q) a) _ [] k in
    let same = some_is ps [] m.1 in
    let z : Part a ≡ Part d = rw same at e in
    let y = same_part a d z in
    (h, q, refl, rw (same, y) refl, rw (← y) m.0)

-- a rule with a part at its end, and more before it
abbrev Long : Production → Nonterminal → Type 0
Long f d = IsPlain (rule_of f) × EndsSo d (rule_of f) × (rule_of f ≡ Part d ∷ [] → ⊥)

is_over : (o : Option (List Constituent)) → over grammar o ≡ true → o ≡ Some []
is_over None h = cc
is_over (Some []) h = refl
is_over (Some (p ∷ ps)) h = cc

whole : (d : Nonterminal) (h : Production) (q : Row) → is grammar (Node h q) d ≡ true → (fits_of d h q ≡ true) × (left grammar h q ≡ Some [])
whole d h q e =
    let m = and_true (fits_of d h q && led grammar d (spells q)) (over grammar (left grammar h q)) e in
    ((and_true (fits_of d h q) (led grammar d (spells q)) m.0).0, is_over (left grammar h q) m.1)

abbrev Tight : Production → Row → Lexeme → Type 0
Tight f r t = tight table operator_of harmless closes_of f r t ≡ true

abbrev Loose : Production → Row → Lexeme → Type 0
Loose h q t = (edge table operator_of harmless closes_of h t || tight table operator_of harmless closes_of h q t) ≡ true

and_no : (b : Bool) → (b && false) ≡ false
and_no true = refl
and_no false = refl

no_first : (f : Production) (d : Nonterminal) (r : Row) → Long f d → left grammar f r ≡ Some (Part d ∷ []) → (operator_of f && is_nil r) ≡ false
no_first f d Nil l e = elim (l.2 (some_is (rule_of f) (Part d ∷ []) e)) [ ]
no_first f d (Then r x) l e = and_no (operator_of f)

clear_so : (b : Bool) (o : Option (List Constituent)) (d : Nonterminal) (h : Production) (t : Lexeme) → b ≡ false → o ≡ Some (Part d ∷ []) → wrap_of d h t.terminal ≡ None → clear table operator_of b o h t ≡ true
clear_so b o d h t x y z = rw (x, y, z) refl

-- such a production is gone on with only where its last part is
tight_by : (f : Production) (d : Nonterminal) (t : Lexeme) (r : Row) (x : Tree) → Long f d → left grammar f (Then r x) ≡ Some [] → ((h : Production) (q : Row) → x ≡ Node h q → fits_of d h q ≡ true → left grammar h q ≡ Some [] → (wrap_of d h t.terminal ≡ None) × Loose h q t) → Tight f (Then r x) t
tight_by f d t r x l e k =
    let m = after_is (left grammar f r) _ [] e in
    let n = row_plain d f r m.0 m.1 l.0 l.1 in
    let z = last_plain d m.0 x m.2 n.0 n.1 in
    let w = whole d z.0 z.1 z.4 in
    let y = k z.0 z.1 z.2 w.0 w.1 in
    let left_is : left grammar f r ≡ Some (Part d ∷ []) = m.1 ∙ ap Some z.3 in
    let b = no_first f d r l left_is in
    let P : Tree → Type 0 = λ x. Tight f (Then r x) t in
    subst P (sym z.2) (both _ _ (clear_so (operator_of f && is_nil r) (left grammar f r) d z.0 t b left_is y.0) y.1)

-- the statements that end with a statement
abbrev tail_of : Production → Nonterminal
tail_of production.LabelledStatement = nonterminal.LabelledItem
tail_of _ = nonterminal.Statement

tails : (f : Production) → ends_with_statement f ≡ true → Long f (tail_of f) × (rule_of f ≡ [] → ⊥)
unfolding Table.rule_of Fits.ends_with_statement
tails production.IfStatement h = ((tt, refl, λ e. cc), λ e. cc)
tails production.IfElseStatement h = ((tt, refl, λ e. cc), λ e. cc)
tails production.WhileStatement h = ((tt, refl, λ e. cc), λ e. cc)
tails production.ForStatement h = ((tt, refl, λ e. cc), λ e. cc)
tails production.LabelledStatement h = ((tt, refl, λ e. cc), λ e. cc)
tails _ h = cc

abbrev else_test : Nonterminal → Bool
else_test d = all (λ h. implies (has_of d h) (implies (not (is_if h)) (is_none (wrap_of d h terminal.Else)) && (ends_with_statement h || edge_of h terminal.Else))) productions

else_statement : else_test nonterminal.Statement ≡ true
unfolding tables Masks.harmless_masks Masks.edge_masks Fits.ends_with_statement Fits.is_if Fits.is_new
else_statement = refl

else_item : else_test nonterminal.LabelledItem ≡ true
unfolding tables Masks.harmless_masks Masks.edge_masks Fits.ends_with_statement Fits.is_if Fits.is_new
else_item = refl

else_tail : (f : Production) → ends_with_statement f ≡ true → else_test (tail_of f) ≡ true
unfolding Fits.ends_with_statement
else_tail production.IfStatement h = else_statement
else_tail production.IfElseStatement h = else_statement
else_tail production.WhileStatement h = else_statement
else_tail production.ForStatement h = else_statement
else_tail production.LabelledStatement h = else_item
else_tail _ h = cc

none_of : {A : Type 0} (o : Option A) → is_none o ≡ true → o ≡ None
none_of None h = refl
none_of (Some x) h = cc

short_open : (h : Production) → ends_with_statement h ≡ false → is_if h ≡ true → true ≡ false
unfolding Fits.ends_with_statement Fits.is_if
short_open production.IdentifierReference x y = cc
short_open _ x y = cc

closed_by : (h : Production) (a b c : Bool) → ends_with_statement h ≡ a → is_if h ≡ b → (not a || (not b && c)) ≡ true → (b ≡ false) × (a ≡ true → c ≡ true)
closed_by h true true c x y z = cc
closed_by h true false c x y z = (refl, λ e. z)
closed_by h false false c x y z = (refl, λ e. cc)
closed_by h false true c x y z = (short_open h x y, λ e. cc)

node_same : (k h : Production) (z q : Row) → Node k z ≡ Node h q → (k ≡ h) × (z ≡ q)
node_same k h z q e = (cc, cc)

edge_or : (h : Production) (q : Row) (t : Lexeme) → edge_of h t.terminal ≡ true → Loose h q t
edge_or h q t e = rw (edge_at h t e) refl

or_right : (a b : Bool) → b ≡ true → (a || b) ≡ true
or_right true b x = refl
or_right false b x = x

tight_or : (h : Production) (q : Row) (t : Lexeme) → Tight h q t → Loose h q t
tight_or h q t e = or_right (edge table operator_of harmless closes_of h t) (tight table operator_of harmless closes_of h q t) e

by_open : (h : Production) (q : Row) (t : Lexeme) (b : Bool) → ends_with_statement h ≡ b → t.terminal ≡ terminal.Else → (ends_with_statement h || edge_of h terminal.Else) ≡ true → (ends_with_statement h ≡ true → Tight h q t) → Loose h q t
by_open h q t true o e x k = tight_or h q t (k o)
by_open h q t false o e x k =
    let y : edge_of h terminal.Else ≡ true = rw o at x in
    edge_or h q t (rw e y)

else_here : (d : Nonterminal) (k : Production) (z : Row) (t : Lexeme) → else_test d ≡ true → fits_of d k z ≡ true → closed (Node k z) ≡ true → t.terminal ≡ terminal.Else → (ends_with_statement k ≡ true → closed_row z ≡ true → Tight k z t) → (wrap_of d k t.terminal ≡ None) × Loose k z t
else_here d k z t x fit c e rec =
    let w = closed_by k (ends_with_statement k) (is_if k) (closed_row z) refl refl c in
    let a = implied (has_of d k) _ (each_production (λ h. implies (has_of d h) (implies (not (is_if h)) (is_none (wrap_of d h terminal.Else)) && (ends_with_statement h || edge_of h terminal.Else))) x k) (fits_has d k z fit) in
    let b = and_true (implies (not (is_if k)) (is_none (wrap_of d k terminal.Else))) (ends_with_statement k || edge_of k terminal.Else) a in
    let n : not (is_if k) ≡ true = rw w.0 refl in
    let wn = none_of (wrap_of d k terminal.Else) (implied (not (is_if k)) (is_none (wrap_of d k terminal.Else)) b.0 n) in
    (rw e wn, by_open k z t (ends_with_statement k) refl e b.1 (λ y. rec y (w.1 y)))

-- a statement without an open `if` at its end is not gone on with by `else`
else_tight : (r : Row) (f : Production) (t : Lexeme) → ends_with_statement f ≡ true → closed_row r ≡ true → left grammar f r ≡ Some [] → t.terminal ≡ terminal.Else → Tight f r t
else_tight Nil f t o c l e = elim ((tails f o).1 (some_is (rule_of f) [] l)) [ ]
else_tight (Then r (Leaf u)) f t o c l e = tight_by f (tail_of f) t r (Leaf u) (tails f o).0 l (λ h q x fit lq. absurd cc)
else_tight (Then r Absent) f t o c l e = tight_by f (tail_of f) t r Absent (tails f o).0 l (λ h q x fit lq. absurd cc)
else_tight (Then r (Node k z)) f t o c l e =
    tight_by f (tail_of f) t r (Node k z) (tails f o).0 l (λ h q x fit lq.
    let m = node_same k h z q x in
    let fit2 : fits_of (tail_of f) k z ≡ true = rw (m.0, m.1) fit in
    let lz : left grammar k z ≡ Some [] = rw (m.0, m.1) lq in
    let here = else_here (tail_of f) k z t (else_tail f o) fit2 c e (λ y v. else_tight z k t y v lz e) in
    rw (← m.0, ← m.1) here)

-- a `new` whose callee is no `new` without arguments is not gone on with by `(`
abbrev new_test : Bool
new_test = all (λ h. implies (has_of nonterminal.NewExpression h) (implies (not (is_new h)) (is_none (wrap_of nonterminal.NewExpression h terminal.LeftParenthesis) && edge_of h terminal.LeftParenthesis))) productions

new_all : new_test ≡ true
unfolding tables Masks.harmless_masks Masks.edge_masks Fits.ends_with_statement Fits.is_if Fits.is_new
new_all = refl

new_long : Long production.New nonterminal.NewExpression
unfolding Table.rule_of
new_long = (tt, refl, λ e. cc)

new_tight : (r : Row) (t : Lexeme) → is_called_new r ≡ true → left grammar production.New r ≡ Some [] → t.terminal ≡ terminal.LeftParenthesis → Tight production.New r t
new_tight Nil t b l e = cc
new_tight (Then r (Leaf u)) t b l e = cc
new_tight (Then r Absent) t b l e = tight_by production.New nonterminal.NewExpression t r Absent new_long l (λ h q x fit lq. absurd cc)
new_tight (Then r (Node k z)) t b l e =
    tight_by production.New nonterminal.NewExpression t r (Node k z) new_long l (λ h q x fit lq.
    let m = node_same k h z q x in
    let n : not (is_new h) ≡ true = rw (← m.0) b in
    let a = implied (not (is_new h)) _ (implied (has_of nonterminal.NewExpression h) _ (each_production (λ h. implies (has_of nonterminal.NewExpression h) (implies (not (is_new h)) (is_none (wrap_of nonterminal.NewExpression h terminal.LeftParenthesis) && edge_of h terminal.LeftParenthesis))) new_all h) (fits_has nonterminal.NewExpression h q fit)) n in
    let c = and_true (is_none (wrap_of nonterminal.NewExpression h terminal.LeftParenthesis)) (edge_of h terminal.LeftParenthesis) a in
    (rw e (none_of (wrap_of nonterminal.NewExpression h terminal.LeftParenthesis) c.0), edge_or h q t (rw e c.1)))

-- an operator does not go on at the right edge of its first part
abbrev First : Production → List Constituent → Type 0
First f ps = Firsts table operator_of harmless closes_of f ps

firsts_is : (f : Production) (ps : List Constituent) → firsts_test f ps ≡ true → First f ps
firsts_is f [] e = cc
firsts_is f (Token w ∷ ps) e = cc
firsts_is f (Optional d k ∷ ps) e = cc
firsts_is f (Further d k ∷ ps) e = cc
firsts_is f (Part d ∷ []) e = cc
firsts_is f (Part d ∷ Part a ∷ ps) e = cc
firsts_is f (Part d ∷ Optional a k ∷ ps) e = cc
firsts_is f (Part d ∷ Further a k ∷ ps) e = cc
firsts_is f (Part d ∷ Token w ∷ ps) e = λ h r t fit l s.
    let a = implied (stands_of w t.terminal) _ (each_terminal (λ k. implies (stands_of w k) (all (λ h. implies (has_of d h) (edge_of h k)) productions)) e t.terminal) s in
    edge_or h r t (implied (has_of d h) (edge_of h t.terminal) (each_production (λ h. implies (has_of d h) (edge_of h t.terminal)) a h) (fits_has d h r fit))

short_all : all (λ h. implies (has_of nonterminal.IfWithoutElse h) (nat_eq (place_of h) (place_of production.IfStatement))) productions ≡ true
unfolding tables Masks.harmless_masks Masks.edge_masks Fits.ends_with_statement Fits.is_if Fits.is_new
short_all = refl

bare_all : all (λ h. implies (has_of nonterminal.NewWithoutArguments h) (nat_eq (place_of h) (place_of production.New))) productions ≡ true
unfolding tables Masks.harmless_masks Masks.edge_masks Fits.ends_with_statement Fits.is_if Fits.is_new
bare_all = refl

only_if_form : (h : Production) → has_of nonterminal.IfWithoutElse h ≡ true → h ≡ production.IfStatement
only_if_form h e = same_production h production.IfStatement (implied (has_of nonterminal.IfWithoutElse h) (nat_eq (place_of h) (place_of production.IfStatement)) (each_production (λ h. implies (has_of nonterminal.IfWithoutElse h) (nat_eq (place_of h) (place_of production.IfStatement))) short_all h) e)

only_new_form : (h : Production) → has_of nonterminal.NewWithoutArguments h ≡ true → h ≡ production.New
only_new_form h e = same_production h production.New (implied (has_of nonterminal.NewWithoutArguments h) (nat_eq (place_of h) (place_of production.New)) (each_production (λ h. implies (has_of nonterminal.NewWithoutArguments h) (nat_eq (place_of h) (place_of production.New))) bare_all h) e)

is_forms : Unit {0}
is_forms = tt

short_closed : (h : Production) (r : Row) → fits_of nonterminal.IfWithoutElse h r ≡ true → closed_row r ≡ true
unfolding Fits.fits_of Fits.refined_by
short_closed h r e = (and_true (has_of nonterminal.IfWithoutElse h) (closed_row r) e).1

new_bare : (h : Production) (r : Row) → fits_of nonterminal.NewWithoutArguments h r ≡ true → is_called_new r ≡ true
unfolding Fits.fits_of Fits.refined_by
new_bare h r e = (and_true (has_of nonterminal.NewWithoutArguments h) (is_called_new r) e).1

if_open : ends_with_statement production.IfStatement ≡ true
unfolding Fits.ends_with_statement
if_open = refl

first_else : (h : Production) (r : Row) (t : Lexeme) → fits_of nonterminal.IfWithoutElse h r ≡ true → left grammar h r ≡ Some [] → stands_of (Is terminal.Else) t.terminal ≡ true → Loose h r t
first_else h r t fit l s =
    let m = only_if_form h (fits_has nonterminal.IfWithoutElse h r fit) in
    let l2 : left grammar production.IfStatement r ≡ Some [] = rw m at l in
    let here = tight_or production.IfStatement r t (else_tight r production.IfStatement t if_open (short_closed h r fit) l2 (sym (kind_is terminal.Else t.terminal s))) in
    let P : Production → Type 0 = λ h. Loose h r t in subst P (sym m) here

first_new : (h : Production) (r : Row) (t : Lexeme) → fits_of nonterminal.NewWithoutArguments h r ≡ true → left grammar h r ≡ Some [] → stands_of (Is terminal.LeftParenthesis) t.terminal ≡ true → Loose h r t
first_new h r t fit l s =
    let m = only_new_form h (fits_has nonterminal.NewWithoutArguments h r fit) in
    let l2 : left grammar production.New r ≡ Some [] = rw m at l in
    let here = tight_or production.New r t (new_tight r t (new_bare h r fit) l2 (sym (kind_is terminal.LeftParenthesis t.terminal s))) in
    let P : Production → Type 0 = λ h. Loose h r t in subst P (sym m) here

first_if_else : First production.IfElseStatement (rule_of production.IfElseStatement)
unfolding Table.rule_of
first_if_else = first_else

first_new_call : First production.NewWithArguments (rule_of production.NewWithArguments)
unfolding Table.rule_of
first_new_call = first_new

special : (f : Production) → is_special f ≡ true → First f (rule_of f)
special production.NewWithArguments e = first_new_call
special production.IfElseStatement e = first_if_else
special _ e = cc

by_special : (f : Production) (b : Bool) → is_special f ≡ b → (is_special f || firsts_test f (rule_of f)) ≡ true → First f (rule_of f)
by_special f true o e = special f o
by_special f false o e =
    let x : firsts_test f (rule_of f) ≡ true = rw o at e in
    firsts_is f (rule_of f) x

pub first : (f : Production) → operator_of f ≡ true → First f (rule_of f)
first f o = by_special f (is_special f) refl (implied (operator_of f) (is_special f || firsts_test f (rule_of f)) (each_production (λ f. implies (operator_of f) (is_special f || firsts_test f (rule_of f))) first_all f) o)
