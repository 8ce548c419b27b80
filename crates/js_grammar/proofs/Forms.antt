-- What the program knows of forms that are left out says which stand in what is open.
use Rattle.std.proofs.Common.{◌≡◌, ℕ, ◌+◌, ◌≤◌, Bool, true, false, not, ◌&&◌, ◌||◌, cond, [], ◌∷◌, Option, Some, None, refl, sym, ap, subst, arith}
use Rattle.js_grammar.specs.declared.left_out.LeftOut.{LeftOut}
use Rattle.js_grammar.specs.declared.left_out.LeftOut.TheVariants.{Proto, Super}
use Rattle.js_grammar.specs.declared.summary.Summary.{Summary}
use Rattle.js_grammar.specs.declared.symbols.Production.{Production}
use Rattle.js_grammar.specs.Grammar.{Tree, Leaf, Node, Absent, Row, Nil, Then}
use Rattle.js_grammar.specs.Machine.{State}
use Rattle.js_grammar.specs.Table.{form_of}
use Rattle.js_grammar.specs.Levels.{Lows, Shallow, level}
use Rattle.js_grammar.specs.Nesting.{first_form, when, left_out_by, forms_in, is_update, is_undecided, takes_pattern, takes_parameters}
use Rattle.js_grammar.specs.Fits.{summary_of, with_node, has_proto, is_literal_pattern, is_super_target}
use Rattle.js_grammar.specs.Flat.{nesting_on, laid_open}
use Rattle.js_grammar.specs.Profile.{counted, counts, no_step}

-- a form that a production is does not go as parts come
abbrev Stays : Option LeftOut → Option LeftOut → Type 0
Stays None b = Unit {0}
Stays (Some x) b = b ≡ Some x

stays_form : (o : Option LeftOut) (x y : Option LeftOut) → Stays x y → Stays (first_form o x) (first_form o y)
stays_form None x y h = h
stays_form (Some z) x y h = refl

-- the first part decides on `super`, and the others leave a `__proto__` that stands as a value
Rises : Bool → Bool → Type 0
Rises a b = a ≡ true → b ≡ true

stays_proto : (x y : Bool) → Rises x y → Stays (when x Proto) (when y Proto)
unfolding Rises
stays_proto true y h = rw (h refl) refl
stays_proto false y h = tt

stays_parts : (s x y : Bool) → Rises x y → Stays (first_form (when s Super) (when x Proto)) (first_form (when s Super) (when y Proto))
stays_parts s x y h = stays_form (when s Super) (when x Proto) (when y Proto) (stays_proto x y h)

rises : (u o c k : Bool) → Rises (not u && (o || k)) (not u && ((o || c) || k))
unfolding Rises
rises true o c k h = cc
rises false true c k h = refl
rises false false true k h = refl
rises false false false k h = h

or_false : (a : Bool) → (a || false) ≡ a
or_false true = refl
or_false false = refl

and_false : (a : Bool) → (a && false) ≡ false
and_false true = refl
and_false false = refl

cond_same : (a b : Bool) → cond a b b ≡ b
cond_same true b = refl
cond_same false b = refl

parts_kept : (u un p w s v f o c : Bool) → Stays (first_form (when (u && s) Super) (when (not un && (o || cond p v (not w && f))) Proto)) (first_form (when (u && (s || false)) Super) (when (not un && ((o || c) || cond p (v || false) (not w && (f || false)))) Proto))
parts_kept u un p w s v f o c = rw (or_false s, or_false v, or_false f) (stays_parts (u && s) (not un && (o || cond p v (not w && f))) (not un && ((o || c) || cond p v (not w && f))) (rises un o c (cond p v (not w && f))))

nothing : (u un p w : Bool) → first_form (when (u && false) Super) (when (not un && (false || cond p false (not w && false))) Proto) ≡ None
nothing u un p w = rw (and_false u, and_false (not w), cond_same p false, and_false (not un)) refl

from_none : (x y : Option LeftOut) → x ≡ None → Stays x y
from_none None y h = tt
from_none (Some z) y h = cc

parts_grow : (b u un p w s v f o s2 v2 f2 o2 : Bool) → (b ≡ false → (s ≡ false) × (v ≡ false) × (f ≡ false) × (o ≡ false)) → Stays (first_form (when (u && s) Super) (when (not un && (o || cond p v (not w && f))) Proto)) (first_form (when (u && (s || (not b && s2))) Super) (when (not un && ((o || (b && o2)) || cond p (v || (not b && v2)) (not w && (f || (not b && f2))))) Proto))
parts_grow true u un p w s v f o s2 v2 f2 o2 n = parts_kept u un p w s v f o o2
parts_grow false u un p w s v f o s2 v2 f2 o2 n =
    let k = n refl in
    let e : first_form (when (u && s) Super) (when (not un && (o || cond p v (not w && f))) Proto) ≡ None = rw (k.0, k.1, k.2, k.3) (nothing u un p w) in
    from_none _ _ e

same_stays : (x : Option LeftOut) → Stays x x
same_stays None = tt
same_stays (Some z) = refl

-- where no part stands none shows a form
abbrev Empty : Summary → Type 0
Empty m = (m.super_first ≡ false) × (m.proto_value ≡ false) × (m.proto_first ≡ false) × (m.proto_rest ≡ false)

no_parts : (r : Row) → (summary_of r).has_part ≡ false → Empty (summary_of r)
no_parts Nil e = (refl, refl, refl, refl)
no_parts (Then r (Leaf t)) e = no_parts r e
no_parts (Then r (Node h q)) e = cc
no_parts (Then r Absent) e = no_parts r e

stays_node : (f : Production) (m : Summary) (h : Production) (x : Summary) → (m.has_part ≡ false → Empty m) → Stays (left_out_by f m) (left_out_by f (with_node m h x))
stays_node f m h x n = stays_form (form_of f) _ _ (parts_grow m.has_part (is_update f) (is_undecided f) (takes_pattern f) (takes_parameters f) m.super_first m.proto_value m.proto_first m.proto_rest (is_super_target h x) (has_proto h x && not (is_literal_pattern h x)) (has_proto h x) (has_proto h x) n)

stays : (f : Production) (r : Row) (x : Tree) → Stays (left_out_by f (summary_of r)) (left_out_by f (summary_of (Then r x)))
stays f r (Leaf t) = same_stays (left_out_by f (summary_of r))
stays f r Absent = same_stays (left_out_by f (summary_of r))
stays f r (Node h q) = stays_node f (summary_of r) h (summary_of q) (no_parts r)

no_more : (n : ℕ) → n ≤ n
no_more n = omega arith

counted_grows : (P : LeftOut → Bool) (x y : Option LeftOut) → Stays x y → counted P x ≤ counted P y
counted_grows P None y h = omega arith
counted_grows P (Some z) y h = rw h (no_more (cond (P z) 1 0))

pub counts_grow : (P : LeftOut → Bool) (f : Production) (r : Row) (x : Tree) → counts P f r ≤ counts P f (Then r x)
counts_grow P f r x = counted_grows P (left_out_by f (summary_of r)) (left_out_by f (summary_of (Then r x))) (stays f r x)

-- the first of some forms
none_left : (a b : Option LeftOut) → first_form a b ≡ None → (a ≡ None) × (b ≡ None)
none_left None b h = (refl, h)
none_left (Some x) b h = cc

either : (a b : Option LeftOut) (x : LeftOut) (C : Type 0) → first_form a b ≡ Some x → (a ≡ Some x → C) → (b ≡ Some x → C) → C
either None b x C h f g = g h
either (Some y) b x C h f g = f h

no_count : (P : LeftOut → Bool) (o : Option LeftOut) → o ≡ None → 0 + counted P o ≤ 0
no_count P o e = rw e zero_less
  where
    zero_less : 0 + 0 ≤ 0
    zero_less = omega arith

one_count : (P : LeftOut → Bool) (o : Option LeftOut) (x : LeftOut) → o ≡ Some x → P x ≡ true → 0 + counted P o ≤ 0 → ⊥
one_count P o x e p h = let k = rw (e, p) at h in absurd (not_one k)
  where
    not_one : 0 + 1 ≤ 0 → ⊥
    not_one h = omega arith

rows_none : (P : LeftOut → Bool) (r : Row) (f : Production) → (summary_of r).left_out ≡ None → Lows (counts P) no_step f 0 0 r
rows_none P Nil f e = tt
rows_none P (Then r (Leaf t)) f e = (rows_none P r f e, tt)
rows_none P (Then r Absent) f e = (rows_none P r f e, tt)
rows_none P (Then r (Node h q)) f e =
    let m = none_left (summary_of r).left_out (forms_in h (summary_of q)) e in
    let n = none_left (summary_of q).left_out (left_out_by h (summary_of q)) m.1 in
    (rows_none P r f m.0, (no_count P (left_out_by h (summary_of q)) n.1, rows_none P q h n.0))

rows_some : (P : LeftOut → Bool) (x : LeftOut) → P x ≡ true → (r : Row) (f : Production) → (summary_of r).left_out ≡ Some x → Lows (counts P) no_step f 0 0 r → ⊥
rows_some P x p Nil f e l = cc
rows_some P x p (Then r (Leaf t)) f e l = rows_some P x p r f e l.0
rows_some P x p (Then r Absent) f e l = rows_some P x p r f e l.0
rows_some P x p (Then r (Node h q)) f e l =
    either (summary_of r).left_out (forms_in h (summary_of q)) x ⊥ e
    (λ k. rows_some P x p r f k l.0)
    (λ k. either (summary_of q).left_out (left_out_by h (summary_of q)) x ⊥ k (λ j. rows_some P x p q h j l.1.1) (λ j. one_count P (left_out_by h (summary_of q)) x j p l.1.0))

-- all that is open stands at one level
flat_level : (P : LeftOut → Bool) (s : State) → level (counts P) no_step s ≡ 0
flat_level P [] = refl
flat_level P (i ∷ s) = ap (λ n. n + 0) (flat_level P s)

pub open_none : (P : LeftOut → Bool) (s : State) → (nesting_on (laid_open s)).left_out ≡ None → Shallow (counts P) no_step 0 s
open_none P [] e = tt
open_none P (i ∷ s) e =
    let m = none_left (nesting_on (laid_open s)).left_out (forms_in i.production (summary_of i.done)) e in
    let n = none_left (summary_of i.done).left_out (left_out_by i.production (summary_of i.done)) m.1 in
    let A : ℕ → Type 0 = λ a. a + counts P i.production i.done ≤ 0 in
    let B : ℕ → Type 0 = λ a. Lows (counts P) no_step i.production a 0 i.done in
    let z = sym (flat_level P s) in
    (subst A z (no_count P (left_out_by i.production (summary_of i.done)) n.1), subst B z (rows_none P i.done i.production n.0), open_none P s m.0)

pub open_some : (P : LeftOut → Bool) (x : LeftOut) → P x ≡ true → (s : State) → (nesting_on (laid_open s)).left_out ≡ Some x → Shallow (counts P) no_step 0 s → ⊥
open_some P x p [] e h = cc
open_some P x p (i ∷ s) e h =
    let A : ℕ → Type 0 = λ a. a + counts P i.production i.done ≤ 0 in
    let B : ℕ → Type 0 = λ a. Lows (counts P) no_step i.production a 0 i.done in
    let z = flat_level P s in
    either (nesting_on (laid_open s)).left_out (forms_in i.production (summary_of i.done)) x ⊥ e
    (λ k. open_some P x p s k h.2)
    (λ k. either (summary_of i.done).left_out (left_out_by i.production (summary_of i.done)) x ⊥ k (λ j. rows_some P x p i.done i.production j (subst B z h.1)) (λ j. one_count P (left_out_by i.production (summary_of i.done)) x j p (subst A z h.0)))
