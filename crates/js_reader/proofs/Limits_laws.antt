-- What a state tells of forms that are left out and of levels is so of the tokens that lead there.
use Rattle.std.proofs.Common.{◌≡◌, ℕ, ◌+◌, ◌≤◌, Bool, true, false, cond, List, Option, Some, None, refl, sym, subst, arith}
use Rattle.js_grammar.specs.declared.symbols.Production.{Production}
use Rattle.js_grammar.specs.declared.left_out.LeftOut.{LeftOut}
use Rattle.js_grammar.specs.declared.lexeme.Lexeme.{Lexeme}
use Rattle.js_grammar.specs.Fits.{summary_of}
use Rattle.js_grammar.specs.Flat.{flat_of}
use Rattle.js_grammar.specs.Grammar.{Tree, Leaf, Node, Absent, Row, Nil, Then, Partial, Open, Within}
use Rattle.js_grammar.specs.Levels.{Low, Lows, LowPartial}
use Rattle.js_grammar.specs.Nesting.{left_out_by}
use Rattle.js_grammar.specs.Machine.{State}
use Rattle.js_grammar.specs.Laws.{from, Begins, Begun, Same_read, with_semicolons}
use Rattle.js_grammar.specs.Profile.{Deep_told, Form_told, Tells_deep, Tells_form, is_too_deep, left_out, counted, counts, no_step, any_form, is_form}
use Rattle.js_reader.specs.declared.halt.HaltCause.{HaltCause}
use Rattle.js_reader.specs.declared.halt.HaltCause.TheVariants as cause
use Rattle.js_reader.specs.Halts.{told_by, told_of}
use Rattle.js_reader.specs.Reading.{IsWithout, IsShallow_enough, IsWithin}
use Rattle.js_reader.proofs.Steps_laws.{going}

-- what has none of some forms has none of fewer
is_fewer : (P Q : LeftOut → Bool) → ((x : LeftOut) → P x ≡ true → Q x ≡ true) → (o : Option LeftOut) → counted P o ≤ counted Q o
is_fewer P Q h None = omega arith
is_fewer P Q h (Some x) = by (P x) (Q x) (h x)
  where
    by : (a b : Bool) → (a ≡ true → b ≡ true) → cond a 1 0 ≤ cond b 1 0
    by true true k = omega arith
    by true false k = let e = k refl in cc
    by false b k = omega arith

pub fewer : (P Q : LeftOut → Bool) → ((x : LeftOut) → P x ≡ true → Q x ≡ true) → (f : Production) (r : Row) → counts P f r ≤ counts Q f r
fewer P Q h f r = is_fewer P Q h (left_out_by f (summary_of r))

less_sum : (a x y n : ℕ) → x ≤ y → a + y ≤ n → a + x ≤ n
less_sum a x y n h k = omega arith

module _ (P Q : LeftOut → Bool) (less : (f : Production) (r : Row) → counts P f r ≤ counts Q f r) where
  mutual
    less_tree : (a n : ℕ) (x : Tree) → Low (counts Q) no_step a n x → Low (counts P) no_step a n x
    less_tree a n (Leaf t) h = tt
    less_tree a n (Node f r) h = (less_sum a (counts P f r) (counts Q f r) n (less f r) h.0, less_row f a n r h.1)
    less_tree a n Absent h = tt

    less_row : (f : Production) (a n : ℕ) (r : Row) → Lows (counts Q) no_step f a n r → Lows (counts P) no_step f a n r
    less_row f a n Nil h = tt
    less_row f a n (Then r x) h = (less_row f a n r h.0, less_tree (a + no_step f r) n x h.1)

  pub less_partial : (a n : ℕ) (p : Partial) → LowPartial (counts Q) no_step a n p → LowPartial (counts P) no_step a n p
  less_partial a n (Open f r) h = (less_sum a (counts P f r) (counts Q f r) n (less f r) h.0, less_row f a n r h.1)
  less_partial a n (Within f r p) h = (less_sum a (counts P f r) (counts Q f r) n (less f r) h.0, less_row f a n r h.1, less_partial (a + no_step f r) n p h.2)

pub without_one : (x : LeftOut) (ts : List Lexeme) → IsWithout any_form ts → IsWithout (is_form x) ts
without_one x ts h =
    (h.0, h.1, (h.2.0, less_partial (is_form x) any_form (fewer (is_form x) any_form (λ y k. refl)) 0 0 h.2.0.0 h.2.1))

pub none_told : (o : Option LeftOut) (b : Bool) → told_by o b ≡ None → (o ≡ None) × (b ≡ false)
none_told None true h = cc
none_told None false h = (refl, refl)
none_told (Some x) b h = cc

pub form_told : (o : Option LeftOut) (b : Bool) (x : LeftOut) → told_by o b ≡ Some (cause.LeftOut x) → o ≡ Some x
form_told None true x h = cc
form_told None false x h = cc
form_told (Some y) b x h = let k : y ≡ x = cc in let P : LeftOut → Type 0 = λ z. Some y ≡ Some z in subst P k refl

pub deep_told : (o : Option LeftOut) (b : Bool) → told_by o b ≡ Some cause.TooDeep → (o ≡ None) × (b ≡ true)
deep_told None true h = (refl, refl)
deep_told None false h = cc
deep_told (Some x) b h = cc

no_token : (o : Option LeftOut) (b : Bool) → told_by o b ≡ Some cause.Unexpected → ⊥
no_token None true h = cc
no_token None false h = cc
no_token (Some x) b h = cc

pub never_unexpected : (s : State) → told_of (flat_of s) ≡ Some cause.Unexpected → ⊥
never_unexpected s h = no_token (left_out (flat_of s)) (is_too_deep (flat_of s)) h

module _ (deep : Deep_told) (forms : Form_told) (begun : Begun) (same : Same_read) where
  without : (ts : List Lexeme) (s : State) → going from ts ≡ Some s → left_out (flat_of s) ≡ None → IsWithout any_form ts
  without ts s h e =
      let x = begun ts s h in
      let k = same ts s x.0 h (x.1, x.2) x.3 in
      let P : Option LeftOut → Type 0 = λ o. Tells_form (flat_of s) o in
      (x.0, (x.1, x.2), (subst P e (forms (flat_of s))) (with_semicolons x.0) (s, k, refl))

  shallow : (ts : List Lexeme) (s : State) → going from ts ≡ Some s → is_too_deep (flat_of s) ≡ false → IsShallow_enough ts
  shallow ts s h e =
      let x = begun ts s h in
      let k = same ts s x.0 h (x.1, x.2) x.3 in
      let P : Bool → Type 0 = λ b. Tells_deep (flat_of s) b in
      (x.0, (x.1, x.2), (subst P e (deep (flat_of s))) (with_semicolons x.0) (s, k, refl))

  pub within_at : (ts : List Lexeme) (s : State) → going from ts ≡ Some s → told_of (flat_of s) ≡ None → IsWithin ts
  within_at ts s h n =
      let m = none_told (left_out (flat_of s)) (is_too_deep (flat_of s)) n in
      (without ts s h m.0, shallow ts s h m.1)

  pub form_at : (ts : List Lexeme) (s : State) (x : LeftOut) → going from ts ≡ Some s → told_of (flat_of s) ≡ Some (cause.LeftOut x) → Begins ts × (IsWithout (is_form x) ts → ⊥)
  form_at ts s x h n =
      let P : Option LeftOut → Type 0 = λ o. Tells_form (flat_of s) o in
      let e = subst P (form_told (left_out (flat_of s)) (is_too_deep (flat_of s)) x n) (forms (flat_of s)) in
      (begun ts s h, λ w. e (with_semicolons w.0) (s, same ts s w.0 h w.1 w.2.0, refl) w.2)

  pub deep_at : (ts : List Lexeme) (s : State) → going from ts ≡ Some s → told_of (flat_of s) ≡ Some cause.TooDeep → IsWithout any_form ts × (IsShallow_enough ts → ⊥)
  deep_at ts s h n =
      let m = deep_told (left_out (flat_of s)) (is_too_deep (flat_of s)) n in
      let P : Bool → Type 0 = λ b. Tells_deep (flat_of s) b in
      let e = subst P m.1 (deep (flat_of s)) in
      (without ts s h m.0, λ w. e (with_semicolons w.0) (s, same ts s w.0 h w.1 w.2.0, refl) w.2)
