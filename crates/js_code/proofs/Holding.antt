-- What a call gives, as its caller has it.
use Rattle.std.proofs.Common.{◌≡◌, ℕ, zero, suc, ◌+◌, ◌<◌, ◌≤◌, List, [], ◌∷◌, ◌++◌, map, length, get_or, take, Result, Ok, refl, sym, ap, ◌∙◌, subst, arith}
use Rattle.std.proofs.lemmas.List.{map-append, take_more}
use Rattle.js_code.specs.Tables.{Tables}
use Rattle.js_code.specs.Decoded.{layer_of, term_at}
use Rattle.js_code.specs.declared.node.Node.{Node}
use Rattle.js_code.specs.Settled.{Extends, Gives, HasTerm, Holds, IsSettled, Places, Reading}
use Rattle.js_code.proofs.Founded.{extends_further, holds_still}
use Rattle.js_term.specs.Layers.{TermLayer}
use Rattle.js_term.specs.declared.term.Term.{Term, out-Term}

-- a place that was given has the term
pub placed : {E : Type 0} {r : Result ℕ E} {d : Tables} {x y : Term} → Places r d x → x ≡ y → Places r d y
placed {E} {r} {d} h e = subst (λ t. Places r d t) e h

-- a reading that was given has the value
pub given : {X E A : Type 0} {r : Result X E} {read : X → Reading A} {d : Tables} {x y : A} → Gives r read d x → x ≡ y → Gives r read d y
given {X} {E} {A} {r} {read} {d} h e = subst (λ t. Gives r read d t) e h

-- a place is a reading
pub term_held : {c : Tables} {k : ℕ} {t : Term} → HasTerm c k t → Holds (λ d low. low k) c t
term_held {c} {k} h = record { settled = λ d grows f g agree. agree k h.within; is = h.is }

-- READINGS OF READINGS
module _ {c : Tables} where
  pub fixed_held : {A : Type 0} (x : A) → Holds (λ d low. x) c x
  fixed_held x = record { settled = λ d grows f g agree. refl; is = refl }

  pub one_held : {A B : Type 0} (F : A → B) {f : Reading A} {a : A} → Holds f c a → Holds (λ d low. F (f d low)) c (F a)
  one_held F h = record { settled = λ d grows f g agree. ap F (h.settled d grows f g agree); is = ap F h.is }

  pub two_held : {A B R : Type 0} (F : A → B → R) {f : Reading A} {g : Reading B} {a : A} {b : B} → Holds f c a → Holds g c b → Holds (λ d low. F (f d low) (g d low)) c (F a b)
  two_held F h i = record { settled = λ d grows f g agree. λ j. F (h.settled d grows f g agree j) (i.settled d grows f g agree j); is = λ j. F (h.is j) (i.is j) }

  pub three_held : {A B C R : Type 0} (F : A → B → C → R) {f : Reading A} {g : Reading B} {k : Reading C} {x : A} {y : B} {z : C} → Holds f c x → Holds g c y → Holds k c z → Holds (λ d low. F (f d low) (g d low) (k d low)) c (F x y z)
  three_held F h i l = record { settled = λ d grows f g agree. λ j. F (h.settled d grows f g agree j) (i.settled d grows f g agree j) (l.settled d grows f g agree j); is = λ j. F (h.is j) (i.is j) (l.is j) }

  pub four_held : {A B C D R : Type 0} (F : A → B → C → D → R) {f : Reading A} {g : Reading B} {k : Reading C} {m : Reading D} {x : A} {y : B} {z : C} {w : D} → Holds f c x → Holds g c y → Holds k c z → Holds m c w
      → Holds (λ d low. F (f d low) (g d low) (k d low) (m d low)) c (F x y z w)
  four_held F h i l n = record {
    settled = λ d grows f g agree. λ j. F (h.settled d grows f g agree j) (i.settled d grows f g agree j) (l.settled d grows f g agree j) (n.settled d grows f g agree j);
    is = λ j. F (h.is j) (i.is j) (l.is j) (n.is j);
  }

  pub held_as : {A : Type 0} {f : Reading A} {x y : A} → Holds f c x → x ≡ y → Holds f c y
  held_as {A} {f} h e = subst (Holds f c) e h

  -- what holds of a value is given for another name of it
  pub given_as : {X E A : Type 0} {read : X → Reading A} {at : X} {x y : A} → y ≡ x → Holds (read at) c x → Gives {E = E} (Ok at) read c y
  given_as {X} {E} {A} {read} {at} e h = record { holds = subst (Holds (read at) c) (sym e) h }

  -- the row of a term
  pub row_of : {E : Type 0} {n : Node} {l : TermLayer} {t u : Term} → t ≡ u → out-Term u ≡ l → Holds (λ d low. layer_of d low n) c l → Gives {E = E} (Ok n) (λ row. λ d low. layer_of d low row) c (out-Term t)
  row_of {E} {n} is opens h = given_as {E = E} {read = λ row. λ d low. layer_of d low row} {at = n} (ap out-Term is ∙ opens) h

-- LISTS

-- rows of the first items of a list
pub record Listing {R A : Type 0} (read : R → Reading A) (b c : Tables) (rows : List R) (i : ℕ) (all : List A) : Type 0 where
  pub extends : Extends b c
  pub settled : IsSettled (λ d low. map (λ r. read r d low) rows) c (length c.nodes)
  pub is : map (λ r. read r c (term_at c)) rows ≡ take i all

take_past : {A : Type 0} (i : ℕ) (xs : List A) → length xs ≤ i → take i xs ≡ xs
take_past zero [] l = refl
take_past (suc i) [] l = refl
take_past zero (x ∷ xs) l = absurd (omega (arith, l))
take_past (suc i) (x ∷ xs) l = ap (λ l. x ∷ l) (take_past i xs (omega (arith, l)))

module _ {R A : Type 0} {read : R → Reading A} where
  pub listing_goes_on : {b c d : Tables} {rows : List R} (row : R) (x : A) (i : ℕ) {all : List A} → Listing read b c rows i all → Extends c d → Holds (read row) d x → i < length all → x ≡ get_or all i x → (more : List R) → more ≡ rows ++ row ∷ []
      → Listing read b d more (i + 1) all
  listing_goes_on {b} {c} {d} {rows} row x i {all} l e h within item more m =
      let old : Holds (λ a low. map (λ r. read r a low) rows) d (map (λ r. read r c (term_at c)) rows) = holds_still e (record { settled = l.settled; is = refl }) in
      let split : (a : Tables) (f : ℕ → Term) → map (λ r. read r a f) more ≡ map (λ r. read r a f) rows ++ read row a f ∷ [] = λ a f. ap (map (λ r. read r a f)) m ∙ map-append (λ r. read r a f) rows (row ∷ []) in
      record {
        extends = extends_further l.extends e;
        settled = λ a grows f g agree. split a f ∙ ((λ j. old.settled a grows f g agree j ++ h.settled a grows f g agree j ∷ []) ∙ sym (split d g));
        is = split d (term_at d)
            ∙ ((λ j. (old.is ∙ l.is) j ++ (h.is ∙ item) j ∷ [])
            ∙ sym (take_more all i x within));
      }

  pub listing_ends : {b c : Tables} {rows : List R} {i : ℕ} {all : List A} → Listing read b c rows i all → length all ≤ i → map (λ r. read r c (term_at c)) rows ≡ all
  listing_ends {b} {c} {rows} {i} {all} l g = l.is ∙ take_past i all g
