-- What stays as tables grow.
use Rattle.std.specs.Prelude.{◌≡◌, ℕ, ◌<◌, List, [], ◌∷◌, ◌++◌, length, Result, IfOk, OnOk, OnErr}
use Rattle.js_code.specs.Tables.{Tables, node_at}
use Rattle.js_code.specs.Decoded.{layer_of, template_at, term_at}
use Rattle.js_term.specs.declared.term.Term.{Term}

-- a list stands first in another
pub record IsFront {A : Type 0} (xs ys : List A) : Type 0 where
  pub rest : List A
  pub is : ys ≡ xs ++ rest

-- tables have more rows
pub record Grows (c d : Tables) : Type 0 where
  pub nodes : IsFront c.nodes d.nodes
  pub texts : IsFront c.texts d.texts
  pub numbers : IsFront c.numbers d.numbers
  pub arguments : IsFront c.arguments d.arguments
  pub parts : IsFront c.parts d.parts
  pub templates : IsFront c.templates d.templates
  pub classes : IsFront c.classes d.classes
  pub turns : IsFront c.turns d.turns
  pub guarded : IsFront c.guarded d.guarded

-- the places before one have the same terms
abbrev pub Agree : (k : ℕ) → (f g : ℕ → Term) → Type 0
Agree k f g = (p : ℕ) → p < k → f p ≡ g p

-- what is read of tables and of the terms of their places
abbrev pub Reading : Type 0 → Type 0
Reading A = Tables → (ℕ → Term) → A

-- what is read depends on the terms of the places before one alone, and stays as tables grow
abbrev pub IsSettled : {A : Type 0} → Reading A → Tables → (k : ℕ) → Type 0
IsSettled read c k = (d : Tables) → Grows c d → (f g : ℕ → Term) → Agree k f g → read d f ≡ read c g

-- what a row stands for is settled by the places before it, and what a template's row stands for by all
pub record IsFounded (c : Tables) : Type 0 where
  pub nodes : (k : ℕ) → k < length c.nodes → IsSettled (λ d low. layer_of d low (node_at d k)) c k
  pub templates : (k : ℕ) → k < length c.templates → IsSettled (λ d low. template_at d low k) c (length c.nodes)

-- WHAT IS READ OF TABLES

-- a settled reading gives a value
pub record Holds {A : Type 0} (read : Reading A) (c : Tables) (x : A) : Type 0 where
  pub settled : IsSettled read c (length c.nodes)
  pub is : read c (term_at c) ≡ x

-- a place has a term
pub record HasTerm (c : Tables) (k : ℕ) (t : Term) : Type 0 where
  pub within : k < length c.nodes
  pub is : term_at c k ≡ t

-- tables have more rows, and all places and templates that there were stand for what they stood for
pub record Extends (c d : Tables) : Type 0 where
  pub grows : Grows c d
  pub terms : Agree (length c.nodes) (term_at d) (term_at c)
  pub templates : (k : ℕ) → k < length c.templates → template_at d (term_at d) k ≡ template_at c (term_at c) k

-- HOW A TABLE GROWS

-- a row was appended at a place, or nothing was
pub record Added {A E : Type 0} (xs ys : List A) (x : A) (r : Result ℕ E) : Type 0 where
  pub ok : OnOk r (ys ≡ xs ++ x ∷ [])
  pub place : IfOk r (λ at. at ≡ length xs)
  pub err : OnErr r (ys ≡ xs)

-- rows were appended from a place on, or nothing was
pub record AddedRows {A E : Type 0} (xs ys rows : List A) (r : Result (ℕ × ℕ) E) : Type 0 where
  pub ok : OnOk r (ys ≡ xs ++ rows)
  pub start : IfOk r (λ at. at.0 ≡ length xs)
  pub count : IfOk r (λ at. at.1 ≡ length rows)
  pub err : OnErr r (ys ≡ xs)

-- WHAT A CALL GIVES

-- a place, if one is given, has the term
pub record Places {E : Type 0} (r : Result ℕ E) (c : Tables) (t : Term) : Type 0 where
  pub has : IfOk r (λ at. HasTerm c at t)

-- what is read at a place, if one is given, is the value
pub record Gives {X E A : Type 0} (r : Result X E) (read : X → Reading A) (c : Tables) (x : A) : Type 0 where
  pub holds : IfOk r (λ at. Holds (read at) c x)
