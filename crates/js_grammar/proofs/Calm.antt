-- In a grammar whose table meets some tests, each valid tree is calm.
use Rattle.std.proofs.Common.{◌≡◌, Bool, true, false, not, ◌&&◌, ◌||◌, cond, List, [], ◌∷◌, Option, Some, None, refl, sym, subst}
use Rattle.js_grammar.specs.declared.lexeme.Lexeme.{Lexeme}
use Rattle.js_grammar.specs.declared.symbols.Nonterminal.{Nonterminal}
use Rattle.js_grammar.specs.declared.constituents.Constituent.{Constituent}
use Rattle.js_grammar.specs.declared.constituents.Repetition.{Repetition}
use Rattle.js_grammar.specs.declared.constituents.Repetition.TheVariants.{Once, Many, Listed}
use Rattle.js_grammar.specs.declared.constituents.Constituent.TheVariants.{Token, Part, Optional, Further}
use Rattle.js_grammar.specs.declared.symbols.Production.{Production}
use Rattle.js_grammar.specs.Grammar.{Tree, Leaf, Node, Absent, Row, Nil, Then, is, led, follow, behind, over, left, takes, spell, spells, Partial, Open, Within, begins, IsPart, Stands, IsPartial}
use Rattle.js_grammar.specs.Machine.{Table}
use Rattle.js_grammar.proofs.Sound.{only_some, after_is, and_true}
use Rattle.js_grammar.proofs.Ways.{is_nil, is_empty}
use Rattle.js_grammar.proofs.Quiet.{clear, not_started, quiet_row, before, calm_row, calm_partial}

abbrev pub implies : Bool → Bool → Bool
implies true b = b
implies false b = true

pub implied : (a b : Bool) → implies a b ≡ true → a ≡ true → b ≡ true
implied true b h e = h
implied false b h e = cc

pub both : (a b : Bool) → a ≡ true → b ≡ true → (a && b) ≡ true
both a b h k = rw (h, k) refl

module _ (T : Table) (operator : Production → Bool) (harmless : Nonterminal → Lexeme → Bool) (closes : Nonterminal → Bool) where
  -- the lexeme may come where these parts are to come; at the end, if the flag says so
  abbrev pub comes : Bool → List Constituent → Lexeme → Bool
  comes e [] t = e
  comes e (Token w ∷ ps) t = T.grammar.stands w t
  comes e (Part c ∷ ps) t = not (is_empty (T.start c t))
  comes e (Optional c k ∷ ps) t = not (is_empty (T.start c t)) || comes e ps t
  comes e (Further c w ∷ ps) t = T.grammar.stands w t || comes e ps t

  abbrev pub apart : Bool → Lexeme → Repetition → List Constituent → Bool
  apart e t Once ps = true
  apart e t Many ps = true
  apart e t (Listed w) ps = implies (comes e ps t) (not (T.grammar.stands w t))

  abbrev pub optional : Bool → Lexeme → Nonterminal → Repetition → List Constituent → Bool
  optional e t d k ps = implies (comes e ps t) (is_empty (T.start d t)) && (implies (comes e (follow false d k ps) t || (closes d && comes e (follow true d k ps) t)) (harmless d t) && apart e t k ps)

  abbrev pub settles : Bool → Lexeme → Bool → List Constituent → Bool
  settles e t b [] = true
  settles e t b (Token w ∷ ps) = settles e t false ps
  settles e t b (Part d ∷ ps) = cond b true (implies (comes e ps t) (harmless d t)) && settles e t false ps
  settles e t b (Optional d k ∷ ps) = optional e t d k ps && settles e t false ps
  settles e t b (Further d w ∷ ps) = optional e t d (Listed w) ps && settles e t false ps

  -- a lexeme that goes on with nothing at the right edge of a production
  abbrev pub edge : Production → Lexeme → Bool
  edge f t = settles true t (operator f) (T.grammar.rule f)

  -- a production that is gone on with by the lexeme only where its last part is, and is not there
  abbrev pub tight : Production → Row → Lexeme → Bool
  tight f Nil t = false
  tight f (Then r (Leaf u)) t = false
  tight f (Then r Absent) t = false
  tight f (Then r (Node h q)) t = clear T operator (operator f && is_nil r) (left T.grammar f r) h t && (edge h t || tight h q t)

  -- what an operator's left operand may be ends before the operator
  abbrev pub Firsts : Production → List Constituent → Type 0
  Firsts f [] = ⊥
  Firsts f (Token w ∷ ps) = ⊥
  Firsts f (Optional d k ∷ ps) = ⊥
  Firsts f (Further d w ∷ ps) = ⊥
  Firsts f (Part d ∷ []) = ⊥
  Firsts f (Part d ∷ Part c ∷ ps) = ⊥
  Firsts f (Part d ∷ Optional c k ∷ ps) = ⊥
  Firsts f (Part d ∷ Further c w ∷ ps) = ⊥
  Firsts f (Part d ∷ Token w ∷ ps) = (h : Production) (r : Row) (t : Lexeme) → T.grammar.fits d h r ≡ true → left T.grammar h r ≡ Some [] → T.grammar.stands w t ≡ true → (edge h t || tight h r t) ≡ true

  module _
      (harmless_wrap : (c : Nonterminal) (h : Production) (t : Lexeme) → harmless c t ≡ true → T.wrap c h t ≡ None)
      (harmless_edge : (c : Nonterminal) (h : Production) (r : Row) (t : Lexeme) → harmless c t ≡ true → T.grammar.fits c h r ≡ true → edge h t ≡ true)
      (ending : (c : Nonterminal) (h : Production) (r : Row) → T.grammar.fits c h r ≡ true → T.grammar.ends h ≡ true → closes c ≡ true)
      (inside : (f : Production) (t : Lexeme) → settles false t (operator f) (T.grammar.rule f) ≡ true)
      (first : (f : Production) → operator f ≡ true → Firsts f (T.grammar.rule f))
    where
      -- the tests hold of the parts that are left
      settles_behind : (e : Bool) (t : Lexeme) (ps : List Constituent) → settles e t false ps ≡ true → settles e t false (behind ps) ≡ true
      settles_behind e t [] h = refl
      settles_behind e t (Token w ∷ ps) h = h
      settles_behind e t (Part d ∷ ps) h = (and_true _ (settles e t false ps) h).1
      settles_behind e t (Optional d k ∷ ps) h = (and_true _ (settles e t false ps) h).1
      settles_behind e t (Further d w ∷ ps) h = (and_true _ (settles e t false ps) h).1

      settles_follow : (e : Bool) (t : Lexeme) (o : Bool) (d : Nonterminal) (k : Repetition) (ps : List Constituent) → settles e t false (Optional d k ∷ ps) ≡ true → settles e t false (follow o d k ps) ≡ true
      settles_follow e t true d Once ps h = settles_behind e t ps (and_true _ (settles e t false ps) h).1
      settles_follow e t false d Once ps h = (and_true _ (settles e t false ps) h).1
      settles_follow e t true d Many ps h = (and_true _ (settles e t false ps) h).1
      settles_follow e t false d Many ps h = h
      settles_follow e t true d (Listed w) ps h = (and_true _ (settles e t false ps) h).1
      settles_follow e t false d (Listed w) ps h = h

      settles_kid : (e : Bool) (t : Lexeme) (b : Bool) (is : Nonterminal → Bool) (ps qs : List Constituent) (x : Tree) → takes T.grammar is ps x ≡ Some qs → settles e t b ps ≡ true → settles e t false qs ≡ true
      settles_kid e t b is [] qs x k h = cc
      settles_kid e t b is (Token w ∷ ps) qs (Leaf u) k h =
          let m = only_some (T.grammar.stands w u) _ qs k in
          let same : ps ≡ qs = cc in rw (← same) h
      settles_kid e t b is (Token w ∷ ps) qs (Node f r) k h = cc
      settles_kid e t b is (Token w ∷ ps) qs Absent k h = cc
      settles_kid e t b is (Part d ∷ ps) qs (Leaf u) k h = cc
      settles_kid e t b is (Part d ∷ ps) qs (Node f r) k h =
          let m = only_some (is d) _ qs k in
          let same : ps ≡ qs = cc in rw (← same) (and_true _ (settles e t false ps) h).1
      settles_kid e t b is (Part d ∷ ps) qs Absent k h = cc
      settles_kid e t b is (Optional d k ∷ ps) qs (Leaf u) m h = cc
      settles_kid e t b is (Optional d k ∷ ps) qs (Node f r) m h =
          let n = only_some (is d) _ qs m in
          let same : follow (T.grammar.ends f) d k ps ≡ qs = cc in rw (← same) (settles_follow e t (T.grammar.ends f) d k ps h)
      settles_kid e t b is (Optional d k ∷ ps) qs Absent m h =
          let same : ps ≡ qs = cc in rw (← same) (and_true _ (settles e t false ps) h).1
      settles_kid e t b is (Further d w ∷ ps) qs (Leaf u) m h =
          let n = only_some (T.grammar.stands w u) _ qs m in
          let same : Optional d (Listed w) ∷ ps ≡ qs = cc in rw (← same) h
      settles_kid e t b is (Further d w ∷ ps) qs (Node f r) m h = cc
      settles_kid e t b is (Further d w ∷ ps) qs Absent m h =
          let same : ps ≡ qs = cc in rw (← same) (and_true _ (settles e t false ps) h).1

      settles_row : (e : Bool) (t : Lexeme) (f : Production) (r : Row) (x : Tree) (qs : List Constituent) → settles e t (operator f) (T.grammar.rule f) ≡ true → left T.grammar f (Then r x) ≡ Some qs → settles e t false qs ≡ true
      settles_row e t f Nil x qs h k = settles_kid e t (operator f) (is T.grammar x) (T.grammar.rule f) qs x k h
      settles_row e t f (Then r y) x qs h k =
          let m = after_is (left T.grammar f (Then r y)) _ qs k in
          settles_kid e t false (is T.grammar x) m.0 qs x m.2 (settles_row e t f r y m.0 h m.1)

      is_over : (o : Option (List Constituent)) → over T.grammar o ≡ true → o ≡ Some []
      is_over None h = cc
      is_over (Some []) h = refl
      is_over (Some (p ∷ ps)) h = cc

      whole : (d : Nonterminal) (h : Production) (q : Row) → is T.grammar (Node h q) d ≡ true → (T.grammar.fits d h q ≡ true) × (left T.grammar h q ≡ Some []) × (led T.grammar d (spells q) ≡ true)
      whole d h q e =
          let m = and_true (T.grammar.fits d h q && led T.grammar d (spells q)) (over T.grammar (left T.grammar h q)) e in
          let n = and_true (T.grammar.fits d h q) (led T.grammar d (spells q)) m.0 in
          (n.0, is_over (left T.grammar h q) m.1, n.1)

      -- what is to be shown of a part that is a node: it is not gone on with, and it is whole
      abbrev pub Quiet : Bool → Option (List Constituent) → Production → Row → Lexeme → Type 0
      Quiet b o h q t = (clear T operator b o h t ≡ true) × ((edge h t || tight h q t) ≡ true) × (left T.grammar h q ≡ Some [])

      either_left : (a b : Bool) → a ≡ true → (a || b) ≡ true
      either_left a b h = rw h refl

      either_right : (a b : Bool) → b ≡ true → (a || b) ≡ true
      either_right true b h = refl
      either_right false b h = h

      comes_follow : (e : Bool) (t : Lexeme) (o : Bool) (d : Nonterminal) (k : Repetition) (ps : List Constituent) → (o ≡ true → closes d ≡ true) → comes e (follow o d k ps) t ≡ true → (comes e (follow false d k ps) t || (closes d && comes e (follow true d k ps) t)) ≡ true
      comes_follow e t true d k ps o h = either_right (comes e (follow false d k ps) t) (closes d && comes e (follow true d k ps) t) (both (closes d) (comes e (follow true d k ps) t) (o refl) h)
      comes_follow e t false d k ps o h = either_left (comes e (follow false d k ps) t) (closes d && comes e (follow true d k ps) t) h

      -- what is tested of an optional part
      optional_parts : (e : Bool) (t : Lexeme) (d : Nonterminal) (k : Repetition) (ps : List Constituent) → settles e t false (Optional d k ∷ ps) ≡ true → (implies (comes e ps t) (is_empty (T.start d t)) ≡ true) × (implies (comes e (follow false d k ps) t || (closes d && comes e (follow true d k ps) t)) (harmless d t) ≡ true) × (apart e t k ps ≡ true)
      optional_parts e t d k ps h =
          let m = and_true (optional e t d k ps) (settles e t false ps) h in
          let n = and_true (implies (comes e ps t) (is_empty (T.start d t))) (implies (comes e (follow false d k ps) t || (closes d && comes e (follow true d k ps) t)) (harmless d t) && apart e t k ps) m.0 in
          let o = and_true (implies (comes e (follow false d k ps) t || (closes d && comes e (follow true d k ps) t)) (harmless d t)) (apart e t k ps) n.1 in
          (n.0, o.0, o.1)

      node : (e : Bool) (t : Lexeme) (b : Bool) (f : Production) (ps qs : List Constituent) (h : Production) (q : Row) → takes T.grammar (is T.grammar (Node h q)) ps (Node h q) ≡ Some qs → settles e t b ps ≡ true → comes e qs t ≡ true → (b ≡ true → (operator f ≡ true) × (T.grammar.rule f ≡ ps)) → Quiet b (Some ps) h q t
      node e t b f [] qs h q k s c o = cc
      node e t b f (Token w ∷ ps) qs h q k s c o = cc
      node e t b f (Further d w ∷ ps) qs h q k s c o = cc
      node e t false f (Part d ∷ ps) qs h q k s c o =
          let m = only_some (is T.grammar (Node h q) d) _ qs k in
          let same : ps ≡ qs = cc in
          let w = whole d h q m.0 in
          let c2 : comes e ps t ≡ true = rw same c in
          let n = implied (comes e ps t) (harmless d t) (and_true _ (settles e t false ps) s).0 c2 in
          (rw (harmless_wrap d h t n) refl, either_left (edge h t) (tight h q t) (harmless_edge d h q t n w.0), w.1)
      node e t true f (Part d ∷ []) qs h q k s c o = let u = o refl in absurd (rw u.1 at (first f u.0))
      node e t true f (Part d ∷ Part a ∷ ps) qs h q k s c o = let u = o refl in absurd (rw u.1 at (first f u.0))
      node e t true f (Part d ∷ Optional a v ∷ ps) qs h q k s c o = let u = o refl in absurd (rw u.1 at (first f u.0))
      node e t true f (Part d ∷ Further a v ∷ ps) qs h q k s c o = let u = o refl in absurd (rw u.1 at (first f u.0))
      node e t true f (Part d ∷ Token v ∷ us) qs h q k s c o =
          let m = only_some (is T.grammar (Node h q) d) _ qs k in
          let same : Token v ∷ us ≡ qs = cc in
          let w = whole d h q m.0 in
          let c2 : T.grammar.stands v t ≡ true = rw (← same) at c in
          let u = o refl in
          let z : Firsts f (Part d ∷ Token v ∷ us) = rw u.1 at (first f u.0) in
          (c2, z h q t w.0 w.1 c2, w.1)
      node e t b f (Optional d v ∷ ps) qs h q k s c o =
          let m = only_some (is T.grammar (Node h q) d) _ qs k in
          let same : follow (T.grammar.ends h) d v ps ≡ qs = cc in
          let w = whole d h q m.0 in
          let c2 : comes e (follow (T.grammar.ends h) d v ps) t ≡ true = rw same c in
          let n = implied _ (harmless d t) (optional_parts e t d v ps s).1 (comes_follow e t (T.grammar.ends h) d v ps (ending d h q w.0) c2) in
          (rw (harmless_wrap d h t n) refl, either_left (edge h t) (tight h q t) (harmless_edge d h q t n w.0), w.1)

      or_right : (a b : Bool) → b ≡ true → (a || b) ≡ true
      or_right true b h = refl
      or_right false b h = h

      gone : (e : Bool) (t : Lexeme) (b : Bool) (ps qs : List Constituent) → takes T.grammar (is T.grammar Absent) ps Absent ≡ Some qs → settles e t b ps ≡ true → comes e qs t ≡ true → (not_started T operator (Some ps) t ≡ true) × (comes e ps t ≡ true)
      gone e t b [] qs k s c = cc
      gone e t b (Token w ∷ ps) qs k s c = cc
      gone e t b (Part d ∷ ps) qs k s c = cc
      gone e t b (Optional d v ∷ ps) qs k s c =
          let same : ps ≡ qs = cc in
          let c2 : comes e ps t ≡ true = rw same c in
          (implied (comes e ps t) (is_empty (T.start d t)) (optional_parts e t d v ps s).0 c2, or_right _ _ c2)
      gone e t b (Further d w ∷ ps) qs k s c =
          let same : ps ≡ qs = cc in
          let c2 : comes e ps t ≡ true = rw same c in
          (implied (comes e ps t) (not (T.grammar.stands w t)) (optional_parts e t d (Listed w) ps s).2 c2, or_right _ _ c2)

      and_yes : (b : Bool) → (b && true) ≡ b
      and_yes true = refl
      and_yes false = refl

      and_no : (b : Bool) → (b && false) ≡ false
      and_no true = refl
      and_no false = refl

      first_clear : (f : Production) (h : Production) (q : Row) (t : Lexeme) → clear T operator (operator f) (Some (T.grammar.rule f)) h t ≡ true → clear T operator (operator f && true) (Some (T.grammar.rule f)) h t ≡ true
      first_clear f h q t e = let P : Bool → Type 0 = λ b. clear T operator b (Some (T.grammar.rule f)) h t ≡ true in subst P (sym (and_yes (operator f))) e

      later_clear : (f : Production) (r : Row) (y : Tree) (ps : List Constituent) (h : Production) (q : Row) (t : Lexeme) → left T.grammar f (Then r y) ≡ Some ps → clear T operator false (Some ps) h t ≡ true → clear T operator (operator f && false) (left T.grammar f (Then r y)) h t ≡ true
      later_clear f r y ps h q t k e =
          let P : Bool → Type 0 = λ b. clear T operator b (Some ps) h t ≡ true in
          let Q : Option (List Constituent) → Type 0 = λ o. clear T operator (operator f && false) o h t ≡ true in
          subst Q (sym k) (subst P (sym (and_no (operator f))) e)

      -- a node as a part is whole
      kid_whole : (ps qs : List Constituent) (h : Production) (q : Row) → takes T.grammar (is T.grammar (Node h q)) ps (Node h q) ≡ Some qs → left T.grammar h q ≡ Some []
      kid_whole [] qs h q k = cc
      kid_whole (Token w ∷ ps) qs h q k = cc
      kid_whole (Further d w ∷ ps) qs h q k = cc
      kid_whole (Part d ∷ ps) qs h q k = let m = only_some (is T.grammar (Node h q) d) _ qs k in (whole d h q m.0).1
      kid_whole (Optional d v ∷ ps) qs h q k = let m = only_some (is T.grammar (Node h q) d) _ qs k in (whole d h q m.0).1

      abbrev pub Test : Bool → Bool → Lexeme → Production → Row → Type 0
      Test true e t f r = settles e t (operator f) (T.grammar.rule f) ≡ true
      Test false e t f r = tight f r t ≡ true

      either : (a b : Bool) (X : Type 0) → (a || b) ≡ true → (a ≡ true → X) → (b ≡ true → X) → X
      either true b X h g k = g refl
      either false b X h g k = k h

      -- what holds of a lexeme that may come after a row: nothing in the row goes on with it
      pub quiet_of : (r : Row) (b e : Bool) (t : Lexeme) (f : Production) (qs : List Constituent) → Test b e t f r → left T.grammar f r ≡ Some qs → comes e qs t ≡ true → quiet_row T operator f r t ≡ true
      quiet_of Nil b e t f qs s k c = refl
      quiet_of (Then r (Leaf u)) b e t f qs s k c = refl
      quiet_of (Then Nil Absent) false e t f qs s k c = cc
      quiet_of (Then (Then r y) Absent) false e t f qs s k c = cc
      quiet_of (Then r (Node h q)) false e t f qs s k c =
          let m = after_is (left T.grammar f r) _ qs k in
          let n = and_true (clear T operator (operator f && is_nil r) (left T.grammar f r) h t) (edge h t || tight h q t) s in
          let w = kid_whole m.0 qs h q m.2 in
          both _ _ n.0 (either (edge h t) (tight h q t) (quiet_row T operator h q t ≡ true) n.1 (λ z. quiet_of q true true t h [] z w refl) (λ z. quiet_of q false true t h [] z w refl))
      quiet_of (Then Nil Absent) true e t f qs s k c =
          let n = gone e t (operator f) (T.grammar.rule f) qs k s c in
          both _ true n.0 refl
      quiet_of (Then (Then r y) Absent) true e t f qs s k c =
          let m = after_is (left T.grammar f (Then r y)) _ qs k in
          let n = gone e t false m.0 qs m.2 (settles_row e t f r y m.0 s m.1) c in
          both _ _ (rw m.1 n.0) (quiet_of (Then r y) true e t f m.0 s m.1 n.1)
      quiet_of (Then Nil (Node h q)) true e t f qs s k c =
          let n = node e t (operator f) f (T.grammar.rule f) qs h q k s c (λ o. (o, refl)) in
          both _ _ (first_clear f h q t n.0) (either (edge h t) (tight h q t) (quiet_row T operator h q t ≡ true) n.1 (λ z. quiet_of q true true t h [] z n.2 refl) (λ z. quiet_of q false true t h [] z n.2 refl))
      quiet_of (Then (Then r y) (Node h q)) true e t f qs s k c =
          let m = after_is (left T.grammar f (Then r y)) _ qs k in
          let n = node e t false f m.0 qs h q m.2 (settles_row e t f r y m.0 s m.1) c (λ o. cc) in
          both _ _ (later_clear f r y m.0 h q t m.1 n.0) (either (edge h t) (tight h q t) (quiet_row T operator h q t ≡ true) n.1 (λ z. quiet_of q true true t h [] z n.2 refl) (λ z. quiet_of q false true t h [] z n.2 refl))

      module _ (begun : (d : Nonterminal) (h : Production) (q : Row) (t : Lexeme) (ts : List Lexeme) → T.grammar.fits d h q ≡ true → left T.grammar h q ≡ Some [] → led T.grammar d (spells q) ≡ true → spells q ≡ t ∷ ts → is_empty (T.start d t) ≡ false) where
        not_empty : (l : List Production) → is_empty l ≡ false → not (is_empty l) ≡ true
        not_empty l h = rw h refl

        or_left : (a b : Bool) → a ≡ true → (a || b) ≡ true
        or_left a b h = rw h refl

        -- the first lexeme of a part comes where the part is wanted
        part_comes : (e : Bool) (ps qs : List Constituent) (x : Tree) (t : Lexeme) (ts : List Lexeme) → takes T.grammar (is T.grammar x) ps x ≡ Some qs → spell x ≡ t ∷ ts → comes e ps t ≡ true
        part_comes e [] qs x t ts k s = cc
        part_comes e (Token w ∷ ps) qs (Leaf u) t ts k s =
            let m = only_some (T.grammar.stands w u) _ qs k in
            let same : u ≡ t = cc in rw (← same) m.0
        part_comes e (Token w ∷ ps) qs (Node h q) t ts k s = cc
        part_comes e (Token w ∷ ps) qs Absent t ts k s = cc
        part_comes e (Part d ∷ ps) qs (Leaf u) t ts k s = cc
        part_comes e (Part d ∷ ps) qs (Node h q) t ts k s =
            let m = only_some (is T.grammar (Node h q) d) _ qs k in
            let w = whole d h q m.0 in
            not_empty (T.start d t) (begun d h q t ts w.0 w.1 w.2 s)
        part_comes e (Part d ∷ ps) qs Absent t ts k s = cc
        part_comes e (Optional d v ∷ ps) qs (Leaf u) t ts k s = cc
        part_comes e (Optional d v ∷ ps) qs (Node h q) t ts k s =
            let m = only_some (is T.grammar (Node h q) d) _ qs k in
            let w = whole d h q m.0 in
            or_left _ _ (not_empty (T.start d t) (begun d h q t ts w.0 w.1 w.2 s))
        part_comes e (Optional d v ∷ ps) qs Absent t ts k s = cc
        part_comes e (Further d w ∷ ps) qs (Leaf u) t ts k s =
            let m = only_some (T.grammar.stands w u) _ qs k in
            let same : u ≡ t = cc in
            let n : T.grammar.stands w t ≡ true = rw (← same) m.0 in or_left (T.grammar.stands w t) (comes e ps t) n
        part_comes e (Further d w ∷ ps) qs (Node h q) t ts k s = cc
        part_comes e (Further d w ∷ ps) qs Absent t ts k s = cc

        before_of : (f : Production) (r : Row) (ts : List Lexeme) → ((t : Lexeme) (us : List Lexeme) → ts ≡ t ∷ us → quiet_row T operator f r t ≡ true) → before T operator f r ts ≡ true
        before_of f r [] h = refl
        before_of f r (t ∷ ts) h = h t ts refl

        -- each beginning of a production is calm
        pub calm_of : (r : Row) (f : Production) (qs : List Constituent) → left T.grammar f r ≡ Some qs → calm_row T operator f r ≡ true
        calm_of Nil f qs k = refl
        calm_of (Then r (Leaf u)) f qs k =
            let m = after_is (left T.grammar f r) _ qs k in
            both _ _ (calm_of r f m.0 m.1) (both true _ refl (quiet_of r true false u f m.0 (inside f u) m.1 (part_comes false m.0 qs (Leaf u) u [] m.2 refl)))
        calm_of (Then r Absent) f qs k =
            let m = after_is (left T.grammar f r) _ qs k in
            both _ _ (calm_of r f m.0 m.1) refl
        calm_of (Then r (Node h q)) f qs k =
            let m = after_is (left T.grammar f r) _ qs k in
            both _ _ (calm_of r f m.0 m.1) (both _ _ (calm_of q h [] (kid_whole m.0 qs h q m.2))
            (before_of f r (spells q) (λ t us e. quiet_of r true false t f m.0 (inside f t) m.1 (part_comes false m.0 qs (Node h q) t us m.2 e))))

        stood : (o : Option (List Constituent)) → Stands T.grammar o → (ps : List Constituent) × (o ≡ Some ps)
        stood None h = elim h [ ]
        stood (Some ps) h = (ps, refl)

        module _ (partly : (d : Nonterminal) (p : Partial) (t : Lexeme) (ts : List Lexeme) → IsPartial T.grammar p d → begins p ≡ t ∷ ts → is_empty (T.start d t) ≡ false) where
          parted : (p : Partial) (o : Option (List Constituent)) → IsPart T.grammar (IsPartial T.grammar p) o → (ps : List Constituent) × (d : Nonterminal) × (o ≡ Some ps) × IsPartial T.grammar p d × ((t : Lexeme) (us : List Lexeme) → begins p ≡ t ∷ us → comes false ps t ≡ true)
          parted p None h = elim h [ ]
          parted p (Some []) h = elim h [ ]
          parted p (Some (Token w ∷ ps)) h = elim h [ ]
          parted p (Some (Part d ∷ ps)) h = (Part d ∷ ps, d, refl, h, λ t us e. not_empty (T.start d t) (partly d p t us h e))
          parted p (Some (Further d w ∷ ps)) h = elim h [ ]
          parted p (Some (Optional d v ∷ ps)) h = (Optional d v ∷ ps, d, refl, h, λ t us e. or_left _ _ (not_empty (T.start d t) (partly d p t us h e)))

          pub calm_partial_of : (p : Partial) (c : Nonterminal) → IsPartial T.grammar p c → calm_partial T operator p ≡ true
          calm_partial_of (Open f r) c h = let m = stood (left T.grammar f r) h.2 in calm_of r f m.0 m.1
          calm_partial_of (Within f r p) c h =
              let m = parted p (left T.grammar f r) h.2 in
              both _ _ (calm_of r f m.0 m.2) (both _ _ (calm_partial_of p m.1 m.3) (before_of f r (begins p) (λ t us e. quiet_of r true false t f m.0 (inside f t) m.2 (m.4 t us e))))
