-- A tree that a nonterminal has is read, whatever waits below, and before any lexeme that does not go on with its right edge.
use Rattle.std.proofs.Common.{◌≡◌, ℕ, ◌+◌, ◌≤◌, Bool, true, false, not, ◌&&◌, List, [], ◌∷◌, ◌++◌, Option, Some, None, refl, sym, ap, subst, ◌∙◌}
use Rattle.std.proofs.lemmas.List.{append-nil}
use Rattle.js_grammar.specs.declared.lexeme.Lexeme.{Lexeme}
use Rattle.js_grammar.specs.declared.constituents.Terminals.{Terminals}
use Rattle.js_grammar.specs.declared.symbols.Nonterminal.{Nonterminal}
use Rattle.js_grammar.specs.declared.constituents.Constituent.{Constituent}
use Rattle.js_grammar.specs.declared.constituents.Repetition.TheVariants.{Listed}
use Rattle.js_grammar.specs.declared.constituents.Constituent.TheVariants.{Token, Part, Optional, Further}
use Rattle.js_grammar.specs.declared.symbols.Production.{Production}
use Rattle.js_grammar.specs.Grammar.{Tree, Leaf, Node, Absent, Row, Nil, Then, is, led, follow, left, takes, spell, spells, Partial, Open, Within, begins, IsPartial}
use Rattle.js_grammar.specs.Machine.{State, Table, item, opened, wrapped, placed, put, complete, feed, feeds}
use Rattle.js_grammar.specs.Levels.{Low, LowPartial, level, Shallow}
use Rattle.js_grammar.proofs.Sound.{only_some, after_is, and_true}
use Rattle.js_grammar.proofs.Lowered.{less, no_less, lower, lower_partial}
use Rattle.js_grammar.proofs.Quiet.{clear, quiet, quiet_row, before, calm, calm_row, calm_partial}
use Rattle.js_grammar.proofs.Ways.{is_none, is_nil, is_empty, Asks, Way, by_word, by_operator, by_part, Starts, IsIn, sub_kid, optional_kid, no_nil, starts, led_left, some_is, MayStart, stood, parted, LeadsPartial, leads_partial, weaker, partial_starts}

module _ (T : Table) (operator : Production → Bool) (leads : Nonterminal → Production → Bool) (cost step : Production → Row → ℕ) (grows : (f : Production) (r : Row) (x : Tree) → cost f r ≤ cost f (Then r x)) where
  abbrev pub Reads : State → Tree → Type 0
  Reads s x = (q : State) × (feeds T s (spell x) ≡ Some q) × ((t : Lexeme) → quiet T operator x t ≡ true → feed T q t ≡ complete T s x t) × ((n : ℕ) → Shallow cost step n s → Low cost step (level cost step s) n x → Shallow cost step n q)

  abbrev pub ReadsRow : State → Production → Row → List Constituent → Type 0
  ReadsRow s f r ps = (q : State) × (feeds T s (spells r) ≡ Some q) × ((t : Lexeme) → quiet_row T operator f r t ≡ true → feed T q t ≡ feed T (item f r ps ∷ s) t) × ((n : ℕ) → Shallow cost step n s → Low cost step (level cost step s) n (Node f r) → Shallow cost step n q)

  pub feeds_append : (a b : List Lexeme) (s q : State) → feeds T s a ≡ Some q → feeds T s (a ++ b) ≡ feeds T q b
  feeds_append [] b s q h = let e : s ≡ q = cc in ap (λ x. feeds T x b) e
  feeds_append (t ∷ a) b s q h =
      let m = after_is (feed T s t) _ q h in
      rw m.1 (feeds_append a b m.0 q m.2)

  -- before a lexeme that begins a tree, a part that is wanted opens its productions
  feed_opens : (f : Production) (r : Row) (ps : List Constituent) (s : State) (c : Nonterminal) (t : Lexeme) (h : Production) (hs : List Production) → Asks ps c → T.start c t ≡ h ∷ hs → feed T (item f r ps ∷ s) t ≡ opened T (h ∷ hs) (item f r ps ∷ s) t
  feed_opens f r [] s c t h hs a e = elim a [ ]
  feed_opens f r (Token w ∷ ps) s c t h hs a e = elim a [ ]
  feed_opens f r (Part d ∷ ps) s c t h hs a e = rw (a, e) refl
  feed_opens f r (Optional d k ∷ ps) s c t h hs a e = rw (a, e) refl
  feed_opens f r (Further d w ∷ ps) s c t h hs a e = elim a [ ]

  -- a tree where a part is wanted
  put_wrap : (k : Tree → Option State) (s : State) (g : Production) (r : Row) (ps : List Constituent) (c : Nonterminal) (h : Production) (x : Row) (t : Lexeme) (f : Production) → Asks ps c → T.wrap c h t ≡ Some f → put T k s g r ps (Node h x) t ≡ wrapped T f (T.grammar.rule f) (item g r ps ∷ s) (Node h x) t
  put_wrap k s g r [] c h x t f a e = elim a [ ]
  put_wrap k s g r (Token w ∷ ps) c h x t f a e = elim a [ ]
  put_wrap k s g r (Further d w ∷ ps) c h x t f a e = elim a [ ]
  put_wrap k s g r (Part d ∷ ps) c h x t f a e = rw (a, e) refl
  put_wrap k s g r (Optional d u ∷ ps) c h x t f a e = rw (a, e) refl

  none_of : {A : Type 0} (o : Option A) → is_none o ≡ true → o ≡ None
  none_of None h = refl
  none_of (Some x) h = cc

  empty_of : (l : List Production) → is_empty l ≡ true → l ≡ []
  empty_of [] h = refl
  empty_of (f ∷ fs) h = cc

  -- two states that do the same at the first lexeme do the same at all
  feeds_head : (c : Nonterminal) (q a : State) (ts : List Lexeme) → Starts T operator leads c ts → ((t : Lexeme) (us : List Lexeme) → ts ≡ t ∷ us → feed T q t ≡ feed T a t) → feeds T q ts ≡ feeds T a ts
  feeds_head c q a [] h e = elim h [ ]
  feeds_head c q a (t ∷ ts) h e = rw (e t ts refl) refl

  module _ (fits_leads : (c : Nonterminal) (h : Production) (r : Row) → T.grammar.fits c h r ≡ true → leads c h ≡ true) (way : (c : Nonterminal) (f : Production) → leads c f ≡ true → Way T operator leads c f) where
    -- one more part of a production is read
    Same : State → State → List Lexeme → Type 0
    Same q a ts = (t : Lexeme) (us : List Lexeme) → ts ≡ t ∷ us → feed T q t ≡ feed T a t

    kid_word : (s : State) (f : Production) (r : Row) (ps qs : List Constituent) (u : Lexeme) (q : State) → takes T.grammar (is T.grammar (Leaf u)) ps (Leaf u) ≡ Some qs → feeds T s (spells r) ≡ Some q → feed T q u ≡ feed T (item f r ps ∷ s) u → ReadsRow s f (Then r (Leaf u)) qs
    kid_word s f r [] qs u q k fs e = cc
    kid_word s f r (Part d ∷ ps) qs u q k fs e = cc
    kid_word s f r (Optional d v ∷ ps) qs u q k fs e = cc
    kid_word s f r (Further d w ∷ ps) qs u q k fs e =
        let m = only_some (T.grammar.stands w u) _ qs k in
        let same : Optional d (Listed w) ∷ ps ≡ qs = some_is T operator leads fits_leads way (Optional d (Listed w) ∷ ps) qs m.1 in
        let stands : T.grammar.stands w u ≡ true = m.0 in
        (item f (Then r (Leaf u)) qs ∷ s, feeds_append (spells r) (u ∷ []) s q fs ∙ rw (e, stands, same) refl, λ t h. refl, λ n a c. (c.0, c.1, a))
    kid_word s f r (Token w ∷ ps) qs u q k fs e =
        let m = only_some (T.grammar.stands w u) _ qs k in
        let same : ps ≡ qs = some_is T operator leads fits_leads way ps qs m.1 in
        let stands : T.grammar.stands w u ≡ true = m.0 in
        (item f (Then r (Leaf u)) qs ∷ s, feeds_append (spells r) (u ∷ []) s q fs ∙ rw (e, stands, same) refl, λ t h. refl, λ n a c. (c.0, c.1, a))

    -- the tree is followed by a lexeme that does not go on with it
    settled : (s : State) (f : Production) (r : Row) (d : Nonterminal) (all ps : List Constituent) (h : Production) (x : Row) (t : Lexeme) → T.grammar.fits d h x ≡ true → led T.grammar d (spells x) ≡ true → (is_none (T.wrap d h t) && quiet_row T operator h x t) ≡ true → (T.wrap d h t ≡ None) × (placed T (λ y. complete T s y t) s f r d all ps (Node h x) t ≡ feed T (item f (Then r (Node h x)) ps ∷ s) t) × (quiet_row T operator h x t ≡ true)
    settled s f r d all ps h x t k g y =
        let m = and_true (is_none (T.wrap d h t)) (quiet_row T operator h x t) y in
        let n : T.wrap d h t ≡ None = none_of (T.wrap d h t) m.0 in
        (n, rw (k, g) refl, m.1)

    kid_word_is : (s : State) (f : Production) (r : Row) (ps qs : List Constituent) (u : Lexeme) (q : State) (k : takes T.grammar (is T.grammar (Leaf u)) ps (Leaf u) ≡ Some qs) (fs : feeds T s (spells r) ≡ Some q) (e : feed T q u ≡ feed T (item f r ps ∷ s) u) → (kid_word s f r ps qs u q k fs e).0 ≡ item f (Then r (Leaf u)) qs ∷ s
    unfolding kid_word
    kid_word_is s f r [] qs u q k fs e = cc
    kid_word_is s f r (Part d ∷ ps) qs u q k fs e = cc
    kid_word_is s f r (Optional d v ∷ ps) qs u q k fs e = cc
    kid_word_is s f r (Further d w ∷ ps) qs u q k fs e = refl
    kid_word_is s f r (Token w ∷ ps) qs u q k fs e = refl

    kid_node : (s : State) (f : Production) (r : Row) (ps qs : List Constituent) (h : Production) (x : Row) (q : State) → left T.grammar f r ≡ Some ps → (operator f && is_nil r) ≡ false → takes T.grammar (is T.grammar (Node h x)) ps (Node h x) ≡ Some qs → feeds T s (spells r) ≡ Some q → ((t : Lexeme) (us : List Lexeme) → spells x ≡ t ∷ us → feed T q t ≡ feed T (item f r ps ∷ s) t) → ((d : Nonterminal) → Asks ps d → IsIn T operator leads d (Node h x) → Reads (item f r ps ∷ s) (Node h x)) → ReadsRow s f (Then r (Node h x)) qs
    kid_node s f r [] qs h x q l o k fs e ih = cc
    kid_node s f r (Token d ∷ ps) qs h x q l o k fs e ih = cc
    kid_node s f r (Further d w ∷ ps) qs h x q l o k fs e ih = cc
    kid_node s f r (Part d ∷ ps) qs h x q l o k fs e ih =
        let m = sub_kid T operator leads fits_leads way d ps qs h x k in
        let n = ih d refl m.2 in
        let P : List Constituent → Type 0 = λ p. ReadsRow s f (Then r (Node h x)) p in
        subst P m.0 (
          n.0,
          feeds_append (spells r) (spells x) s q fs ∙ feeds_head d q _ (spells x) (starts T operator leads fits_leads way (Node h x) d m.2) e ∙ n.1,
          λ t y.
              let z = settled s f r d (Part d ∷ ps) ps h x t m.1 m.2.2 (rw (o, l) at y) in
              n.2 t z.2 ∙ rw z.0 z.1,
          λ j a c. n.3 j (less (level cost step s) (cost f r) (cost f (Then r (Node h x))) j (grows f r (Node h x)) c.0, c.1.0, a) c.1.1,
        )
    kid_node s f r (Optional d v ∷ ps) qs h x q l o k fs e ih =
        let m = optional_kid T operator leads fits_leads way d v ps qs h x k in
        let n = ih d refl m.2 in
        let P : List Constituent → Type 0 = λ p. ReadsRow s f (Then r (Node h x)) p in
        subst P m.0 (
          n.0,
          feeds_append (spells r) (spells x) s q fs ∙ feeds_head d q _ (spells x) (starts T operator leads fits_leads way (Node h x) d m.2) e ∙ n.1,
          λ t y.
              let z = settled s f r d (Optional d v ∷ ps) (follow (T.grammar.ends h) d v ps) h x t m.1 m.2.2 (rw (o, l) at y) in
              n.2 t z.2 ∙ rw z.0 z.1,
          λ j a c. n.3 j (less (level cost step s) (cost f r) (cost f (Then r (Node h x))) j (grows f r (Node h x)) c.0, c.1.0, a) c.1.1,
        )

    not_true : (b : Bool) → not b ≡ true → b ≡ false
    not_true true h = cc
    not_true false h = refl

    kid_gone : (s : State) (f : Production) (r : Row) (ps qs : List Constituent) → left T.grammar f r ≡ Some ps → takes T.grammar (is T.grammar Absent) ps Absent ≡ Some qs → ReadsRow s f r ps → ReadsRow s f (Then r Absent) qs
    kid_gone s f r [] qs l k i = cc
    kid_gone s f r (Token d ∷ ps) qs l k i = cc
    kid_gone s f r (Part d ∷ ps) qs l k i = cc
    kid_gone s f r (Further d w ∷ ps) qs l k i =
        let P : List Constituent → Type 0 = λ p. ReadsRow s f (Then r Absent) p in
        subst P (some_is T operator leads fits_leads way ps qs k) (
          i.0,
          ap (feeds T s) (append-nil (spells r)) ∙ i.1,
          λ t y.
              let m = and_true (not (T.grammar.stands w t)) (quiet_row T operator f r t) (rw l at y) in
              let e : T.grammar.stands w t ≡ false = not_true (T.grammar.stands w t) m.0 in
              i.2 t m.1 ∙ rw e refl,
          λ j a c. i.3 j a (less (level cost step s) (cost f r) (cost f (Then r Absent)) j (grows f r Absent) c.0, c.1.0),
        )
    kid_gone s f r (Optional d v ∷ ps) qs l k i =
        let P : List Constituent → Type 0 = λ p. ReadsRow s f (Then r Absent) p in
        subst P (some_is T operator leads fits_leads way ps qs k) (
          i.0,
          ap (feeds T s) (append-nil (spells r)) ∙ i.1,
          λ t y.
              let m = and_true (is_empty (T.start d t)) (quiet_row T operator f r t) (rw l at y) in
              let e : T.start d t ≡ [] = empty_of (T.start d t) m.0 in
              i.2 t m.1 ∙ rw e refl,
          λ j a c. i.3 j a (less (level cost step s) (cost f r) (cost f (Then r Absent)) j (grows f r Absent) c.0, c.1.0),
        )

    calm_parts : (f : Production) (r : Row) (x : Tree) → calm_row T operator f (Then r x) ≡ true → (calm_row T operator f r ≡ true) × (calm T operator x ≡ true) × (before T operator f r (spell x) ≡ true)
    calm_parts f r x h =
        let m = and_true (calm_row T operator f r) (calm T operator x && before T operator f r (spell x)) h in
        let n = and_true (calm T operator x) (before T operator f r (spell x)) m.1 in
        (m.0, n.0, n.1)

    before_head : (f : Production) (r : Row) (ts : List Lexeme) (t : Lexeme) (us : List Lexeme) → before T operator f r ts ≡ true → ts ≡ t ∷ us → quiet_row T operator f r t ≡ true
    before_head f r ts t us h e = rw e at h

    -- a production's first part
    first_word : (c : Nonterminal) (f : Production) (s : State) (g : Production) (r0 : Row) (ps0 : List Constituent) → Asks ps0 c → (u : Lexeme) (qs : List Constituent) → takes T.grammar (is T.grammar (Leaf u)) (T.grammar.rule f) (Leaf u) ≡ Some qs → T.grammar.guard c u ≡ true → Way T operator leads c f → feed T (item g r0 ps0 ∷ s) u ≡ feed T (item f Nil (T.grammar.rule f) ∷ item g r0 ps0 ∷ s) u
    first_word c f s g r0 ps0 a u qs k gu w =
        elim w [
          | by_word v ps e o st ↦
              let m = only_some (T.grammar.stands v u) _ qs (rw e at k) in
              feed_opens g r0 ps0 s c u f [] a (st u m.0 gu) ∙ rw e refl
          | by_operator d v ps e o x y ↦ let m = rw e at k in cc
          | by_part d ps e o st ↦ let m = rw e at k in cc
        ]

    first_down : (c d : Nonterminal) (f : Production) (ps qs : List Constituent) (s : State) (g : Production) (r0 : Row) (ps0 : List Constituent) (ts : List Lexeme) → Asks ps0 c → T.grammar.rule f ≡ Part d ∷ ps → ((t : Lexeme) (h : Production) (hs : List Production) → T.grammar.guard c t ≡ true → T.start d t ≡ h ∷ hs → T.start c t ≡ f ∷ h ∷ hs) → led T.grammar c ts ≡ true → Starts T operator leads d ts → (t : Lexeme) (us : List Lexeme) → ts ≡ t ∷ us → feed T (item g r0 ps0 ∷ s) t ≡ feed T (item f Nil (T.grammar.rule f) ∷ item g r0 ps0 ∷ s) t
    first_down c d f ps qs s g r0 ps0 ts a k st gu n t us e =
        let m : Starts T operator leads d (t ∷ us) = rw e at n in
        let v : T.grammar.guard c t ≡ true = rw e at gu in
        feed_opens g r0 ps0 s c t f (m.0 ∷ m.1) a (st t m.0 m.1 v m.2) ∙ rw k (sym (feed_opens f Nil (Part d ∷ ps) (item g r0 ps0 ∷ s) d t m.0 m.1 refl m.2))

    and_no : (b : Bool) → (b && false) ≡ false
    and_no true = refl
    and_no false = refl

    and_first : (b : Bool) → b ≡ false → (b && true) ≡ false
    and_first b h = rw h refl

    and_yes : (b : Bool) → b ≡ true → (b && true) ≡ true
    and_yes b h = rw h refl

    clear_operator : (b : Bool) (o : Option (List Constituent)) (d : Nonterminal) (w : Terminals) (ps : List Constituent) (x : Production) (t : Lexeme) (q : Bool) → b ≡ true → o ≡ Some (Part d ∷ Token w ∷ ps) → (clear T operator b o x t && q) ≡ true → (T.grammar.stands w t && q) ≡ true
    clear_operator b o d w ps x t q e k h = rw (e, k) at h

    -- an operator's left operand is read
    operand : (c d : Nonterminal) (w : Terminals) (ps : List Constituent) (f h : Production) (z : Row) (g : Production) (r0 : Row) (ps0 : List Constituent) (s : State) → Asks ps0 c → T.grammar.rule f ≡ Part d ∷ Token w ∷ ps → operator f ≡ true → T.grammar.fits d h z ≡ true → led T.grammar d (spells z) ≡ true → ((t : Lexeme) → T.grammar.stands w t ≡ true → T.wrap c h t ≡ Some f) → Reads (item g r0 ps0 ∷ s) (Node h z) → ReadsRow (item g r0 ps0 ∷ s) f (Then Nil (Node h z)) (Token w ∷ ps)
    operand c d w ps f h z g r0 ps0 s a k o ft gu b i = (
      i.0,
      i.1,
      λ t y.
          let m = and_true (T.grammar.stands w t) (quiet_row T operator h z t) (clear_operator (operator f && true) (Some (T.grammar.rule f)) d w ps h t (quiet_row T operator h z t) (and_yes (operator f) o) (ap Some k) y) in
          let st : T.grammar.stands w t ≡ true = m.0 in
          i.2 t m.1 ∙ put_wrap (λ y. complete T s y t) s g r0 ps0 c h z t f a (b t st) ∙ rw (k, ft, gu, st) refl,
      λ j q c. i.3 j q (lower cost step (Node h z) (level cost step (item g r0 ps0 ∷ s) + step f Nil) (level cost step (item g r0 ps0 ∷ s)) j (no_less (level cost step (item g r0 ps0 ∷ s)) (step f Nil)) c.1.1),
    )

    row : (x : Row) (f : Production) (qs : List Constituent) (g : Production) (r0 : Row) (ps0 : List Constituent) (s : State) (c : Nonterminal) → Asks ps0 c → leads c f ≡ true → left T.grammar f x ≡ Some qs → is_nil x ≡ false → led T.grammar c (spells x) ≡ true → calm_row T operator f x ≡ true → ReadsRow (item g r0 ps0 ∷ s) f x qs
    row Nil f qs g r0 ps0 s c a l e n gu k = cc
    row (Then Nil (Leaf u)) f qs g r0 ps0 s c a l e n gu k = kid_word (item g r0 ps0 ∷ s) f Nil (T.grammar.rule f) qs u (item g r0 ps0 ∷ s) e refl (first_word c f s g r0 ps0 a u qs e gu (way c f l))
    row (Then Nil Absent) f qs g r0 ps0 s c a l e n gu k =
        elim (way c f l) [
          | by_word w us k o s ↦ let m = rw k at e in cc
          | by_operator d w us k o a b ↦ let m = rw k at e in cc
          | by_part d us k o s ↦ let m = rw k at e in cc
        ]
    row (Then Nil (Node h z)) f qs g r0 ps0 s c a l e n gu k =
        let calm_z = (calm_parts f Nil (Node h z) k).1 in
        elim (way c f l) [
          | by_word w us k o st ↦ let m = rw k at e in cc
          | by_operator d w us ru o b wr ↦
              let m = sub_kid T operator leads fits_leads way d (Token w ∷ us) qs h z (rw ru at e) in
              let lh = b h m.2.0 in
              let P : List Constituent → Type 0 = λ p. ReadsRow (item g r0 ps0 ∷ s) f (Then Nil (Node h z)) p in
              subst P m.0 (operand c d w us f h z g r0 ps0 s a ru o m.1 m.2.2 (λ t st. wr h z t m.1 st) (row z h [] g r0 ps0 s c a lh m.2.1 (no_nil T operator leads fits_leads way z c h lh m.2.1) gu calm_z))
          | by_part d us ru o st ↦
              let m = sub_kid T operator leads fits_leads way d us qs h z (rw ru at e) in
              kid_node (item g r0 ps0 ∷ s) f Nil (T.grammar.rule f) qs h z (item g r0 ps0 ∷ s) refl (and_first (operator f) o) e refl
              (first_down c d f us qs s g r0 ps0 (spells z) a ru st gu (starts T operator leads fits_leads way (Node h z) d m.2))
              (λ d' a' i. row z h [] f Nil (T.grammar.rule f) (item g r0 ps0 ∷ s) d' a' i.0 i.1 (no_nil T operator leads fits_leads way z d' h i.0 i.1) i.2 calm_z)
        ]
    row (Then (Then r y) (Leaf u)) f qs g r0 ps0 s c a l e n gu k =
        let m = after_is (left T.grammar f (Then r y)) _ qs e in
        let p = calm_parts f (Then r y) (Leaf u) k in
        let i = row (Then r y) f m.0 g r0 ps0 s c a l m.1 refl (led_left T operator leads fits_leads way c (spells (Then r y)) (u ∷ []) gu) p.0 in
        kid_word (item g r0 ps0 ∷ s) f (Then r y) m.0 qs u i.0 m.2 i.1 (i.2 u p.2)
    row (Then (Then r y) (Node h z)) f qs g r0 ps0 s c a l e n gu k =
        let m = after_is (left T.grammar f (Then r y)) _ qs e in
        let p = calm_parts f (Then r y) (Node h z) k in
        let i = row (Then r y) f m.0 g r0 ps0 s c a l m.1 refl (led_left T operator leads fits_leads way c (spells (Then r y)) (spells z) gu) p.0 in
        kid_node (item g r0 ps0 ∷ s) f (Then r y) m.0 qs h z i.0 m.1 (and_no (operator f)) m.2 i.1
        (λ t us q. i.2 t (before_head f (Then r y) (spells z) t us p.2 q))
        (λ d' a' j. row z h [] f (Then r y) m.0 (item g r0 ps0 ∷ s) d' a' j.0 j.1 (no_nil T operator leads fits_leads way z d' h j.0 j.1) j.2 p.1)
    row (Then (Then r y) Absent) f qs g r0 ps0 s c a l e n gu k =
        let m = after_is (left T.grammar f (Then r y)) _ qs e in
        let p = calm_parts f (Then r y) Absent k in
        let i = row (Then r y) f m.0 g r0 ps0 s c a l m.1 refl (led_left T operator leads fits_leads way c (spells (Then r y)) [] gu) p.0 in
        kid_gone (item g r0 ps0 ∷ s) f (Then r y) m.0 qs m.1 m.2 i

    -- a calm tree is read, whatever waits below
    pub reads_tree : (f : Production) (r : Row) (g : Production) (r0 : Row) (ps0 : List Constituent) (s : State) (c : Nonterminal) → Asks ps0 c → IsIn T operator leads c (Node f r) → calm T operator (Node f r) ≡ true → Reads (item g r0 ps0 ∷ s) (Node f r)
    reads_tree f r g r0 ps0 s c a i k = row r f [] g r0 ps0 s c a i.0 i.1 (no_nil T operator leads fits_leads way r c f i.0 i.1) i.2 k

    -- a row with nothing in it asks for its production's first part
    asks_first : (d e : Nonterminal) (ps qs : List Constituent) → qs ≡ Part d ∷ ps → Asks qs e → d ≡ e
    asks_first d e ps qs k a = rw k at a

    abbrev Goes : State → List Lexeme → (State → Type 0) → Type 0
    Goes s ts B = (q : State) × (feeds T s ts ≡ Some q) × B q

    resume : (B : State → Type 0) (q a : State) (ts : List Lexeme) → ((t : Lexeme) (us : List Lexeme) → ts ≡ t ∷ us → feed T q t ≡ feed T a t) → B q → Goes a ts B → Goes q ts B
    resume B q a [] e b h = (q, refl, b)
    resume B q a (t ∷ ts) e b h = (h.0, rw (e t ts refl) h.1, h.2)

    abbrev Bound : State → Partial → State → Type 0
    Bound s p q = (n : ℕ) → Shallow cost step n s → LowPartial cost step (level cost step s) n p → Shallow cost step n q

    -- a production that ends with a lexeme of its own is read, and stands whole on top
    pub reads_closed : (f : Production) (r : Row) (y : Tree) (u : Lexeme) (qs : List Constituent) (g : Production) (r0 : Row) (ps0 : List Constituent) (s : State) (c : Nonterminal) → Asks ps0 c → leads c f ≡ true → led T.grammar c (spells (Then r y)) ≡ true → left T.grammar f (Then (Then r y) (Leaf u)) ≡ Some qs → calm_row T operator f (Then (Then r y) (Leaf u)) ≡ true → feeds T (item g r0 ps0 ∷ s) (spells (Then (Then r y) (Leaf u))) ≡ Some (item f (Then (Then r y) (Leaf u)) qs ∷ item g r0 ps0 ∷ s)
    reads_closed f r y u qs g r0 ps0 s c a l gu e k =
        let m = after_is (left T.grammar f (Then r y)) _ qs e in
        let p = calm_parts f (Then r y) (Leaf u) k in
        let i = row (Then r y) f m.0 g r0 ps0 s c a l m.1 refl gu p.0 in
        let z = kid_word (item g r0 ps0 ∷ s) f (Then r y) m.0 qs u i.0 m.2 i.1 (i.2 u p.2) in
        z.1 ∙ ap Some (kid_word_is (item g r0 ps0 ∷ s) f (Then r y) m.0 qs u i.0 m.2 i.1 (i.2 u p.2))

    module _ (may_leads : (c : Nonterminal) (f : Production) → T.grammar.may c f ≡ true → leads c f ≡ true) where
      part_down : (c d : Nonterminal) (f : Production) (ps : List Constituent) (s : State) (g : Production) (r0 : Row) (ps0 : List Constituent) (ts : List Lexeme) → Asks ps0 c → T.grammar.rule f ≡ Part d ∷ ps → ((t : Lexeme) (h : Production) (hs : List Production) → T.grammar.guard c t ≡ true → T.start d t ≡ h ∷ hs → T.start c t ≡ f ∷ h ∷ hs) → led T.grammar c ts ≡ true → MayStart T operator leads fits_leads way d ts → (t : Lexeme) (us : List Lexeme) → ts ≡ t ∷ us → feed T (item g r0 ps0 ∷ s) t ≡ feed T (item f Nil (T.grammar.rule f) ∷ item g r0 ps0 ∷ s) t
      part_down c d f ps s g r0 ps0 ts a k st gu n t us e = first_down c d f ps ps s g r0 ps0 (t ∷ us) a k st (rw e at gu) (rw e at n) t us refl

      calm_within : (f : Production) (r : Row) (p : Partial) → calm_partial T operator (Within f r p) ≡ true → (calm_row T operator f r ≡ true) × (calm_partial T operator p ≡ true) × (before T operator f r (begins p) ≡ true)
      calm_within f r p h =
          let m = and_true (calm_row T operator f r) (calm_partial T operator p && before T operator f r (begins p)) h in
          let n = and_true (calm_partial T operator p) (before T operator f r (begins p)) m.1 in
          (m.0, n.0, n.1)

      -- the tokens of a partial tree are taken, all of them
      partial : (p : Partial) (g : Production) (r0 : Row) (ps0 : List Constituent) (s : State) (c : Nonterminal) → Asks ps0 c → LeadsPartial T operator leads fits_leads way may_leads c p → calm_partial T operator p ≡ true → Goes (item g r0 ps0 ∷ s) (begins p) (Bound (item g r0 ps0 ∷ s) p)
      partial (Open f Nil) g r0 ps0 s c a h k = (item g r0 ps0 ∷ s, refl, λ n x y. x)
      partial (Open f (Then r x)) g r0 ps0 s c a h k =
          let m = stood T operator leads fits_leads way (left T.grammar f (Then r x)) h.2 in
          let i = row (Then r x) f m.0 g r0 ps0 s c a h.0 m.1 refl h.1 k in
          (i.0, i.1, i.3)
      partial (Within f (Then r x) p) g r0 ps0 s c a h k =
          let m = parted T operator leads fits_leads way (IsPartial T.grammar p) (left T.grammar f (Then r x)) h.2 in
          let n = calm_within f (Then r x) p k in
          let i = row (Then r x) f m.0 g r0 ps0 s c a h.0 m.2 refl (led_left T operator leads fits_leads way c (spells (Then r x)) (begins p) h.1) n.0 in
          let j = partial p f (Then r x) m.0 (item g r0 ps0 ∷ s) m.1 m.3 (leads_partial T operator leads fits_leads way may_leads m.1 p m.4) n.1 in
          let z = resume (λ q. (n : ℕ) → Shallow cost step n (item g r0 ps0 ∷ s) → LowPartial cost step (level cost step (item g r0 ps0 ∷ s)) n (Within f (Then r x) p) → Shallow cost step n q) i.0 (item f (Then r x) m.0 ∷ item g r0 ps0 ∷ s) (begins p) (λ t us e. i.2 t (before_head f (Then r x) (begins p) t us n.2 e)) (λ n y b. i.3 n y (b.0, b.1)) (j.0, j.1, λ n y b. j.2 n (b.0, b.1, y) b.2) in
          (z.0, feeds_append (spells (Then r x)) (begins p) _ i.0 i.1 ∙ z.1, z.2)
      partial (Within f Nil p) g r0 ps0 s c a h k =
          let n = calm_within f Nil p k in
          elim (way c f h.0) [
            | by_word w us k o s ↦ absurd (rw k at h.2)
            | by_operator d w us ru o ld b ↦
                let i : IsPartial T.grammar p d = rw ru at h.2 in
                let j = partial p g r0 ps0 s c a (weaker T operator leads fits_leads way may_leads d c p ld h.1 (leads_partial T operator leads fits_leads way may_leads d p i)) n.1 in
                (j.0, j.1, λ n y b. j.2 n y (lower_partial cost step p (level cost step (item g r0 ps0 ∷ s) + step f Nil) (level cost step (item g r0 ps0 ∷ s)) n (no_less (level cost step (item g r0 ps0 ∷ s)) (step f Nil)) b.2))
            | by_part d us ru o st ↦
                let i : IsPartial T.grammar p d = rw ru at h.2 in
                let asks : Asks (T.grammar.rule f) d = rw ru refl in
                let j = partial p f Nil (T.grammar.rule f) (item g r0 ps0 ∷ s) d asks (leads_partial T operator leads fits_leads way may_leads d p i) n.1 in
                resume (λ q. (n : ℕ) → Shallow cost step n (item g r0 ps0 ∷ s) → LowPartial cost step (level cost step (item g r0 ps0 ∷ s)) n (Within f Nil p) → Shallow cost step n q) (item g r0 ps0 ∷ s) (item f Nil (T.grammar.rule f) ∷ item g r0 ps0 ∷ s) (begins p)
                (part_down c d f us s g r0 ps0 (begins p) a ru st h.1 (partial_starts T operator leads fits_leads way may_leads p d (leads_partial T operator leads fits_leads way may_leads d p i)))
                (λ n y b. y)
                (j.0, j.1, λ n y b. j.2 n (b.0, b.1, y) b.2)
          ]

      pub reads_partial : (p : Partial) (g : Production) (r0 : Row) (ps0 : List Constituent) (s : State) (c : Nonterminal) → Asks ps0 c → IsPartial T.grammar p c → calm_partial T operator p ≡ true → Goes (item g r0 ps0 ∷ s) (begins p) (Bound (item g r0 ps0 ∷ s) p)
      reads_partial p g r0 ps0 s c a i k = partial p g r0 ps0 s c a (leads_partial T operator leads fits_leads way may_leads c p i) k
