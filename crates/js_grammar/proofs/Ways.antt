-- How a production begins where a nonterminal is wanted, and that each tree and partial tree begins with a lexeme at which it is opened.
use Rattle.std.proofs.Common.{◌≡◌, Bool, true, false, ◌&&◌, List, [], ◌∷◌, ◌++◌, Option, Some, None, refl, ap}
use Rattle.js_grammar.specs.declared.lexeme.Lexeme.{Lexeme}
use Rattle.js_grammar.specs.declared.constituents.Terminals.{Terminals}
use Rattle.js_grammar.specs.declared.symbols.Nonterminal.{Nonterminal}
use Rattle.js_grammar.specs.declared.constituents.Constituent.{Constituent}
use Rattle.js_grammar.specs.declared.constituents.Repetition.{Repetition}
use Rattle.js_grammar.specs.declared.constituents.Constituent.TheVariants.{Token, Part, Optional, Further}
use Rattle.js_grammar.specs.declared.symbols.Production.{Production}
use Rattle.js_grammar.specs.Grammar.{Tree, Leaf, Node, Absent, Row, Nil, Then, is, led, follow, over, left, takes, spell, spells, Partial, Open, Within, begins, IsPart, Stands, IsPartial}
use Rattle.js_grammar.specs.Machine.{Table}
use Rattle.js_grammar.proofs.Sound.{only_some, after_is, and_true}

abbrev pub is_none : {A : Type 0} → Option A → Bool
is_none None = true
is_none (Some x) = false

abbrev pub is_nil : Row → Bool
is_nil Nil = true
is_nil (Then r x) = false

abbrev pub is_empty : List Production → Bool
is_empty [] = true
is_empty (f ∷ fs) = false

abbrev pub Asks : List Constituent → Nonterminal → Type 0
Asks [] c = ⊥
Asks (Token w ∷ ps) c = ⊥
Asks (Part d ∷ ps) c = d ≡ c
Asks (Optional d k ∷ ps) c = d ≡ c
Asks (Further d w ∷ ps) c = ⊥

module _ (T : Table) (operator : Production → Bool) (leads : Nonterminal → Production → Bool) where
  -- how a production begins where a nonterminal is wanted
  pub data Way (c : Nonterminal) (f : Production) : Type 0 where
    by_word : (w : Terminals) (ps : List Constituent) → T.grammar.rule f ≡ Token w ∷ ps → operator f ≡ false → ((t : Lexeme) → T.grammar.stands w t ≡ true → T.grammar.guard c t ≡ true → T.start c t ≡ f ∷ []) → Way c f
    by_operator : (d : Nonterminal) (w : Terminals) (ps : List Constituent) → T.grammar.rule f ≡ Part d ∷ Token w ∷ ps → operator f ≡ true → ((h : Production) → leads d h ≡ true → leads c h ≡ true) → ((h : Production) (r : Row) (t : Lexeme) → T.grammar.fits d h r ≡ true → T.grammar.stands w t ≡ true → T.wrap c h t ≡ Some f) → Way c f
    by_part : (d : Nonterminal) (ps : List Constituent) → T.grammar.rule f ≡ Part d ∷ ps → operator f ≡ false → ((t : Lexeme) (h : Production) (hs : List Production) → T.grammar.guard c t ≡ true → T.start d t ≡ h ∷ hs → T.start c t ≡ f ∷ h ∷ hs) → Way c f

  -- the first lexeme of a list that has one
  abbrev pub Starts : Nonterminal → List Lexeme → Type 0
  Starts c [] = ⊥
  Starts c (t ∷ ts) = (h : Production) × (hs : List Production) × (T.start c t ≡ h ∷ hs)

  is_over : (o : Option (List Constituent)) → over T.grammar o ≡ true → o ≡ Some []
  is_over None h = cc
  is_over (Some []) h = refl
  is_over (Some (p ∷ ps)) h = cc

  pub starts_append : (c : Nonterminal) (a b : List Lexeme) → Starts c a → Starts c (a ++ b)
  starts_append c [] b h = elim h [ ]
  starts_append c (t ∷ a) b h = h

  abbrev pub IsIn : Nonterminal → Tree → Type 0
  IsIn c (Leaf t) = ⊥
  IsIn c (Node f r) = (leads c f ≡ true) × (left T.grammar f r ≡ Some []) × (led T.grammar c (spells r) ≡ true)
  IsIn c Absent = ⊥

  module _ (fits_leads : (c : Nonterminal) (h : Production) (r : Row) → T.grammar.fits c h r ≡ true → leads c h ≡ true) (way : (c : Nonterminal) (f : Production) → leads c f ≡ true → Way c f) where
    -- a node that is in a nonterminal
    is_in : (c : Nonterminal) (h : Production) (r : Row) → is T.grammar (Node h r) c ≡ true → (T.grammar.fits c h r ≡ true) × IsIn c (Node h r)
    is_in c h r e =
        let m = and_true (T.grammar.fits c h r && led T.grammar c (spells r)) (over T.grammar (left T.grammar h r)) e in
        let n = and_true (T.grammar.fits c h r) (led T.grammar c (spells r)) m.0 in
        (n.0, (fits_leads c h r n.0, is_over (left T.grammar h r) m.1, n.1))

    pub some_is : (a b : List Constituent) → Some a ≡ Some b → a ≡ b
    some_is a b h = cc

    -- the parts after a tree
    pub sub_kid : (d : Nonterminal) (ps qs : List Constituent) (h : Production) (r : Row) → takes T.grammar (is T.grammar (Node h r)) (Part d ∷ ps) (Node h r) ≡ Some qs → (ps ≡ qs) × (T.grammar.fits d h r ≡ true) × IsIn d (Node h r)
    sub_kid d ps qs h r e =
        let m = only_some (is T.grammar (Node h r) d) _ qs e in
        let n = is_in d h r m.0 in
        (some_is ps qs m.1, n.0, n.1)

    pub optional_kid : (d : Nonterminal) (k : Repetition) (ps qs : List Constituent) (h : Production) (r : Row) → takes T.grammar (is T.grammar (Node h r)) (Optional d k ∷ ps) (Node h r) ≡ Some qs → (follow (T.grammar.ends h) d k ps ≡ qs) × (T.grammar.fits d h r ≡ true) × IsIn d (Node h r)
    optional_kid d k ps qs h r e =
        let m = only_some (is T.grammar (Node h r) d) _ qs e in
        let n = is_in d h r m.0 in
        (some_is (follow (T.grammar.ends h) d k ps) qs m.1, n.0, n.1)

    pub led_left : (c : Nonterminal) (a b : List Lexeme) → led T.grammar c (a ++ b) ≡ true → led T.grammar c a ≡ true
    led_left c [] b h = refl
    led_left c (t ∷ a) b h = h

    pub no_nil : (r : Row) (c : Nonterminal) (f : Production) → leads c f ≡ true → left T.grammar f r ≡ Some [] → is_nil r ≡ false
    no_nil Nil c f l e =
        elim (way c f l) [
          | by_word w ps k o s ↦ let m : Some (T.grammar.rule f) ≡ Some (Token w ∷ ps) = ap Some k in cc
          | by_operator d w ps k o a b ↦ let m : Some (T.grammar.rule f) ≡ Some (Part d ∷ Token w ∷ ps) = ap Some k in cc
          | by_part d ps k o s ↦ let m : Some (T.grammar.rule f) ≡ Some (Part d ∷ ps) = ap Some k in cc
        ]
    no_nil (Then r x) c f l e = refl

    starts_leaf : (t : Lexeme) (c : Nonterminal) (f : Production) (ps qs : List Constituent) → T.grammar.rule f ≡ ps → takes T.grammar (is T.grammar (Leaf t)) ps (Leaf t) ≡ Some qs → T.grammar.guard c t ≡ true → Way c f → Starts c (t ∷ [])
    starts_leaf t c f [] qs k e g w = cc
    starts_leaf t c f (Part d ∷ ps) qs k e g w = cc
    starts_leaf t c f (Optional d v ∷ ps) qs k e g w = cc
    starts_leaf t c f (Further d v ∷ ps) qs k e g w =
        elim w [
          | by_word u us k2 o s ↦ cc
          | by_operator d u us k2 o a b ↦ cc
          | by_part d us k2 o s ↦ cc
        ]
    starts_leaf t c f (Token v ∷ ps) qs k e g w =
        let m = only_some (T.grammar.stands v t) _ qs e in
        elim w [
          | by_word u us k2 o s ↦ let same : v ≡ u = cc in let stands : T.grammar.stands u t ≡ true = rw (← same) m.0 in (f, [], s t stands g)
          | by_operator d u us k2 o a b ↦ cc
          | by_part d us k2 o s ↦ cc
        ]

    starts_down : (d c : Nonterminal) (f : Production) (ts : List Lexeme) → ((t : Lexeme) (h : Production) (hs : List Production) → T.grammar.guard c t ≡ true → T.start d t ≡ h ∷ hs → T.start c t ≡ f ∷ h ∷ hs) → led T.grammar c ts ≡ true → Starts d ts → Starts c ts
    starts_down d c f [] s g h = elim h [ ]
    starts_down d c f (t ∷ ts) s g h = (f, h.0 ∷ h.1, s t h.0 h.1 g h.2)

    pub starts_row : (r : Row) (c : Nonterminal) (f : Production) (ps : List Constituent) → leads c f ≡ true → left T.grammar f r ≡ Some ps → is_nil r ≡ false → led T.grammar c (spells r) ≡ true → Starts c (spells r)
    starts_row Nil c f ps l e n g = cc
    starts_row (Then (Then r y) x) c f ps l e n g =
        let m = after_is (left T.grammar f (Then r y)) _ ps e in
        starts_append c (spells (Then r y)) (spell x) (starts_row (Then r y) c f m.0 l m.1 refl (led_left c (spells (Then r y)) (spell x) g))
    starts_row (Then Nil (Leaf t)) c f ps l e n g = starts_leaf t c f (T.grammar.rule f) ps refl e g (way c f l)
    starts_row (Then Nil Absent) c f ps l e n g =
        elim (way c f l) [
          | by_word w us k o s ↦ let m = rw k at e in cc
          | by_operator d w us k o a b ↦ let m = rw k at e in cc
          | by_part d us k o s ↦ let m = rw k at e in cc
        ]
    starts_row (Then Nil (Node h r)) c f ps l e n g =
        elim (way c f l) [
          | by_word w us k o s ↦ let m = rw k at e in cc
          | by_operator d w us k o a b ↦
              let m = rw k at e in
              let i = sub_kid d (Token w ∷ us) ps h r m in
              let q = a h i.2.0 in
              starts_row r c h [] q i.2.1 (no_nil r c h q i.2.1) g
          | by_part d us k o s ↦
              let m = rw k at e in
              let i = sub_kid d us ps h r m in
              starts_down d c f (spells r) s g (starts_row r d h [] i.2.0 i.2.1 (no_nil r d h i.2.0 i.2.1) i.2.2)
        ]

    pub starts : (x : Tree) (c : Nonterminal) → IsIn c x → Starts c (spell x)
    starts (Leaf t) c i = elim i [ ]
    starts (Node f r) c i = starts_row r c f [] i.0 i.1 (no_nil r c f i.0 i.1) i.2
    starts Absent c i = elim i [ ]

    -- nothing, or a lexeme that begins a tree of the nonterminal
    abbrev pub MayStart : Nonterminal → List Lexeme → Type 0
    MayStart c [] = Unit {0}
    MayStart c (t ∷ ts) = (h : Production) × (hs : List Production) × (T.start c t ≡ h ∷ hs)

    may_start : (c : Nonterminal) (ts : List Lexeme) → Starts c ts → MayStart c ts
    may_start c [] h = tt
    may_start c (t ∷ ts) h = h

    may_append : (c : Nonterminal) (a b : List Lexeme) → Starts c a → MayStart c (a ++ b)
    may_append c [] b h = elim h [ ]
    may_append c (t ∷ a) b h = h

    may_down : (d c : Nonterminal) (f : Production) (ts : List Lexeme) → led T.grammar c ts ≡ true → ((t : Lexeme) (h : Production) (hs : List Production) → T.grammar.guard c t ≡ true → T.start d t ≡ h ∷ hs → T.start c t ≡ f ∷ h ∷ hs) → MayStart d ts → MayStart c ts
    may_down d c f [] g s h = tt
    may_down d c f (t ∷ ts) g s h = (f, h.0 ∷ h.1, s t h.0 h.1 g h.2)

    pub stood : (o : Option (List Constituent)) → Stands T.grammar o → (ps : List Constituent) × (o ≡ Some ps)
    stood None h = elim h [ ]
    stood (Some ps) h = (ps, refl)

    -- the part that comes next
    pub parted : (P : Nonterminal → Type 0) (o : Option (List Constituent)) → IsPart T.grammar P o → (ps : List Constituent) × (d : Nonterminal) × (o ≡ Some ps) × Asks ps d × P d
    parted P None h = elim h [ ]
    parted P (Some []) h = elim h [ ]
    parted P (Some (Token w ∷ ps)) h = elim h [ ]
    parted P (Some (Part d ∷ ps)) h = (Part d ∷ ps, d, refl, refl, h)
    parted P (Some (Optional d k ∷ ps)) h = (Optional d k ∷ ps, d, refl, refl, h)
    parted P (Some (Further d w ∷ ps)) h = elim h [ ]

    module _ (may_leads : (c : Nonterminal) (f : Production) → T.grammar.may c f ≡ true → leads c f ≡ true) where
      abbrev pub LeadsPartial : Nonterminal → Partial → Type 0
      LeadsPartial c (Open f r) = (leads c f ≡ true) × (led T.grammar c (spells r) ≡ true) × Stands T.grammar (left T.grammar f r)
      LeadsPartial c (Within f r p) = (leads c f ≡ true) × (led T.grammar c (spells r ++ begins p) ≡ true) × IsPart T.grammar (IsPartial T.grammar p) (left T.grammar f r)

      pub leads_partial : (c : Nonterminal) (p : Partial) → IsPartial T.grammar p c → LeadsPartial c p
      leads_partial c (Open f r) h = (may_leads c f h.0, h.1, h.2)
      leads_partial c (Within f r p) h = (may_leads c f h.0, h.1, h.2)

      pub weaker : (d c : Nonterminal) (p : Partial) → ((h : Production) → leads d h ≡ true → leads c h ≡ true) → led T.grammar c (begins p) ≡ true → LeadsPartial d p → LeadsPartial c p
      weaker d c (Open f r) a g h = (a f h.0, g, h.2)
      weaker d c (Within f r p) a g h = (a f h.0, g, h.2)

      pub partial_starts : (p : Partial) (c : Nonterminal) → LeadsPartial c p → MayStart c (begins p)
      partial_starts (Open f Nil) c h = tt
      partial_starts (Open f (Then r x)) c h =
          let m = stood (left T.grammar f (Then r x)) h.2 in
          may_start c (spells (Then r x)) (starts_row (Then r x) c f m.0 h.0 m.1 refl h.1)
      partial_starts (Within f (Then r x) p) c h =
          let m = parted (IsPartial T.grammar p) (left T.grammar f (Then r x)) h.2 in
          may_append c (spells (Then r x)) (begins p) (starts_row (Then r x) c f m.0 h.0 m.2 refl (led_left c (spells (Then r x)) (begins p) h.1))
      partial_starts (Within f Nil p) c h =
          elim (way c f h.0) [
            | by_word w us k o s ↦ absurd (rw k at h.2)
            | by_operator d w us k o a b ↦
                let i : IsPartial T.grammar p d = rw k at h.2 in
                partial_starts p c (weaker d c p a h.1 (leads_partial d p i))
            | by_part d us k o s ↦
                let i : IsPartial T.grammar p d = rw k at h.2 in
                may_down d c f (begins p) h.1 s (partial_starts p d (leads_partial d p i))
          ]
