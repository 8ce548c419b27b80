-- What the reader has taken in is what its open productions spell, and each of them is a beginning of its rule.
use Rattle.std.proofs.Common.{◌≡◌, Bool, true, false, ◌&&◌, List, [], ◌∷◌, ◌++◌, Option, Some, None, refl, sym, ap, subst, ◌∙◌, append_assoc}
use Rattle.std.proofs.lemmas.List.{append-nil}
use Rattle.js_grammar.specs.declared.lexeme.Lexeme.{Lexeme}
use Rattle.js_grammar.specs.declared.symbols.Nonterminal.{Nonterminal}
use Rattle.js_grammar.specs.declared.constituents.Repetition.{Repetition}
use Rattle.js_grammar.specs.declared.constituents.Repetition.TheVariants.{Listed}
use Rattle.js_grammar.specs.declared.constituents.Constituent.{Constituent}
use Rattle.js_grammar.specs.declared.constituents.Constituent.TheVariants.{Token, Part, Optional, Further}
use Rattle.js_grammar.specs.declared.symbols.Production.{Production}
use Rattle.js_grammar.specs.Grammar.{Tree, Leaf, Node, Absent, Row, Nil, Then, is, fit, led, after, only_if, follow, left, takes, spells, Partial, Open, Within, begins, IsPart, Stands, IsPartial, HasPartial}
use Rattle.js_grammar.specs.Machine.{Item, State, Table, item, begun, opened, or_else, choose, onward, wrapped, joined, placed, put, complete, feed, feeds}

pub only_some : {A : Type 0} (b : Bool) (x : Option A) (q : A) → only_if b x ≡ Some q → (b ≡ true) × (x ≡ Some q)
only_some true x q h = (refl, h)
only_some false x q h = cc

pub after_is : {A : Type 0} (o : Option A) (go : A → Option A) (q : A) → after o go ≡ Some q → (p : A) × (o ≡ Some p) × (go p ≡ Some q)
after_is None go q h = cc
after_is (Some p) go q h = (p, refl, h)

pub and_true : (a b : Bool) → (a && b) ≡ true → (a ≡ true) × (b ≡ true)
and_true true b h = (refl, h)
and_true false b h = cc

-- what the open productions spell
abbrev pub held : State → List Lexeme
held [] = []
held (i ∷ s) = held s ++ spells i.done

module _ (T : Table) (root : Production) where
  -- the tokens, whatever follows them, begin as the nonterminal may
  abbrev pub Sure : Nonterminal → List Lexeme → Type 0
  Sure c ts = (us : List Lexeme) → led T.grammar c (ts ++ us) ≡ true

  -- the part that comes next may be this production, which begins with these tokens
  abbrev pub Asked : List Constituent → Production → List Lexeme → Type 0
  Asked [] f ts = ⊥
  Asked (Token w ∷ ps) f ts = ⊥
  Asked (Part c ∷ ps) f ts = (T.grammar.may c f ≡ true) × Sure c ts
  Asked (Optional c k ∷ ps) f ts = (T.grammar.may c f ≡ true) × Sure c ts
  Asked (Further c w ∷ ps) f ts = ⊥

  abbrev pub Below : State → Production → List Lexeme → Type 0
  Below [] f ts = f ≡ root
  Below (i ∷ s) f ts = Asked i.rest f ts

  -- each open production is a beginning of its rule, and stands where the one below asks for it; the tokens stand above
  abbrev pub Fine : State → List Lexeme → Type 0
  Fine [] ts = Unit {0}
  Fine (i ∷ s) ts = (left T.grammar i.production i.done ≡ Some i.rest) × Below s i.production (spells i.done ++ ts) × Fine s (spells i.done ++ ts)

  abbrev pub Opens : State → List Production → Lexeme → Type 0
  Opens s [] t = Unit {0}
  Opens s (f ∷ []) t = Below s f (t ∷ [])
  Opens s (f ∷ k ∷ fs) t = Below s f (t ∷ []) × Opens (item f Nil (T.grammar.rule f) ∷ s) (k ∷ fs) t

  abbrev pub Comes : State → List Lexeme → Type 0
  Comes q ts = Fine q [] × (held q ≡ ts)

  pub sure_one : (c : Nonterminal) (t : Lexeme) → T.grammar.guard c t ≡ true → Sure c (t ∷ [])
  sure_one c t h us = h

  pub sure_more : (c : Nonterminal) (ts vs : List Lexeme) → Sure c ts → Sure c (ts ++ vs)
  sure_more c ts vs h us = let P : List Lexeme → Type 0 = λ x. led T.grammar c x ≡ true in subst P (sym (append_assoc ts vs us)) (h (vs ++ us))

  pub asked_more : (ps : List Constituent) (f : Production) (ts vs : List Lexeme) → Asked ps f ts → Asked ps f (ts ++ vs)
  asked_more [] f ts vs h = h
  asked_more (Token w ∷ ps) f ts vs h = h
  asked_more (Part c ∷ ps) f ts vs h = (h.0, sure_more c ts vs h.1)
  asked_more (Optional c k ∷ ps) f ts vs h = (h.0, sure_more c ts vs h.1)
  asked_more (Further c w ∷ ps) f ts vs h = h

  pub below_more : (s : State) (f : Production) (ts vs : List Lexeme) → Below s f ts → Below s f (ts ++ vs)
  below_more [] f ts vs h = h
  below_more (i ∷ s) f ts vs h = asked_more i.rest f ts vs h

  fine_more : (s : State) (ts vs : List Lexeme) → Fine s ts → Fine s (ts ++ vs)
  fine_more [] ts vs h = tt
  fine_more (i ∷ s) ts vs h =
      let e = append_assoc (spells i.done) ts vs in
      let P : List Lexeme → Type 0 = λ x. Below s i.production x in
      let Q : List Lexeme → Type 0 = λ x. Fine s x in
      (h.0, subst P e (below_more s i.production (spells i.done ++ ts) vs h.1), subst Q e (fine_more s (spells i.done ++ ts) vs h.2))

  -- the state with nothing above it, and the item's own tokens
  fine_nil : (s : State) (ts : List Lexeme) → Fine s ts → Fine s (ts ++ [])
  fine_nil s ts h = let P : List Lexeme → Type 0 = λ x. Fine s x in subst P (sym (append-nil ts)) h

  below_nil : (s : State) (f : Production) (ts : List Lexeme) → Below s f ts → Below s f (ts ++ [])
  below_nil s f ts h = let P : List Lexeme → Type 0 = λ x. Below s f x in subst P (sym (append-nil ts)) h

  made : (f : Production) (r : Row) (ps : List Constituent) (s : State) → left T.grammar f r ≡ Some ps → Below s f (spells r) → Fine s (spells r) → Fine (item f r ps ∷ s) []
  made f r ps s e b i = (e, below_nil s f (spells r) b, fine_nil s (spells r) i)

  abbrev pub Whole : Tree → Type 0
  Whole (Leaf t) = ⊥
  Whole (Node f r) = left T.grammar f r ≡ Some []
  Whole Absent = ⊥

  pub is_fit : (c : Nonterminal) (f : Production) (r : Row) → Whole (Node f r) → fit T.grammar c (Node f r) ≡ true → is T.grammar (Node f r) c ≡ true
  is_fit c f r w h = rw (h, w) refl

  pub left_then : (f : Production) (r : Row) (x : Tree) (ps qs : List Constituent) → left T.grammar f r ≡ Some ps → takes T.grammar (is T.grammar x) ps x ≡ Some qs → left T.grammar f (Then r x) ≡ Some qs
  left_then f r x ps qs h k = rw h k

  pub takes_sub : (c : Nonterminal) (ps : List Constituent) (f : Production) (r : Row) → Whole (Node f r) → fit T.grammar c (Node f r) ≡ true → takes T.grammar (is T.grammar (Node f r)) (Part c ∷ ps) (Node f r) ≡ Some ps
  takes_sub c ps f r w h = rw (is_fit c f r w h) refl

  pub takes_optional : (c : Nonterminal) (k : Repetition) (ps : List Constituent) (f : Production) (r : Row) → Whole (Node f r) → fit T.grammar c (Node f r) ≡ true → takes T.grammar (is T.grammar (Node f r)) (Optional c k ∷ ps) (Node f r) ≡ Some (follow (T.grammar.ends f) c k ps)
  takes_optional c k ps f r w h = rw (is_fit c f r w h) refl

  same : (a q : State) (ts : List Lexeme) → Some a ≡ Some q → Comes a ts → Comes q ts
  same a q ts h c = let e : a ≡ q = cc in let P : State → Type 0 = λ x. Comes x ts in subst P e c

  along : (q : State) {a b : List Lexeme} → Comes q a → a ≡ b → Comes q b
  along q c e = (c.0, c.1 ∙ e)

  module _ (start_opens : (c : Nonterminal) (t : Lexeme) (s : State) → ((f : Production) → T.grammar.may c f ≡ true → T.grammar.guard c t ≡ true → Below s f (t ∷ [])) → Opens s (T.start c t) t) (wrap_may : (c : Nonterminal) (h : Production) (t : Lexeme) (f : Production) → T.wrap c h t ≡ Some f → T.grammar.may c f ≡ true) where
    begun_comes : (f : Production) (ps : List Constituent) (s : State) (t : Lexeme) (q : State) → Fine s (t ∷ []) → Below s f (t ∷ []) → T.grammar.rule f ≡ ps → begun T f ps s t ≡ Some q → Comes q (held s ++ t ∷ [])
    begun_comes f [] s t q i b e h = cc
    begun_comes f (Part c ∷ ps) s t q i b e h = cc
    begun_comes f (Optional c k ∷ ps) s t q i b e h = cc
    begun_comes f (Further c w ∷ ps) s t q i b e h = cc
    begun_comes f (Token w ∷ ps) s t q i b e h =
        let k = only_some (T.grammar.stands w t) _ q h in
        same _ q _ k.1 (made f (Then Nil (Leaf t)) ps s (left_then f Nil (Leaf t) (Token w ∷ ps) ps (ap Some e) (rw k.0 refl)) b i, refl)

    opened_comes : (fs : List Production) (s : State) (t : Lexeme) (q : State) → Fine s (t ∷ []) → Opens s fs t → opened T fs s t ≡ Some q → Comes q (held s ++ t ∷ [])
    opened_comes [] s t q i o h = cc
    opened_comes (f ∷ []) s t q i o h = begun_comes f (T.grammar.rule f) s t q i o refl h
    opened_comes (f ∷ k ∷ fs) s t q i o h = along q (opened_comes (k ∷ fs) (item f Nil (T.grammar.rule f) ∷ s) t q (refl, o.0, i) o.1 h) (ap (λ x. x ++ t ∷ []) (append-nil (held s)))

    or_else_comes : (fs : List Production) (a b : Option State) (q : State) (ts : List Lexeme) → (a ≡ Some q → Comes q ts) → (b ≡ Some q → Comes q ts) → or_else fs a b ≡ Some q → Comes q ts
    or_else_comes [] a b q ts x y h = x h
    or_else_comes (f ∷ fs) a b q ts x y h = y h

    choose_comes : (b : Bool) (x y : Option State) (q : State) (ts : List Lexeme) → (b ≡ true → x ≡ Some q → Comes q ts) → (y ≡ Some q → Comes q ts) → choose b x y ≡ Some q → Comes q ts
    choose_comes true x y q ts g k h = g refl h
    choose_comes false x y q ts g k h = k h

    -- a whole tree to the right of the open productions comes to a state that holds it and the lexeme
    abbrev pub Ends : State → Lexeme → (Tree → Option State) → Type 0
    Ends s t ended = (f : Production) (r : Row) (q : State) → left T.grammar f r ≡ Some [] → Below s f (spells r) → Fine s (spells r) → ended (Node f r) ≡ Some q → Comes q (held s ++ spells r ++ t ∷ [])

    -- the part that is wanted begins with the lexeme
    asked_one : (c : Nonterminal) (t : Lexeme) (f : Production) → T.grammar.may c f ≡ true → T.grammar.guard c t ≡ true → (T.grammar.may c f ≡ true) × Sure c (t ∷ [])
    asked_one c t f m g = (m, sure_one c t g)

    fine_one : (s : State) (t : Lexeme) → Fine s [] → Fine s (t ∷ [])
    fine_one s t i = fine_more s [] (t ∷ []) i

    onward_comes : (ended : Tree → Option State) (s : State) (f : Production) (r : Row) (ps : List Constituent) (t : Lexeme) (q : State) → Ends s t ended → Fine s (spells r) → Below s f (spells r) → left T.grammar f r ≡ Some ps → onward T ended s f r ps t ≡ Some q → Comes q (held s ++ spells r ++ t ∷ [])
    onward_comes ended s f r [] t q n i b e h = n f r q e b i h
    onward_comes ended s f r (Token w ∷ ps) t q n i b e h =
        let k = only_some (T.grammar.stands w t) _ q h in
        same _ q _ k.1 (made f (Then r (Leaf t)) ps s (left_then f r (Leaf t) (Token w ∷ ps) ps e (rw k.0 refl)) (below_more s f (spells r) (t ∷ []) b) (fine_more s (spells r) (t ∷ []) i), sym (append_assoc (held s) (spells r) (t ∷ [])))
    onward_comes ended s f r (Part c ∷ ps) t q n i b e h = opened_comes (T.start c t) (item f r (Part c ∷ ps) ∷ s) t q (fine_one (item f r (Part c ∷ ps) ∷ s) t (made f r (Part c ∷ ps) s e b i)) (start_opens c t (item f r (Part c ∷ ps) ∷ s) (λ a m g. asked_one c t a m g)) h
    onward_comes ended s f r (Optional c u ∷ ps) t q n i b e h =
        or_else_comes (T.start c t) _ _ q _
        (λ k. along q (onward_comes ended s f (Then r Absent) ps t q n (fine_nil s (spells r) i) (below_nil s f (spells r) b) (left_then f r Absent (Optional c u ∷ ps) ps e refl) k) (ap (λ x. held s ++ x ++ t ∷ []) (append-nil (spells r))))
        (λ k. opened_comes (T.start c t) (item f r (Optional c u ∷ ps) ∷ s) t q (fine_one (item f r (Optional c u ∷ ps) ∷ s) t (made f r (Optional c u ∷ ps) s e b i)) (start_opens c t (item f r (Optional c u ∷ ps) ∷ s) (λ a m g. asked_one c t a m g)) k)
        h
    onward_comes ended s f r (Further c w ∷ ps) t q n i b e h =
        choose_comes (T.grammar.stands w t) _ _ q _
        (λ y k. same _ q _ k (made f (Then r (Leaf t)) (Optional c (Listed w) ∷ ps) s (left_then f r (Leaf t) (Further c w ∷ ps) (Optional c (Listed w) ∷ ps) e (rw y refl)) (below_more s f (spells r) (t ∷ []) b) (fine_more s (spells r) (t ∷ []) i), sym (append_assoc (held s) (spells r) (t ∷ []))))
        (λ k. along q (onward_comes ended s f (Then r Absent) ps t q n (fine_nil s (spells r) i) (below_nil s f (spells r) b) (left_then f r Absent (Further c w ∷ ps) ps e refl) k) (ap (λ x. held s ++ x ++ t ∷ []) (append-nil (spells r))))
        h

    -- the part that is wanted may be the production too
    asked_too : (all : List Constituent) (c : Nonterminal) (h f : Production) (ts : List Lexeme) → ((a : Production) (us : List Lexeme) → T.grammar.may c a ≡ true → Sure c us → Asked all a us) → T.grammar.may c f ≡ true → Sure c ts → Asked all f ts
    asked_too all c h f ts k m g = k f ts m g

    wrapped_comes : (f : Production) (ps : List Constituent) (s : State) (h : Production) (r : Row) (t : Lexeme) (q : State) → Fine s (spells r) → Below s f (spells r) → left T.grammar h r ≡ Some [] → T.grammar.rule f ≡ ps → wrapped T f ps s (Node h r) t ≡ Some q → Comes q (held s ++ spells r ++ t ∷ [])
    wrapped_comes f [] s x r t q i b w e h = cc
    wrapped_comes f (Token a ∷ ps) s x r t q i b w e h = cc
    wrapped_comes f (Optional a k ∷ ps) s x r t q i b w e h = cc
    wrapped_comes f (Further a k ∷ ps) s x r t q i b w e h = cc
    wrapped_comes f (Part c ∷ []) s x r t q i b w e h = cc
    wrapped_comes f (Part c ∷ Part d ∷ ps) s x r t q i b w e h = cc
    wrapped_comes f (Part c ∷ Optional d k ∷ ps) s x r t q i b w e h = cc
    wrapped_comes f (Part c ∷ Further d k ∷ ps) s x r t q i b w e h = cc
    wrapped_comes f (Part c ∷ Token a ∷ ps) s x r t q i b w e h =
        let k = only_some (fit T.grammar c (Node x r)) _ q h in
        let m = only_some (T.grammar.stands a t) _ q k.1 in
        let one = left_then f Nil (Node x r) (Part c ∷ Token a ∷ ps) (Token a ∷ ps) (ap Some e) (takes_sub c (Token a ∷ ps) x r w k.0) in
        same _ q _ m.1 (made f (Then (Then Nil (Node x r)) (Leaf t)) ps s (left_then f (Then Nil (Node x r)) (Leaf t) (Token a ∷ ps) ps one (rw m.0 refl)) (below_more s f (spells r) (t ∷ []) b) (fine_more s (spells r) (t ∷ []) i), sym (append_assoc (held s) (spells r) (t ∷ [])))

    joined_comes : (o : Option Production) (a : Option State) (w : Production → Option State) (q : State) (ts : List Lexeme) → (a ≡ Some q → Comes q ts) → ((f : Production) → o ≡ Some f → w f ≡ Some q → Comes q ts) → joined o a w ≡ Some q → Comes q ts
    joined_comes None a w q ts x y h = x h
    joined_comes (Some f) a w q ts x y h = y f refl h

    regroup : (a b c : List Lexeme) (t : Lexeme) → a ++ (b ++ c) ++ t ∷ [] ≡ (a ++ b) ++ c ++ t ∷ []
    regroup a b c t = simp append_assoc

    placed_comes : (ended : Tree → Option State) (s : State) (f : Production) (r : Row) (c : Nonterminal) (all ps : List Constituent) (h : Production) (x : Row) (t : Lexeme) (q : State) → Ends s t ended → Fine s (spells r ++ spells x) → Below s f (spells r ++ spells x) → left T.grammar f r ≡ Some all → (fit T.grammar c (Node h x) ≡ true → takes T.grammar (is T.grammar (Node h x)) all (Node h x) ≡ Some ps) → placed T ended s f r c all ps (Node h x) t ≡ Some q → Comes q ((held s ++ spells r) ++ spells x ++ t ∷ [])
    placed_comes ended s f r c all ps h x t q n i b e k m =
        let u = only_some (fit T.grammar c (Node h x)) _ q m in
        along q (onward_comes ended s f (Then r (Node h x)) ps t q n i b (left_then f r (Node h x) all ps e (k u.0)) u.1) (regroup (held s) (spells r) (spells x) t)

    put_comes : (ended : Tree → Option State) (s : State) (f : Production) (r : Row) (ps : List Constituent) (h : Production) (x : Row) (t : Lexeme) (q : State) → Ends s t ended → Fine s (spells r ++ spells x) → Below s f (spells r ++ spells x) → Fine (item f r ps ∷ s) (spells x) → Asked ps h (spells x) → left T.grammar h x ≡ Some [] → put T ended s f r ps (Node h x) t ≡ Some q → Comes q ((held s ++ spells r) ++ spells x ++ t ∷ [])
    put_comes ended s f r [] h x t q n i b g a w m = cc
    put_comes ended s f r (Token v ∷ ps) h x t q n i b g a w m = cc
    put_comes ended s f r (Further c v ∷ ps) h x t q n i b g a w m = cc
    put_comes ended s f r (Part c ∷ ps) h x t q n i b g a w m =
        joined_comes (T.wrap c h t) _ _ q _
        (λ k. placed_comes ended s f r c (Part c ∷ ps) ps h x t q n i b g.0 (takes_sub c ps h x w) k)
        (λ u o k. wrapped_comes u (T.grammar.rule u) (item f r (Part c ∷ ps) ∷ s) h x t q g (wrap_may c h t u o, a.1) w refl k)
        m
    put_comes ended s f r (Optional c v ∷ ps) h x t q n i b g a w m =
        joined_comes (T.wrap c h t) _ _ q _
        (λ k. placed_comes ended s f r c (Optional c v ∷ ps) (follow (T.grammar.ends h) c v ps) h x t q n i b g.0 (takes_optional c v ps h x w) k)
        (λ u o k. wrapped_comes u (T.grammar.rule u) (item f r (Optional c v ∷ ps) ∷ s) h x t q g (wrap_may c h t u o, a.1) w refl k)
        m

    pub complete_comes : (s : State) (t : Lexeme) → Ends s t (λ x. complete T s x t)
    complete_comes [] t h x q w b i m = cc
    complete_comes (k ∷ s) t h x q w b i m = put_comes (λ y. complete T s y t) s k.production k.done k.rest h x t q (complete_comes s t) i.2 i.1 i b w m

    pub fine_own : (k : Item) (s : State) → Fine (k ∷ s) [] → Below s k.production (spells k.done) × Fine s (spells k.done)
    fine_own k s i =
        let e = append-nil (spells k.done) in
        let P : List Lexeme → Type 0 = λ x. Below s k.production x in
        let Q : List Lexeme → Type 0 = λ x. Fine s x in
        (subst P e i.1, subst Q e i.2)

    pub feed_comes : (s : State) (t : Lexeme) (q : State) → Fine s [] → feed T s t ≡ Some q → Comes q (held s ++ t ∷ [])
    feed_comes [] t q i h = cc
    feed_comes (k ∷ s) t q i h =
        let o = fine_own k s i in
        onward_comes (λ y. complete T s y t) s k.production k.done k.rest t q (complete_comes s t) o.1 o.0 i.0 h

    pub feeds_comes : (ts : List Lexeme) (s q : State) → Fine s [] → feeds T s ts ≡ Some q → Comes q (held s ++ ts)
    feeds_comes [] s q i h = same s q _ h (i, sym (append-nil (held s)))
    feeds_comes (t ∷ ts) s q i h =
        let m = after_is (feed T s t) _ q h in
        let v = feed_comes s t m.0 i m.1 in
        along q (feeds_comes ts m.0 q v.0 m.2) (ap (λ x. x ++ ts) v.1 ∙ append_assoc (held s) (t ∷ []) ts)

    -- the open productions, from the outermost to the innermost, are a partial tree
    abbrev pub zip : State → Partial → Partial
    zip [] p = p
    zip (i ∷ s) p = zip s (Within i.production i.done p)

    abbrev pub form_of : Partial → Production
    form_of (Open f r) = f
    form_of (Within f r p) = f

    abbrev pub Rest : Partial → Type 0
    Rest (Open f r) = Stands T.grammar (left T.grammar f r)
    Rest (Within f r p) = IsPart T.grammar (IsPartial T.grammar p) (left T.grammar f r)

    rest_is : (c : Nonterminal) (p : Partial) → T.grammar.may c (form_of p) ≡ true → led T.grammar c (begins p) ≡ true → Rest p → IsPartial T.grammar p c
    rest_is c (Open f r) m g h = (m, g, h)
    rest_is c (Within f r p) m g h = (m, g, h)

    sure_now : (c : Nonterminal) (ts : List Lexeme) → Sure c ts → led T.grammar c ts ≡ true
    sure_now c ts h = let P : List Lexeme → Type 0 = λ x. led T.grammar c x ≡ true in subst P (append-nil ts) (h [])

    asked_part : (ps : List Constituent) (p : Partial) → Asked ps (form_of p) (begins p) → Rest p → IsPart T.grammar (IsPartial T.grammar p) (Some ps)
    asked_part [] p a h = elim a [ ]
    asked_part (Token w ∷ ps) p a h = elim a [ ]
    asked_part (Part c ∷ ps) p a h = rest_is c p a.0 (sure_now c (begins p) a.1) h
    asked_part (Optional c k ∷ ps) p a h = rest_is c p a.0 (sure_now c (begins p) a.1) h
    asked_part (Further c k ∷ ps) p a h = elim a [ ]

    free_led : (c : Nonterminal) (ts : List Lexeme) → ((t : Lexeme) → T.grammar.guard c t ≡ true) → led T.grammar c ts ≡ true
    free_led c [] h = refl
    free_led c (t ∷ ts) h = h t

    pub zip_is : (s : State) (p : Partial) (c : Nonterminal) → T.grammar.may c root ≡ true → ((t : Lexeme) → T.grammar.guard c t ≡ true) → Fine s (begins p) → Below s (form_of p) (begins p) → Rest p → IsPartial T.grammar (zip s p) c
    zip_is [] p c m g i b h = rest_is c p (let e : form_of p ≡ root = b in rw e m) (free_led c (begins p) g) h
    zip_is (k ∷ s) p c m g i b h = zip_is s (Within k.production k.done p) c m g i.2 i.1 (rw i.0 (asked_part k.rest p b h))

    pub zip_begins : (s : State) (p : Partial) → begins (zip s p) ≡ held s ++ begins p
    zip_begins [] p = refl
    zip_begins (k ∷ s) p = zip_begins s (Within k.production k.done p) ∙ sym (append_assoc (held s) (spells k.done) (begins p))

    -- what the reader holds has a partial tree
    unfoldable pub holds_partial : (c : Nonterminal) (k : Item) (s : State) → T.grammar.may c root ≡ true → ((t : Lexeme) → T.grammar.guard c t ≡ true) → Fine (k ∷ s) [] → HasPartial T.grammar c (held (k ∷ s))
    holds_partial c k s m g i =
        let p = Open k.production k.done in
        let o = fine_own k s i in
        (zip s p, zip_is s p c m g o.1 o.0 (rw i.0 tt), zip_begins s p)
