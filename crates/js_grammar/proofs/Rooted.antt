-- What a reader holds that begins where a nonterminal is wanted, with one token behind it: partial trees of the nonterminal, or its tree.
use Rattle.std.proofs.Common.{◌≡◌, Bool, true, false, List, [], ◌∷◌, ◌++◌, Option, Some, None, ◌⊎◌, inl, inr, refl, sym, ap, subst, ◌∙◌, append_assoc}
use Rattle.std.proofs.lemmas.List.{append-nil}
use Rattle.js_grammar.specs.declared.lexeme.Lexeme.{Lexeme}
use Rattle.js_grammar.specs.declared.symbols.Nonterminal.{Nonterminal}
use Rattle.js_grammar.specs.declared.constituents.Terminals.{Terminals}
use Rattle.js_grammar.specs.declared.constituents.Repetition.TheVariants.{Listed}
use Rattle.js_grammar.specs.declared.constituents.Constituent.{Constituent}
use Rattle.js_grammar.specs.declared.constituents.Constituent.TheVariants.{Token, Part, Optional, Further}
use Rattle.js_grammar.specs.declared.symbols.Production.{Production}
use Rattle.js_grammar.specs.Grammar.{Tree, Leaf, Node, Absent, Row, Nil, Then, is, fit, led, left, takes, follow, spells, Partial, Open, Within, begins, IsPart, Stands, IsPartial}
use Rattle.js_grammar.specs.Machine.{Item, State, Table, item, begun, opened, or_else, choose, onward, wrapped, joined, placed, put, complete, feed, feeds}
use Rattle.js_grammar.proofs.Sound.{only_some, after_is, held, Sure, Asked, Below, Opens, sure_one, asked_more, below_more, is_fit, left_then, takes_sub, takes_optional}

module _ (T : Table) (root bottom : Production) (goal : Nonterminal) (last : Terminals) where
  abbrev pub base : Item
  base = item bottom Nil (Part goal ∷ Token last ∷ [])

  -- each open production above is a beginning of its rule, and stands where the one below asks for it; the tokens stand above
  abbrev pub Fine : State → List Lexeme → Type 0
  Fine [] ts = ⊥
  Fine (i ∷ []) ts = i ≡ base
  Fine (i ∷ j ∷ s) ts = (left T.grammar i.production i.done ≡ Some i.rest) × Asked T root j.rest i.production (spells i.done ++ ts) × Fine (j ∷ s) (spells i.done ++ ts)

  abbrev pub topped : Production → Row → Lexeme → State
  topped f r t = item bottom (Then (Then Nil (Node f r)) (Leaf t)) [] ∷ []

  -- the nonterminal's tree stands, and the token behind it
  abbrev pub Over : State → List Lexeme → Type 0
  Over q ts = (f : Production) × (r : Row) × (t : Lexeme) × (q ≡ topped f r t) × (is T.grammar (Node f r) goal ≡ true) × (T.grammar.stands last t ≡ true) × (spells r ++ t ∷ [] ≡ ts)

  abbrev pub Comes : State → List Lexeme → Type 0
  Comes q ts = (Fine q [] × (held q ≡ ts)) ⊎ Over q ts

  fine_more : (s : State) (ts vs : List Lexeme) → Fine s ts → Fine s (ts ++ vs)
  fine_more [] ts vs h = h
  fine_more (i ∷ []) ts vs h = h
  fine_more (i ∷ j ∷ s) ts vs h =
      let e = append_assoc (spells i.done) ts vs in
      let P : List Lexeme → Type 0 = λ x. Asked T root j.rest i.production x in
      let Q : List Lexeme → Type 0 = λ x. Fine (j ∷ s) x in
      (h.0, subst P e (asked_more T root j.rest i.production (spells i.done ++ ts) vs h.1), subst Q e (fine_more (j ∷ s) (spells i.done ++ ts) vs h.2))

  fine_nil : (s : State) (ts : List Lexeme) → Fine s ts → Fine s (ts ++ [])
  fine_nil s ts h = let P : List Lexeme → Type 0 = λ x. Fine s x in subst P (sym (append-nil ts)) h

  below_nil : (s : State) (f : Production) (ts : List Lexeme) → Below T root s f ts → Below T root s f (ts ++ [])
  below_nil s f ts h = let P : List Lexeme → Type 0 = λ x. Below T root s f x in subst P (sym (append-nil ts)) h

  made : (f : Production) (r : Row) (ps : List Constituent) (s : State) → left T.grammar f r ≡ Some ps → Below T root s f (spells r) → Fine s (spells r) → Fine (item f r ps ∷ s) []
  made f r ps [] e b i = elim i [ ]
  made f r ps (j ∷ s) e b i = (e, below_nil (j ∷ s) f (spells r) b, fine_nil (j ∷ s) (spells r) i)

  same : (a q : State) (ts : List Lexeme) → Some a ≡ Some q → Comes a ts → Comes q ts
  same a q ts h c = let e : a ≡ q = cc in let P : State → Type 0 = λ x. Comes x ts in subst P e c

  fresh : (a q : State) (ts : List Lexeme) → Some a ≡ Some q → Fine a [] → held a ≡ ts → Comes q ts
  fresh a q ts h f e = same a q ts h (inl (f, e))

  along : (q : State) {a b : List Lexeme} → Comes q a → a ≡ b → Comes q b
  along q c e = let P : List Lexeme → Type 0 = λ x. Comes q x in subst P e c

  module _ (start_opens : (c : Nonterminal) (t : Lexeme) (s : State) → ((f : Production) → T.grammar.may c f ≡ true → T.grammar.guard c t ≡ true → Below T root s f (t ∷ [])) → Opens T root s (T.start c t) t) (wrap_may : (c : Nonterminal) (h : Production) (t : Lexeme) (f : Production) → T.wrap c h t ≡ Some f → T.grammar.may c f ≡ true) where
    begun_comes : (f : Production) (ps : List Constituent) (s : State) (t : Lexeme) (q : State) → Fine s (t ∷ []) → Below T root s f (t ∷ []) → T.grammar.rule f ≡ ps → begun T f ps s t ≡ Some q → Comes q (held s ++ t ∷ [])
    begun_comes f [] s t q i b e h = cc
    begun_comes f (Part c ∷ ps) s t q i b e h = cc
    begun_comes f (Optional c k ∷ ps) s t q i b e h = cc
    begun_comes f (Further c k ∷ ps) s t q i b e h = cc
    begun_comes f (Token w ∷ ps) s t q i b e h =
        let k = only_some (T.grammar.stands w t) _ q h in
        fresh _ q _ k.1 (made f (Then Nil (Leaf t)) ps s (left_then T root f Nil (Leaf t) (Token w ∷ ps) ps (ap Some e) (rw k.0 refl)) b i) refl

    opened_comes : (fs : List Production) (s : State) (t : Lexeme) (q : State) → Fine s (t ∷ []) → Opens T root s fs t → opened T fs s t ≡ Some q → Comes q (held s ++ t ∷ [])
    opened_comes [] s t q i o h = cc
    opened_comes (f ∷ []) s t q i o h = begun_comes f (T.grammar.rule f) s t q i o refl h
    opened_comes (f ∷ k ∷ fs) [] t q i o h = elim i [ ]
    opened_comes (f ∷ k ∷ fs) (j ∷ s) t q i o h = along q (opened_comes (k ∷ fs) (item f Nil (T.grammar.rule f) ∷ j ∷ s) t q (refl, o.0, i) o.1 h) (ap (λ x. x ++ t ∷ []) (append-nil (held (j ∷ s))))

    or_else_comes : (fs : List Production) (a b : Option State) (q : State) (ts : List Lexeme) → (a ≡ Some q → Comes q ts) → (b ≡ Some q → Comes q ts) → or_else fs a b ≡ Some q → Comes q ts
    or_else_comes [] a b q ts x y h = x h
    or_else_comes (f ∷ fs) a b q ts x y h = y h

    choose_comes : (b : Bool) (x y : Option State) (q : State) (ts : List Lexeme) → (b ≡ true → x ≡ Some q → Comes q ts) → (y ≡ Some q → Comes q ts) → choose b x y ≡ Some q → Comes q ts
    choose_comes true x y q ts g k h = g refl h
    choose_comes false x y q ts g k h = k h

    -- a whole tree to the right of the open productions comes to a state that holds it and the lexeme
    abbrev Ends : State → Lexeme → (Tree → Option State) → Type 0
    Ends s t ended = (f : Production) (r : Row) (q : State) → left T.grammar f r ≡ Some [] → Below T root s f (spells r) → Fine s (spells r) → ended (Node f r) ≡ Some q → Comes q (held s ++ spells r ++ t ∷ [])

    asked_one : (c : Nonterminal) (t : Lexeme) (f : Production) → T.grammar.may c f ≡ true → T.grammar.guard c t ≡ true → (T.grammar.may c f ≡ true) × Sure T root c (t ∷ [])
    asked_one c t f m g = (m, sure_one T root c t g)

    fine_one : (s : State) (t : Lexeme) → Fine s [] → Fine s (t ∷ [])
    fine_one s t i = fine_more s [] (t ∷ []) i

    onward_comes : (ended : Tree → Option State) (s : State) (f : Production) (r : Row) (ps : List Constituent) (t : Lexeme) (q : State) → Ends s t ended → Fine s (spells r) → Below T root s f (spells r) → left T.grammar f r ≡ Some ps → onward T ended s f r ps t ≡ Some q → Comes q (held s ++ spells r ++ t ∷ [])
    onward_comes ended s f r [] t q n i b e h = n f r q e b i h
    onward_comes ended s f r (Token w ∷ ps) t q n i b e h =
        let k = only_some (T.grammar.stands w t) _ q h in
        fresh _ q _ k.1 (made f (Then r (Leaf t)) ps s (left_then T root f r (Leaf t) (Token w ∷ ps) ps e (rw k.0 refl)) (below_more T root s f (spells r) (t ∷ []) b) (fine_more s (spells r) (t ∷ []) i)) (sym (append_assoc (held s) (spells r) (t ∷ [])))
    onward_comes ended s f r (Part c ∷ ps) t q n i b e h = opened_comes (T.start c t) (item f r (Part c ∷ ps) ∷ s) t q (fine_one (item f r (Part c ∷ ps) ∷ s) t (made f r (Part c ∷ ps) s e b i)) (start_opens c t (item f r (Part c ∷ ps) ∷ s) (λ a m g. asked_one c t a m g)) h
    onward_comes ended s f r (Optional c u ∷ ps) t q n i b e h =
        or_else_comes (T.start c t) _ _ q _
        (λ k. along q (onward_comes ended s f (Then r Absent) ps t q n (fine_nil s (spells r) i) (below_nil s f (spells r) b) (left_then T root f r Absent (Optional c u ∷ ps) ps e refl) k) (ap (λ x. held s ++ x ++ t ∷ []) (append-nil (spells r))))
        (λ k. opened_comes (T.start c t) (item f r (Optional c u ∷ ps) ∷ s) t q (fine_one (item f r (Optional c u ∷ ps) ∷ s) t (made f r (Optional c u ∷ ps) s e b i)) (start_opens c t (item f r (Optional c u ∷ ps) ∷ s) (λ a m g. asked_one c t a m g)) k)
        h
    onward_comes ended s f r (Further c w ∷ ps) t q n i b e h =
        choose_comes (T.grammar.stands w t) _ _ q _
        (λ y k. fresh _ q _ k (made f (Then r (Leaf t)) (Optional c (Listed w) ∷ ps) s (left_then T root f r (Leaf t) (Further c w ∷ ps) (Optional c (Listed w) ∷ ps) e (rw y refl)) (below_more T root s f (spells r) (t ∷ []) b) (fine_more s (spells r) (t ∷ []) i)) (sym (append_assoc (held s) (spells r) (t ∷ []))))
        (λ k. along q (onward_comes ended s f (Then r Absent) ps t q n (fine_nil s (spells r) i) (below_nil s f (spells r) b) (left_then T root f r Absent (Further c w ∷ ps) ps e refl) k) (ap (λ x. held s ++ x ++ t ∷ []) (append-nil (spells r))))
        h

    wrapped_comes : (f : Production) (ps : List Constituent) (s : State) (h : Production) (r : Row) (t : Lexeme) (q : State) → Fine s (spells r) → Below T root s f (spells r) → left T.grammar h r ≡ Some [] → T.grammar.rule f ≡ ps → wrapped T f ps s (Node h r) t ≡ Some q → Comes q (held s ++ spells r ++ t ∷ [])
    wrapped_comes f [] s x r t q i b w e h = cc
    wrapped_comes f (Token a ∷ ps) s x r t q i b w e h = cc
    wrapped_comes f (Optional a k ∷ ps) s x r t q i b w e h = cc
    wrapped_comes f (Further a k ∷ ps) s x r t q i b w e h = cc
    wrapped_comes f (Part c ∷ []) s x r t q i b w e h = cc
    wrapped_comes f (Part c ∷ Part d ∷ ps) s x r t q i b w e h = cc
    wrapped_comes f (Part c ∷ Optional d k ∷ ps) s x r t q i b w e h = cc
    wrapped_comes f (Part c ∷ Further d k ∷ ps) s x r t q i b w e h = cc
    wrapped_comes f (Part c ∷ Token a ∷ ps) s x r t q i b w e h =
        let k = only_some (fit T.grammar c (Node x r)) _ q h in
        let m = only_some (T.grammar.stands a t) _ q k.1 in
        let one = left_then T root f Nil (Node x r) (Part c ∷ Token a ∷ ps) (Token a ∷ ps) (ap Some e) (takes_sub T root c (Token a ∷ ps) x r w k.0) in
        fresh _ q _ m.1 (made f (Then (Then Nil (Node x r)) (Leaf t)) ps s (left_then T root f (Then Nil (Node x r)) (Leaf t) (Token a ∷ ps) ps one (rw m.0 refl)) (below_more T root s f (spells r) (t ∷ []) b) (fine_more s (spells r) (t ∷ []) i)) (sym (append_assoc (held s) (spells r) (t ∷ [])))

    joined_comes : (o : Option Production) (a : Option State) (w : Production → Option State) (q : State) (ts : List Lexeme) → (a ≡ Some q → Comes q ts) → ((f : Production) → o ≡ Some f → w f ≡ Some q → Comes q ts) → joined o a w ≡ Some q → Comes q ts
    joined_comes None a w q ts x y h = x h
    joined_comes (Some f) a w q ts x y h = y f refl h

    regroup : (a b c : List Lexeme) (t : Lexeme) → a ++ (b ++ c) ++ t ∷ [] ≡ (a ++ b) ++ c ++ t ∷ []
    regroup a b c t = simp append_assoc

    placed_comes : (ended : Tree → Option State) (s : State) (f : Production) (r : Row) (c : Nonterminal) (all ps : List Constituent) (h : Production) (x : Row) (t : Lexeme) (q : State) → Ends s t ended → Fine s (spells r ++ spells x) → Below T root s f (spells r ++ spells x) → left T.grammar f r ≡ Some all → (fit T.grammar c (Node h x) ≡ true → takes T.grammar (is T.grammar (Node h x)) all (Node h x) ≡ Some ps) → placed T ended s f r c all ps (Node h x) t ≡ Some q → Comes q ((held s ++ spells r) ++ spells x ++ t ∷ [])
    placed_comes ended s f r c all ps h x t q n i b e k m =
        let u = only_some (fit T.grammar c (Node h x)) _ q m in
        along q (onward_comes ended s f (Then r (Node h x)) ps t q n i b (left_then T root f r (Node h x) all ps e (k u.0)) u.1) (regroup (held s) (spells r) (spells x) t)

    put_comes : (ended : Tree → Option State) (s : State) (f : Production) (r : Row) (ps : List Constituent) (h : Production) (x : Row) (t : Lexeme) (q : State) → Ends s t ended → Fine s (spells r ++ spells x) → Below T root s f (spells r ++ spells x) → left T.grammar f r ≡ Some ps → Fine (item f r ps ∷ s) (spells x) → Asked T root ps h (spells x) → left T.grammar h x ≡ Some [] → put T ended s f r ps (Node h x) t ≡ Some q → Comes q ((held s ++ spells r) ++ spells x ++ t ∷ [])
    put_comes ended s f r [] h x t q n i b l g a w m = cc
    put_comes ended s f r (Token v ∷ ps) h x t q n i b l g a w m = cc
    put_comes ended s f r (Further c v ∷ ps) h x t q n i b l g a w m = cc
    put_comes ended s f r (Part c ∷ ps) h x t q n i b l g a w m =
        joined_comes (T.wrap c h t) _ _ q _
        (λ k. placed_comes ended s f r c (Part c ∷ ps) ps h x t q n i b l (takes_sub T root c ps h x w) k)
        (λ u o k. wrapped_comes u (T.grammar.rule u) (item f r (Part c ∷ ps) ∷ s) h x t q g (wrap_may c h t u o, a.1) w refl k)
        m
    put_comes ended s f r (Optional c v ∷ ps) h x t q n i b l g a w m =
        joined_comes (T.wrap c h t) _ _ q _
        (λ k. placed_comes ended s f r c (Optional c v ∷ ps) (follow (T.grammar.ends h) c v ps) h x t q n i b l (takes_optional T root c v ps h x w) k)
        (λ u o k. wrapped_comes u (T.grammar.rule u) (item f r (Optional c v ∷ ps) ∷ s) h x t q g (wrap_may c h t u o, a.1) w refl k)
        m

    -- the nonterminal's tree stands where it is wanted: it goes on as an operator's operand, or the token behind it follows
    over_it : (t : Lexeme) (h : Production) (x : Row) (q : State) → left T.grammar h x ≡ Some [] → placed T (λ y. complete T [] y t) [] bottom Nil goal (Part goal ∷ Token last ∷ []) (Token last ∷ []) (Node h x) t ≡ Some q → Over q (spells x ++ t ∷ [])
    over_it t h x q w k =
        let u = only_some (fit T.grammar goal (Node h x)) _ q k in
        let v = only_some (T.grammar.stands last t) _ q u.1 in
        let e : q ≡ topped h x t = (let m = v.1 in cc) in
        (h, x, t, e, is_fit T root goal h x w u.0, v.0, refl)

    base_comes : (t : Lexeme) (h : Production) (x : Row) (q : State) → left T.grammar h x ≡ Some [] → Below T root (base ∷ []) h (spells x) → complete T (base ∷ []) (Node h x) t ≡ Some q → Comes q (spells x ++ t ∷ [])
    base_comes t h x q w a m =
        joined_comes (T.wrap goal h t) _ _ q _
        (λ k. inr (over_it t h x q w k))
        (λ u o k. wrapped_comes u (T.grammar.rule u) (base ∷ []) h x t q refl (wrap_may goal h t u o, a.1) w refl k)
        m

    at_base : (i : Item) (t : Lexeme) (h : Production) (x : Row) (q : State) → i ≡ base → left T.grammar h x ≡ Some [] → Below T root (i ∷ []) h (spells x) → complete T (i ∷ []) (Node h x) t ≡ Some q → Comes q (held (i ∷ []) ++ spells x ++ t ∷ [])
    at_base i t h x q e w =
        let P : Item → Type 0 = λ i. Below T root (i ∷ []) h (spells x) → complete T (i ∷ []) (Node h x) t ≡ Some q → Comes q (held (i ∷ []) ++ spells x ++ t ∷ []) in
        subst P (sym e) (base_comes t h x q w)

    complete_comes : (s : State) (t : Lexeme) → Ends s t (λ x. complete T s x t)
    complete_comes [] t h x q w b i m = elim i [ ]
    complete_comes (k ∷ []) t h x q w b i m = at_base k t h x q i w b m
    complete_comes (k ∷ j ∷ s) t h x q w b i m = put_comes (λ y. complete T (j ∷ s) y t) (j ∷ s) k.production k.done k.rest h x t q (complete_comes (j ∷ s) t) i.2 i.1 i.0 i b w m

    pub fine_own : (k j : Item) (s : State) → Fine (k ∷ j ∷ s) [] → Below T root (j ∷ s) k.production (spells k.done) × Fine (j ∷ s) (spells k.done)
    fine_own k j s i =
        let e = append-nil (spells k.done) in
        let P : List Lexeme → Type 0 = λ x. Below T root (j ∷ s) k.production x in
        let Q : List Lexeme → Type 0 = λ x. Fine (j ∷ s) x in
        (subst P e i.1, subst Q e i.2)

    base_feeds : (t : Lexeme) (q : State) → feed T (base ∷ []) t ≡ Some q → Comes q (t ∷ [])
    base_feeds t q h = opened_comes (T.start goal t) (base ∷ []) t q refl (start_opens goal t (base ∷ []) (λ a m g. asked_one goal t a m g)) h

    feeds_base : (i : Item) (t : Lexeme) (q : State) → i ≡ base → feed T (i ∷ []) t ≡ Some q → Comes q (held (i ∷ []) ++ t ∷ [])
    feeds_base i t q e =
        let P : Item → Type 0 = λ i. feed T (i ∷ []) t ≡ Some q → Comes q (held (i ∷ []) ++ t ∷ []) in
        subst P (sym e) (base_feeds t q)

    feed_comes : (s : State) (t : Lexeme) (q : State) → Fine s [] → feed T s t ≡ Some q → Comes q (held s ++ t ∷ [])
    feed_comes [] t q i h = cc
    feed_comes (k ∷ []) t q i h = feeds_base k t q i h
    feed_comes (k ∷ j ∷ s) t q i h =
        let o = fine_own k j s i in
        onward_comes (λ y. complete T (j ∷ s) y t) (j ∷ s) k.production k.done k.rest t q (complete_comes (j ∷ s) t) o.1 o.0 i.0 h

    -- behind the token nothing follows
    over_last : (ts us : List Lexeme) (p q : State) → Over p us → feeds T p ts ≡ Some q → Comes q (us ++ ts)
    over_last [] us p q o h = along q (same p q us h (inr o)) (sym (append-nil us))
    over_last (t ∷ ts) us p q o h = let k = rw o.3 at h in cc

    abbrev Goes_on : List Lexeme → State → Type 0
    Goes_on ts q = (s : State) → Fine s [] → feeds T s ts ≡ Some q → Comes q (held s ++ ts)

    turn : (ts us : List Lexeme) (p q : State) → Comes p us → Goes_on ts q → feeds T p ts ≡ Some q → Comes q (us ++ ts)
    turn ts us p q (inl v) ih h = along q (ih p v.0 h) (ap (λ x. x ++ ts) v.1)
    turn ts us p q (inr o) ih h = over_last ts us p q o h

    pub feeds_comes : (ts : List Lexeme) (s q : State) → Fine s [] → feeds T s ts ≡ Some q → Comes q (held s ++ ts)
    feeds_comes [] s q i h = same s q _ h (inl (i, sym (append-nil (held s))))
    feeds_comes (t ∷ ts) s q i h =
        let m = after_is (feed T s t) _ q h in
        along q (turn ts (held s ++ t ∷ []) m.0 q (feed_comes s t m.0 i m.1) (λ s i h. feeds_comes ts s q i h) m.2) (append_assoc (held s) (t ∷ []) ts)

  -- the open productions above the last, from the outermost to the innermost, are a partial tree
  abbrev pub zip : State → Partial → Partial
  zip [] p = p
  zip (i ∷ []) p = p
  zip (i ∷ j ∷ s) p = zip (j ∷ s) (Within i.production i.done p)

  abbrev form_of : Partial → Production
  form_of (Open f r) = f
  form_of (Within f r p) = f

  abbrev Rest : Partial → Type 0
  Rest (Open f r) = Stands T.grammar (left T.grammar f r)
  Rest (Within f r p) = IsPart T.grammar (IsPartial T.grammar p) (left T.grammar f r)

  rest_is : (c : Nonterminal) (p : Partial) → T.grammar.may c (form_of p) ≡ true → led T.grammar c (begins p) ≡ true → Rest p → IsPartial T.grammar p c
  rest_is c (Open f r) m g h = (m, g, h)
  rest_is c (Within f r p) m g h = (m, g, h)

  sure_now : (c : Nonterminal) (ts : List Lexeme) → Sure T root c ts → led T.grammar c ts ≡ true
  sure_now c ts h = let P : List Lexeme → Type 0 = λ x. led T.grammar c x ≡ true in subst P (append-nil ts) (h [])

  asked_part : (ps : List Constituent) (p : Partial) → Asked T root ps (form_of p) (begins p) → Rest p → IsPart T.grammar (IsPartial T.grammar p) (Some ps)
  asked_part [] p a h = elim a [ ]
  asked_part (Token w ∷ ps) p a h = elim a [ ]
  asked_part (Part c ∷ ps) p a h = rest_is c p a.0 (sure_now c (begins p) a.1) h
  asked_part (Optional c k ∷ ps) p a h = rest_is c p a.0 (sure_now c (begins p) a.1) h
  asked_part (Further c k ∷ ps) p a h = elim a [ ]

  zip_base : (i : Item) (p : Partial) → i ≡ base → Below T root (i ∷ []) (form_of p) (begins p) → Rest p → IsPartial T.grammar p goal
  zip_base i p e =
      let P : Item → Type 0 = λ i. Below T root (i ∷ []) (form_of p) (begins p) → Rest p → IsPartial T.grammar p goal in
      subst P (sym e) (λ b h. rest_is goal p b.0 (sure_now goal (begins p) b.1) h)

  pub zip_is : (s : State) (p : Partial) → Fine s (begins p) → Below T root s (form_of p) (begins p) → Rest p → IsPartial T.grammar (zip s p) goal
  zip_is [] p i b h = elim i [ ]
  zip_is (k ∷ []) p i b h = zip_base k p i b h
  zip_is (k ∷ j ∷ s) p i b h = zip_is (j ∷ s) (Within k.production k.done p) i.2 i.1 (rw i.0 (asked_part k.rest p b h))

  pub base_held : (i : Item) → i ≡ base → held (i ∷ []) ≡ []
  base_held i e = ap (λ i. held (i ∷ [])) e

  pub zip_begins : (s : State) (p : Partial) (ts : List Lexeme) → Fine s ts → begins (zip s p) ≡ held s ++ begins p
  zip_begins [] p ts i = refl
  zip_begins (k ∷ []) p ts i = ap (λ x. x ++ begins p) (sym (base_held k i))
  zip_begins (k ∷ j ∷ s) p ts i = zip_begins (j ∷ s) (Within k.production k.done p) (spells k.done ++ ts) i.2 ∙ sym (append_assoc (held (j ∷ s)) (spells k.done) (begins p))
