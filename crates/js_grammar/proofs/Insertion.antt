-- The reader inserts a semicolon exactly where the definition does.
use Rattle.std.proofs.Common.{◌≡◌, Bool, true, false, cond, List, [], ◌∷◌, ◌++◌, Option, Some, None, refl, sym, ap, ◌∙◌}
use Rattle.js_grammar.specs.declared.lexeme.Lexeme.{Lexeme}
use Rattle.js_grammar.specs.declared.symbols.Nonterminal.{Nonterminal}
use Rattle.js_grammar.specs.Grammar.{HasPartial, after}
use Rattle.js_grammar.specs.Machine.{State, Table, feed, feeds}
use Rattle.js_grammar.specs.Inserted.{Nothing, Ending, DoEnding, Choice, plain, marked, IsOffending, Rightly, IsBegun, pair, or_else, step, steps}
use Rattle.js_grammar.proofs.Sound.{after_is}

feeds_after : (T : Table) (a b : List Lexeme) (s q : State) → feeds T s a ≡ Some q → feeds T s (a ++ b) ≡ feeds T q b
feeds_after T [] b s q h = let e : s ≡ q = cc in ap (λ x. feeds T x b) e
feeds_after T (t ∷ a) b s q h =
    let m = after_is (feed T s t) _ q h in
    rw m.1 (feeds_after T a b m.0 q m.2)

feeds_one : (T : Table) (s q : State) (t : Lexeme) (ts : List Lexeme) → feed T s t ≡ Some q → feeds T s (t ∷ ts) ≡ feeds T q ts
feeds_one T s q t ts h = rw h refl

feeds_two : (T : Table) (s q : State) (m t : Lexeme) → pair T m m (λ x. true) m s t ≡ Some q → feeds T s (m ∷ t ∷ []) ≡ Some q
feeds_two T s q m t h =
    let z = after_is (feed T s m) _ q h in
    feeds_one T s z.0 m (t ∷ []) z.1 ∙ feeds_one T z.0 q t [] z.2

module _ (T : Table) (root : Nonterminal) (semi do_semi : Lexeme) (stands : Lexeme → Bool) (from : State)
    (Clear : List Lexeme → Type 0)
    (good : (ts : List Lexeme) (q : State) → Clear ts → feeds T from ts ≡ Some q → HasPartial T.grammar root ts)
    (exact : (ts : List Lexeme) → HasPartial T.grammar root ts → (q : State) × (feeds T from ts ≡ Some q)) where
  abbrev Right : List Lexeme → List Choice → Type 0
  Right b xs = Rightly T.grammar root semi do_semi stands b xs

  abbrev put : List Choice → List Lexeme
  put xs = marked T.grammar root semi do_semi stands xs

  abbrev go : State → List Lexeme → Option State
  go s ts = steps T semi do_semi stands s ts

  abbrev two : Lexeme → State → Lexeme → Option State
  two m s t = pair T semi do_semi stands m s t

  -- what the reader refuses from here has no partial tree
  refuses : (b us : List Lexeme) (s : State) → feeds T from b ≡ Some s → feeds T s us ≡ None → HasPartial T.grammar root (b ++ us) → ⊥
  refuses b us s h n p =
      let m = exact (b ++ us) p in
      let k = feeds_after T b us from s h in
      let nothing : Option State = None in
      let w : nothing ≡ Some m.0 = sym n ∙ sym k ∙ m.1 in
      cc

  one_none : (s : State) (t : Lexeme) → feed T s t ≡ None → feeds T s (t ∷ []) ≡ None
  one_none s t e = rw e refl

  abbrev pub Reads_as : List Lexeme → State → List Lexeme → State → Type 0
  Reads_as b s ts q = (xs : List Choice) × (plain xs ≡ ts) × Right b xs × (feeds T s (put xs) ≡ Some q)

  abbrev Goes_on : List Lexeme → State → Type 0
  Goes_on ts q = (b : List Lexeme) (s : State) → feeds T from b ≡ Some s → go s ts ≡ Some q → Reads_as b s ts q

  single : (s p : State) (t : Lexeme) → feed T s t ≡ Some p → feeds T s (t ∷ []) ≡ Some p
  single s p t h = rw h refl

  turn : (t : Lexeme) (ts b : List Lexeme) (s q : State) (o : Option State) (w : Bool) → feeds T from b ≡ Some s → feed T s t ≡ o → stands t ≡ w → Goes_on ts q → after (or_else T semi do_semi stands o (cond w (two semi s t) (two do_semi s t))) (λ p. go p ts) ≡ Some q → Reads_as b s (t ∷ ts) q
  turn t ts b s q (Some p) w h e f ih k =
      let m = ih (b ++ t ∷ []) p (feeds_after T b (t ∷ []) from s h ∙ single s p t e) k in
      ((Nothing, t) ∷ m.0, ap (λ x. t ∷ x) m.1, m.2, feeds_one T s p t (put m.0) e ∙ m.3)
  turn t ts b s q None true h e f ih k =
      let m = after_is (two semi s t) _ q k in
      let both = feeds_two T s m.0 semi t m.1 in
      let z = ih (b ++ semi ∷ t ∷ []) m.0 (feeds_after T b (semi ∷ t ∷ []) from s h ∙ both) m.2 in
      ((Ending, t) ∷ z.0, ap (λ x. t ∷ x) z.1, (refuses b (t ∷ []) s h (one_none s t e), f, z.2), feeds_after T (semi ∷ t ∷ []) (put z.0) s m.0 both ∙ z.3)
  turn t ts b s q None false h e f ih k =
      let m = after_is (two do_semi s t) _ q k in
      let both = feeds_two T s m.0 do_semi t m.1 in
      let z = ih (b ++ do_semi ∷ t ∷ []) m.0 (feeds_after T b (do_semi ∷ t ∷ []) from s h ∙ both) m.2 in
      ((DoEnding, t) ∷ z.0, ap (λ x. t ∷ x) z.1, (refuses b (t ∷ []) s h (one_none s t e), f, z.2), feeds_after T (do_semi ∷ t ∷ []) (put z.0) s m.0 both ∙ z.3)

  -- what is read has semicolons inserted rightly
  pub sound : (ts b : List Lexeme) (s q : State) → feeds T from b ≡ Some s → go s ts ≡ Some q → Reads_as b s ts q
  sound [] b s q h k = ([], refl, tt, k)
  sound (t ∷ ts) b s q h k = turn t ts b s q (feed T s t) (stands t) h refl refl (λ b s h k. sound ts b s q h k) k

  some_good : (b us : List Lexeme) (s : State) (o : Option State) → Clear (b ++ us) → feeds T from b ≡ Some s → feeds T s us ≡ o → (HasPartial T.grammar root (b ++ us) → ⊥) → o ≡ None
  some_good b us s None v h e n = refl
  some_good b us s (Some p) v h e n = absurd (n (good (b ++ us) p v (feeds_after T b us from s h ∙ e)))

  feeds_feed : (s : State) (t : Lexeme) → feeds T s (t ∷ []) ≡ None → feed T s t ≡ None
  feeds_feed s t e = by (feed T s t) refl e
    where
      by : (o : Option State) → feed T s t ≡ o → after o (λ q. Some q) ≡ None → o ≡ None
      by None x y = refl
      by (Some q) x y = cc

  not_fed : (b : List Lexeme) (t : Lexeme) (s : State) → Clear (b ++ t ∷ []) → feeds T from b ≡ Some s → IsOffending T.grammar root semi do_semi stands b t → feed T s t ≡ None
  not_fed b t s v h n = feeds_feed s t (some_good b (t ∷ []) s (feeds T s (t ∷ [])) v h refl n)

  -- the tokens up to each that may be offending
  abbrev pub Clear_by : List Lexeme → List Choice → Type 0
  Clear_by b [] = Unit {0}
  Clear_by b ((Nothing, t) ∷ xs) = Clear (b ++ t ∷ []) × Clear_by (b ++ t ∷ []) xs
  Clear_by b ((Ending, t) ∷ xs) = Clear (b ++ t ∷ []) × Clear_by (b ++ semi ∷ t ∷ []) xs
  Clear_by b ((DoEnding, t) ∷ xs) = Clear (b ++ t ∷ []) × Clear_by (b ++ do_semi ∷ t ∷ []) xs

  pair_is : (s p q : State) (m t : Lexeme) → feed T s m ≡ Some p → feed T p t ≡ Some q → two m s t ≡ Some q
  pair_is s p q m t e f = rw (e, f) refl

  steps_by : (s p : State) (t : Lexeme) (ts : List Lexeme) → step T semi do_semi stands s t ≡ Some p → go s (t ∷ ts) ≡ go p ts
  steps_by s p t ts e = rw e refl

  step_fed : (s p : State) (t : Lexeme) → feed T s t ≡ Some p → step T semi do_semi stands s t ≡ Some p
  step_fed s p t e = rw e refl

  step_semi : (s p : State) (t : Lexeme) → feed T s t ≡ None → stands t ≡ true → two semi s t ≡ Some p → step T semi do_semi stands s t ≡ Some p
  step_semi s p t e f h = rw (e, f, h) refl

  step_do : (s p : State) (t : Lexeme) → feed T s t ≡ None → stands t ≡ false → two do_semi s t ≡ Some p → step T semi do_semi stands s t ≡ Some p
  step_do s p t e f h = rw (e, f, h) refl

  -- where semicolons are inserted rightly, the reader does as much
  pub whole : (xs : List Choice) (b : List Lexeme) (s q : State) → Clear_by b xs → feeds T from b ≡ Some s → Right b xs → feeds T s (put xs) ≡ Some q → go s (plain xs) ≡ Some q
  whole [] b s q v h r k = k
  whole ((Nothing, t) ∷ xs) b s q v h r k =
      let m = after_is (feed T s t) _ q k in
      steps_by s m.0 t (plain xs) (step_fed s m.0 t m.1) ∙ (whole xs (b ++ t ∷ []) m.0 q v.1 (feeds_after T b (t ∷ []) from s h ∙ single s m.0 t m.1) r m.2)
  whole ((Ending, t) ∷ xs) b s q v h r k =
      let m = after_is (feed T s semi) _ q k in
      let n = after_is (feed T m.0 t) _ q m.2 in
      let both = pair_is s m.0 n.0 semi t m.1 n.1 in
      steps_by s n.0 t (plain xs) (step_semi s n.0 t (not_fed b t s v.0 h r.0) r.1 both) ∙ (whole xs (b ++ semi ∷ t ∷ []) n.0 q v.1 (feeds_after T b (semi ∷ t ∷ []) from s h ∙ feeds_two T s n.0 semi t both) r.2 n.2)
  whole ((DoEnding, t) ∷ xs) b s q v h r k =
      let m = after_is (feed T s do_semi) _ q k in
      let n = after_is (feed T m.0 t) _ q m.2 in
      let both = pair_is s m.0 n.0 do_semi t m.1 n.1 in
      steps_by s n.0 t (plain xs) (step_do s n.0 t (not_fed b t s v.0 h r.0) r.1 both) ∙ (whole xs (b ++ do_semi ∷ t ∷ []) n.0 q v.1 (feeds_after T b (do_semi ∷ t ∷ []) from s h ∙ feeds_two T s n.0 do_semi t both) r.2 n.2)

  -- the exact place: the tokens before it have a partial tree, and with it they have none
  pub begun : (ts : List Lexeme) (q : State) → ((xs : List Choice) → plain xs ≡ ts → Clear (put xs)) → go from ts ≡ Some q → IsBegun T.grammar root semi do_semi stands ts
  begun ts q v h = let m = sound ts [] from q refl h in (m.0, m.1, m.2, good (put m.0) q (v m.0 m.1) m.3)

  pub refused : (ts : List Lexeme) → ((xs : List Choice) → plain xs ≡ ts → Clear_by [] xs) → go from ts ≡ None → IsBegun T.grammar root semi do_semi stands ts → ⊥
  refused ts v h i =
      let m = exact (put i.0) i.3 in
      let k = whole i.0 [] from m.0 (v i.0 i.1) refl i.2 m.1 in
      let nothing : Option State = None in
      let w : nothing ≡ Some m.0 = sym h ∙ ap (go from) (sym i.1) ∙ k in
      cc

  -- whatever right choice of semicolons there is, it is what the reader has
  pub same : (ts : List Lexeme) (q : State) (xs : List Choice) → Clear_by [] xs → go from ts ≡ Some q → plain xs ≡ ts → Right [] xs → HasPartial T.grammar root (put xs) → feeds T from (put xs) ≡ Some q
  same ts q xs v h e r p =
      let m = exact (put xs) p in
      let k : Some m.0 ≡ Some q = sym (whole xs [] from m.0 v refl r m.1) ∙ ap (go from) e ∙ h in
      m.1 ∙ k

-- the same where the reader takes nothing that has no partial tree, whatever the tokens are
module _ (T : Table) (root : Nonterminal) (semi do_semi : Lexeme) (stands : Lexeme → Bool) (from : State)
    (good : (ts : List Lexeme) (q : State) → feeds T from ts ≡ Some q → HasPartial T.grammar root ts)
    (exact : (ts : List Lexeme) → HasPartial T.grammar root ts → (q : State) × (feeds T from ts ≡ Some q)) where
  abbrev pub Any : List Lexeme → Type 0
  Any ts = Unit {0}

  pub good_any : (ts : List Lexeme) (q : State) → Any ts → feeds T from ts ≡ Some q → HasPartial T.grammar root ts
  good_any ts q v h = good ts q h

  any_by : (b : List Lexeme) (xs : List Choice) → Clear_by T root semi do_semi stands from Any good_any exact b xs
  any_by b [] = tt
  any_by b ((Nothing, t) ∷ xs) = (tt, any_by (b ++ t ∷ []) xs)
  any_by b ((Ending, t) ∷ xs) = (tt, any_by (b ++ semi ∷ t ∷ []) xs)
  any_by b ((DoEnding, t) ∷ xs) = (tt, any_by (b ++ do_semi ∷ t ∷ []) xs)

  pub all_sound : (ts b : List Lexeme) (s q : State) → feeds T from b ≡ Some s → steps T semi do_semi stands s ts ≡ Some q → Reads_as T root semi do_semi stands from Any good_any exact b s ts q
  all_sound ts b s q h k = sound T root semi do_semi stands from Any good_any exact ts b s q h k

  pub all_whole : (xs : List Choice) (b : List Lexeme) (s q : State) → feeds T from b ≡ Some s → Rightly T.grammar root semi do_semi stands b xs → feeds T s (marked T.grammar root semi do_semi stands xs) ≡ Some q → steps T semi do_semi stands s (plain xs) ≡ Some q
  all_whole xs b s q h r k = whole T root semi do_semi stands from Any good_any exact xs b s q (any_by b xs) h r k

  pub all_begun : (ts : List Lexeme) (q : State) → steps T semi do_semi stands from ts ≡ Some q → IsBegun T.grammar root semi do_semi stands ts
  all_begun ts q h = begun T root semi do_semi stands from Any good_any exact ts q (λ xs e. tt) h

  pub all_refused : (ts : List Lexeme) → steps T semi do_semi stands from ts ≡ None → IsBegun T.grammar root semi do_semi stands ts → ⊥
  all_refused ts h i = refused T root semi do_semi stands from Any good_any exact ts (λ xs e. any_by [] xs) h i

  pub all_same : (ts : List Lexeme) (q : State) (xs : List Choice) → steps T semi do_semi stands from ts ≡ Some q → plain xs ≡ ts → Rightly T.grammar root semi do_semi stands [] xs → HasPartial T.grammar root (marked T.grammar root semi do_semi stands xs) → feeds T from (marked T.grammar root semi do_semi stands xs) ≡ Some q
  all_same ts q xs h e r p = same T root semi do_semi stands from Any good_any exact ts q xs (any_by [] xs) h e r p
