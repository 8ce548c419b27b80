-- Whether the first tokens of a source have a partial tree doesn't hang on what stands behind them.
use Rattle.std.proofs.Common.{◌≡◌, ℕ, ◌+◌, Bool, true, false, cond, List, [], ◌∷◌, ◌++◌, Option, Some, None, ◌⊎◌, inl, inr, refl, sym, ap, subst, ◌∙◌}
use Rattle.std.proofs.lemmas.List.{append-nil}
use Rattle.js_grammar.specs.declared.lexeme.Lexeme.{Lexeme}
use Rattle.js_grammar.specs.declared.symbols.Terminal.{Terminal}
use Rattle.js_grammar.specs.Fits.{table}
use Rattle.js_grammar.specs.Grammar.{after}
use Rattle.js_grammar.specs.Machine.{State, feed, feeds}
use Rattle.js_grammar.specs.Inserted.{pair, or_else}
use Rattle.js_grammar.specs.Laws.{from, plain, semi, do_semi, rule_stands, is_closing, HasBeginning, Reads, Begins, Good, Exact, Kept, Kept_back, Begun, Refused, Same_read, with_semicolons}
use Rattle.js_lexer.specs.declared.token.Token.{Token}
use Rattle.js_reader.specs.Terminals.{terminal_of}
use Rattle.js_reader.specs.Steps.{lexeme_of, start}
use Rattle.js_reader.specs.Reading.{lexemes, ahead, HasPartialTree}
use Rattle.js_reader.proofs.Terminals_laws.{one_ahead, plain_terminal, closing_plain}
use Rattle.js_reader.proofs.Steps_laws.{stepping, going, on, place_of}

abbrev pub Is_taken : Option State → Type 0
Is_taken o = (q : State) × (o ≡ Some q)

pub after_is : (o : Option State) (go : State → Option State) (q : State) → after o go ≡ Some q → (p : State) × (o ≡ Some p) × (go p ≡ Some q)
after_is None go q h = cc
after_is (Some p) go q h = (p, refl, h)

none_taken : (o : Option State) → o ≡ None → Is_taken o → ⊥
none_taken o e h = let none : Option State = None in let n : Some h.0 ≡ none = sym h.1 ∙ e in cc

some_same : (p q : State) → Some p ≡ Some q → p ≡ q
some_same p q h = cc

-- one token more
pub split : (a : List Lexeme) (t : Lexeme) (s q : State) → going s (a ++ t ∷ []) ≡ Some q → (p : State) × (going s a ≡ Some p) × (stepping p t ≡ Some q)
split [] t s q h =
    let m = after_is (stepping s t) _ q h in
    (s, refl, m.1 ∙ m.2)
split (u ∷ a) t s q h =
    let m = after_is (stepping s u) _ q h in
    let n = split a t m.0 q m.2 in
    (n.0, on s m.0 u a (Some n.0) m.1 n.1, n.2)

pub joint : (a : List Lexeme) (t : Lexeme) (s p : State) (o : Option State) → going s a ≡ Some p → stepping p t ≡ o → going s (a ++ t ∷ []) ≡ o
joint [] t s p o h k = let same : s ≡ p = some_same s p h in by o (ap (λ x. stepping x t) same ∙ k)
  where
    by : (o : Option State) → stepping s t ≡ o → going s (t ∷ []) ≡ o
    by None e = rw e refl
    by (Some q) e = rw e refl
joint (u ∷ a) t s p o h k =
    let m = after_is (stepping s u) _ p h in
    on s m.0 u (a ++ t ∷ []) o m.1 (joint a t m.0 p o m.2 k)

read_on : (s q : State) (t : Lexeme) (ts : List Lexeme) (o : Option State) → feed table s t ≡ Some q → feeds table q ts ≡ o → feeds table s (t ∷ ts) ≡ o
read_on s q t ts o e h = rw e h

read_split : (a : List Lexeme) (t : Lexeme) (s q : State) → feeds table s (a ++ t ∷ []) ≡ Some q → (p : State) × (feeds table s a ≡ Some p) × (feed table p t ≡ Some q)
read_split [] t s q h =
    let m = after_is (feed table s t) _ q h in
    (s, refl, m.1 ∙ m.2)
read_split (u ∷ a) t s q h =
    let m = after_is (feed table s u) _ q h in
    let n = read_split a t m.0 q m.2 in
    (n.0, read_on s m.0 u a (Some n.0) m.1 n.1, n.2)

read_joint : (a : List Lexeme) (t : Lexeme) (s p q : State) → feeds table s a ≡ Some p → feed table p t ≡ Some q → feeds table s (a ++ t ∷ []) ≡ Some q
read_joint [] t s p q h k = let same : s ≡ p = some_same s p h in rw (same, k) refl
read_joint (u ∷ a) t s p q h k =
    let m = after_is (feed table s u) _ p h in
    read_on s m.0 u (a ++ t ∷ []) (Some q) m.1 (read_joint a t m.0 p q m.2 k)

abbrev two : Lexeme → State → Lexeme → Option State
two m s t = pair table semi do_semi rule_stands m s t

two_is : (m : Lexeme) (s p q : State) (t : Lexeme) → feed table s m ≡ Some p → feed table p t ≡ Some q → two m s t ≡ Some q
two_is m s p q t e f = rw (e, f) refl

-- where a token has a partial tree behind some others, another one has
abbrev pub Alike : Lexeme → Lexeme → Type 0
Alike t u = (b : List Lexeme) → HasBeginning (b ++ t ∷ []) → HasBeginning (b ++ u ∷ [])

module _ (good : Good) (exact : Exact) where
  fed_alike : (t u : Lexeme) (b : List Lexeme) (p : State) → Alike t u → Reads b p → Is_taken (feed table p t) → Is_taken (feed table p u)
  fed_alike t u b p h r k =
      let m = exact (b ++ u ∷ []) (h b (good (b ++ t ∷ []) k.0 (read_joint b t from p k.0 r k.1))) in
      let n = read_split b u from m.0 m.1 in
      let same : n.0 ≡ p = some_same n.0 p (sym n.1 ∙ r) in
      (m.0, ap (λ x. feed table x u) (sym same) ∙ n.2)

  two_alike : (m t u : Lexeme) (b : List Lexeme) (p : State) → Alike t u → Reads b p → Is_taken (two m p t) → Is_taken (two m p u)
  two_alike m t u b p h r k =
      let n = after_is (feed table p m) _ k.0 k.1 in
      let w = fed_alike t u (b ++ m ∷ []) n.0 h (read_joint b m from p n.0 r n.1) (k.0, n.2) in
      (w.0, two_is m p n.0 w.0 u n.1 w.1)

  marked_alike : (t u : Lexeme) (v : Bool) (b : List Lexeme) (p : State) → Alike t u → Reads b p → Is_taken (cond v (two semi p t) (two do_semi p t)) → Is_taken (cond v (two semi p u) (two do_semi p u))
  marked_alike t u true b p h r k = two_alike semi t u b p h r k
  marked_alike t u false b p h r k = two_alike do_semi t u b p h r k

  step_alike : (t u : Lexeme) (b : List Lexeme) (p : State) → Alike t u → Alike u t → rule_stands t ≡ rule_stands u → Reads b p → Is_taken (stepping p t) → Is_taken (stepping p u)
  step_alike t u b p h g e r k = turn (feed table p u) (feed table p t) refl refl k
    where
      turn : (o v : Option State) → feed table p u ≡ o → feed table p t ≡ v → Is_taken (or_else table semi do_semi rule_stands v (cond (rule_stands t) (two semi p t) (two do_semi p t))) → Is_taken (stepping p u)
      turn (Some q) v x y k = (q, rw x refl)
      turn None (Some q) x y k = absurd (none_taken (feed table p u) x (fed_alike t u b p h r (q, y)))
      turn None None x y k =
          let w = marked_alike t u (rule_stands t) b p h r k in
          (w.0, rw (x, ← e) w.1)

  module _ (begun : Begun) (refused : Refused) (same : Same_read) where
    pub taken : (ts : List Lexeme) → Begins ts → Is_taken (going from ts)
    taken ts h = turn (going from ts) refl
      where
        turn : (o : Option State) → going from ts ≡ o → Is_taken (going from ts)
        turn None e = absurd (refused ts e h)
        turn (Some q) e = (q, e)

    begins_alike : (ts : List Lexeme) (t u : Lexeme) → Alike t u → Alike u t → rule_stands t ≡ rule_stands u → Begins (ts ++ t ∷ []) → Begins (ts ++ u ∷ [])
    begins_alike ts t u h g e k =
        let m = taken (ts ++ t ∷ []) k in
        let n = split ts t from m.0 m.1 in
        let x = begun ts n.0 n.1 in
        let r = same ts n.0 x.0 n.1 (x.1, x.2) x.3 in
        let w = step_alike t u (with_semicolons x.0) n.0 h g e r (m.0, n.2) in
        begun (ts ++ u ∷ []) w.0 (joint ts u from n.0 (Some w.0) n.1 w.1)

-- a token's terminal hangs on no token but the next one
near : (source : List ℕ) (x : Token) (b : List Token) (v : Token) (r : List Token) → terminal_of source x ((b ++ v ∷ []) ++ r) ≡ terminal_of source x (b ++ v ∷ [])
near source x [] v r = one_ahead source x v r []
near source x (y ∷ b) v r = one_ahead source x y ((b ++ v ∷ []) ++ r) (b ++ v ∷ [])

nearer : (source : List ℕ) (x : Token) (b : List Token) (v : Token) (r : List Token) → terminal_of source x (b ++ v ∷ r) ≡ terminal_of source x (b ++ v ∷ [])
nearer source x [] v r = one_ahead source x v r []
nearer source x (y ∷ b) v r = one_ahead source x y (b ++ v ∷ r) (b ++ v ∷ [])

abbrev with_terminal : ℕ → Token → Terminal → Lexeme
with_terminal at t k = record { terminal = k; after_line = t.after_line; at = at }

pub ahead_last : (source : List ℕ) (at : ℕ) (b : List Token) (v : Token) (r : List Token) → ahead source at (b ++ v ∷ []) r ≡ ahead source at b (v ∷ []) ++ lexeme_of source (place_of at b) v r ∷ []
ahead_last source at [] v r = refl
ahead_last source at (x ∷ b) v r =
    let k : with_terminal at x (terminal_of source x ((b ++ v ∷ []) ++ r)) ≡ with_terminal at x (terminal_of source x (b ++ v ∷ [])) = ap (with_terminal at x) (near source x b v r) in
    rw (k, ahead_last source (at + 1) b v r) refl

pub ahead_near : (source : List ℕ) (at : ℕ) (b : List Token) (v : Token) (r : List Token) → ahead source at b (v ∷ r) ≡ ahead source at b (v ∷ [])
ahead_near source at [] v r = refl
ahead_near source at (x ∷ b) v r =
    let k : with_terminal at x (terminal_of source x (b ++ v ∷ r)) ≡ with_terminal at x (terminal_of source x (b ++ v ∷ [])) = ap (with_terminal at x) (nearer source x b v r) in
    rw (k, ahead_near source (at + 1) b v r) refl

pub ahead_none : (source : List ℕ) (at : ℕ) (b : List Token) → lexemes source at b ≡ ahead source at b []
ahead_none source at [] = refl
ahead_none source at (x ∷ b) =
    let k : with_terminal at x (terminal_of source x b) ≡ with_terminal at x (terminal_of source x (b ++ [])) = ap (λ y. with_terminal at x (terminal_of source x y)) (sym (append-nil b)) in
    rw (k, ahead_none source (at + 1) b) refl

last_of : (xs : List Token) → (xs ≡ []) ⊎ ((ys : List Token) × (y : Token) × (xs ≡ ys ++ y ∷ []))
last_of [] = inl refl
last_of (x ∷ xs) = by (last_of xs)
  where
    by : (xs ≡ []) ⊎ ((ys : List Token) × (y : Token) × (xs ≡ ys ++ y ∷ [])) → (x ∷ xs ≡ []) ⊎ ((ys : List Token) × (y : Token) × (x ∷ xs ≡ ys ++ y ∷ []))
    by (inl e) = inr ([], x, ap (λ z. x ∷ z) e)
    by (inr h) = inr (x ∷ h.0, h.1, ap (λ z. x ∷ z) h.2)

closing_same : (l : Bool) (j k : Terminal) (at : ℕ) → is_closing j ≡ is_closing k → rule_stands (record { terminal = j; after_line = l; at = at }) ≡ rule_stands (record { terminal = k; after_line = l; at = at })
closing_same true j k at e = refl
closing_same false j k at e = e

module _ (kept : Kept) (back : Kept_back) where
  bare : (source : List ℕ) (at : ℕ) (t : Token) (r : List Token) → plain (lexeme_of source at t r) ≡ lexeme_of source at t []
  bare source at t r = ap (with_terminal at t) (plain_terminal source t r)

  pub alike : (source : List ℕ) (at : ℕ) (t : Token) (r s : List Token) → Alike (lexeme_of source at t r) (lexeme_of source at t s)
  alike source at t r s b h =
      let e : plain (lexeme_of source at t r) ≡ plain (lexeme_of source at t s) = bare source at t r ∙ sym (bare source at t s) in
      let P : Lexeme → Type 0 = λ x. HasBeginning (b ++ x ∷ []) in
      back b (lexeme_of source at t s) (subst P e (kept b (lexeme_of source at t r) h))

  pub same_rule : (source : List ℕ) (at : ℕ) (t : Token) (r s : List Token) → rule_stands (lexeme_of source at t r) ≡ rule_stands (lexeme_of source at t s)
  same_rule source at t r s =
      closing_same t.after_line (terminal_of source t r) (terminal_of source t s) at
      (sym (closing_plain (terminal_of source t r)) ∙ ap is_closing (plain_terminal source t r ∙ sym (plain_terminal source t s)) ∙ closing_plain (terminal_of source t s))

  module _ (good : Good) (exact : Exact) (begun : Begun) (refused : Refused) (same : Same_read) where
    -- the last of some tokens may stand before others
    last_alike : (source : List ℕ) (b : List Token) (v : Token) (r s : List Token) → Begins (start ∷ ahead source 0 (b ++ v ∷ []) r) → Begins (start ∷ ahead source 0 (b ++ v ∷ []) s)
    last_alike source b v r s h =
        let P : List Lexeme → Type 0 = λ x. Begins (start ∷ x) in
        let k = subst P (ahead_last source 0 b v r) h in
        let m = begins_alike good exact begun refused same (start ∷ ahead source 0 b (v ∷ [])) (lexeme_of source (place_of 0 b) v r) (lexeme_of source (place_of 0 b) v s) (alike source (place_of 0 b) v r s) (alike source (place_of 0 b) v s r) (same_rule source (place_of 0 b) v r s) k in
        subst P (sym (ahead_last source 0 b v s)) m

    all_alike : (source : List ℕ) (b r s : List Token) → Begins (start ∷ ahead source 0 b r) → Begins (start ∷ ahead source 0 b s)
    all_alike source b r s h = by (last_of b)
      where
        by : (b ≡ []) ⊎ ((ys : List Token) × (y : Token) × (b ≡ ys ++ y ∷ [])) → Begins (start ∷ ahead source 0 b s)
        by (inl e) =
            let P : List Token → Type 0 = λ x. Begins (start ∷ ahead source 0 x r) in
            let Q : List Token → Type 0 = λ x. Begins (start ∷ ahead source 0 x s) in
            subst Q (sym e) (subst P e h)
        by (inr m) =
            let P : List Token → Type 0 = λ x. Begins (start ∷ ahead source 0 x r) in
            let Q : List Token → Type 0 = λ x. Begins (start ∷ ahead source 0 x s) in
            subst Q (sym m.2) (last_alike source m.0 m.1 r s (subst P m.2 h))

    -- tokens that are taken before others have a partial tree
    pub front_begins : (source : List ℕ) (b r : List Token) (p : State) → going from (start ∷ ahead source 0 b r) ≡ Some p → HasPartialTree source b
    front_begins source b r p h =
        let P : List Lexeme → Type 0 = λ x. Begins (start ∷ x) in
        subst P (sym (ahead_none source 0 b)) (all_alike source b r [] (begun (start ∷ ahead source 0 b r) p h))

    -- and with one that is refused there they have none
    pub front_ends : (source : List ℕ) (b : List Token) (t : Token) (r : List Token) (p : State) → going from (start ∷ ahead source 0 b (t ∷ r)) ≡ Some p → stepping p (lexeme_of source (place_of 0 b) t r) ≡ None → HasPartialTree source (b ++ t ∷ []) → ⊥
    front_ends source b t r p h k n =
        let P : List Lexeme → Type 0 = λ x. Begins (start ∷ x) in
        let a = all_alike source (b ++ t ∷ []) [] r (subst P (ahead_none source 0 (b ++ t ∷ [])) n) in
        let c = taken good exact begun refused same (start ∷ ahead source 0 b (t ∷ []) ++ lexeme_of source (place_of 0 b) t r ∷ []) (subst P (ahead_last source 0 b t r) a) in
        let d = split (start ∷ ahead source 0 b (t ∷ [])) (lexeme_of source (place_of 0 b) t r) from c.0 c.1 in
        let e : going from (start ∷ ahead source 0 b (t ∷ [])) ≡ Some p = ap (λ x. going from (start ∷ x)) (sym (ahead_near source 0 b t r)) ∙ h in
        let same_state : d.0 ≡ p = some_same d.0 p (sym d.1 ∙ e) in
        none_taken (stepping d.0 (lexeme_of source (place_of 0 b) t r)) (ap (λ x. stepping x (lexeme_of source (place_of 0 b) t r)) same_state ∙ k) (c.0, d.2)
