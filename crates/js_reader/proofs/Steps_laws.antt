-- What the program comes to is what the reader of trees comes to.
use Rattle.std.proofs.Common.{◌≡◌, ℕ, ◌+◌, Bool, true, false, cond, List, [], ◌∷◌, ◌++◌, Option, Some, None, refl, sym, ap, subst, ◌∙◌, append_assoc}
use Rattle.std.proofs.lemmas.List.{append-nil}
use Rattle.js_grammar.specs.declared.lexeme.Lexeme.{Lexeme}
use Rattle.js_grammar.specs.Fits.{table}
use Rattle.js_grammar.specs.Flat.{Flat, flat_of, fed_in}
use Rattle.js_grammar.specs.Grammar.{after}
use Rattle.js_grammar.specs.Machine.{State, feed}
use Rattle.js_grammar.specs.Inserted.{pair, or_else, step, steps}
use Rattle.js_grammar.specs.Laws.{Flatly, so, semi, do_semi, rule_stands}
use Rattle.js_lexer.specs.declared.token.Token.{Token}
use Rattle.js_reader.specs.declared.halt.Halt.{Halt}
use Rattle.js_reader.specs.declared.halt.HaltCause.{HaltCause}
use Rattle.js_reader.specs.declared.halt.HaltCause.TheVariants as cause
use Rattle.js_reader.specs.Halts.{halt, told_of}
use Rattle.js_reader.specs.Steps.{lexeme_of, paired_in, or_so, stepped_in, Course, Through, Stuck, unless, after_step, course}
use Rattle.js_reader.specs.Reading.{lexemes, ahead}

abbrev pub stepping : State → Lexeme → Option State
stepping s t = step table semi do_semi rule_stands s t

abbrev pub going : State → List Lexeme → Option State
going s ts = steps table semi do_semi rule_stands s ts

-- the place behind some tokens
abbrev pub place_of : ℕ → List Token → ℕ
place_of at [] = at
place_of at (t ∷ ts) = place_of (at + 1) ts

or_is : (a c : Option State) (b : Option Flat) → b ≡ so c → or_so (so a) b ≡ so (or_else table semi do_semi rule_stands a c)
or_is None c b e = e
or_is (Some q) c b e = refl

pub cond_is : (v : Bool) (x y : Option Flat) (a b : Option State) → x ≡ so a → y ≡ so b → cond v x y ≡ so (cond v a b)
cond_is true x y a b e f = e
cond_is false x y a b e f = f

pub on : (s q : State) (t : Lexeme) (ts : List Lexeme) (o : Option State) → stepping s t ≡ Some q → going q ts ≡ o → going s (t ∷ ts) ≡ o
on s q t ts o e h = rw e h

-- nothing stops a reading up to each place among some tokens
abbrev pub Quiet : List ℕ → ℕ → State → List Token → List Token → Type 0
Quiet source at s ts rest = (b d : List Token) → ts ≡ b ++ d → (p : State) × (going s (ahead source at b (d ++ rest)) ≡ Some p) × (told_of (flat_of p) ≡ None)

pub quiet_none : (source : List ℕ) (at : ℕ) (s : State) (rest : List Token) → told_of (flat_of s) ≡ None → Quiet source at s [] rest
quiet_none source at s rest n [] d e = (s, refl, n)
quiet_none source at s rest n (x ∷ b) d e = cc

pub quiet_more : (source : List ℕ) (at : ℕ) (s q : State) (t : Token) (ts rest : List Token) → told_of (flat_of s) ≡ None → stepping s (lexeme_of source at t (ts ++ rest)) ≡ Some q → Quiet source (at + 1) q ts rest → Quiet source at s (t ∷ ts) rest
quiet_more source at s q t ts rest n e h [] d k = (s, refl, n)
quiet_more source at s q t ts rest n e h (x ∷ b) d k =
    let same : t ≡ x = cc in
    let more : ts ≡ b ++ d = cc in
    let m = h b d more in
    let P : Token → Type 0 = λ y. going s (lexeme_of source at y (b ++ (d ++ rest)) ∷ ahead source (at + 1) b (d ++ rest)) ≡ Some m.0 in
    let w : ts ++ rest ≡ b ++ (d ++ rest) = ap (λ y. y ++ rest) more ∙ append_assoc b d rest in
    let l : stepping s (lexeme_of source at t (b ++ (d ++ rest))) ≡ Some q = ap (λ y. stepping s (lexeme_of source at t y)) (sym w) ∙ e in
    (m.0, subst P same (on s q (lexeme_of source at t (b ++ (d ++ rest))) (ahead source (at + 1) b (d ++ rest)) (Some m.0) l m.1), m.2)

-- why a reading stops where a token comes to
abbrev pub Stop_state : Option State → HaltCause → Type 0
Stop_state None c = c ≡ cause.Unexpected
Stop_state (Some q) c = told_of (flat_of q) ≡ Some c

module _ (same : Flatly) where
  after_so : (o : Option State) (t : Lexeme) → after (so o) (λ p. fed_in p t) ≡ so (after o (λ q. feed table q t))
  after_so None t = refl
  after_so (Some q) t = same q t

  pub paired : (m : Lexeme) (s : State) (t : Lexeme) → paired_in m (flat_of s) t ≡ so (pair table semi do_semi rule_stands m s t)
  paired m s t = ap (λ o. after o (λ p. fed_in p t)) (same s m) ∙ after_so (feed table s m) t

  pub stepped : (s : State) (t : Lexeme) → stepped_in (flat_of s) t ≡ so (stepping s t)
  stepped s t =
      ap (λ o. or_so o (cond (rule_stands t) (paired_in semi (flat_of s) t) (paired_in do_semi (flat_of s) t))) (same s t)
      ∙ or_is (feed table s t) _ _ (cond_is (rule_stands t) _ _ _ _ (paired semi s t) (paired do_semi s t))

  -- where the tokens come to from a state
  abbrev pub Comes_to : List ℕ → ℕ → State → List Token → Course → Type 0
  Comes_to source at s ts (Through q) = (p : State) × (q ≡ flat_of p) × (going s (lexemes source at ts) ≡ Some p) × (told_of (flat_of p) ≡ None) × Quiet source at s ts []
  Comes_to source at s ts (Stuck h) =
      (b : List Token) × (t : Token) × (r : List Token) × (p : State) × (ts ≡ b ++ t ∷ r) × (h.place ≡ t.start)
      × (going s (ahead source at b (t ∷ r)) ≡ Some p) × Quiet source at s b (t ∷ r)
      × Stop_state (stepping p (lexeme_of source (place_of at b) t r)) h.cause

  further : (source : List ℕ) (at : ℕ) (s q : State) (t : Token) (ts : List Token) (c : Course) → told_of (flat_of s) ≡ None → stepping s (lexeme_of source at t ts) ≡ Some q → Comes_to source (at + 1) q ts c → Comes_to source at s (t ∷ ts) c
  further source at s q t ts (Through f) n e h =
      let l : stepping s (lexeme_of source at t (ts ++ [])) ≡ Some q = ap (λ x. stepping s (lexeme_of source at t x)) (append-nil ts) ∙ e in
      (h.0, h.1, on s q (lexeme_of source at t ts) (lexemes source (at + 1) ts) (Some h.0) e h.2, h.3, quiet_more source at s q t ts [] n l h.4)
  further source at s q t ts (Stuck g) n e h =
      let l : stepping s (lexeme_of source at t (h.0 ++ h.1 ∷ h.2)) ≡ Some q = ap (λ x. stepping s (lexeme_of source at t x)) (sym h.4) ∙ e in
      (t ∷ h.0, h.1, h.2, h.3, ap (λ x. t ∷ x) h.4, h.5, on s q (lexeme_of source at t (h.0 ++ h.1 ∷ h.2)) (ahead source (at + 1) h.0 (h.1 ∷ h.2)) (Some h.3) l h.6, quiet_more source at s q t h.0 (h.1 ∷ h.2) n l h.7, h.8)

  told_so : (source : List ℕ) (at : ℕ) (s q : State) (t : Token) (ts : List Token) (o : Option HaltCause) → told_of (flat_of s) ≡ None → stepping s (lexeme_of source at t ts) ≡ Some q → told_of (flat_of q) ≡ o → (told_of (flat_of q) ≡ None → Comes_to source (at + 1) q ts (course source (at + 1) (flat_of q) ts)) → Comes_to source at s (t ∷ ts) (unless t.start o (course source (at + 1) (flat_of q) ts))
  told_so source at s q t ts None n e h ih = further source at s q t ts (course source (at + 1) (flat_of q) ts) n e (ih h)
  told_so source at s q t ts (Some c) n e h ih =
      let P : Option State → Type 0 = λ o. Stop_state o c in
      ([], t, ts, s, refl, refl, refl, quiet_none source at s (t ∷ ts) n, subst P (sym e) h)

  turn : (source : List ℕ) (at : ℕ) (s : State) (t : Token) (ts : List Token) (o : Option State) → told_of (flat_of s) ≡ None → stepping s (lexeme_of source at t ts) ≡ o → ((q : State) → told_of (flat_of q) ≡ None → Comes_to source (at + 1) q ts (course source (at + 1) (flat_of q) ts)) → Comes_to source at s (t ∷ ts) (after_step t.start (so o) (λ p. course source (at + 1) p ts))
  turn source at s t ts None n e ih =
      let P : Option State → Type 0 = λ o. Stop_state o cause.Unexpected in
      ([], t, ts, s, refl, refl, refl, quiet_none source at s (t ∷ ts) n, subst P (sym e) refl)
  turn source at s t ts (Some q) n e ih = told_so source at s q t ts (told_of (flat_of q)) n e refl (ih q)

  pub comes : (source : List ℕ) (at : ℕ) (s : State) (ts : List Token) → told_of (flat_of s) ≡ None → Comes_to source at s ts (course source at (flat_of s) ts)
  comes source at s [] n = (s, refl, refl, n, quiet_none source at s [] n)
  comes source at s (t ∷ ts) n =
      let P : Option Flat → Type 0 = λ o. Comes_to source at s (t ∷ ts) (after_step t.start o (λ p. course source (at + 1) p ts)) in
      subst P (sym (stepped s (lexeme_of source at t ts))) (turn source at s t ts (stepping s (lexeme_of source at t ts)) n refl (λ q. comes source (at + 1) q ts))
