-- What the program comes to, and which trees and impossible tokens a source has.
use Rattle.std.proofs.Common.{◌≡◌, ℕ, ◌+◌, List, [], ◌∷◌, ◌++◌, Option, Some, None, refl, sym, ap, subst, ◌∙◌, append_assoc}
use Rattle.std.proofs.lemmas.List.{append-nil}
use Rattle.lava_base.specs.declared.place.Place.{Place}
use Rattle.js_grammar.specs.declared.lexeme.Lexeme.{Lexeme}
use Rattle.js_grammar.specs.declared.symbols.Production.TheVariants as production
use Rattle.js_grammar.specs.Flat.{Flat, flat_of}
use Rattle.js_grammar.specs.Grammar.{Node, Row}
use Rattle.js_grammar.specs.Machine.{State}
use Rattle.js_grammar.specs.Laws.{from, from_flat, so, whole_state, Flatly, Good, Exact, Kept, Kept_back, Begun, Refused, Same_read, Inserted_read}
use Rattle.js_grammar.specs.Profile.{Deep_told, Form_told}
use Rattle.js_lexer.specs.declared.token.Token.{Token}
use Rattle.js_reader.specs.declared.halt.Halt.{Halt}
use Rattle.js_reader.specs.declared.halt.HaltCause.{HaltCause}
use Rattle.js_reader.specs.declared.halt.HaltCause.TheVariants as cause
use Rattle.js_reader.specs.Halts.{halt, told_of}
use Rattle.js_reader.specs.Steps.{start, end, lexeme_of, stepped_in, Course, Through, Stuck, unless, after_step, course, to_end, source_course}
use Rattle.js_reader.specs.Reading.{lexemes, ahead, front, standing, whole, with_next, next_place, IsTree, AllWithin, IsInLanguage, IsStop, Stops_by}
use Rattle.js_reader.proofs.Steps_laws.{stepping, going, on, place_of, stepped, comes, Comes_to, Quiet, Stop_state}
use Rattle.js_reader.proofs.Fronts_laws.{after_is, joint, ahead_last, ahead_near, ahead_none, front_begins, front_ends}
use Rattle.js_reader.proofs.Limits_laws.{never_unexpected, within_at, form_at, deep_at}

-- the tokens up to one, that one, and those behind it
parts_at : (source : List ℕ) (at : ℕ) (b : List Token) (t : Token) (r : List Token) → lexemes source at (b ++ t ∷ r) ≡ ahead source at b (t ∷ r) ++ lexeme_of source (place_of at b) t r ∷ lexemes source (place_of at b + 1) r
parts_at source at [] t r = refl
parts_at source at (x ∷ b) t r = ap (λ y. lexeme_of source at x (b ++ t ∷ r) ∷ y) (parts_at source (at + 1) b t r)

-- what comes behind a token that is refused doesn't count
pub stuck_there : (a b : List Lexeme) (t : Lexeme) (s p : State) → going s a ≡ Some p → stepping p t ≡ None → going s (a ++ t ∷ b) ≡ None
stuck_there [] b t s p h k = let same : s ≡ p = cc in let e : stepping s t ≡ None = ap (λ x. stepping x t) same ∙ k in rw e refl
stuck_there (u ∷ a) b t s p h k =
    let m = after_is (stepping s u) _ p h in
    on s m.0 u (a ++ t ∷ b) None m.1 (stuck_there a b t m.0 p m.2 k)

whole_at : (source : List ℕ) (tokens b : List Token) (t : Token) (r : List Token) → tokens ≡ b ++ t ∷ r → going from (whole source tokens) ≡ going from ((start ∷ ahead source 0 b (t ∷ r)) ++ lexeme_of source (place_of 0 b) t r ∷ (lexemes source (place_of 0 b + 1) r ++ end ∷ []))
whole_at source tokens b t r e =
    let a = ahead source 0 b (t ∷ r) in
    let l = lexeme_of source (place_of 0 b) t r in
    let v = lexemes source (place_of 0 b + 1) r in
    let k : whole source tokens ≡ whole source (b ++ t ∷ r) = ap (whole source) e in
    let j : whole source (b ++ t ∷ r) ≡ start ∷ ((a ++ l ∷ v) ++ end ∷ []) = ap (λ x. start ∷ (x ++ end ∷ [])) (parts_at source 0 b t r) in
    let i : start ∷ ((a ++ l ∷ v) ++ end ∷ []) ≡ (start ∷ a) ++ l ∷ (v ++ end ∷ []) = ap (λ x. start ∷ x) (append_assoc a (l ∷ v) (end ∷ [])) in
    ap (going from) (k ∙ j ∙ i)

module _ (flatly : Flatly) (good : Good) (exact : Exact) (kept : Kept) (back : Kept_back) (begun : Begun) (refused : Refused) (same : Same_read) (read : Inserted_read) (deep : Deep_told) (forms : Form_told) where
  -- what it means that the program comes there
  abbrev pub Means : List ℕ → List Token → Place → Course → Type 0
  Means source tokens place (Through q) = (s : State) × (q ≡ flat_of s) × (going from (whole source tokens) ≡ Some s) × IsInLanguage source tokens
  Means source tokens place (Stuck h) = IsStop source tokens place h.place h.cause × (h.cause ≡ cause.Unexpected → going from (whole source tokens) ≡ None)

  no_tree : (source : List ℕ) (tokens : List Token) → going from (whole source tokens) ≡ None → (parts : Row) → IsTree source tokens parts → ⊥
  no_tree source tokens h parts x =
      let m = read (whole source tokens) (Node production.Module parts) x in
      let none : Option State = None in
      let k : none ≡ Some (whole_state m.0) = sym h ∙ m.2 in
      cc

  -- the tokens with the next one lead to a state
  stops_there : (source : List ℕ) (b r : List Token) (q : State) (c : HaltCause) → going from (with_next source b r) ≡ Some q → told_of (flat_of q) ≡ Some c → Stops_by source b r c
  stops_there source b r q cause.Unexpected h n = absurd (never_unexpected q n)
  stops_there source b r q (cause.LeftOut x) h n = form_at deep forms begun same (with_next source b r) q x h n
  stops_there source b r q cause.TooDeep h n = deep_at deep forms begun same (with_next source b r) q h n

  not_none : (c : HaltCause) (q : State) (o : Option State) → o ≡ Some q → told_of (flat_of q) ≡ Some c → c ≡ cause.Unexpected → o ≡ None
  not_none c q o e n k = absurd (never_unexpected q (n ∙ ap (λ x. Some x) k))

  -- what is quiet from the start on is within the language
  all_quiet : (source : List ℕ) (s : State) (ts rest : List Token) → stepping from start ≡ Some s → Quiet source 0 s ts rest → AllWithin source ts rest
  all_quiet source s ts rest e h b d k =
      let m = h b d k in
      within_at deep forms begun same (standing source b (d ++ rest)) m.0 (on from s start (ahead source 0 b (d ++ rest)) (Some m.0) e m.1) m.2

  at_end_told : (source : List ℕ) (tokens : List Token) (place : Place) (q : State) (o : Option HaltCause) → AllWithin source tokens [] → going from (whole source tokens) ≡ Some q → told_of (flat_of q) ≡ o → Means source tokens place (unless place o (Through (flat_of q)))
  at_end_told source tokens place q None a k e = (q, refl, k, (a, within_at deep forms begun same (whole source tokens) q k e))
  at_end_told source tokens place q (Some c) a k e =
      ((tokens, [], sym (append-nil tokens), refl, a, stops_there source tokens [] q c k e), not_none c q (going from (whole source tokens)) k e)

  at_end : (source : List ℕ) (tokens : List Token) (place : Place) (s : State) (o : Option State) → going from (front source tokens) ≡ Some s → AllWithin source tokens [] → stepping s end ≡ o → Means source tokens place (after_step place (so o) (λ p. Through p))
  at_end source tokens place s None h a e =
      let k = joint (front source tokens) end from s None h e in
      ((tokens, [], sym (append-nil tokens), refl, a, (begun (front source tokens) s h, no_tree source tokens k)), λ x. k)
  at_end source tokens place s (Some q) h a e = at_end_told source tokens place q (told_of (flat_of q)) a (joint (front source tokens) end from s (Some q) h e) refl

  -- the next token is one that stops the reading
  next_read : (source : List ℕ) (b : List Token) (t : Token) (r : List Token) (p q : State) → going from (standing source b (t ∷ r)) ≡ Some p → stepping p (lexeme_of source (place_of 0 b) t r) ≡ Some q → going from (standing source (b ++ t ∷ []) r) ≡ Some q
  next_read source b t r p q h k =
      let l = lexeme_of source (place_of 0 b) t r in
      let e : going from (start ∷ ahead source 0 b (t ∷ [])) ≡ Some p = ap (λ x. going from (start ∷ x)) (sym (ahead_near source 0 b t r)) ∙ h in
      ap (λ x. going from (start ∷ x)) (ahead_last source 0 b t r) ∙ joint (start ∷ ahead source 0 b (t ∷ [])) l from p (Some q) e k

  at_token : (source : List ℕ) (b : List Token) (t : Token) (r : List Token) (p : State) (o : Option State) (c : HaltCause) → going from (standing source b (t ∷ r)) ≡ Some p → stepping p (lexeme_of source (place_of 0 b) t r) ≡ o → Stop_state o c → Stops_by source b (t ∷ r) c
  at_token source b t r p None c h k e =
      let P : HaltCause → Type 0 = λ x. Stops_by source b (t ∷ r) x in
      subst P (sym e) (front_begins kept back good exact begun refused same source b (t ∷ r) p h, front_ends kept back good exact begun refused same source b t r p h k)
  at_token source b t r p (Some q) c h k e = stops_there source b (t ∷ r) q c (next_read source b t r p q h k) e

  whole_none : (source : List ℕ) (tokens b : List Token) (t : Token) (r : List Token) (p : State) (o : Option State) (c : HaltCause) → tokens ≡ b ++ t ∷ r → going from (standing source b (t ∷ r)) ≡ Some p → stepping p (lexeme_of source (place_of 0 b) t r) ≡ o → Stop_state o c → c ≡ cause.Unexpected → going from (whole source tokens) ≡ None
  whole_none source tokens b t r p None c w h k e x =
      whole_at source tokens b t r w ∙ stuck_there (standing source b (t ∷ r)) (lexemes source (place_of 0 b + 1) r ++ end ∷ []) (lexeme_of source (place_of 0 b) t r) from p h k
  whole_none source tokens b t r p (Some q) c w h k e x = absurd (never_unexpected q (e ∙ ap (λ y. Some y) x))

  behind_start : (source : List ℕ) (tokens : List Token) (place : Place) (s : State) (c : Course) → stepping from start ≡ Some s → Comes_to flatly source 0 s tokens c → Means source tokens place (to_end place c)
  behind_start source tokens place s (Through q) e h =
      let P : Option Flat → Type 0 = λ o. Means source tokens place (after_step place o (λ p. Through p)) in
      let f : stepped_in q end ≡ so (stepping h.0 end) = ap (λ x. stepped_in x end) h.1 ∙ stepped flatly h.0 end in
      subst P (sym f) (at_end source tokens place h.0 (stepping h.0 end) (on from s start (lexemes source 0 tokens) (Some h.0) e h.2) (all_quiet source s tokens [] e h.4) refl)
  behind_start source tokens place s (Stuck g) e h =
      let b = h.0 in
      let t = h.1 in
      let r = h.2 in
      let o = stepping h.3 (lexeme_of source (place_of 0 b) t r) in
      let k : going from (standing source b (t ∷ r)) ≡ Some h.3 = on from s start (ahead source 0 b (t ∷ r)) (Some h.3) e h.6 in
      ((b, t ∷ r, h.4, h.5, all_quiet source s b (t ∷ r) e h.7, at_token source b t r h.3 o g.cause k refl h.8), whole_none source tokens b t r h.3 o g.cause h.4 k refl h.8)

  pub means : (source : List ℕ) (tokens : List Token) (place : Place) (s : State) → stepping from start ≡ Some s → told_of (flat_of s) ≡ None → Means source tokens place (source_course source from_flat tokens place)
  means source tokens place s e n =
      let P : Option Flat → Type 0 = λ o. Means source tokens place (after_step place o (λ p. to_end place (course source 0 p tokens))) in
      let Q : Option HaltCause → Type 0 = λ o. Means source tokens place (unless place o (to_end place (course source 0 (flat_of s) tokens))) in
      subst P (sym (stepped flatly from start ∙ ap so e)) (subst Q (sym n) (behind_start source tokens place s (course source 0 (flat_of s) tokens) e (comes flatly source 0 s tokens n)))
