-- What is answered is so, and is the only answer.
use Rattle.std.proofs.Common.{◌≡◌, ◌<◌, ◌⊎◌, inl, inr, ℕ, Bool, true, false, List, [], ◌∷◌, ◌++◌, take, Result, Ok, Err, IfOk, IfErr, nat_lt, ◌==◌, refl, sym, ap, subst, ◌∙◌, append-nil, arith}
use Rattle.std.proofs.lemmas.Bool.Decides.{nat_tests}
use Rattle.std.specs.Str.{IsUtf8, IsValidUpTo, chars}
use Rattle.lava_base.specs.declared.place.Place.{Place}
use Rattle.js_fault.specs.declared.fault.SyntaxFault.{SyntaxFault}
use Rattle.js_fault.specs.declared.fault.SyntaxFault.TheVariants as faults
use Rattle.js_fault.specs.declared.fault.SyntaxWhat.{SyntaxWhat}
use Rattle.js_fault.specs.declared.fault.SyntaxWhat.TheVariants as what
use Rattle.js_lexer.specs.declared.element.Element.{Element}
use Rattle.js_lexer.specs.declared.element.Element.TheVariants as elements
use Rattle.js_lexer.specs.declared.element.Form.{Form}
use Rattle.js_lexer.specs.declared.element.NoElement.{NoElement}
use Rattle.js_lexer.specs.declared.element.NoElement.TheVariants.{Stopped, LeftOut}
use Rattle.js_lexer.specs.declared.machine.Stop.TheVariants as stops
use Rattle.js_lexer.specs.declared.token.Token.{Token}
use Rattle.js_lexer.specs.Answers.{form_name, IsFault, HasCause, GivesTokens, Refuses}
use Rattle.js_lexer.specs.Elements.{Shows, StandsNone}
use Rattle.js_lexer.specs.Lexing.{IsFaultOf, IsBrokenFault}
use Rattle.js_lexer.specs.Nestings.{inside}
use Rattle.js_lexer.specs.Scanning.{Taking, element_of}
use Rattle.js_lexer.specs.Sources.{State, Run, opening, IsTokens, IsFront, IsBad, IsBadToken, IsUnsupported, IsNotUtf8, StandsSome, IsCut}
use Rattle.js_lexer.specs.Spots.{over_all}
use Rattle.js_lexer.proofs.Continuations.{element_bad, element_cut}
use Rattle.js_lexer.proofs.Exactly.{Exactly}
use Rattle.js_lexer.proofs.Numbers_taken.{element_exactly, nothing_shows}
use Rattle.js_lexer.proofs.Runs.{Ends, one_end, none_ends, shows_ends, empty_ends, taken_is_element, left_out_shows, stopped_is_none}
use Rattle.js_lexer.proofs.Tests.{equal}

-- a refusal has its cause

not_empty : (s : State) → ¬ (s.rest ≡ []) → (xs : List ℕ) → s.rest ≡ xs → (c : ℕ) × (cs : List ℕ) × (s.rest ≡ c ∷ cs)
not_empty s some [] e = absurd (some e)
not_empty s some (c ∷ cs) e = (c, cs, e)

pub whole_cause : (bytes : List ℕ) (s : State) (none : NoElement) (f : SyntaxFault) → IsUtf8 bytes → Run (opening (chars bytes)) s → element_of (inside s.opens) s.rest ≡ Err none → ¬ (s.rest ≡ []) →
    IsFaultOf none s.spot.place f → HasCause bytes f
whole_cause bytes s (Stopped stop) f u run h some e =
    subst (HasCause bytes) (sym e) (bytes, true, (u, refl), (s, run, refl, (some, stopped_is_none (inside s.opens) s.rest stop h)))
whole_cause bytes s (LeftOut form) f u run h some (inl e) =
    subst (HasCause bytes) (sym e) (form, refl, (bytes, true, (u, refl), (s, run, refl, left_out_shows (inside s.opens) s.rest form h)))
whole_cause bytes s (LeftOut form) f u run h some (inr e) = subst (HasCause bytes) (sym e) tt

bad_whatever_follows : (s : State) → element_of (inside s.opens) s.rest ≡ Err (Stopped stops.Bad) → ¬ (s.rest ≡ []) → (more : List ℕ) → StandsNone (inside s.opens) (s.rest ++ more)
bad_whatever_follows s h some more =
    let k : (c : ℕ) × (cs : List ℕ) × (s.rest ≡ c ∷ cs) = not_empty s some s.rest refl in
    subst (λ z. StandsNone (inside s.opens) (z ++ more)) (sym k.2)
    (stopped_is_none (inside s.opens) (k.0 ∷ (k.1 ++ more)) stops.Bad (element_bad (inside s.opens) k.0 k.1 more (subst (λ z. element_of (inside s.opens) z ≡ Err (Stopped stops.Bad)) k.2 h)))

pub broken_cause : (bytes : List ℕ) (n : ℕ) (s : State) (none : NoElement) (f : SyntaxFault) → ¬ (IsUtf8 bytes) → IsValidUpTo bytes n → Run (opening (chars (take n bytes))) s →
    element_of (inside s.opens) s.rest ≡ Err none → ¬ (s.rest ≡ []) → (none ≡ Stopped stops.Cut → ⊥) → IsFaultOf none s.spot.place f → HasCause bytes f
broken_cause bytes n s (Stopped stops.Cut) f u v run h some other e = absurd (other refl)
broken_cause bytes n s (Stopped stops.Bad) f u v run h some other e =
    subst (HasCause bytes) (sym e) (take n bytes, false, (u, (n, v, refl)), (s, run, refl, bad_whatever_follows s h some))
broken_cause bytes n s (LeftOut form) f u v run h some other (inl e) =
    subst (HasCause bytes) (sym e) (form, refl, (take n bytes, false, (u, (n, v, refl)), (s, run, refl, left_out_shows (inside s.opens) s.rest form h)))
broken_cause bytes n s (LeftOut form) f u v run h some other (inr e) = subst (HasCause bytes) (sym e) tt

-- the text ends inside an element
pub cut_is_cut : (s : State) → element_of (inside s.opens) s.rest ≡ Err (Stopped stops.Cut) → IsCut (inside s.opens) s.rest
cut_is_cut s h =
    inr (stopped_is_none (inside s.opens) s.rest stops.Cut h, of_more (element_cut (inside s.opens) s.rest h))
  where
    of_more : (more : List ℕ) × (((e : Element) × (ys : List ℕ) × (element_of (inside s.opens) (s.rest ++ more) ≡ Ok (e, ys))) ⊎ ((form : Form) × (element_of (inside s.opens) (s.rest ++ more) ≡ Err (LeftOut form)))) →
        (more : List ℕ) × StandsSome (inside s.opens) (s.rest ++ more)
    of_more (more, inl (e, ys, k)) = (more, inl (e, ys, (taken_is_element (inside s.opens) (s.rest ++ more) e ys k).0))
    of_more (more, inr (form, k)) = (more, inr (form, left_out_shows (inside s.opens) (s.rest ++ more) form k))

pub cut_cause : (bytes : List ℕ) (n : ℕ) (s : State) → ¬ (IsUtf8 bytes) → IsValidUpTo bytes n → Run (opening (chars (take n bytes))) s → IsCut (inside s.opens) s.rest → IsNotUtf8 bytes (over_all s.spot s.rest).place
cut_cause bytes n s u v run h = (take n bytes, (u, (n, v, refl)), (s, run, refl, h))

pub end_cause : (bytes : List ℕ) (n : ℕ) (s : State) → ¬ (IsUtf8 bytes) → IsValidUpTo bytes n → Run (opening (chars (take n bytes))) s → s.rest ≡ [] → IsNotUtf8 bytes s.spot.place
end_cause bytes n s u v run e = subst (λ z. IsNotUtf8 bytes (over_all s.spot z).place) e (cut_cause bytes n s u v run (inl e))

-- one front

one_length : (bytes : List ℕ) (m n : ℕ) → IsValidUpTo bytes m → IsValidUpTo bytes n → m ≡ n
one_length bytes m n a b = by_order (m == n) (nat_lt m n) refl refl
  where
    less : (m n : ℕ) → nat_lt m n ≡ true → m < n
    less m n h = grind (arith, nat_tests)

    more : (m n : ℕ) → (m == n) ≡ false → nat_lt m n ≡ false → n < m
    more m n h k = grind (arith, nat_tests)

    by_order : (p q : Bool) → (m == n) ≡ p → nat_lt m n ≡ q → m ≡ n
    by_order true q e f = equal m n e
    by_order false true e f = absurd (a.longest n (less m n f) b.front)
    by_order false false e f = absurd (b.longest m (more m n e f) a.front)

one_front : (bytes f g : List ℕ) (v w : Bool) → IsFront bytes f v → IsFront bytes g w → (f ≡ g) × (v ≡ w)
one_front bytes f g true true a b = (a.1 ∙ sym b.1, refl)
one_front bytes f g true false a b = absurd (b.0 a.0)
one_front bytes f g false true a b = absurd (a.0 b.0)
one_front bytes f g false false (u, (m, a, e)) (v, (n, b, k)) = (e ∙ ap (λ z. take z bytes) (one_length bytes m n a b) ∙ sym k, refl)

same_run : (f g : List ℕ) (s : State) → f ≡ g → Run (opening (chars f)) s → Run (opening (chars g)) s
same_run f g s e r = subst (λ z. Run (opening (chars z)) s) e r

-- what each answer says of the state in which it ends
pub record Ending (bytes : List ℕ) : Type 0 where
  front : List ℕ
  whole : Bool
  is : IsFront bytes front whole
  state : State
  run : Run (opening (chars front)) state
  ends : Ends state

same_ending : (bytes : List ℕ) (a b : Ending bytes) → (a.state ≡ b.state) × (a.whole ≡ b.whole)
same_ending bytes a b =
    let f : (a.front ≡ b.front) × (a.whole ≡ b.whole) = one_front bytes a.front b.front a.whole b.whole a.is b.is in
    (one_end (opening (chars b.front)) a.state b.state (same_run a.front b.front a.state f.0 a.run) b.run a.ends b.ends, f.1)

bad_none : (whole within : Bool) (xs : List ℕ) → IsBad whole within xs → StandsNone within xs
bad_none true within xs h = h.1
bad_none false within xs h = subst (StandsNone within) (append-nil xs) (h [])

cut_none : (within : Bool) (xs : List ℕ) → IsCut within xs → StandsNone within xs
cut_none within xs (inl e) = subst (StandsNone within) (sym e) (element_exactly within [])
cut_none within xs (inr h) = h.0

abbrev tokens_ending : (bytes : List ℕ) (ts : List Token) → IsTokens bytes ts → Ending bytes
tokens_ending bytes ts (u, (s, run, e, t)) = record { front = bytes; whole = true; is = (u, refl); state = s; run = run; ends = empty_ends s e }

abbrev bad_ending : (bytes : List ℕ) (place : Place) → IsBadToken bytes place → Ending bytes
bad_ending bytes place (f, w, i, (s, run, p, b)) = record { front = f; whole = w; is = i; state = s; run = run; ends = none_ends s (bad_none w (inside s.opens) s.rest b) }

abbrev form_ending : (bytes : List ℕ) (place : Place) (form : Form) → IsUnsupported bytes place form → Ending bytes
form_ending bytes place form (f, w, i, (s, run, p, b)) = record { front = f; whole = w; is = i; state = s; run = run; ends = shows_ends s form b }

abbrev utf8_ending : (bytes : List ℕ) (place : Place) → IsNotUtf8 bytes place → Ending bytes
utf8_ending bytes place (f, i, (s, run, p, b)) = record { front = f; whole = false; is = i; state = s; run = run; ends = none_ends s (cut_none (inside s.opens) s.rest b) }

-- two answers are one

one_form : (within : Bool) (xs : List ℕ) (f g : Form) → Shows f xs → Shows g xs → f ≡ g
one_form within xs f g h k = by_taking (element_of within xs) (element_exactly within xs)
  where
    by_taking : (t : Taking) → Exactly within xs t → f ≡ g
    by_taking (Ok r) ex = absurd (ex.2 f h)
    by_taking (Err (Stopped stop)) ex = absurd (ex.1 f h)
    by_taking (Err (LeftOut form)) ex = ex.1 f h ∙ sym (ex.1 g k)

pub tokens_tokens : (bytes : List ℕ) (ts us : List Token) → IsTokens bytes ts → IsTokens bytes us → ts ≡ us
tokens_tokens bytes ts us a b =
    let s : State = a.1.0 in
    let e : (a.1.0 ≡ b.1.0) × (true ≡ true) = same_ending bytes (tokens_ending bytes ts a) (tokens_ending bytes us b) in
    sym a.1.3 ∙ ap (λ z. z.tokens) e.0 ∙ b.1.3

tokens_bad : (bytes : List ℕ) (ts : List Token) (place : Place) → IsTokens bytes ts → IsBadToken bytes place → ⊥
tokens_bad bytes ts place a b =
    let e : (a.1.0 ≡ b.3.0) × (true ≡ b.1) = same_ending bytes (tokens_ending bytes ts a) (bad_ending bytes place b) in
    by_whole b.1 (sym e.1) b.3.3 (ap (λ z. z.rest) (sym e.0) ∙ a.1.2)
  where
    by_whole : (w : Bool) → w ≡ true → IsBad w (inside b.3.0.opens) b.3.0.rest → b.3.0.rest ≡ [] → ⊥
    by_whole true h bad empty = bad.0 empty
    by_whole false h bad empty = cc

tokens_form : (bytes : List ℕ) (ts : List Token) (place : Place) (form : Form) → IsTokens bytes ts → IsUnsupported bytes place form → ⊥
tokens_form bytes ts place form a b =
    let e : (a.1.0 ≡ b.3.0) × (true ≡ b.1) = same_ending bytes (tokens_ending bytes ts a) (form_ending bytes place form b) in
    nothing_shows form (subst (Shows form) (ap (λ z. z.rest) (sym e.0) ∙ a.1.2) b.3.3)

tokens_utf8 : (bytes : List ℕ) (ts : List Token) (place : Place) → IsTokens bytes ts → IsNotUtf8 bytes place → ⊥
tokens_utf8 bytes ts place a b = b.1.0 a.0

bad_bad : (bytes : List ℕ) (p q : Place) → IsBadToken bytes p → IsBadToken bytes q → p ≡ q
bad_bad bytes p q a b =
    let e : (a.3.0 ≡ b.3.0) × (a.1 ≡ b.1) = same_ending bytes (bad_ending bytes p a) (bad_ending bytes q b) in
    sym a.3.2 ∙ ap (λ z. z.spot.place) e.0 ∙ b.3.2

bad_form : (bytes : List ℕ) (p q : Place) (form : Form) → IsBadToken bytes p → IsUnsupported bytes q form → ⊥
bad_form bytes p q form a b =
    let e : (a.3.0 ≡ b.3.0) × (a.1 ≡ b.1) = same_ending bytes (bad_ending bytes p a) (form_ending bytes q form b) in
    (bad_none a.1 (inside a.3.0.opens) a.3.0.rest a.3.3).1 form (subst (Shows form) (ap (λ z. z.rest) (sym e.0)) b.3.3)

some_space : (within : Bool) → StandsNone within (32 ∷ []) → ⊥
some_space within h = h.0 elements.Gap [] (inl (refl, refl))

bad_utf8 : (bytes : List ℕ) (p q : Place) → IsBadToken bytes p → IsNotUtf8 bytes q → ⊥
bad_utf8 bytes p q a b =
    let e : (a.3.0 ≡ b.2.0) × (a.1 ≡ false) = same_ending bytes (bad_ending bytes p a) (utf8_ending bytes q b) in
    by_whole a.1 e.1 a.3.3 (subst (λ z. IsCut (inside z.opens) z.rest) (sym e.0) b.2.3)
  where
    by_whole : (w : Bool) → w ≡ false → IsBad w (inside a.3.0.opens) a.3.0.rest → IsCut (inside a.3.0.opens) a.3.0.rest → ⊥
    by_whole true h bad cut = cc
    by_whole false h bad (inl empty) = some_space (inside a.3.0.opens) (subst (λ z. StandsNone (inside a.3.0.opens) (z ++ 32 ∷ [])) empty (bad (32 ∷ [])))
    by_whole false h bad (inr (none, (more, inl (f, ys, stands)))) = (bad more).0 f ys stands
    by_whole false h bad (inr (none, (more, inr (form, shows)))) = (bad more).1 form shows

form_form : (bytes : List ℕ) (p q : Place) (f g : Form) → IsUnsupported bytes p f → IsUnsupported bytes q g → (p ≡ q) × (f ≡ g)
form_form bytes p q f g a b =
    let e : (a.3.0 ≡ b.3.0) × (a.1 ≡ b.1) = same_ending bytes (form_ending bytes p f a) (form_ending bytes q g b) in
    (sym a.3.2 ∙ ap (λ z. z.spot.place) e.0 ∙ b.3.2, one_form false b.3.0.rest f g (subst (Shows f) (ap (λ z. z.rest) e.0) a.3.3) b.3.3)

form_utf8 : (bytes : List ℕ) (p q : Place) (form : Form) → IsUnsupported bytes p form → IsNotUtf8 bytes q → ⊥
form_utf8 bytes p q form a b =
    let e : (a.3.0 ≡ b.2.0) × (a.1 ≡ false) = same_ending bytes (form_ending bytes p form a) (utf8_ending bytes q b) in
    (cut_none (inside b.2.0.opens) b.2.0.rest b.2.3).1 form (subst (Shows form) (ap (λ z. z.rest) e.0) a.3.3)

utf8_utf8 : (bytes : List ℕ) (p q : Place) → IsNotUtf8 bytes p → IsNotUtf8 bytes q → p ≡ q
utf8_utf8 bytes p q a b =
    let e : (a.2.0 ≡ b.2.0) × (false ≡ false) = same_ending bytes (utf8_ending bytes p a) (utf8_ending bytes q b) in
    sym a.2.2 ∙ ap (λ z. (over_all z.spot z.rest).place) e.0 ∙ b.2.2

tokens_fault : (bytes : List ℕ) (ts : List Token) (place : Place) (w : SyntaxWhat) → IsTokens bytes ts → IsFault bytes place w → ⊥
tokens_fault bytes ts place what.NotUtf8 a b = tokens_utf8 bytes ts place a b
tokens_fault bytes ts place what.BadToken a b = tokens_bad bytes ts place a b
tokens_fault bytes ts place (what.Unsupported name) a (form, e, b) = tokens_form bytes ts place form a b
tokens_fault bytes ts place what.Unexpected a b = b
tokens_fault bytes ts place what.TooDeep a b = b
tokens_fault bytes ts place (what.Early name) a b = b

one_fault : (bytes : List ℕ) (p q : Place) (v w : SyntaxWhat) → IsFault bytes p v → IsFault bytes q w → (p ≡ q) × (v ≡ w)
one_fault bytes p q what.NotUtf8 what.NotUtf8 a b = (utf8_utf8 bytes p q a b, refl)
one_fault bytes p q what.NotUtf8 what.BadToken a b = absurd (bad_utf8 bytes q p b a)
one_fault bytes p q what.NotUtf8 (what.Unsupported name) a (form, e, b) = absurd (form_utf8 bytes q p form b a)
one_fault bytes p q what.BadToken what.NotUtf8 a b = absurd (bad_utf8 bytes p q a b)
one_fault bytes p q what.BadToken what.BadToken a b = (bad_bad bytes p q a b, refl)
one_fault bytes p q what.BadToken (what.Unsupported name) a (form, e, b) = absurd (bad_form bytes p q form a b)
one_fault bytes p q (what.Unsupported n) what.NotUtf8 (form, e, a) b = absurd (form_utf8 bytes p q form a b)
one_fault bytes p q (what.Unsupported n) what.BadToken (form, e, a) b = absurd (bad_form bytes q p form b a)
one_fault bytes p q (what.Unsupported n) (what.Unsupported m) (f, e, a) (g, k, b) =
    let same : (p ≡ q) × (f ≡ g) = form_form bytes p q f g a b in
    (same.0, ap what.Unsupported (e ∙ ap form_name same.1 ∙ sym k))
one_fault bytes p q _ _ a b = absurd (search depth 0)

-- what an answer says decides it

pub only_tokens : (bytes : List ℕ) (answer : Result (List Token) SyntaxFault) → IfOk answer (λ ts. IsTokens bytes ts) → IfErr answer (HasCause bytes) → (ts : List Token) → IsTokens bytes ts → GivesTokens answer ts
only_tokens bytes (Ok us) a b ts h = tokens_tokens bytes us ts a h
only_tokens bytes (Err (faults.At place w)) a b ts h = absurd (tokens_fault bytes ts place w h b)
only_tokens bytes (Err faults.OutOfMemory) a b ts h = refl

pub only_fault : (bytes : List ℕ) (answer : Result (List Token) SyntaxFault) → IfOk answer (λ ts. IsTokens bytes ts) → IfErr answer (HasCause bytes) → (place : Place) (w : SyntaxWhat) → IsFault bytes place w → Refuses answer place w
only_fault bytes (Ok us) a b place w h = tokens_fault bytes us place w a h
only_fault bytes (Err (faults.At p v)) a b place w h =
    let same : (p ≡ place) × (v ≡ w) = one_fault bytes p place v w b h in
    inl (ap (λ z. faults.At z v) same.0 ∙ ap (λ z. faults.At place z) same.1)
only_fault bytes (Err faults.OutOfMemory) a b place w h = inr refl

-- the same, of what a function was given

pub whole_cause_at : (bytes : List ℕ) (first s : State) (none : NoElement) (place : Place) (f : SyntaxFault) → IsUtf8 bytes → first ≡ opening (chars bytes) → Run first s → element_of (inside s.opens) s.rest ≡ Err none → ¬ (s.rest ≡ []) →
    place ≡ s.spot.place → IsFaultOf none place f → HasCause bytes f
whole_cause_at bytes first s none place f u o run h some p e =
    whole_cause bytes s none f u (subst (λ z. Run z s) o run) h some (subst (λ z. IsFaultOf none z f) p e)

pub broken_cause_at : (bytes text : List ℕ) (n : ℕ) (first s : State) (none : NoElement) (f : SyntaxFault) → ¬ (IsUtf8 bytes) → IsValidUpTo bytes n → text ≡ take n bytes → first ≡ opening (chars text) → Run first s →
    element_of (inside s.opens) s.rest ≡ Err none → ¬ (s.rest ≡ []) → IsBrokenFault s none f → HasCause bytes f
broken_cause_at bytes text n first s none f u v t o run h some e = by_stop none h e
  where
    from : Run (opening (chars (take n bytes))) s
    from = subst (λ z. Run z s) (o ∙ ap (λ z. opening (chars z)) t) run

    by_stop : (none : NoElement) → element_of (inside s.opens) s.rest ≡ Err none → IsBrokenFault s none f → HasCause bytes f
    by_stop (Stopped stops.Cut) h e = subst (HasCause bytes) (sym e) (cut_cause bytes n s u v from (cut_is_cut s h))
    by_stop (Stopped stops.Bad) h e = broken_cause bytes n s (Stopped stops.Bad) f u v from h some not_cut e
      where
        not_cut : Stopped stops.Bad ≡ Stopped stops.Cut → ⊥
        not_cut k = cc
    by_stop (LeftOut form) h e = broken_cause bytes n s (LeftOut form) f u v from h some not_cut e
      where
        not_cut : LeftOut form ≡ Stopped stops.Cut → ⊥
        not_cut k = cc

pub end_cause_at : (bytes text : List ℕ) (n : ℕ) (first s : State) (place : Place) (f : SyntaxFault) → ¬ (IsUtf8 bytes) → IsValidUpTo bytes n → text ≡ take n bytes → first ≡ opening (chars text) → Run first s → s.rest ≡ [] →
    place ≡ s.spot.place → f ≡ faults.At place what.NotUtf8 → HasCause bytes f
end_cause_at bytes text n first s place f u v t o run e p h =
    subst (HasCause bytes) (sym (h ∙ ap (λ z. faults.At z what.NotUtf8) p)) (end_cause bytes n s u v (subst (λ z. Run z s) (o ∙ ap (λ z. opening (chars z)) t) run) e)
