-- The clauses of the reading, from what the course of the tokens means.
use Rattle.std.proofs.Common.{◌≡◌, ℕ, ◌+◌, List, [], ◌∷◌, ◌++◌, Option, Some, None, ◌⊎◌, inl, inr, Result, Ok, Err, MatchResult, IfOk, IfErr, refl, sym, ap, subst, ◌∙◌, append_assoc, Bool, true, false}
use Rattle.std.proofs.lemmas.List.{append-nil}
use Rattle.lava_base.specs.declared.place.Place.{Place}
use Rattle.js_fault.specs.declared.fault.SyntaxFault.{SyntaxFault}
use Rattle.js_fault.specs.declared.fault.SyntaxFault.TheVariants as fault
use Rattle.js_fault.specs.declared.fault.SyntaxWhat.{SyntaxWhat}
use Rattle.js_fault.specs.declared.fault.SyntaxWhat.TheVariants as what
use Rattle.js_grammar.specs.declared.lexeme.Lexeme.{Lexeme}
use Rattle.js_grammar.specs.declared.symbols.Production.TheVariants as production
use Rattle.js_grammar.specs.declared.symbols.Terminal.TheVariants as terminal
use Rattle.js_grammar.specs.declared.symbols.Nonterminal.TheVariants as nonterminal
use Rattle.js_grammar.specs.declared.constituents.Terminals.TheVariants.{Is}
use Rattle.js_grammar.specs.declared.constituents.Repetition.TheVariants.{Many}
use Rattle.js_grammar.specs.declared.constituents.Constituent.TheVariants.{Token as Taken_token, Optional}
use Rattle.js_grammar.specs.Table
use Rattle.js_grammar.specs.Nesting
use Rattle.js_grammar.specs.Fits.{table}
use Rattle.js_grammar.specs.Flat.{Flat, flat_of}
use Rattle.js_grammar.specs.Grammar.{Node, Leaf, Row, Nil, Then}
use Rattle.js_grammar.specs.Inserted.{Choice, Nothing, Ending, DoEnding}
use Rattle.js_grammar.specs.Inserted as inserted
use Rattle.js_grammar.specs.Machine.{State, item, feeds}
use Rattle.js_grammar.specs.Laws.{from, semi, do_semi, whole_state, with_semicolons, Flatly, Good, Exact, Ends_whole, Kept, Kept_back, Begun, Refused, Same_read, Inserted_read, Read_inserted, Begins}
use Rattle.js_lexer.specs.declared.token.Token.{Token}
use Rattle.js_grammar.specs.declared.left_out.LeftOut.{LeftOut}
use Rattle.js_grammar.specs.Profile.{Deep_told, Form_told, any_form}
use Rattle.js_reader.specs.declared.halt.Halt.{Halt}
use Rattle.js_reader.specs.declared.halt.HaltCause.{HaltCause}
use Rattle.js_reader.specs.declared.halt.HaltCause.TheVariants as cause
use Rattle.js_reader.specs.Halts.{told_of, form_name, IsFaultOf}
use Rattle.js_reader.specs.Steps.{start, end, lexeme_of, Course, Through, Stuck, Answers_course}
use Rattle.js_reader.specs.Reading.{IsWithout, lexemes, ahead, front, standing, whole, with_next, next_place, events_of, HasPartialTree, IsTree, IsWithin, AllWithin, IsInLanguage, IsImpossible, Stops_by, IsStop, HasReason, IsRefusal}
use Rattle.js_reader.proofs.Steps_laws.{stepping, going, on, place_of}
use Rattle.js_reader.proofs.Fronts_laws.{Is_taken, after_is, taken, front_begins}
use Rattle.js_reader.proofs.Limits_laws.{without_one}
use Rattle.js_reader.proofs.Reading_laws.{Means}

-- what is inserted stands before a token: the last one is last
emptied : (xs : List Choice) → inserted.plain xs ≡ [] → xs ≡ []
emptied [] h = refl
emptied ((m, t) ∷ xs) h = cc

one_last : (m : inserted.Insertion) (u : Lexeme) (t : Lexeme) (xs : List Choice) → xs ≡ [] → u ≡ t → (ys : List Lexeme) × (with_semicolons ((m, u) ∷ xs) ≡ ys ++ t ∷ [])
one_last Nothing u t xs e f = ([], rw (e, f) refl)
one_last Ending u t xs e f = (semi ∷ [], rw (e, f) refl)
one_last DoEnding u t xs e f = (do_semi ∷ [], rw (e, f) refl)

more_last : (m : inserted.Insertion) (u : Lexeme) (t : Lexeme) (xs : List Choice) → ((ys : List Lexeme) × (with_semicolons xs ≡ ys ++ t ∷ [])) → (ys : List Lexeme) × (with_semicolons ((m, u) ∷ xs) ≡ ys ++ t ∷ [])
more_last Nothing u t xs h = (u ∷ h.0, ap (λ x. u ∷ x) h.1)
more_last Ending u t xs h = (semi ∷ u ∷ h.0, ap (λ x. semi ∷ u ∷ x) h.1)
more_last DoEnding u t xs h = (do_semi ∷ u ∷ h.0, ap (λ x. do_semi ∷ u ∷ x) h.1)

marked_last : (xs : List Choice) (a : List Lexeme) (t : Lexeme) → inserted.plain xs ≡ a ++ t ∷ [] → (ys : List Lexeme) × (with_semicolons xs ≡ ys ++ t ∷ [])
marked_last [] [] t h = cc
marked_last [] (x ∷ a) t h = cc
marked_last ((m, u) ∷ xs) [] t h =
    let e : u ≡ t = cc in
    let f : inserted.plain xs ≡ [] = cc in
    one_last m u t xs (emptied xs f) e
marked_last ((m, u) ∷ xs) (x ∷ a) t h =
    let f : inserted.plain xs ≡ a ++ t ∷ [] = cc in
    more_last m u t xs (marked_last xs a t f)

-- the first of some tokens are taken where all are
pub front_taken : (a b : List Lexeme) (s q : State) → going s (a ++ b) ≡ Some q → Is_taken (going s a)
front_taken [] b s q h = (s, refl)
front_taken (t ∷ a) b s q h =
    let m = after_is (stepping s t) _ q h in
    let n = front_taken a b m.0 q m.2 in
    (n.0, on s m.0 t a (Some n.0) m.1 n.1)

parts_of : (source : List ℕ) (at : ℕ) (b r : List Token) → lexemes source at (b ++ r) ≡ ahead source at b r ++ lexemes source (place_of at b) r
parts_of source at [] r = refl
parts_of source at (x ∷ b) r = ap (λ y. lexeme_of source at x (b ++ r) ∷ y) (parts_of source (at + 1) b r)

-- two ways to part a list
abbrev pub Parted : List Token → List Token → List Token → List Token → Type 0
Parted b r c s = ((b ≡ c) × (r ≡ s)) ⊎ (((t : Token) × (d : List Token) × (c ≡ b ++ t ∷ d) × (r ≡ t ∷ (d ++ s))) ⊎ ((t : Token) × (d : List Token) × (b ≡ c ++ t ∷ d) × (s ≡ t ∷ (d ++ r))))

pub parted : (b r c s : List Token) → b ++ r ≡ c ++ s → Parted b r c s
parted [] r [] s e = inl (refl, e)
parted [] r (t ∷ c) s e = inr (inl (t, c, refl, e))
parted (t ∷ b) r [] s e = inr (inr (t, b, refl, sym e))
parted (t ∷ b) r (u ∷ c) s e =
    let f : t ≡ u = cc in
    let g : b ++ r ≡ c ++ s = cc in
    by f (parted b r c s g)
  where
    by : t ≡ u → Parted b r c s → Parted (t ∷ b) r (u ∷ c) s
    by f (inl h) = inl (rw (f, h.0) refl, h.1)
    by f (inr (inl h)) = inr (inl (h.0, h.1, rw (← f, h.2) refl, h.3))
    by f (inr (inr h)) = inr (inr (h.0, h.1, rw (f, h.2) refl, h.3))

-- the start of a source is taken, and nothing stops a reading there
abbrev begun_state : State
begun_state = item production.Module (Then Nil (Leaf start)) (Optional nonterminal.ModuleItem Many ∷ Taken_token (Is terminal.End) ∷ []) ∷ from

pub start_taken : stepping from start ≡ Some begun_state
unfolding Table.rule_of Table.stands_of Table.members_of Table.guards Table.may_members Table.has_members Table.guard_at_start Table.inner_of Table.heads_of Table.operators_at Table.wrap_of Table.opens_of Table.start_of
start_taken = refl

pub start_quiet : told_of (flat_of begun_state) ≡ None
unfolding Table.levels_of Table.lead_levels_of Table.form_of Nesting.is_update Nesting.is_undecided Nesting.takes_pattern Nesting.takes_parameters
start_quiet = refl

-- the faults that may be told where a reading stops by a cause
abbrev Refused_by : Place → HaltCause → SyntaxFault → Type 0
Refused_by p cause.Unexpected f = (f ≡ fault.At p what.Unexpected) ⊎ (f ≡ fault.OutOfMemory)
Refused_by p cause.TooDeep f = (f ≡ fault.At p what.TooDeep) ⊎ (f ≡ fault.OutOfMemory)
Refused_by p (cause.LeftOut x) f = ((n : List ℕ) × (f ≡ fault.At p (what.Unsupported n))) ⊎ (f ≡ fault.OutOfMemory)

memory_by : (p : Place) (c : HaltCause) (f : SyntaxFault) → f ≡ fault.OutOfMemory → Refused_by p c f
memory_by p cause.Unexpected f e = inr e
memory_by p cause.TooDeep f e = inr e
memory_by p (cause.LeftOut x) f e = inr e

module _ (flatly : Flatly) (good : Good) (exact : Exact) (ended : Ends_whole) (kept : Kept) (back : Kept_back) (begun : Begun) (refused : Refused) (same : Same_read) (read : Inserted_read) (tree : Read_inserted) (deep : Deep_told) (forms : Form_told) where
  abbrev Meant : List ℕ → List Token → Place → Course → Type 0
  Meant source tokens place c = Means flatly good exact kept back begun refused same read deep forms source tokens place c

  -- what is taken up to the end has a tree
  whole_tree : (source : List ℕ) (tokens : List Token) (s : State) → going from (whole source tokens) ≡ Some s → (r : Row) × (s ≡ whole_state r) × IsTree source tokens r
  whole_tree source tokens s h =
      let x = begun (whole source tokens) s h in
      let k = same (whole source tokens) s x.0 h (x.1, x.2) x.3 in
      let l = marked_last x.0 (front source tokens) end x.1 in
      let m = ended l.0 end s (ap (feeds table from) (sym l.1) ∙ k) refl in
      (m.0, m.1, tree (whole source tokens) m.0 (h ∙ ap (λ y. Some y) m.1))

  pub gives_tree : (source : List ℕ) (tokens : List Token) (place : Place) (c : Course) (result : Result Flat SyntaxFault) → Meant source tokens place c → Answers_course c result → IfOk result (λ r. (parts : Row) × IsTree source tokens parts × (r.out ≡ events_of parts))
  gives_tree source tokens place (Through q) (Ok v) h a =
      let m = whole_tree source tokens h.0 h.2 in
      let e : v ≡ flat_of (whole_state m.0) = a ∙ h.1 ∙ ap flat_of m.1 in
      (m.0, m.2, ap (λ x. x.out) e)
  gives_tree source tokens place (Stuck p) (Ok v) h a = elim a [ ]
  gives_tree source tokens place c (Err f) h a = tt

  pub gives_within : (source : List ℕ) (tokens : List Token) (place : Place) (c : Course) (result : Result Flat SyntaxFault) → Meant source tokens place c → Answers_course c result → IfOk result (λ r. IsInLanguage source tokens)
  gives_within source tokens place (Through q) (Ok v) h a = h.3
  gives_within source tokens place (Stuck p) (Ok v) h a = elim a [ ]
  gives_within source tokens place c (Err f) h a = tt

  reason_of : (source : List ℕ) (tokens : List Token) (place p : Place) (c : HaltCause) (f : SyntaxFault) → IsFaultOf p c f → IsStop source tokens place p c → HasReason source tokens place f
  reason_of source tokens place p cause.Unexpected f e i = subst (HasReason source tokens place) (sym e) i
  reason_of source tokens place p cause.TooDeep f e i = subst (HasReason source tokens place) (sym e) i
  reason_of source tokens place p (cause.LeftOut x) f (inl e) i = subst (HasReason source tokens place) (sym e) (x, refl, i)
  reason_of source tokens place p (cause.LeftOut x) f (inr e) i = subst (HasReason source tokens place) (sym e) tt

  pub gives_cause : (source : List ℕ) (tokens : List Token) (place : Place) (c : Course) (result : Result Flat SyntaxFault) → Meant source tokens place c → Answers_course c result → IfErr result (HasReason source tokens place)
  gives_cause source tokens place c (Ok v) h a = tt
  gives_cause source tokens place (Through q) (Err f) h a = subst (HasReason source tokens place) (sym a) tt
  gives_cause source tokens place (Stuck g) (Err f) h (inl e) = reason_of source tokens place g.place g.cause f e h.0
  gives_cause source tokens place (Stuck g) (Err f) h (inr e) = subst (HasReason source tokens place) (sym e) tt

  -- tokens that have a partial tree before others have one
  begins_front : (source : List ℕ) (b r : List Token) → Begins (standing source b r) → HasPartialTree source b
  begins_front source b r h =
      let m = taken good exact begun refused same (standing source b r) h in
      front_begins kept back good exact begun refused same source b r m.0 m.1

  begins_without : (P : LeftOut → Bool) (ts : List Lexeme) → IsWithout P ts → Begins ts
  begins_without P ts h = (h.0, h.1.0, h.1.1, h.2.0)

  -- what stops a reading isn't within the language
  next_within : (source : List ℕ) (b : List Token) (t : Token) (r : List Token) (c : HaltCause) → Stops_by source b (t ∷ r) c → IsWithin (standing source (b ++ t ∷ []) r) → ⊥
  next_within source b t r cause.Unexpected h w = h.1 (begins_front source (b ++ t ∷ []) r (begins_without any_form (standing source (b ++ t ∷ []) r) w.0))
  next_within source b t r (cause.LeftOut x) h w = h.1 (without_one x (standing source (b ++ t ∷ []) r) w.0)
  next_within source b t r cause.TooDeep h w = h.1 w.1

  end_within : (source : List ℕ) (b : List Token) (parts : Row) (c : HaltCause) → Stops_by source b [] c → IsTree source b parts → IsWithin (whole source b) → ⊥
  end_within source b parts cause.Unexpected h x w = h.1 parts x
  end_within source b parts (cause.LeftOut x) h k w = h.1 (without_one x (whole source b) w.0)
  end_within source b parts cause.TooDeep h x w = h.1 w.1

  -- where the tokens are within the language, and have a tree, no reading stops
  never_stops : (source : List ℕ) (tokens : List Token) (place p : Place) (c : HaltCause) (parts : Row) → IsTree source tokens parts → IsInLanguage source tokens → IsStop source tokens place p c → ⊥
  never_stops source tokens place p c parts x l u = by u.1 u.2 u.5
    where
      by : (rest : List Token) → tokens ≡ u.0 ++ rest → Stops_by source u.0 rest c → ⊥
      by [] e i =
          let k : tokens ≡ u.0 = e ∙ append-nil u.0 in
          let P : List Token → Type 0 = λ y. IsTree source y parts in
          let Q : List Token → Type 0 = λ y. IsWithin (whole source y) in
          end_within source u.0 parts c i (subst P k x) (subst Q k l.1)
      by (t ∷ r) e i =
          let w = l.0 (u.0 ++ t ∷ []) r (e ∙ sym (append_assoc u.0 (t ∷ []) r)) in
          let P : List Token → Type 0 = λ y. IsWithin (standing source (u.0 ++ t ∷ []) y) in
          next_within source u.0 t r c i (subst P (append-nil r) w)

  pub only_tree : (source : List ℕ) (tokens : List Token) (place : Place) (c : Course) (result : Result Flat SyntaxFault) → Meant source tokens place c → Answers_course c result → (parts : Row) → IsTree source tokens parts → IsInLanguage source tokens → MatchResult result (λ r. r.out ≡ events_of parts) (λ f. f ≡ fault.OutOfMemory)
  only_tree source tokens place (Through q) (Ok v) h a parts x l =
      let m = read (whole source tokens) (Node production.Module parts) x in
      let e : Some h.0 ≡ Some (whole_state m.0) = sym h.2 ∙ m.2 in
      let s : h.0 ≡ whole_state m.0 = cc in
      let p : parts ≡ m.0 = (let n = m.1 in cc) in
      let k : v ≡ flat_of (whole_state m.0) = a ∙ h.1 ∙ ap flat_of s in
      ap (λ x. x.out) k ∙ ap events_of (sym p)
  only_tree source tokens place (Through q) (Err f) h a parts x l = a
  only_tree source tokens place (Stuck g) (Ok v) h a parts x l = elim a [ ]
  only_tree source tokens place (Stuck g) (Err f) h (inr e) parts x l = e
  only_tree source tokens place (Stuck g) (Err f) h (inl e) parts x l = absurd (never_stops source tokens place g.place g.cause parts x l h.0)

  -- a reading stops at one token alone
  one_place : (source : List ℕ) (tokens : List Token) (place p q : Place) (c d : HaltCause) (u : IsStop source tokens place p c) (v : IsStop source tokens place q d) → (u.0 ≡ v.0) × (u.1 ≡ v.1)
  one_place source tokens place p q c d u v = by (parted u.0 u.1 v.0 v.1 (sym u.2 ∙ v.2))
    where
      by : Parted u.0 u.1 v.0 v.1 → (u.0 ≡ v.0) × (u.1 ≡ v.1)
      by (inl e) = e
      by (inr (inl e)) =
          let P : List Token → Type 0 = λ y. Stops_by source u.0 y c in
          absurd (next_within source u.0 e.0 (e.1 ++ v.1) c (subst P e.3 u.5) (v.4 (u.0 ++ e.0 ∷ []) e.1 (e.2 ∙ sym (append_assoc u.0 (e.0 ∷ []) e.1))))
      by (inr (inr e)) =
          let P : List Token → Type 0 = λ y. Stops_by source v.0 y d in
          absurd (next_within source v.0 e.0 (e.1 ++ u.1) d (subst P e.3 v.5) (u.4 (v.0 ++ e.0 ∷ []) e.1 (e.2 ∙ sym (append_assoc v.0 (e.0 ∷ []) e.1))))

  -- a token that is impossible has no partial tree with a form, nor one with too many levels
  impossible : (source : List ℕ) (b r : List Token) → IsImpossible source b r → Begins (with_next source b r) → ⊥
  impossible source b [] i h =
      let m = taken good exact begun refused same (whole source b) h in
      let w = whole_tree source b m.0 m.1 in
      i w.0 w.2
  impossible source b (t ∷ r) i h = i (begins_front source (b ++ t ∷ []) r h)

  abbrev Same_cause : HaltCause → HaltCause → Type 0
  Same_cause cause.Unexpected d = d ≡ cause.Unexpected
  Same_cause cause.TooDeep d = d ≡ cause.TooDeep
  Same_cause (cause.LeftOut x) d = (y : LeftOut) × (d ≡ cause.LeftOut y)

  same_cause : (source : List ℕ) (b r : List Token) (c d : HaltCause) → Stops_by source b r c → Stops_by source b r d → Same_cause c d
  same_cause source b r cause.Unexpected cause.Unexpected h k = refl
  same_cause source b r cause.Unexpected (cause.LeftOut y) h k = absurd (impossible source b r h.1 k.0)
  same_cause source b r cause.Unexpected cause.TooDeep h k = absurd (impossible source b r h.1 (begins_without any_form (with_next source b r) k.0))
  same_cause source b r (cause.LeftOut x) cause.Unexpected h k = absurd (impossible source b r k.1 h.0)
  same_cause source b r (cause.LeftOut x) (cause.LeftOut y) h k = (y, refl)
  same_cause source b r (cause.LeftOut x) cause.TooDeep h k = absurd (h.1 (without_one x (with_next source b r) k.0))
  same_cause source b r cause.TooDeep cause.Unexpected h k = absurd (impossible source b r k.1 (begins_without any_form (with_next source b r) h.0))
  same_cause source b r cause.TooDeep (cause.LeftOut y) h k = absurd (k.1 (without_one y (with_next source b r) h.0))
  same_cause source b r cause.TooDeep cause.TooDeep h k = refl

  -- the fault of another stop there
  refusal_by : (p : Place) (c d : HaltCause) (f : SyntaxFault) → Same_cause c d → IsFaultOf p d f → Refused_by p c f
  refusal_by p cause.Unexpected d f e h = let P : HaltCause → Type 0 = λ y. IsFaultOf p y f in inl (subst P e h)
  refusal_by p cause.TooDeep d f e h = let P : HaltCause → Type 0 = λ y. IsFaultOf p y f in inl (subst P e h)
  refusal_by p (cause.LeftOut x) d f e h = let P : HaltCause → Type 0 = λ y. IsFaultOf p y f in by (subst P e.1 h)
    where
      by : (f ≡ fault.At p (what.Unsupported (form_name e.0))) ⊎ (f ≡ fault.OutOfMemory) → Refused_by p (cause.LeftOut x) f
      by (inl k) = inl (form_name e.0, k)
      by (inr k) = inr k

  refused_at : (source : List ℕ) (tokens : List Token) (place p : Place) (c : HaltCause) (g : Halt) (f : SyntaxFault) → IsStop source tokens place p c → IsStop source tokens place g.place g.cause → IsFaultOf g.place g.cause f → Refused_by p c f
  refused_at source tokens place p c g f u v h =
      let e = one_place source tokens place p g.place c g.cause u v in
      let P : List Token → Type 0 = λ y. Stops_by source y u.1 c in
      let Q : List Token → Type 0 = λ y. Stops_by source v.0 y c in
      let k = same_cause source v.0 v.1 c g.cause (subst Q e.1 (subst P e.0 u.5)) v.5 in
      let w : g.place ≡ p = v.3 ∙ ap (λ x. next_place x place) (sym e.1) ∙ sym u.3 in
      let R : Place → Type 0 = λ x. IsFaultOf x g.cause f in
      refusal_by p c g.cause f k (subst R w h)

  by_cause : (source : List ℕ) (tokens : List Token) (place p : Place) (c : HaltCause) (d : Course) (result : Result Flat SyntaxFault) → Meant source tokens place d → Answers_course d result → IsStop source tokens place p c → MatchResult result (λ r. ⊥) (Refused_by p c)
  by_cause source tokens place p c (Through q) (Ok v) h a u =
      let m = whole_tree source tokens h.0 h.2 in
      never_stops source tokens place p c m.0 m.2 h.3 u
  by_cause source tokens place p c (Through q) (Err f) h a u = memory_by p c f a
  by_cause source tokens place p c (Stuck g) (Ok v) h a u = elim a [ ]
  by_cause source tokens place p c (Stuck g) (Err f) h (inl e) u = refused_at source tokens place p c g f u h.0 e
  by_cause source tokens place p c (Stuck g) (Err f) h (inr e) u = memory_by p c f e

  abbrev Refuses_at : Place → SyntaxWhat → Result Flat SyntaxFault → Type 0
  Refuses_at p w result = MatchResult result (λ r. ⊥) (IsRefusal p w)

  named : (p : Place) (x : LeftOut) (n : List ℕ) (result : Result Flat SyntaxFault) → MatchResult result (λ r. ⊥) (Refused_by p (cause.LeftOut x)) → Refuses_at p (what.Unsupported n) result
  named p x n (Ok v) h = h
  named p x n (Err f) h = h

  pub only_refusal : (source : List ℕ) (tokens : List Token) (place : Place) (c : Course) (result : Result Flat SyntaxFault) → Meant source tokens place c → Answers_course c result → (p : Place) (w : SyntaxWhat) → HasReason source tokens place (fault.At p w) → MatchResult result (λ r. ⊥) (IsRefusal p w)
  only_refusal source tokens place c result h a p what.Unexpected u = by_cause source tokens place p cause.Unexpected c result h a u
  only_refusal source tokens place c result h a p what.TooDeep u = by_cause source tokens place p cause.TooDeep c result h a u
  only_refusal source tokens place c result h a p (what.Unsupported n) u = named p u.0 n result (by_cause source tokens place p (cause.LeftOut u.0) c result h a u.2)
  only_refusal source tokens place c result h a p what.NotUtf8 u = elim u [ ]
  only_refusal source tokens place c result h a p what.BadToken u = elim u [ ]
  only_refusal source tokens place c result h a p (what.Early n) u = elim u [ ]
