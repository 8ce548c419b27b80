-- What the course of a run means: the longest run, its tree, or why the reading stops.
use Rattle.std.proofs.Common.{◌≡◌, ℕ, ◌+◌, ◌≤◌, Bool, true, false, cond, if◌then◌else◌, ◌&&◌, List, [], ◌∷◌, ◌++◌, Option, Some, None, ◌⊎◌, inl, inr, Result, Ok, Err, IfOk, refl, sym, ap, subst, ◌∙◌, append_assoc, length, codes, arith}
use Rattle.std.proofs.lemmas.List.{append-nil}
use Rattle.std.specs.Str.{bytes_eq}
use Rattle.lava_base.specs.declared.place.Place.{Place}
use Rattle.js_grammar.specs.declared.left_out.LeftOut.{LeftOut}
use Rattle.js_grammar.specs.declared.lexeme.Lexeme.{Lexeme}
use Rattle.js_grammar.specs.declared.symbols.Terminal.{Terminal}
use Rattle.js_grammar.specs.declared.symbols.Terminal.TheVariants as terminal
use Rattle.js_grammar.specs.Fits.{table}
use Rattle.js_grammar.specs.Flat.{Flat, flat_of, fed_in}
use Rattle.js_grammar.specs.Grammar.{Tree}
use Rattle.js_grammar.specs.Machine.{State, feed}
use Rattle.js_grammar.specs.Inserted.{pair, Choice, Nothing, Ending, DoEnding}
use Rattle.js_grammar.specs.Inserted as inserted
use Rattle.js_grammar.specs.Table
use Rattle.js_grammar.specs.Nesting
use Rattle.js_grammar.specs.Laws.{so, semi, do_semi, rule_stands, Flatly}
use Rattle.js_grammar.specs.Profile.{is_too_deep, left_out, any_form, is_form}
use Rattle.js_grammar.specs.Expressions
use Rattle.js_grammar.specs.Expressions.{BeginsExpression, HasExpression, is_end, NoEnd, end_mark, from_expression, whole_expression, semicolons_in, Expression_begun, Expression_refused, Expression_read, Expression_whole, Expression_same, Expression_deep, Expression_forms, Expression_tells_deep, Expression_tells_form}
use Rattle.js_lexer.specs.declared.keywords.Keyword.{Keyword}
use Rattle.js_lexer.specs.declared.keywords.Keyword.TheVariants as keyword
use Rattle.js_lexer.specs.declared.punctuators.Punctuator.{Punctuator}
use Rattle.js_lexer.specs.declared.punctuators.Punctuator.TheVariants as punctuator
use Rattle.js_lexer.specs.declared.token.Token.{Token}
use Rattle.js_lexer.specs.declared.token.TokenKind.{TokenKind}
use Rattle.js_lexer.specs.declared.token.TokenKind.TheVariants as kind
use Rattle.js_lexer.specs.declared.token.TemplatePart.{TemplatePart}
use Rattle.js_lexer.specs.declared.token.TemplatePart.TheVariants as template
use Rattle.js_reader.specs.declared.halt.Halt.{Halt}
use Rattle.js_reader.specs.declared.halt.HaltCause.{HaltCause}
use Rattle.js_reader.specs.declared.halt.HaltCause.TheVariants as cause
use Rattle.js_reader.specs.declared.run.RunReading.{RunReading}
use Rattle.js_reader.specs.declared.run.RunAnswer.{RunAnswer}
use Rattle.js_reader.specs.declared.run.RunAnswer.TheVariants as answer
use Rattle.lava_base.specs.declared.memory.OutOfMemory.{OutOfMemory}
use Rattle.js_reader.specs.Terminals
use Rattle.js_reader.specs.Terminals.{is_key, is_dot, is_colon, is_ellipsis, before, before_of, text_of, is_proto, label_terminal, name_terminal, keyword_terminal, punctuator_terminal, string_terminal, template_terminal, kind_terminal, terminal_of}
use Rattle.js_reader.specs.Halts.{halt, told_of}
use Rattle.js_reader.specs.Steps.{lexeme_of}
use Rattle.js_reader.specs.Reading.{ahead, next_place}
use Rattle.js_reader.specs.Runs.{BeginsRun, IsLongest, IsRun, IsRunTree, IsRunWithout, IsRunShallow, IsRunWithin, RunWithin, IsExpressionAt, Run_stops_by, IsRunStop, expression_events, marked_in, Stepped, Refused, on_first, on_over, run_step, RunCourse, Whole, Halted, unless_run, after_run, at_end_of, run_course, Answers_run, IsRunReading, Tells_run, IsRead}
use Rattle.js_reader.proofs.Steps_laws.{stepping, going, on, place_of, cond_is, paired, Quiet, quiet_none, quiet_more}
use Rattle.js_reader.proofs.Fronts_laws.{after_is, joint}
use Rattle.js_reader.proofs.Limits_laws.{never_unexpected, none_told, form_told, deep_told, fewer, less_partial}
use Rattle.js_reader.proofs.Reading_laws.{stuck_there}
use Rattle.js_reader.proofs.Clauses_laws.{Parted, parted}

-- no token is the end of a source
if_none : (b : Bool) (x y : Terminal) → is_end x ≡ false → is_end y ≡ false → is_end (if b then x else y) ≡ false
if_none true x y e f = e
if_none false x y e f = f

names_none : (is_end terminal.Of ≡ false) × (is_end terminal.Target ≡ false) × (is_end terminal.Get ≡ false) × (is_end terminal.Set ≡ false) × (is_end terminal.AsyncOf ≡ false) × (is_end terminal.Name ≡ false)
unfolding is_end
names_none = (refl, refl, refl, refl, refl, refl)

labels_none : (is_end terminal.OfColon ≡ false) × (is_end terminal.TargetColon ≡ false) × (is_end terminal.ProtoColon ≡ false) × (is_end terminal.NameColon ≡ false)
unfolding is_end
labels_none = (refl, refl, refl, refl)

name_none : (source w : List ℕ) (later : List Token) → is_end (name_terminal source w later) ≡ false
name_none source w later = if_none _ _ _ names_none.0 (if_none _ _ _ names_none.1 (if_none _ _ _ names_none.2 (if_none _ _ _ names_none.3 (if_none _ _ _ names_none.4 names_none.5))))

label_none : (w : List ℕ) → is_end (label_terminal w) ≡ false
label_none w = if_none _ _ _ labels_none.0 (if_none _ _ _ labels_none.1 (if_none _ _ _ labels_none.2 labels_none.3))

news_none : (is_end terminal.NewDot ≡ false) × (is_end terminal.New ≡ false) × (is_end terminal.StaticKey ≡ false) × (is_end terminal.Static ≡ false) × (is_end terminal.ProtoString ≡ false) × (is_end terminal.String ≡ false) × (is_end terminal.Number ≡ false) × (is_end terminal.CommaRest ≡ false) × (is_end terminal.Comma ≡ false)
unfolding is_end
news_none = (refl, refl, refl, refl, refl, refl, refl, refl, refl)

keyword_none : (k : Keyword) (later : List Token) → is_end (keyword_terminal k later) ≡ false
unfolding is_end
keyword_none keyword.New later = if_none (before is_dot later) terminal.NewDot terminal.New news_none.0 news_none.1
keyword_none keyword.Static later = if_none (before is_key later) terminal.StaticKey terminal.Static news_none.2 news_none.3
keyword_none _ later = refl

marks_none : (is_end terminal.ArrowAfterLine ≡ false) × (is_end terminal.Arrow ≡ false) × (is_end terminal.UpdateOperatorAfterLine ≡ false) × (is_end terminal.UpdateOperator ≡ false)
unfolding is_end
marks_none = (refl, refl, refl, refl)

mark_none : (p : Punctuator) (l : Bool) (later : List Token) → is_end (punctuator_terminal p l later) ≡ false
unfolding is_end
mark_none punctuator.Comma l later = if_none (before is_ellipsis later) terminal.CommaRest terminal.Comma news_none.7 news_none.8
mark_none punctuator.Arrow l later = if_none l terminal.ArrowAfterLine terminal.Arrow marks_none.0 marks_none.1
mark_none punctuator.Increment l later = if_none l terminal.UpdateOperatorAfterLine terminal.UpdateOperator marks_none.2 marks_none.3
mark_none punctuator.Decrement l later = if_none l terminal.UpdateOperatorAfterLine terminal.UpdateOperator marks_none.2 marks_none.3
mark_none _ l later = refl

template_none : (p : TemplatePart) → is_end (template_terminal p) ≡ false
unfolding is_end
template_none template.Whole = refl
template_none template.Head = refl
template_none template.Middle = refl
template_none template.Tail = refl

kind_none : (source w : List ℕ) (k : TokenKind) (l : Bool) (later : List Token) → is_end (kind_terminal source w k l later) ≡ false
kind_none source w kind.Name l later = if_none _ _ _ (label_none w) (name_none source w later)
kind_none source w (kind.Keyword k) l later = keyword_none k later
kind_none source w (kind.Punctuator p) l later = mark_none p l later
kind_none source w kind.Number l later = news_none.6
kind_none source w kind.String l later = if_none _ _ _ news_none.4 news_none.5
kind_none source w (kind.Template part) l later = template_none part

terminal_none : (source : List ℕ) (t : Token) (later : List Token) → is_end (terminal_of source t later) ≡ false
unfolding terminal_of
terminal_none source t later = kind_none source (text_of source t) t.kind t.after_line later

no_end : (source : List ℕ) (at : ℕ) (b r : List Token) → NoEnd (ahead source at b r)
no_end source at [] r = tt
no_end source at (t ∷ b) r = (terminal_none source t (b ++ r), no_end source (at + 1) b r)

-- one step, over the reader of trees
abbrev marked : State → Lexeme → Option State
marked s t = cond (rule_stands t) (pair table semi do_semi rule_stands semi s t) (pair table semi do_semi rule_stands do_semi s t)

abbrev stepped_so : Option State → Option State → Option State → Stepped
stepped_so a b c = on_first (so a) (on_over (so b) (on_first (so c) Refused))

-- what the token behind some others is in the whole
abbrev next_lexeme : List ℕ → ℕ → List Token → Token → List Token → Lexeme
next_lexeme source at b t r = lexeme_of source (place_of at b) t r

-- what is known where a token is not taken as it stands
abbrev Not_taken : List ℕ → ℕ → List Token → List Token → State → Type 0
Not_taken source at b [] p = Unit {0}
Not_taken source at b (t ∷ r) p = feed table p (next_lexeme source at b t r) ≡ None

-- and where a reading stops
abbrev Stops_at : List ℕ → ℕ → Place → List Token → List Token → State → Halt → Type 0
Stops_at source at place b [] p h = (h ≡ halt place cause.Unexpected) × (feed table p end_mark ≡ None)
Stops_at source at place b (t ∷ r) p h =
    (h.place ≡ t.start) × (((h.cause ≡ cause.Unexpected) × (stepping p (next_lexeme source at b t r) ≡ None) × (feed table p end_mark ≡ None))
    ⊎ ((q : State) × (stepping p (next_lexeme source at b t r) ≡ Some q) × (told_of (flat_of q) ≡ Some h.cause)))

-- where the tokens of a run come to from a state
abbrev pub Comes_run : List ℕ → ℕ → Place → State → List Token → RunCourse → Type 0
Comes_run source at place s ts (Whole n q) =
    (b : List Token) × (r : List Token) × (p : State) × (e : State) × (ts ≡ b ++ r) × (n ≡ place_of at b) × (going s (ahead source at b r) ≡ Some p)
    × Quiet source at s b r × (feed table p end_mark ≡ Some e) × (q ≡ flat_of e) × Not_taken source at b r p
Comes_run source at place s ts (Halted h) =
    (b : List Token) × (r : List Token) × (p : State) × (ts ≡ b ++ r) × (going s (ahead source at b r) ≡ Some p)
    × Quiet source at s b r × Stops_at source at place b r p h

fed_step : (s : State) (t : Lexeme) (q : State) → feed table s t ≡ Some q → stepping s t ≡ Some q
fed_step s t q e = rw e refl

marked_step : (s : State) (t : Lexeme) (o : Option State) → feed table s t ≡ None → marked s t ≡ o → stepping s t ≡ o
marked_step s t o e k = rw e k

module _ (flatly : Flatly) where
  step_is : (s : State) (t : Lexeme) → run_step (flat_of s) t ≡ stepped_so (feed table s t) (feed table s end_mark) (marked s t)
  step_is s t =
      let a : fed_in (flat_of s) t ≡ so (feed table s t) = flatly s t in
      let b : fed_in (flat_of s) end_mark ≡ so (feed table s end_mark) = flatly s end_mark in
      let c : marked_in (flat_of s) t ≡ so (marked s t) = cond_is (rule_stands t) _ _ _ _ (paired flatly semi s t) (paired flatly do_semi s t) in
      ap (λ o. on_first o (on_over (fed_in (flat_of s) end_mark) (on_first (marked_in (flat_of s) t) Refused))) a
      ∙ ap (λ o. on_first (so (feed table s t)) (on_over o (on_first (marked_in (flat_of s) t) Refused))) b
      ∙ ap (λ o. on_first (so (feed table s t)) (on_over (so (feed table s end_mark)) (on_first o Refused))) c

  further : (source : List ℕ) (at : ℕ) (place : Place) (s q : State) (t : Token) (ts : List Token) (c : RunCourse) → told_of (flat_of s) ≡ None → stepping s (lexeme_of source at t ts) ≡ Some q → Comes_run source (at + 1) place q ts c → Comes_run source at place s (t ∷ ts) c
  further source at place s q t ts (Whole n f) m e h =
      let l : stepping s (lexeme_of source at t (h.0 ++ h.1)) ≡ Some q = ap (λ x. stepping s (lexeme_of source at t x)) (sym h.4) ∙ e in
      (t ∷ h.0, h.1, h.2, h.3, ap (λ x. t ∷ x) h.4, h.5, on s q (lexeme_of source at t (h.0 ++ h.1)) (ahead source (at + 1) h.0 h.1) (Some h.2) l h.6, quiet_more source at s q t h.0 h.1 m l h.7, h.8, h.9, same_next h.1 h.10)
    where
      same_next : (r : List Token) → Not_taken source (at + 1) h.0 r h.2 → Not_taken source at (t ∷ h.0) r h.2
      same_next [] k = k
      same_next (u ∷ r) k = k
  further source at place s q t ts (Halted g) m e h =
      let l : stepping s (lexeme_of source at t (h.0 ++ h.1)) ≡ Some q = ap (λ x. stepping s (lexeme_of source at t x)) (sym h.3) ∙ e in
      (t ∷ h.0, h.1, h.2, ap (λ x. t ∷ x) h.3, on s q (lexeme_of source at t (h.0 ++ h.1)) (ahead source (at + 1) h.0 h.1) (Some h.2) l h.4, quiet_more source at s q t h.0 h.1 m l h.5, same_next h.1 h.6)
    where
      same_next : (r : List Token) → Stops_at source (at + 1) place h.0 r h.2 g → Stops_at source at place (t ∷ h.0) r h.2 g
      same_next [] k = k
      same_next (u ∷ r) k = k

  abbrev Goes_on : List ℕ → ℕ → Place → List Token → Type 0
  Goes_on source at place ts = (q : State) → told_of (flat_of q) ≡ None → Comes_run source at place q ts (run_course source place at (flat_of q) ts)

  -- the token is taken, as it stands or with a semicolon
  taken_so : (source : List ℕ) (at : ℕ) (place : Place) (s q : State) (t : Token) (ts : List Token) (o : Option HaltCause) → told_of (flat_of s) ≡ None → stepping s (lexeme_of source at t ts) ≡ Some q → told_of (flat_of q) ≡ o → Goes_on source (at + 1) place ts → Comes_run source at place s (t ∷ ts) (unless_run t.start o (run_course source place (at + 1) (flat_of q) ts))
  taken_so source at place s q t ts None n e h ih = further source at place s q t ts (run_course source place (at + 1) (flat_of q) ts) n e (ih q h)
  taken_so source at place s q t ts (Some c) n e h ih = ([], t ∷ ts, s, refl, refl, quiet_none source at s (t ∷ ts) n, (refl, inr (q, e, h)))

  turn : (source : List ℕ) (at : ℕ) (place : Place) (s : State) (t : Token) (ts : List Token) (a b c : Option State) → told_of (flat_of s) ≡ None → feed table s (lexeme_of source at t ts) ≡ a → feed table s end_mark ≡ b → marked s (lexeme_of source at t ts) ≡ c → Goes_on source (at + 1) place ts → Comes_run source at place s (t ∷ ts) (after_run t.start at (stepped_so a b c) (λ p. run_course source place (at + 1) p ts))
  turn source at place s t ts (Some q) b c n e f g ih = taken_so source at place s q t ts (told_of (flat_of q)) n (fed_step s (lexeme_of source at t ts) q e) refl ih
  turn source at place s t ts None (Some p) c n e f g ih = ([], t ∷ ts, s, p, refl, refl, refl, quiet_none source at s (t ∷ ts) n, f, refl, e)
  turn source at place s t ts None None (Some q) n e f g ih = taken_so source at place s q t ts (told_of (flat_of q)) n (marked_step s (lexeme_of source at t ts) (Some q) e g) refl ih
  turn source at place s t ts None None None n e f g ih = ([], t ∷ ts, s, refl, refl, quiet_none source at s (t ∷ ts) n, (refl, inl (refl, marked_step s (lexeme_of source at t ts) None e g, f)))

  at_last : (source : List ℕ) (at : ℕ) (place : Place) (s : State) (o : Option State) → told_of (flat_of s) ≡ None → feed table s end_mark ≡ o → Comes_run source at place s [] (at_end_of place at (so o))
  at_last source at place s (Some p) n e = ([], [], s, p, refl, refl, refl, quiet_none source at s [] n, e, refl, tt)
  at_last source at place s None n e = ([], [], s, refl, refl, quiet_none source at s [] n, (refl, e))

  pub comes_run : (source : List ℕ) (at : ℕ) (place : Place) (s : State) (ts : List Token) → told_of (flat_of s) ≡ None → Comes_run source at place s ts (run_course source place at (flat_of s) ts)
  comes_run source at place s [] n =
      let P : Option Flat → Type 0 = λ o. Comes_run source at place s [] (at_end_of place at o) in
      subst P (sym (flatly s end_mark)) (at_last source at place s (feed table s end_mark) n refl)
  comes_run source at place s (t ∷ ts) n =
      let P : Stepped → Type 0 = λ x. Comes_run source at place s (t ∷ ts) (after_run t.start at x (λ p. run_course source place (at + 1) p ts)) in
      subst P (sym (step_is s (lexeme_of source at t ts))) (turn source at place s t ts (feed table s (lexeme_of source at t ts)) (feed table s end_mark) (marked s (lexeme_of source at t ts)) n refl refl refl (λ q m. comes_run source (at + 1) place q ts m))

-- the place behind some tokens is their number
place_length : (at : ℕ) (b : List Token) → place_of at b ≡ at + length b
place_length at [] = omega arith
place_length at (t ∷ b) = let k : place_of (at + 1) b ≡ (at + 1) + length b = place_length (at + 1) b in omega (arith, k)

-- tokens before others, up to one of them and behind it
ahead_at : (source : List ℕ) (at : ℕ) (b : List Token) (t : Token) (d r : List Token) → ahead source at (b ++ t ∷ d) r ≡ ahead source at b (t ∷ (d ++ r)) ++ lexeme_of source (place_of at b) t (d ++ r) ∷ ahead source (place_of at b + 1) d r
ahead_at source at [] t d r = refl
ahead_at source at (x ∷ b) t d r =
    let e : (b ++ t ∷ d) ++ r ≡ b ++ t ∷ (d ++ r) = append_assoc b (t ∷ d) r in
    ap (λ y. lexeme_of source at x y ∷ ahead source (at + 1) (b ++ t ∷ d) r) e ∙ ap (λ y. lexeme_of source at x (b ++ t ∷ (d ++ r)) ∷ y) (ahead_at source (at + 1) b t d r)

no_more : (n : ℕ) → n ≤ n
no_more n = omega arith

length_less : (b : List Token) (t : Token) (d : List Token) → length b ≤ length (b ++ t ∷ d)
length_less [] t d = omega arith
length_less (x ∷ b) t d = let k = length_less b t d in omega (arith, k)

same_length : (b c : List Token) → b ≡ c → length c ≤ length b
same_length b c e = let P : List Token → Type 0 = λ x. length x ≤ length b in subst P e (no_more (length b))

some_none : (o : Option State) (q : State) → o ≡ None → o ≡ Some q → ⊥
some_none o q e h = let none : Option State = None in let k : none ≡ Some q = sym e ∙ h in cc

some_state : (a b : State) → Some a ≡ Some b → a ≡ b
some_state a b e = cc

start_quiet : told_of (flat_of from_expression) ≡ None
unfolding Table.levels_of Table.lead_levels_of Table.form_of Nesting.is_update Nesting.is_undecided Nesting.takes_pattern Nesting.takes_parameters
start_quiet = refl

-- what is inserted is no end
semi_tokens : (is_end semi.terminal ≡ false) × (is_end do_semi.terminal ≡ false)
unfolding is_end
semi_tokens = (refl, refl)

marked_no_end : (xs : List Choice) → NoEnd (inserted.plain xs) → NoEnd (semicolons_in xs)
marked_no_end [] h = tt
marked_no_end ((Nothing, t) ∷ xs) h = (h.0, marked_no_end xs h.1)
marked_no_end ((Ending, t) ∷ xs) h = (semi_tokens.0, (h.0, marked_no_end xs h.1))
marked_no_end ((DoEnding, t) ∷ xs) h = (semi_tokens.1, (h.0, marked_no_end xs h.1))

marked_clear : (ts : List Lexeme) (xs : List Choice) → NoEnd ts → inserted.plain xs ≡ ts → NoEnd (semicolons_in xs)
marked_clear ts xs n e = marked_no_end xs (subst NoEnd (sym e) n)

-- where the end may follow, no semicolon is inserted
no_pair : (s : State) (m t : Lexeme) → feed table s m ≡ None → pair table semi do_semi rule_stands m s t ≡ None
no_pair s m t e = rw e refl

no_mark : (v : Bool) (x y : Option State) → x ≡ None → y ≡ None → cond v x y ≡ None
no_mark true x y e f = e
no_mark false x y e f = f

no_step : (s : State) (t : Lexeme) → feed table s t ≡ None → feed table s semi ≡ None → feed table s do_semi ≡ None → stepping s t ≡ None
no_step s t e f g = marked_step s t None e (no_mark (rule_stands t) _ _ (no_pair s semi t f) (no_pair s do_semi t g))

-- the next token doesn't go on with the run
abbrev Refuses_next : List ℕ → List Token → List Token → State → Type 0
Refuses_next source b [] p = Unit {0}
Refuses_next source b (t ∷ r) p = stepping p (next_lexeme source 0 b t r) ≡ None

refuses : (source : List ℕ) (b r : List Token) (p : State) → Not_taken source 0 b r p → feed table p semi ≡ None → feed table p do_semi ≡ None → Refuses_next source b r p
refuses source b [] p n f g = tt
refuses source b (t ∷ r) p n f g = no_step p (next_lexeme source 0 b t r) n f g

zero_more : (n k : ℕ) → n ≡ 0 + k → n ≡ k
zero_more n k e = omega (arith, e)

module _ (begun : Expression_begun) (refused : Expression_refused) (read : Expression_read) (whole : Expression_whole) (same : Expression_same) (deep : Expression_deep) (forms : Expression_forms) where
  -- what a state tells is so of the tokens that lead there
  without : (ts : List Lexeme) (s : State) → NoEnd ts → going from_expression ts ≡ Some s → left_out (flat_of s) ≡ None → IsRunWithout any_form ts
  without ts s n h e =
      let x = begun ts s n h in
      let k = same ts s x.0 n h (x.1, x.2) x.3 in
      let P : Option LeftOut → Type 0 = λ o. Expression_tells_form (flat_of s) o in
      (x.0, (x.1, x.2), (subst P e (forms (flat_of s))) (semicolons_in x.0) (s, marked_clear ts x.0 n x.1, k, refl))

  shallow : (ts : List Lexeme) (s : State) → NoEnd ts → going from_expression ts ≡ Some s → is_too_deep (flat_of s) ≡ false → IsRunShallow ts
  shallow ts s n h e =
      let x = begun ts s n h in
      let k = same ts s x.0 n h (x.1, x.2) x.3 in
      let P : Bool → Type 0 = λ b. Expression_tells_deep (flat_of s) b in
      (x.0, (x.1, x.2), (subst P e (deep (flat_of s))) (semicolons_in x.0) (s, marked_clear ts x.0 n x.1, k, refl))

  within_at : (ts : List Lexeme) (s : State) → NoEnd ts → going from_expression ts ≡ Some s → told_of (flat_of s) ≡ None → IsRunWithin ts
  within_at ts s n h e =
      let m = none_told (left_out (flat_of s)) (is_too_deep (flat_of s)) e in
      (without ts s n h m.0, shallow ts s n h m.1)

  form_at : (ts : List Lexeme) (s : State) (x : LeftOut) → NoEnd ts → going from_expression ts ≡ Some s → told_of (flat_of s) ≡ Some (cause.LeftOut x) → BeginsExpression ts × (IsRunWithout (is_form x) ts → ⊥)
  form_at ts s x n h e =
      let P : Option LeftOut → Type 0 = λ o. Expression_tells_form (flat_of s) o in
      let f = subst P (form_told (left_out (flat_of s)) (is_too_deep (flat_of s)) x e) (forms (flat_of s)) in
      (begun ts s n h, λ w. f (semicolons_in w.0) (s, marked_clear ts w.0 n w.1.0, same ts s w.0 n h w.1 w.2.0, refl) w.2)

  deep_at : (ts : List Lexeme) (s : State) → NoEnd ts → going from_expression ts ≡ Some s → told_of (flat_of s) ≡ Some cause.TooDeep → IsRunWithout any_form ts × (IsRunShallow ts → ⊥)
  deep_at ts s n h e =
      let m = deep_told (left_out (flat_of s)) (is_too_deep (flat_of s)) e in
      let P : Bool → Type 0 = λ b. Expression_tells_deep (flat_of s) b in
      let f = subst P m.1 (deep (flat_of s)) in
      (without ts s n h m.0, λ w. f (semicolons_in w.0) (s, marked_clear ts w.0 n w.1.0, same ts s w.0 n h w.1 w.2.0, refl) w.2)

  all_within : (source : List ℕ) (b r : List Token) → Quiet source 0 from_expression b r → RunWithin source b r
  all_within source b r h c d e =
      let m = h c d e in
      within_at (ahead source 0 c (d ++ r)) m.0 (no_end source 0 c (d ++ r)) m.1 m.2

  taken : (ts : List Lexeme) → NoEnd ts → BeginsExpression ts → (q : State) × (going from_expression ts ≡ Some q)
  taken ts n h = by (going from_expression ts) refl
    where
      by : (o : Option State) → going from_expression ts ≡ o → (q : State) × (going from_expression ts ≡ Some q)
      by None e = absurd (refused ts n e h)
      by (Some q) e = (q, e)

  -- where the next token doesn't go on with a run, no run is longer
  too_long : (source : List ℕ) (b : List Token) (t : Token) (d r : List Token) (p : State) → going from_expression (ahead source 0 b (t ∷ (d ++ r))) ≡ Some p → stepping p (next_lexeme source 0 b t (d ++ r)) ≡ None → BeginsRun source (b ++ t ∷ d) r → ⊥
  too_long source b t d r p h n k =
      let m = taken (ahead source 0 (b ++ t ∷ d) r) (no_end source 0 (b ++ t ∷ d) r) k in
      let e = ap (going from_expression) (ahead_at source 0 b t d r) ∙ stuck_there (ahead source 0 b (t ∷ (d ++ r))) (ahead source (place_of 0 b + 1) d r) (next_lexeme source 0 b t (d ++ r)) from_expression p h n in
      some_none (going from_expression (ahead source 0 (b ++ t ∷ d) r)) m.0 e m.1

  longest : (source : List ℕ) (tokens b r : List Token) (p : State) → tokens ≡ b ++ r → going from_expression (ahead source 0 b r) ≡ Some p → Refuses_next source b r p → IsLongest source tokens b
  longest source tokens b r p e h n c s k w = by (parted b r c s (sym e ∙ k))
    where
      longer : (t : Token) (d : List Token) → c ≡ b ++ t ∷ d → r ≡ t ∷ (d ++ s) → ⊥
      longer t d f g =
          let P : List Token → Type 0 = λ x. going from_expression (ahead source 0 b x) ≡ Some p in
          let Q : List Token → Type 0 = λ x. Refuses_next source b x p in
          let R : List Token → Type 0 = λ x. BeginsRun source x s in
          too_long source b t d s p (subst P g h) (subst Q g n) (subst R f w)

      by : Parted b r c s → length c ≤ length b
      by (inl f) = same_length b c f.0
      by (inr (inl f)) = absurd (longer f.0 f.1 f.2 f.3)
      by (inr (inr f)) = let P : List Token → Type 0 = λ x. length c ≤ length x in subst P (sym f.2) (length_less c f.0 f.1)

  run_at : (source : List ℕ) (tokens b r : List Token) (p : State) → tokens ≡ b ++ r → going from_expression (ahead source 0 b r) ≡ Some p → Refuses_next source b r p → IsRun source tokens b r
  run_at source tokens b r p e h n = (e, begun (ahead source 0 b r) p (no_end source 0 b r) h, longest source tokens b r p e h n)

  no_tree : (source : List ℕ) (b r : List Token) (p : State) → going from_expression (ahead source 0 b r) ≡ Some p → feed table p end_mark ≡ None → (x : Tree) → IsRunTree source b r x → ⊥
  no_tree source b r p h e x k =
      let m = read (ahead source 0 b r) x (no_end source 0 b r) k in
      let s : m.0 ≡ p = some_state m.0 p (sym m.1 ∙ h) in
      some_none (feed table p end_mark) (whole_expression x) e (ap (λ y. feed table y end_mark) (sym s) ∙ m.2)

  -- an expression stands whole
  stands : (source : List ℕ) (tokens : List Token) (place : Place) (n : ℕ) (q : Flat) (r : RunReading) → Comes_run source 0 place from_expression tokens (Whole n q) → r.length ≡ n → r.tree ≡ q → IsRunReading source tokens r
  stands source tokens place n q r h e f =
      let b = h.0 in
      let s = h.1 in
      let w = whole (ahead source 0 b s) h.2 h.3 (no_end source 0 b s) h.6 h.8 in
      let run = run_at source tokens b s h.2 h.4 h.6 (refuses source b s h.2 h.10 w.3 w.4) in
      let k : r.tree ≡ flat_of (whole_expression w.0) = f ∙ h.9 ∙ ap flat_of w.1 in
      (b, s, w.0, (run, w.2, all_within source b s h.7), zero_more r.length (length b) (e ∙ h.5 ∙ place_length 0 b), ap (λ x. x.out) k)

  -- or the reading stops, and has its cause
  next_going : (source : List ℕ) (b : List Token) (t : Token) (r : List Token) (p q : State) → going from_expression (ahead source 0 b (t ∷ r)) ≡ Some p → stepping p (next_lexeme source 0 b t r) ≡ Some q → going from_expression (ahead source 0 (b ++ t ∷ []) r) ≡ Some q
  next_going source b t r p q h k = ap (going from_expression) (ahead_at source 0 b t [] r) ∙ joint (ahead source 0 b (t ∷ r)) (next_lexeme source 0 b t r) from_expression p (Some q) h k

  told_at : (source : List ℕ) (tokens b : List Token) (t : Token) (r : List Token) (q : State) (c : HaltCause) → going from_expression (ahead source 0 (b ++ t ∷ []) r) ≡ Some q → told_of (flat_of q) ≡ Some c → Run_stops_by source tokens b (t ∷ r) c
  told_at source tokens b t r q cause.Unexpected h e = absurd (never_unexpected q e)
  told_at source tokens b t r q (cause.LeftOut x) h e = form_at (ahead source 0 (b ++ t ∷ []) r) q x (no_end source 0 (b ++ t ∷ []) r) h e
  told_at source tokens b t r q cause.TooDeep h e = deep_at (ahead source 0 (b ++ t ∷ []) r) q (no_end source 0 (b ++ t ∷ []) r) h e

  stop_at : (source : List ℕ) (tokens : List Token) (place : Place) (b r : List Token) (p : State) (h : Halt) → tokens ≡ b ++ r → going from_expression (ahead source 0 b r) ≡ Some p → Stops_at source 0 place b r p h → (h.place ≡ next_place r place) × Run_stops_by source tokens b r h.cause
  stop_at source tokens place b [] p h e k s =
      let P : HaltCause → Type 0 = λ c. Run_stops_by source tokens b [] c in
      (ap (λ x. x.place) s.0, subst P (sym (ap (λ x. x.cause) s.0)) (run_at source tokens b [] p e k tt, no_tree source b [] p k s.1))
  stop_at source tokens place b (t ∷ r) p h e k s = (s.0, by s.1)
    where
      by : (((h.cause ≡ cause.Unexpected) × (stepping p (next_lexeme source 0 b t r) ≡ None) × (feed table p end_mark ≡ None)) ⊎ ((q : State) × (stepping p (next_lexeme source 0 b t r) ≡ Some q) × (told_of (flat_of q) ≡ Some h.cause))) → Run_stops_by source tokens b (t ∷ r) h.cause
      by (inl u) =
          let P : HaltCause → Type 0 = λ c. Run_stops_by source tokens b (t ∷ r) c in
          subst P (sym u.0) (run_at source tokens b (t ∷ r) p e k u.1, no_tree source b (t ∷ r) p k u.2)
      by (inr u) = told_at source tokens b t r u.0 h.cause (next_going source b t r p u.0 k u.1) u.2

  stops : (source : List ℕ) (tokens : List Token) (place : Place) (h : Halt) → Comes_run source 0 place from_expression tokens (Halted h) → IsRunStop source tokens place h.place h.cause
  stops source tokens place h c =
      let m = stop_at source tokens place c.0 c.1 c.2 h c.3 c.4 c.6 in
      (c.0, c.1, c.3, m.0, all_within source c.0 c.1 c.5, m.1)

  tells : (source : List ℕ) (tokens : List Token) (place : Place) (c : RunCourse) (a : RunAnswer) → Comes_run source 0 place from_expression tokens c → Answers_run c a → Tells_run source tokens place a
  tells source tokens place (Whole n q) (answer.Read r) h a = stands source tokens place n q r h a.0 a.1
  tells source tokens place (Whole n q) (answer.Stopped g) h a = elim a [ ]
  tells source tokens place (Halted h) (answer.Read r) k a = elim a [ ]
  tells source tokens place (Halted h) (answer.Stopped g) k a =
      let P : Halt → Type 0 = λ x. IsRunStop source tokens place x.place x.cause in
      subst P (sym a) (stops source tokens place h k)

  pub gives_told : (source : List ℕ) (tokens : List Token) (place : Place) (c : RunCourse) (result : Result RunAnswer OutOfMemory) → Comes_run source 0 place from_expression tokens c → IfOk result (Answers_run c) → IfOk result (Tells_run source tokens place)
  gives_told source tokens place c (Ok a) h k = tells source tokens place c a h k
  gives_told source tokens place c (Err f) h k = tt

-- what is an expression within the language stops no reading
without_one : (x : LeftOut) (ts : List Lexeme) → IsRunWithout any_form ts → IsRunWithout (is_form x) ts
without_one x ts h = (h.0, h.1, (h.2.0, less_partial (is_form x) any_form (fewer (is_form x) any_form (λ y k. refl)) 0 0 h.2.0.0 h.2.1))

longer_not : (b : List Token) (t : Token) (d : List Token) → length (b ++ t ∷ d) ≤ length b → ⊥
longer_not [] t d h = absurd (omega (arith, h))
longer_not (x ∷ b) t d h =
    let k : length (b ++ t ∷ d) ≤ length b = omega (arith, h) in
    longer_not b t d k

two_runs : (source : List ℕ) (tokens b r c s : List Token) → IsRun source tokens b r → IsRun source tokens c s → (b ≡ c) × (r ≡ s)
two_runs source tokens b r c s h k = by (parted b r c s (sym h.0 ∙ k.0))
  where
    by : Parted b r c s → (b ≡ c) × (r ≡ s)
    by (inl e) = e
    by (inr (inl e)) =
        let P : List Token → Type 0 = λ x. length x ≤ length b in
        absurd (longer_not b e.0 e.1 (subst P e.2 (h.2 c s k.0 k.1)))
    by (inr (inr e)) =
        let P : List Token → Type 0 = λ x. length x ≤ length c in
        absurd (longer_not c e.0 e.1 (subst P e.2 (k.2 b r h.0 h.1)))

begins_of : (P : LeftOut → Bool) (ts : List Lexeme) → IsRunWithout P ts → BeginsExpression ts
begins_of P ts h = (h.0, h.1.0, h.1.1, h.2.0)

-- what stops a reading behind some tokens at the next one
abbrev Shows : List ℕ → List Token → Token → List Token → Type 0
Shows source c t s = BeginsRun source (c ++ t ∷ []) s × (IsRunWithin (ahead source 0 (c ++ t ∷ []) s) → ⊥)

at_token : (source : List ℕ) (tokens b r : List Token) (x : Tree) (c : List Token) (t : Token) (s : List Token) → IsExpressionAt source tokens b r x → tokens ≡ c ++ t ∷ s → Shows source c t s → ⊥
at_token source tokens b r x c t s h e n = by (parted b r c (t ∷ s) (sym h.0.0 ∙ e))
  where
    less : length (c ++ t ∷ []) ≤ length b
    less = h.0.2 (c ++ t ∷ []) s (e ∙ sym (append_assoc c (t ∷ []) s)) n.0

    more : (u : Token) (d : List Token) → c ≡ b ++ u ∷ d → ⊥
    more u d k =
        let P : List Token → Type 0 = λ y. length (y ++ t ∷ []) ≤ length b in
        let Q : List Token → Type 0 = λ y. length y ≤ length b in
        longer_not b u (d ++ t ∷ []) (subst Q (append_assoc b (u ∷ d) (t ∷ [])) (subst P k less))

    by : Parted b r c (t ∷ s) → ⊥
    by (inl k) = let P : List Token → Type 0 = λ y. length (c ++ t ∷ []) ≤ length y in longer_not c t [] (subst P k.0 less)
    by (inr (inl k)) = more k.0 k.1 k.2
    by (inr (inr k)) =
        let f : t ≡ k.0 = (let z = k.3 in cc) in
        let g : s ≡ k.1 ++ r = (let z = k.3 in cc) in
        let P : Token → Type 0 = λ y. b ≡ c ++ y ∷ k.1 in
        let w = h.2 (c ++ t ∷ []) k.1 (subst P (sym f) k.2 ∙ sym (append_assoc c (t ∷ []) k.1)) in
        let Q : List Token → Type 0 = λ y. IsRunWithin (ahead source 0 (c ++ t ∷ []) y) in
        n.1 (subst Q (sym g) w)

never_stops : (source : List ℕ) (tokens b r : List Token) (x : Tree) (c s : List Token) (why : HaltCause) → IsExpressionAt source tokens b r x → tokens ≡ c ++ s → Run_stops_by source tokens c s why → ⊥
never_stops source tokens b r x c s cause.Unexpected h e n =
    let m = two_runs source tokens b r c s h.0 n.0 in
    let P : List Token → Type 0 = λ y. IsRunTree source y r x in
    let Q : List Token → Type 0 = λ y. IsRunTree source c y x in
    n.1 x (subst Q m.1 (subst P m.0 h.1))
never_stops source tokens b r x c [] (cause.LeftOut f) h e n = n
never_stops source tokens b r x c [] cause.TooDeep h e n = n
never_stops source tokens b r x c (t ∷ s) (cause.LeftOut f) h e n = at_token source tokens b r x c t s h e (n.0, λ w. n.1 (without_one f (ahead source 0 (c ++ t ∷ []) s) w.0))
never_stops source tokens b r x c (t ∷ s) cause.TooDeep h e n = at_token source tokens b r x c t s h e (begins_of any_form (ahead source 0 (c ++ t ∷ []) s) n.0, λ w. n.1 w.1)

read_only : (source : List ℕ) (tokens : List Token) (place : Place) (a : RunAnswer) → Tells_run source tokens place a → (b r : List Token) (x : Tree) → IsExpressionAt source tokens b r x → IsRead a
read_only source tokens place (answer.Read v) h b r x k = tt
read_only source tokens place (answer.Stopped g) h b r x k = absurd (never_stops source tokens b r x h.0 h.1 g.cause k h.2 h.5)

pub gives_only : (source : List ℕ) (tokens : List Token) (place : Place) (result : Result RunAnswer OutOfMemory) → IfOk result (Tells_run source tokens place) → (b r : List Token) (x : Tree) → IsExpressionAt source tokens b r x → IfOk result IsRead
gives_only source tokens place (Ok a) h b r x k = read_only source tokens place a h b r x k
gives_only source tokens place (Err f) h b r x k = tt

pub course_comes : (flatly : Flatly) (source : List ℕ) (place : Place) (tokens : List Token) → Comes_run source 0 place from_expression tokens (run_course source place 0 (flat_of from_expression) tokens)
course_comes flatly source place tokens = comes_run flatly source 0 place from_expression tokens start_quiet
