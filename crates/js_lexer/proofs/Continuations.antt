-- What more characters do where no element was taken: what is bad stays so, and what is cut off goes on.
use Rattle.std.proofs.Common.{◌≡◌, ◌⊎◌, inl, inr, ℕ, ◌==◌, ◌||◌, ◌&&◌, Bool, true, false, cond, not, List, [], ◌∷◌, ◌++◌, Option, Some, None, Result, Ok, Err, refl, sym, ap, subst, ◌∙◌, arith}
use Rattle.unicode_ident.proofs.IdentLemmas.{is_xid_start-ascii}
use Rattle.js_lexer.specs.declared.comments.Comment.{Comment}
use Rattle.js_lexer.specs.declared.comments.Comment.TheVariants as comments
use Rattle.js_lexer.specs.declared.element.Element.{Element}
use Rattle.js_lexer.specs.declared.element.Element.TheVariants as elements
use Rattle.js_lexer.specs.declared.element.Form.{Form}
use Rattle.js_lexer.specs.declared.element.Form.TheVariants as forms
use Rattle.js_lexer.specs.declared.element.NoElement.TheVariants.{Stopped, LeftOut}
use Rattle.js_lexer.specs.declared.escapes.Escape.{Escape}
use Rattle.js_lexer.specs.declared.escapes.Escape.TheVariants as escapes
use Rattle.js_lexer.specs.declared.machine.Step.{Step}
use Rattle.js_lexer.specs.declared.machine.Stop.{Stop}
use Rattle.js_lexer.specs.declared.machine.Stop.TheVariants as stops
use Rattle.js_lexer.specs.declared.numbers.Numeral.{Numeral}
use Rattle.js_lexer.specs.declared.numbers.Numeral.TheVariants as numerals
use Rattle.js_lexer.specs.declared.numbers.NumberPart.TheVariants as number_parts
use Rattle.js_lexer.specs.declared.punctuators.Punctuator.{Punctuator}
use Rattle.js_lexer.specs.declared.punctuators.Punctuator.TheVariants as punctuators
use Rattle.js_lexer.specs.declared.quoted.End.{End}
use Rattle.js_lexer.specs.declared.quoted.End.TheVariants as ends
use Rattle.js_lexer.specs.declared.quoted.Part.{Part}
use Rattle.js_lexer.specs.declared.quoted.Part.TheVariants as parts
use Rattle.js_lexer.specs.declared.quoted.Quote.{Quote}
use Rattle.js_lexer.specs.declared.quoted.Quote.TheVariants as quotes
use Rattle.js_lexer.specs.declared.quoted.Quoted.{Quoted}
use Rattle.js_lexer.specs.declared.token.TemplatePart.{TemplatePart}
use Rattle.js_lexer.specs.declared.token.TemplatePart.TheVariants as templates
use Rattle.js_lexer.specs.Characters.{is_digit, is_line_terminator, is_name_part, is_name_start, is_white_space}
use Rattle.js_lexer.specs.Comments.{comment_step, comment_stop}
use Rattle.js_lexer.specs.Escapes.{escape_step, escape_stop}
use Rattle.js_lexer.specs.Grammar.{in_line}
use Rattle.js_lexer.specs.Machines.{Reading, run}
use Rattle.js_lexer.specs.Numbers.{number_step, number_stop}
use Rattle.js_lexer.specs.Punctuators.{single, singles, named, follows, begun, started}
use Rattle.js_lexer.specs.Quoted.{quoted_step, quoted_stop, opened}
use Rattle.js_lexer.specs.Scanning.{Taking, refused, escape_reading, left_out, word_unless, word_ending, word_of, number_taken, number_of, string_taken, string_of, template_taken, template_of, mark_taken, mark_of, gap_taken, slash_of, dot_of, private_taken, other_of, unnamed_of, element_of}
use Rattle.js_lexer.specs.Skipping.{skip}
use Rattle.js_lexer.proofs.Machine_laws.{bad_stays, EndsIn, cut_goes_on}
use Rattle.js_lexer.proofs.Number_laws.{number_bad, number_cut}
use Rattle.js_lexer.proofs.Tests.{both, equal, not_ok, same_err}

-- an element was taken, or a form that is left out
abbrev Lasts : Taking → Type 0
Lasts t = ((e : Element) × (ys : List ℕ) × (t ≡ Ok (e, ys))) ⊎ ((form : Form) × (t ≡ Err (LeftOut form)))

-- with more behind the text, what is bad stays so, and what is cut off goes on
record Keeps (taking : List ℕ → Taking) (cs : List ℕ) : Type 0 where
  bad : taking cs ≡ refused stops.Bad → (more : List ℕ) → taking (cs ++ more) ≡ refused stops.Bad
  cut : taking cs ≡ refused stops.Cut → (more : List ℕ) × Lasts (taking (cs ++ more))

lasting : (t : Taking) (stop : Stop) → Lasts t → t ≡ refused stop → ⊥
lasting t stop (inl (e, ys, h)) k = not_ok t (e, ys) (Stopped stop) k h
lasting t stop (inr (form, h)) k = not_left form (same_err t (LeftOut form) (Stopped stop) h k)
  where
    not_left : (form : Form) → LeftOut form ≡ Stopped stop → ⊥
    not_left form h = cc

keeps_lasting : (taking : List ℕ → Taking) (cs : List ℕ) → Lasts (taking cs) → Keeps taking cs
keeps_lasting taking cs l = record { bad = λ h more. absurd (lasting (taking cs) stops.Bad l h); cut = λ h. absurd (lasting (taking cs) stops.Cut l h) }

bad_not_cut : refused stops.Bad ≡ refused stops.Cut → ⊥
bad_not_cut h = cc

keeps_bad : (cs : List ℕ) → Keeps (λ zs. refused stops.Bad) cs
keeps_bad cs = record { bad = λ h more. refl; cut = λ h. absurd (bad_not_cut h) }

-- with a character in front
ahead : (taking : List ℕ → Taking) (c : ℕ) (cs : List ℕ) → Keeps (λ zs. taking (c ∷ zs)) cs → Keeps taking (c ∷ cs)
ahead taking c cs k = record { bad = k.bad; cut = k.cut }

behind : (taking : List ℕ → Taking) (c : ℕ) (cs : List ℕ) → Keeps taking (c ∷ cs) → Keeps (λ zs. taking (c ∷ zs)) cs
behind taking c cs k = record { bad = k.bad; cut = k.cut }

-- by the two cases of a test on what stands before
keeps_test : (b : Bool) (f g : List ℕ → Taking) (cs : List ℕ) → (b ≡ true → Keeps f cs) → (b ≡ false → Keeps g cs) → Keeps (λ zs. cond b (f zs) (g zs)) cs
keeps_test true f g cs k l = k refl
keeps_test false f g cs k l = l refl

-- by what a machine reads

refused_same : (stop other : Stop) → refused stop ≡ refused other → stop ≡ other
refused_same stop other h = cc

module _ {O : Type 0} (reading : List ℕ → Reading O) where
  -- nothing is read, whatever follows
  abbrev StaysBad : List ℕ → Type 0
  StaysBad cs = (more : List ℕ) → reading cs ≡ Err stops.Bad → reading (cs ++ more) ≡ Err stops.Bad

  -- something is read where certain characters follow
  abbrev GoesOn : List ℕ → Type 0
  GoesOn cs = reading cs ≡ Err stops.Cut → (more : List ℕ) × (r : O × List ℕ) × (reading (cs ++ more) ≡ Ok r)

module _ {O : Type 0} (taken : Reading O → Taking) where
  -- what is read lasts, and what stops the reading is told
  abbrev Tells : Type 0
  Tells = ((r : O × List ℕ) → Lasts (taken (Ok r))) × ((stop : Stop) → taken (Err stop) ≡ refused stop)

  stopped : Tells → (r : Reading O) (stop : Stop) → taken r ≡ refused stop → r ≡ Err stop
  stopped t (Ok p) stop h = absurd (lasting (taken (Ok p)) stop (t.0 p) h)
  stopped t (Err e) stop h = ap (λ s. let r : Reading O = Err s in r) (refused_same e stop (sym (t.1 e) ∙ h))

  keeps_reading : Tells → (reading : List ℕ → Reading O) (cs : List ℕ) → StaysBad reading cs → GoesOn reading cs → Keeps (λ zs. taken (reading zs)) cs
  keeps_reading t reading cs bad on = record {
    bad = λ h more. ap taken (bad more (stopped t (reading cs) stops.Bad h)) ∙ t.1 stops.Bad;
    cut = λ h.
        let m : (more : List ℕ) × (r : O × List ℕ) × (reading (cs ++ more) ≡ Ok r) = on (stopped t (reading cs) stops.Cut h) in
        (m.0, subst (λ r. Lasts (taken r)) (sym m.2) (t.0 m.1));
  }

-- the machine reads on to an end from each of its states
module _ {S O : Type 0} (step : S → ℕ → Step S O) (stop : S → Result O Stop) where
  abbrev Closes : S → Type 0
  Closes s = (more : List ℕ) × (r : O × List ℕ) × (run step stop s more ≡ Ok r)

  keeps_run : (taken : Reading O → Taking) → Tells taken → ((s : S) → stop s ≡ Err stops.Bad → ⊥) → ((s : S) → Closes s) → (s : S) (cs : List ℕ) → Keeps (λ zs. taken (run step stop s zs)) cs
  keeps_run taken tells never closes s cs = keeps_reading taken tells (run step stop s) cs (λ more h. bad_stays step stop never s cs more h) on
    where
      on : GoesOn (run step stop s) cs
      on h =
          let e : EndsIn step stop s cs = cut_goes_on step stop s cs h in
          let m : Closes e.0 = closes e.0 in
          (m.0, m.1, e.2 m.0 ∙ m.2)

-- escapes

-- characters that end what was read of a character
abbrev rest_of_escape : Escape → List ℕ
rest_of_escape escapes.Backslash = 117 ∷ 48 ∷ 48 ∷ 48 ∷ 48 ∷ []
rest_of_escape escapes.Unicode = 48 ∷ 48 ∷ 48 ∷ 48 ∷ []
rest_of_escape escapes.ThreeDigits = 48 ∷ 48 ∷ 48 ∷ []
rest_of_escape escapes.TwoDigits = 48 ∷ 48 ∷ []
rest_of_escape escapes.OneDigit = 48 ∷ []
rest_of_escape escapes.Brace = 48 ∷ 125 ∷ []
rest_of_escape (escapes.CodePoint value) = 125 ∷ []

escape_never_bad : (s : Escape) → escape_stop s ≡ Err stops.Bad → ⊥
escape_never_bad s h = cc

escape_closes : (s : Escape) → Closes escape_step escape_stop s
escape_closes s = (rest_of_escape s, (tt, []), by_escape s)
  where
    by_escape : (s : Escape) → run escape_step escape_stop s (rest_of_escape s) ≡ Ok (tt, [])
    by_escape escapes.Backslash = refl
    by_escape _ = refl

keeps_escape : (form : Form) (cs : List ℕ) → Keeps (λ zs. left_out form (escape_reading zs)) cs
keeps_escape form cs = keeps_run escape_step escape_stop (left_out form) (λ r. inr (form, refl), λ stop. refl) escape_never_bad escape_closes escapes.Backslash cs

-- strings and templates

quoted_never_bad : (s : Quoted) → quoted_stop s ≡ Err stops.Bad → ⊥
quoted_never_bad s h = cc

-- the character that closes the text
abbrev closing : Quote → ℕ
closing quotes.Double = 34
closing quotes.Single = 39
closing quotes.Template = 96

abbrev ClosesIn : Quote → Part → Type 0
ClosesIn quote part = Closes quoted_step quoted_stop (record { quote = quote; part = part })

-- where the closing character is the next
closed : (quote : Quote) → run quoted_step quoted_stop (opened quote) (closing quote ∷ []) ≡ Ok (ends.Closed, [])
closed quotes.Double = refl
closed quotes.Single = refl
closed quotes.Template = refl

closes_escape : (quote : Quote) (escape : Escape) → ClosesIn quote (parts.Escape escape)
closes_escape quote escape = (rest_of_escape escape ++ closing quote ∷ [], (ends.Closed, []), by_escape escape)
  where
    by_escape : (escape : Escape) → run quoted_step quoted_stop (record { quote = quote; part = parts.Escape escape }) (rest_of_escape escape ++ closing quote ∷ []) ≡ Ok (ends.Closed, [])
    by_escape escapes.Backslash = closed quote
    by_escape _ = closed quote

closes_part : (quote : Quote) (part : Part) → ClosesIn quote part
closes_part quote (parts.Escape escape) = closes_escape quote escape
closes_part quote parts.Plain = (closing quote ∷ [], (ends.Closed, []), closed quote)
closes_part quote parts.Backslash = (110 ∷ closing quote ∷ [], (ends.Closed, []), closed quote)
closes_part quote parts.TwoHexDigits = (48 ∷ 48 ∷ closing quote ∷ [], (ends.Closed, []), closed quote)
closes_part quote parts.OneHexDigit = (48 ∷ closing quote ∷ [], (ends.Closed, []), closed quote)
closes_part quote parts.Dollar = (123 ∷ [], (ends.Substitution, []), refl)
closes_part quotes.Double _ = (34 ∷ [], (ends.Closed, []), refl)
closes_part quotes.Single _ = (39 ∷ [], (ends.Closed, []), refl)
closes_part quotes.Template _ = (96 ∷ [], (ends.Closed, []), refl)

keeps_quoted : (quote : Quote) (taken : Reading End → Taking) → Tells taken → (cs : List ℕ) → Keeps (λ zs. taken (run quoted_step quoted_stop (opened quote) zs)) cs
keeps_quoted quote taken tells cs = keeps_run quoted_step quoted_stop taken tells quoted_never_bad (λ s. closes_part s.quote s.part) (opened quote) cs

keeps_string : (quote : Quote) (c : ℕ) (cs : List ℕ) → Keeps (λ zs. string_of quote (c ∷ zs)) cs
keeps_string quote c cs = keeps_quoted quote string_taken (λ r. inl (elements.String, r.1, refl), λ stop. refl) cs

keeps_template : (part goes : TemplatePart) (c : ℕ) (cs : List ℕ) → Keeps (λ zs. template_of part goes (c ∷ zs)) cs
keeps_template part goes c cs = keeps_quoted quotes.Template (template_taken part goes) (λ r. inl (_, r.1, refl), λ stop. refl) cs

-- comments

comment_never_bad : (s : Comment) → comment_stop s ≡ Err stops.Bad → ⊥
comment_never_bad s h = cc

comment_closes : (s : Comment) → Closes comment_step comment_stop s
comment_closes comments.Inside = (42 ∷ 47 ∷ [], (tt, []), refl)
comment_closes comments.Asterisk = (47 ∷ [], (tt, []), refl)

abbrev comment_reading : List ℕ → Reading (Unit {0})
comment_reading zs = run comment_step comment_stop comments.Inside zs

keeps_comment : (cs : List ℕ) → Keeps (λ zs. gap_taken (comment_reading zs)) cs
keeps_comment cs = keeps_run comment_step comment_stop gap_taken (λ r. inl (elements.Gap, r.1, refl), λ stop. refl) comment_never_bad comment_closes comments.Inside cs

-- numbers

abbrev numeral_reading : List ℕ → Reading Numeral
numeral_reading xs = run number_step number_stop number_parts.Start xs

numeral_lasts : (r : Numeral × List ℕ) → Lasts (number_taken (Ok r))
numeral_lasts (numerals.Number, ys) = inl (elements.Number, ys, refl)
numeral_lasts (numerals.Separated, ys) = inr (forms.Separator, refl)
numeral_lasts (numerals.BigInt, ys) = inr (forms.BigInt, refl)

numeral_goes_on : (xs : List ℕ) → GoesOn numeral_reading xs
numeral_goes_on xs h =
    let m : (more : List ℕ) × (n : Numeral) × (numeral_reading (xs ++ more) ≡ Ok (n, [])) = number_cut xs h in
    (m.0, (m.1, []), m.2)

keeps_number : (xs : List ℕ) → Keeps number_of xs
keeps_number xs = keeps_reading number_taken (numeral_lasts, λ stop. refl) numeral_reading xs (λ more h. number_bad xs more h) (numeral_goes_on xs)

-- punctuators

-- the punctuator may stand before anything
abbrev stands_anywhere : Punctuator → Bool
stands_anywhere punctuators.Dot = false
stands_anywhere punctuators.OptionalChain = false
stands_anywhere punctuators.Slash = false
stands_anywhere _ = true

-- each of these may, but for those of `.` and `/`
abbrev all_anywhere : List (ℕ × Punctuator) → Bool
all_anywhere [] = true
all_anywhere (e ∷ es) = (e.0 == 46 || e.0 == 47 || stands_anywhere e.1) && all_anywhere es

anywhere : (p : Punctuator) (ys : List ℕ) → stands_anywhere p ≡ true → follows p ys ≡ true
anywhere p ys h = by_punctuator p h
  where
    by_punctuator : (p : Punctuator) → stands_anywhere p ≡ true → follows p ys ≡ true
    by_punctuator punctuators.Dot h = absurd (cc)
    by_punctuator punctuators.OptionalChain h = absurd (cc)
    by_punctuator punctuators.Slash h = absurd (cc)
    by_punctuator _ h = refl

named_anywhere : (c : ℕ) (es : List (ℕ × Punctuator)) (p : Punctuator) → (c == 46) ≡ false → (c == 47) ≡ false → all_anywhere es ≡ true → named c es ≡ Some p → stands_anywhere p ≡ true
named_anywhere c [] p d s h k = absurd (cc)
named_anywhere c (e ∷ es) p d s h k =
    let t : ((e.0 == 46 || e.0 == 47 || stands_anywhere e.1) ≡ true) × (all_anywhere es ≡ true) = both (e.0 == 46 || e.0 == 47 || stands_anywhere e.1) (all_anywhere es) h in
    by_head (c == e.0) refl k t (λ l. named_anywhere c es p d s t.1 l)
  where
    third : (a b c : Bool) → a ≡ false → b ≡ false → (a || b || c) ≡ true → c ≡ true
    third a b c h k l = cc

    inner : (p q : Punctuator) → Some p ≡ Some q → p ≡ q
    inner p q h = cc

    by_head : (b : Bool) → (c == e.0) ≡ b → cond b (Some e.1) (named c es) ≡ Some p → ((e.0 == 46 || e.0 == 47 || stands_anywhere e.1) ≡ true) × (all_anywhere es ≡ true) →
        (named c es ≡ Some p → stands_anywhere p ≡ true) → stands_anywhere p ≡ true
    by_head true f k t again =
        let same : c ≡ e.0 = equal c e.0 f in
        let free : stands_anywhere e.1 ≡ true = third (e.0 == 46) (e.0 == 47) (stands_anywhere e.1) (subst (λ z. (z == 46) ≡ false) same d) (subst (λ z. (z == 47) ≡ false) same s) t.0 in
        subst (λ z. stands_anywhere z ≡ true) (inner e.1 p k) free
    by_head false f k t again = again k

started_lasts : (p : Punctuator) (ys : List ℕ) → follows p ys ≡ true → Lasts (mark_taken (begun (Some p) ys))
started_lasts p ys h = subst (λ b. Lasts (mark_taken (cond b (Some (started p ys)) None))) (sym h) (inl (elements.Punctuator (started p ys).0, (started p ys).1, refl))

keeps_begun : (o : Option Punctuator) (cs : List ℕ) → ((p : Punctuator) → o ≡ Some p → stands_anywhere p ≡ true) → Keeps (λ zs. mark_taken (begun o zs)) cs
keeps_begun None cs free = keeps_bad cs
keeps_begun (Some p) cs free = keeps_lasting (λ zs. mark_taken (begun (Some p) zs)) cs (started_lasts p cs (anywhere p cs (free p refl)))

keeps_mark : (c : ℕ) (cs : List ℕ) → (c == 46) ≡ false → (c == 47) ≡ false → Keeps (λ zs. mark_of (c ∷ zs)) cs
keeps_mark c cs d s = keeps_begun (single c) cs (λ p h. named_anywhere c singles p d s refl h)

-- at a slash, a point, a `#`

slash_lasts : (c : ℕ) (cs : List ℕ) → (c == 47) ≡ false → (c == 42) ≡ false → Lasts (mark_of (47 ∷ c ∷ cs))
slash_lasts c cs h k = started_lasts punctuators.Slash (c ∷ cs) (rw (h, k) refl)

keeps_slash : (cs : List ℕ) → Keeps (λ zs. slash_of (47 ∷ zs)) cs
keeps_slash [] = keeps_lasting (λ zs. slash_of (47 ∷ zs)) [] (inl (elements.Punctuator punctuators.Slash, [], refl))
keeps_slash (c ∷ cs) =
    ahead (λ zs. slash_of (47 ∷ zs)) c cs
    (keeps_test (c == 47) _ _ cs (λ e. keeps_lasting (λ zs. Ok (elements.Gap, skip in_line zs)) cs (inl (elements.Gap, skip in_line cs, refl)))
    (λ n. keeps_test (c == 42) _ _ cs (λ e. keeps_comment cs)
    (λ m. keeps_lasting (λ zs. mark_of (47 ∷ c ∷ zs)) cs (slash_lasts c cs n m))))

point_lasts : (c : ℕ) (cs : List ℕ) → is_digit c ≡ false → Lasts (mark_of (46 ∷ c ∷ cs))
point_lasts c cs h = started_lasts punctuators.Dot (c ∷ cs) (ap not h)

keeps_point : (cs : List ℕ) → Keeps (λ zs. dot_of (46 ∷ zs)) cs
keeps_point [] = keeps_lasting (λ zs. dot_of (46 ∷ zs)) [] (inl (elements.Punctuator punctuators.Dot, [], refl))
keeps_point (c ∷ cs) =
    ahead (λ zs. dot_of (46 ∷ zs)) c cs
    (keeps_test (is_digit c) _ _ cs (λ e. behind (λ zs. number_of (46 ∷ zs)) c cs (behind number_of 46 (c ∷ cs) (keeps_number (46 ∷ c ∷ cs))))
    (λ n. keeps_lasting (λ zs. mark_of (46 ∷ c ∷ zs)) cs (point_lasts c cs n)))

-- behind a `#`, the letter `a` goes on with a private name
a_starts : is_name_start 97 ≡ true
unfolding is_name_start
a_starts = is_xid_start-ascii 97 (omega arith)

cut_not_bad : refused stops.Cut ≡ refused stops.Bad → ⊥
cut_not_bad h = cc

keeps_hash : (cs : List ℕ) → Keeps private_taken cs
keeps_hash [] = record { bad = λ h more. absurd (cut_not_bad h); cut = λ h. (97 ∷ [], inr (forms.Private, rw a_starts refl)) }
keeps_hash (c ∷ cs) =
    ahead private_taken c cs
    (keeps_test (c == 92) _ _ cs (λ e. keeps_escape forms.Private cs)
    (λ n. keeps_test (is_name_start c) _ _ cs (λ e. keeps_lasting (λ zs. Err (LeftOut forms.Private)) cs (inr (forms.Private, refl)))
    (λ m. keeps_bad cs)))

-- names

word_unless_lasts : (xs : List ℕ) (r : Reading (Unit {0})) → ((stop : Stop) → Lasts (word_unless xs (Err stop))) → Lasts (word_unless xs r)
word_unless_lasts xs (Ok r) h = inr (forms.Escape, refl)
word_unless_lasts xs (Err stop) h = h stop

word_lasts : (xs : List ℕ) → Lasts (word_ending xs)
word_lasts [] = inl (elements.Word, [], refl)
word_lasts (c ∷ cs) = by_backslash (c == 92)
  where
    by_backslash : (b : Bool) → Lasts (cond b (word_unless (c ∷ cs) (escape_reading cs)) (Ok (elements.Word, c ∷ cs)))
    by_backslash true = word_unless_lasts (c ∷ cs) (escape_reading cs) (λ stop. inl (elements.Word, c ∷ cs, refl))
    by_backslash false = inl (elements.Word, c ∷ cs, refl)

-- at each first character

-- at a certain one
at_one : (taking : ℕ → List ℕ → Taking) (c n : ℕ) (cs : List ℕ) → (c == n) ≡ true → Keeps (λ zs. taking n zs) cs → Keeps (λ zs. taking c zs) cs
at_one taking c n cs e h = subst (λ z. Keeps (λ zs. taking z zs) cs) (sym (equal c n e)) h

keeps_other : (inside : Bool) (c : ℕ) (cs : List ℕ) → Keeps (λ zs. other_of inside c (c ∷ zs)) cs
keeps_other inside c cs =
    keeps_test (c == 34) _ _ cs (λ e. keeps_string quotes.Double c cs)
    (λ n. keeps_test (c == 39) _ _ cs (λ e. keeps_string quotes.Single c cs)
    (λ m. keeps_test (c == 96) _ _ cs (λ e. keeps_template templates.Whole templates.Head c cs)
    (λ l. keeps_test (c == 125 && inside) _ _ cs (λ e. keeps_template templates.Tail templates.Middle c cs)
    (λ k. keeps_test (c == 47) _ _ cs (λ e. at_one (λ z zs. slash_of (z ∷ zs)) c 47 cs e (keeps_slash cs))
    (λ s. keeps_test (c == 46) _ _ cs (λ e. at_one (λ z zs. dot_of (z ∷ zs)) c 46 cs e (keeps_point cs))
    (λ d. keeps_test (c == 92) _ _ cs (λ e. keeps_escape forms.Escape cs)
    (λ b. keeps_test (c == 35) _ _ cs (λ e. keeps_hash cs)
    (λ h. keeps_test (c == 64) _ _ cs (λ e. keeps_lasting (λ zs. Err (LeftOut forms.Decorator)) cs (inr (forms.Decorator, refl)))
    (λ a. keeps_mark c cs d s)))))))))

keeps_unnamed : (inside : Bool) (c : ℕ) (cs : List ℕ) → Keeps (λ zs. unnamed_of inside c (c ∷ zs)) cs
keeps_unnamed inside c cs =
    keeps_test (is_white_space c || is_line_terminator c) _ _ cs (λ e. keeps_lasting (λ zs. Ok (elements.Gap, zs)) cs (inl (elements.Gap, cs, refl)))
    (λ n. keeps_test (is_digit c) _ _ cs (λ e. behind number_of c cs (keeps_number (c ∷ cs)))
    (λ m. keeps_other inside c cs))

keeps_element : (inside : Bool) (c : ℕ) (cs : List ℕ) → Keeps (λ zs. element_of inside (c ∷ zs)) cs
keeps_element inside c cs =
    keeps_test (is_name_start c) _ _ cs (λ e. keeps_lasting (λ zs. word_of zs) cs (word_lasts (skip is_name_part cs)))
    (λ n. keeps_unnamed inside c cs)

-- where neither an element nor a form that is left out begins, none does with more characters behind
pub element_bad : (inside : Bool) (c : ℕ) (cs more : List ℕ) → element_of inside (c ∷ cs) ≡ Err (Stopped stops.Bad) → element_of inside (c ∷ (cs ++ more)) ≡ Err (Stopped stops.Bad)
element_bad inside c cs more h = (keeps_element inside c cs).bad h more

-- where the text ends inside an element, some characters behind it end the element, or a form that is left out
pub element_cut : (inside : Bool) (xs : List ℕ) → element_of inside xs ≡ Err (Stopped stops.Cut) →
    (more : List ℕ) × (((e : Element) × (ys : List ℕ) × (element_of inside (xs ++ more) ≡ Ok (e, ys))) ⊎ ((form : Form) × (element_of inside (xs ++ more) ≡ Err (LeftOut form))))
element_cut inside [] h = absurd (bad_not_cut h)
element_cut inside (c ∷ cs) h = (keeps_element inside c cs).cut h
