-- Numbers and white space are taken exactly, and so each element.
use Rattle.std.proofs.Common.{◌≡◌, ◌⊎◌, inl, inr, ℕ, ◌==◌, ◌||◌, ◌&&◌, Bool, true, false, cond, List, [], ◌∷◌, Ok, Err, refl, sym, ap, subst, arith}
use Rattle.std.proofs.lemmas.Bool.Decides.{nat_tests}
use Rattle.unicode_ident.proofs.Computing.{unicode_ident}
use Rattle.js_lexer.specs.declared.element.Element.{Element}
use Rattle.js_lexer.specs.declared.element.Element.TheVariants as elements
use Rattle.js_lexer.specs.declared.element.Form.{Form}
use Rattle.js_lexer.specs.declared.element.Form.TheVariants as forms
use Rattle.js_lexer.specs.declared.element.NoElement.TheVariants.{LeftOut}
use Rattle.js_lexer.specs.declared.numbers.Numeral.{Numeral}
use Rattle.js_lexer.specs.declared.numbers.Numeral.TheVariants as numerals
use Rattle.js_lexer.specs.declared.numbers.NumberPart.TheVariants as number_parts
use Rattle.js_lexer.specs.declared.punctuators.Punctuator.{Punctuator}
use Rattle.js_lexer.specs.declared.quoted.Quote.TheVariants as quotes
use Rattle.js_lexer.specs.declared.token.TemplatePart.TheVariants as templates
use Rattle.js_lexer.specs.Characters.{is_name_start, is_digit, is_white_space, is_line_terminator}
use Rattle.js_lexer.specs.Elements.{gap, Stands, Shows}
use Rattle.js_lexer.specs.Grammar.{name, numeric_literal, bigint, escaped_name, private_name}
use Rattle.js_lexer.specs.Machines.{Reading, run}
use Rattle.js_lexer.specs.Numbers.{number_step, number_stop}
use Rattle.js_lexer.specs.Punctuators.{punctuator_of, IsPunctuator}
use Rattle.js_lexer.specs.Rules.{Leads, begins_with}
use Rattle.js_lexer.specs.Scanning.{Taking, number_taken, number_of, mark_of, dot_of, slash_of, escape_of, private_of, string_of, template_of, other_of, unnamed_of, element_of, escape_reading}
use Rattle.js_lexer.proofs.Beginnings.{Family, gaps, numbers, marks, family_of}
use Rattle.js_lexer.proofs.Derivatives.{stuck_there}
use Rattle.js_lexer.proofs.Exactly.{Exactly, Only, in_family, no_form, number_form, only, only_form, of_only, none_shows, at_point}
use Rattle.js_lexer.proofs.Firsts.{space_no_start, digit_no_start, digit_no_mark, space_no_mark}
use Rattle.js_lexer.proofs.Marks_taken.{MarksAt, exactly_mark, exactly_slash}
use Rattle.js_lexer.proofs.Number_laws.{number_plain, number_separated, number_big}
use Rattle.js_lexer.proofs.Punctuator_laws.{punctuator_exact}
use Rattle.js_lexer.proofs.Quoted_taken.{reading, exactly_double, exactly_single, exactly_accent, exactly_brace}
use Rattle.js_lexer.proofs.Words_taken.{exactly_word, exactly_backslash, exactly_hash, exactly_at}
use Rattle.js_lexer.proofs.Tests.{apart, both, by_test, differ, equal, not_true, no_some, same_ok, not_ok}

-- numbers

abbrev numeral_reading : List ℕ → Reading Numeral
numeral_reading xs = run number_step number_stop number_parts.Start xs

-- no text is read as two kinds of numeral
abbrev same_numeral : Numeral → Numeral → Bool
same_numeral numerals.Number numerals.Number = true
same_numeral numerals.Separated numerals.Separated = true
same_numeral numerals.BigInt numerals.BigInt = true
same_numeral _ _ = false

other_read : (xs ys zs : List ℕ) (n m : Numeral) → same_numeral n m ≡ false → numeral_reading xs ≡ Ok (n, ys) → numeral_reading xs ≡ Ok (m, zs) → ⊥
other_read xs ys zs n m d h k = differ (same_numeral n m) d (subst (λ z. same_numeral n z ≡ true) (ap (λ z. z.0) (same_ok (numeral_reading xs) (n, ys) (m, zs) h k)) (itself n))
  where
    itself : (n : Numeral) → same_numeral n n ≡ true
    itself numerals.Number = refl
    itself numerals.Separated = refl
    itself numerals.BigInt = refl

by_numeral : (inside : Bool) (c : ℕ) (cs : List ℕ) →
    ((e : Element) (ys : List ℕ) → Stands inside e (c ∷ cs) ys → e ≡ elements.Number) →
    ((form : Form) → Shows form (c ∷ cs) → number_form form ≡ true) →
    (r : Reading Numeral) → numeral_reading (c ∷ cs) ≡ r → Exactly inside (c ∷ cs) (number_taken r)
by_numeral inside c cs only only_form (Ok (numerals.Number, zs)) e = (
  (number_plain (c ∷ cs) zs).1 e,
  λ f ys h.
      let same : f ≡ elements.Number = only f ys h in
      let k : numeral_reading (c ∷ cs) ≡ Ok (numerals.Number, ys) = (number_plain (c ∷ cs) ys).0 (subst (λ z. Stands inside z (c ∷ cs) ys) same h) in
      (same, ap (λ z. z.1) (same_ok (numeral_reading (c ∷ cs)) (numerals.Number, ys) (numerals.Number, zs) k e)),
  λ form h. by_form form h (only_form form h),
)
  where
    by_form : (form : Form) → Shows form (c ∷ cs) → number_form form ≡ true → ⊥
    by_form forms.BigInt (ys, h) k = other_read (c ∷ cs) zs ys numerals.Number numerals.BigInt refl e ((number_big (c ∷ cs) ys).0 h)
    by_form forms.Separator (ys, h, n) k = n zs ((number_plain (c ∷ cs) zs).1 e)
    by_form _ h k = differ false refl k
by_numeral inside c cs only only_form (Ok (numerals.Separated, zs)) e = (there, λ form h. by_form form h (only_form form h))
  where
    there : Shows forms.Separator (c ∷ cs)
    there = (zs, (number_separated (c ∷ cs) zs).1 (inr e), λ ys h. other_read (c ∷ cs) zs ys numerals.Separated numerals.Number refl e ((number_plain (c ∷ cs) ys).0 h))

    by_form : (form : Form) → Shows form (c ∷ cs) → number_form form ≡ true → form ≡ forms.Separator
    by_form forms.BigInt (ys, h) k = absurd (other_read (c ∷ cs) zs ys numerals.Separated numerals.BigInt refl e ((number_big (c ∷ cs) ys).0 h))
    by_form forms.Separator h k = refl
    by_form _ h k = absurd (differ false refl k)
by_numeral inside c cs only only_form (Ok (numerals.BigInt, zs)) e = ((zs, (number_big (c ∷ cs) zs).1 e), λ form h. by_form form h (only_form form h))
  where
    neither : (ys : List ℕ) → ((numeral_reading (c ∷ cs) ≡ Ok (numerals.Number, ys)) ⊎ (numeral_reading (c ∷ cs) ≡ Ok (numerals.Separated, ys))) → ⊥
    neither ys (inl h) = other_read (c ∷ cs) zs ys numerals.BigInt numerals.Number refl e h
    neither ys (inr h) = other_read (c ∷ cs) zs ys numerals.BigInt numerals.Separated refl e h

    by_form : (form : Form) → Shows form (c ∷ cs) → number_form form ≡ true → form ≡ forms.BigInt
    by_form forms.BigInt h k = refl
    by_form forms.Separator (ys, h, n) k = absurd (neither ys ((number_separated (c ∷ cs) ys).0 h))
    by_form _ h k = absurd (differ false refl k)
by_numeral inside c cs only only_form (Err stop) e = (
  λ f ys h. none numerals.Number ys ((number_plain (c ∷ cs) ys).0 (subst (λ z. Stands inside z (c ∷ cs) ys) (only f ys h) h)),
  λ form h. by_form form h (only_form form h),
)
  where
    none : (n : Numeral) (ys : List ℕ) → numeral_reading (c ∷ cs) ≡ Ok (n, ys) → ⊥
    none n ys h = not_ok (numeral_reading (c ∷ cs)) (n, ys) stop e h

    neither : (ys : List ℕ) → ((numeral_reading (c ∷ cs) ≡ Ok (numerals.Number, ys)) ⊎ (numeral_reading (c ∷ cs) ≡ Ok (numerals.Separated, ys))) → ⊥
    neither ys (inl h) = not_ok (numeral_reading (c ∷ cs)) (numerals.Number, ys) stop e h
    neither ys (inr h) = not_ok (numeral_reading (c ∷ cs)) (numerals.Separated, ys) stop e h

    by_form : (form : Form) → Shows form (c ∷ cs) → number_form form ≡ true → ⊥
    by_form forms.BigInt (ys, h) k = not_ok (numeral_reading (c ∷ cs)) (numerals.BigInt, ys) stop e ((number_big (c ∷ cs) ys).0 h)
    by_form forms.Separator (ys, h, n) k = neither ys ((number_separated (c ∷ cs) ys).0 h)
    by_form _ h k = differ false refl k

-- at a digit

digit_no_space : (c : ℕ) → is_digit c ≡ true → (is_white_space c || is_line_terminator c) ≡ false
digit_no_space c h = grind (arith, nat_tests)

at_digit : (inside : Bool) (c : ℕ) (cs : List ℕ) → is_digit c ≡ true → Only inside c cs (in_family numbers) number_form
at_digit inside c cs d = (
  rw (digit_no_mark c d) (simp (digit_no_space c d, digit_no_start c d, no_digit 34, no_digit 39, no_digit 47, no_digit 96, no_digit 125)),
  simp (digit_no_start c d, no_digit 35, no_digit 64, no_digit 92),
)
  where
    no_digit : (n : ℕ) → is_digit n ≡ false → (c == n) ≡ false
    no_digit n h = apart is_digit c n d h

exactly_digit : (inside : Bool) (c : ℕ) (cs : List ℕ) → is_digit c ≡ true → Exactly inside (c ∷ cs) (number_of (c ∷ cs))
exactly_digit inside c cs d =
    by_numeral inside c cs (of_only inside numbers c cs number_form (at_digit inside c cs d)) (only_form inside c cs (in_family numbers) number_form (at_digit inside c cs d)) (numeral_reading (c ∷ cs)) refl

-- at a point

no_point : (p : Punctuator) (c : ℕ) (cs ys : List ℕ) → is_digit c ≡ true → IsPunctuator p (46 ∷ c ∷ cs) ys → ⊥
no_point p c cs ys d h = no_some (punctuator_of (46 ∷ c ∷ cs)) (p, ys) (rw d refl) ((punctuator_exact p (46 ∷ c ∷ cs) ys).0 h)

abbrev number_or_mark : Family → Bool
number_or_mark f = in_family numbers f || in_family marks f

point_number : (inside : Bool) (c : ℕ) (cs : List ℕ) → is_digit c ≡ true → (e : Element) (ys : List ℕ) → Stands inside e (46 ∷ c ∷ cs) ys → e ≡ elements.Number
point_number inside c cs d e ys h = by_element e h (only inside 46 (c ∷ cs) number_or_mark number_form (at_point inside (c ∷ cs)) e ys h)
  where
    by_element : (e : Element) → Stands inside e (46 ∷ c ∷ cs) ys → number_or_mark (family_of e) ≡ true → e ≡ elements.Number
    by_element elements.Number h k = refl
    by_element (elements.Punctuator p) h k = absurd (no_point p c cs ys d h.0)
    by_element _ h k = absurd (differ false refl k)

point_marks : (inside : Bool) (cs : List ℕ) → begins_with is_digit cs ≡ false → MarksAt inside 46 cs
unfolding is_name_start unicode_ident
point_marks inside cs n = (rw n refl, rw n refl)

exactly_point : (inside : Bool) (cs : List ℕ) → Exactly inside (46 ∷ cs) (dot_of (46 ∷ cs))
exactly_point inside cs = by_next (begins_with is_digit cs) refl
  where
    with_digit : (cs : List ℕ) → begins_with is_digit cs ≡ true → Exactly inside (46 ∷ cs) (number_of (46 ∷ cs))
    with_digit [] h = absurd (cc)
    with_digit (c ∷ ds) h = by_numeral inside 46 (c ∷ ds) (point_number inside c ds h) (only_form inside 46 (c ∷ ds) number_or_mark number_form (at_point inside (c ∷ ds))) (numeral_reading (46 ∷ c ∷ ds)) refl

    by_next : (b : Bool) → begins_with is_digit cs ≡ b → Exactly inside (46 ∷ cs) (cond b (number_of (46 ∷ cs)) (mark_of (46 ∷ cs)))
    by_next true h = with_digit cs h
    by_next false h = exactly_mark inside 46 cs (point_marks inside cs h) refl (punctuator_of (46 ∷ cs)) refl

-- at white space and line terminators

space_no_digit : (c : ℕ) → (is_white_space c || is_line_terminator c) ≡ true → is_digit c ≡ false
space_no_digit c h = not_true (is_digit c) (λ d. differ (is_white_space c || is_line_terminator c) (digit_no_space c d) h)

space_apart : (c : ℕ) → (is_white_space c || is_line_terminator c) ≡ true → (n : ℕ) → (is_white_space n || is_line_terminator n) ≡ false → (c == n) ≡ false
space_apart c s n h = apart (λ c. is_white_space c || is_line_terminator c) c n s h

at_space : (inside : Bool) (c : ℕ) (cs : List ℕ) → (is_white_space c || is_line_terminator c) ≡ true → Only inside c cs (in_family gaps) no_form
at_space inside c cs s = (
  rw (space_no_mark c s) (simp (space_no_start c s, space_no_digit c s, space_apart c s 34, space_apart c s 39, space_apart c s 46, space_apart c s 96, space_apart c s 125)),
  simp (space_no_start c s, space_no_digit c s, space_apart c s 35, space_apart c s 46, space_apart c s 64, space_apart c s 92),
)

space_gap : (c : ℕ) (cs ys : List ℕ) → (is_white_space c || is_line_terminator c) ≡ true → Leads gap (c ∷ cs) ys → ys ≡ cs
space_gap c cs ys s (inl h) = sym h.1
space_gap c cs ys s (inr (inl h)) = sym h.1
space_gap c cs ys s (inr (inr (inl (ms, h, k)))) = absurd (differ (c == 47) (space_apart c s 47 refl) h.0)
space_gap c cs ys s (inr (inr (inr (ms, h, k)))) = absurd (differ (c == 47) (space_apart c s 47 refl) h.0)

a_gap : (c : ℕ) (cs : List ℕ) → (is_white_space c || is_line_terminator c) ≡ true → Leads gap (c ∷ cs) cs
a_gap c cs s = by_class (is_white_space c) (is_line_terminator c) refl refl s
  where
    by_class : (a b : Bool) → is_white_space c ≡ a → is_line_terminator c ≡ b → (a || b) ≡ true → Leads gap (c ∷ cs) cs
    by_class true b e f h = inl (e, refl)
    by_class false true e f h = inr (inl (f, refl))
    by_class false false e f h = absurd (cc)

exactly_space : (inside : Bool) (c : ℕ) (cs : List ℕ) → (is_white_space c || is_line_terminator c) ≡ true → Exactly inside (c ∷ cs) (Ok (elements.Gap, cs))
exactly_space inside c cs s = (
  a_gap c cs s,
  λ e ys h.
      let same : e ≡ elements.Gap = of_only inside gaps c cs no_form (at_space inside c cs s) e ys h in
      (same, space_gap c cs ys s (subst (λ z. Stands inside z (c ∷ cs) ys) same h)),
  none_shows inside c cs (in_family gaps) (at_space inside c cs s),
)

-- at any other character

record Other (inside : Bool) (c : ℕ) : Type 0 where
  start : is_name_start c ≡ false
  space : (is_white_space c || is_line_terminator c) ≡ false
  digit : is_digit c ≡ false
  double : (c == 34) ≡ false
  single : (c == 39) ≡ false
  accent : (c == 96) ≡ false
  brace : (c == 125 && inside) ≡ false
  slash : (c == 47) ≡ false
  point : (c == 46) ≡ false
  backslash : (c == 92) ≡ false
  hash : (c == 35) ≡ false
  at : (c == 64) ≡ false

at_other : (inside : Bool) (c : ℕ) (cs : List ℕ) → Other inside c → MarksAt inside c cs
at_other inside c cs o = (
  simp (o.start, o.space, o.digit, o.double, o.single, o.accent, o.brace, o.slash, o.point),
  simp (o.start, o.digit, o.point, o.backslash, o.hash, o.at),
)

exactly_other : (inside : Bool) (c : ℕ) (cs : List ℕ) → Other inside c → Exactly inside (c ∷ cs) (mark_of (c ∷ cs))
exactly_other inside c cs o = exactly_mark inside c cs (at_other inside c cs o) o.brace (punctuator_of (c ∷ cs)) refl

-- a certain character
at_one : (inside : Bool) (cs : List ℕ) (c n : ℕ) (taking : ℕ → Taking) → (c == n) ≡ true → Exactly inside (n ∷ cs) (taking n) → Exactly inside (c ∷ cs) (taking c)
at_one inside cs c n taking e h = subst (λ z. Exactly inside (z ∷ cs) (taking z)) (sym (equal c n e)) h

brace_inside : (inside : Bool) (c : ℕ) (cs : List ℕ) → (c == 125 && inside) ≡ true → Exactly inside (c ∷ cs) (template_of templates.Tail templates.Middle (c ∷ cs))
brace_inside inside c cs h =
    let p : (c == 125 ≡ true) × (inside ≡ true) = both (c == 125) inside h in
    at_one inside cs c 125 (λ z. template_of templates.Tail templates.Middle (z ∷ cs)) p.0
    (subst (λ b. Exactly b (125 ∷ cs) (template_of templates.Tail templates.Middle (125 ∷ cs))) (sym p.1) (exactly_brace cs (reading quotes.Template cs) refl))

other_exactly : (inside : Bool) (c : ℕ) (cs : List ℕ) → is_name_start c ≡ false → (is_white_space c || is_line_terminator c) ≡ false → is_digit c ≡ false → Exactly inside (c ∷ cs) (other_of inside c (c ∷ cs))
other_exactly inside c cs s w d =
    by_test (Exactly inside (c ∷ cs)) (c == 34) _ _ (λ e. at_one inside cs c 34 (λ z. string_of quotes.Double (z ∷ cs)) e (exactly_double inside cs (reading quotes.Double cs) refl))
    (λ n1. by_test (Exactly inside (c ∷ cs)) (c == 39) _ _ (λ e. at_one inside cs c 39 (λ z. string_of quotes.Single (z ∷ cs)) e (exactly_single inside cs (reading quotes.Single cs) refl))
    (λ n2. by_test (Exactly inside (c ∷ cs)) (c == 96) _ _ (λ e. at_one inside cs c 96 (λ z. template_of templates.Whole templates.Head (z ∷ cs)) e (exactly_accent inside cs (reading quotes.Template cs) refl))
    (λ n3. by_test (Exactly inside (c ∷ cs)) (c == 125 && inside) _ _ (λ e. brace_inside inside c cs e)
    (λ n4. by_test (Exactly inside (c ∷ cs)) (c == 47) _ _ (λ e. at_one inside cs c 47 (λ z. slash_of (z ∷ cs)) e (exactly_slash inside cs))
    (λ n5. by_test (Exactly inside (c ∷ cs)) (c == 46) _ _ (λ e. at_one inside cs c 46 (λ z. dot_of (z ∷ cs)) e (exactly_point inside cs))
    (λ n6. by_test (Exactly inside (c ∷ cs)) (c == 92) _ _ (λ e. at_one inside cs c 92 (λ z. escape_of (z ∷ cs)) e (exactly_backslash inside cs (escape_reading cs) refl))
    (λ n7. by_test (Exactly inside (c ∷ cs)) (c == 35) _ _ (λ e. at_one inside cs c 35 (λ z. private_of (z ∷ cs)) e (exactly_hash inside cs))
    (λ n8. by_test (Exactly inside (c ∷ cs)) (c == 64) _ _ (λ e. at_one inside cs c 64 (λ z. Err (LeftOut forms.Decorator)) e (exactly_at inside cs))
    (λ n9. exactly_other inside c cs (record { start = s; space = w; digit = d; double = n1; single = n2; accent = n3; brace = n4; slash = n5; point = n6; backslash = n7; hash = n8; at = n9 }))))))))))

unnamed_exactly : (inside : Bool) (c : ℕ) (cs : List ℕ) → is_name_start c ≡ false → Exactly inside (c ∷ cs) (unnamed_of inside c (c ∷ cs))
unnamed_exactly inside c cs s =
    by_test (Exactly inside (c ∷ cs)) (is_white_space c || is_line_terminator c) _ _ (exactly_space inside c cs)
    (λ w. by_test (Exactly inside (c ∷ cs)) (is_digit c) _ _ (exactly_digit inside c cs) (other_exactly inside c cs s w))

-- nothing stands at the end of a text

pub nothing_stands : (inside : Bool) (e : Element) (ys : List ℕ) → Stands inside e [] ys → ⊥
nothing_stands inside elements.Gap ys h = stuck_there gap ys refl h
nothing_stands inside elements.Word ys h = stuck_there name ys refl h
nothing_stands inside elements.Number ys h = stuck_there (numeric_literal false) ys refl h
nothing_stands inside elements.String ys (inl (ms, h, k)) = h
nothing_stands inside elements.String ys (inr (ms, h, k)) = h
nothing_stands inside (elements.Template templates.Whole) ys (ms, h, k) = h
nothing_stands inside (elements.Template templates.Head) ys (ms, h, k) = h
nothing_stands inside (elements.Template templates.Middle) ys (i, (ms, h, k)) = h
nothing_stands inside (elements.Template templates.Tail) ys (i, (ms, h, k)) = h
nothing_stands inside (elements.Punctuator p) ys h = no_some (punctuator_of []) (p, ys) refl ((punctuator_exact p [] ys).0 h.0)

pub nothing_shows : (form : Form) → Shows form [] → ⊥
nothing_shows forms.BigInt (ys, h) = stuck_there bigint ys refl h
nothing_shows forms.Separator (ys, h, n) = stuck_there (numeric_literal true) ys refl h
nothing_shows forms.Escape (ys, h) = stuck_there escaped_name ys refl h
nothing_shows forms.Private (ys, h) = stuck_there private_name ys refl h
nothing_shows forms.Decorator (ys, h) = h

-- the next element is taken exactly
pub element_exactly : (inside : Bool) (xs : List ℕ) → Exactly inside xs (element_of inside xs)
element_exactly inside [] = (nothing_stands inside, nothing_shows)
element_exactly inside (c ∷ cs) = by_test (Exactly inside (c ∷ cs)) (is_name_start c) _ _ (exactly_word inside c cs) (unnamed_exactly inside c cs)
