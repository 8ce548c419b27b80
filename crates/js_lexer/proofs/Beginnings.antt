-- With which character an element or a form that is left out can begin.
use Rattle.std.proofs.Common.{◌≡◌, inl, inr, ℕ, ◌==◌, ◌||◌, ◌&&◌, Bool, true, false, cond, not, List, [], ◌∷◌, Option, Some, None, is_some, refl, sym, ap, subst, ◌∙◌, arith}
use Rattle.std.proofs.lemmas.Bool.Decides.{nat_tests}
use Rattle.js_lexer.specs.declared.element.Element.{Element}
use Rattle.js_lexer.specs.declared.element.Element.TheVariants as elements
use Rattle.js_lexer.specs.declared.element.Form.{Form}
use Rattle.js_lexer.specs.declared.element.Form.TheVariants as forms
use Rattle.js_lexer.specs.declared.punctuators.Punctuator.{Punctuator}
use Rattle.js_lexer.specs.declared.punctuators.Punctuator.TheVariants as punctuators
use Rattle.js_lexer.specs.declared.token.TemplatePart.TheVariants as templates
use Rattle.js_lexer.specs.Characters.{is_name_start, is_digit, is_white_space, is_line_terminator}
use Rattle.js_lexer.specs.Elements.{gap, Stands, Shows, MayStand}
use Rattle.js_lexer.specs.Grammar.{char, is, is_nonzero_digit, digits, more_digits, optional, exponent, rest_of_line, rest_of_comment, unicode_escape, decimal_literal, decimal_integer, numeric_literal, bigint}
use Rattle.js_lexer.specs.Punctuators.{single, begun, grown, grows, IsPunctuator}
use Rattle.js_lexer.specs.Rules.{Rule, Then, One, Leads, begins_with}
use Rattle.js_lexer.proofs.Punctuator_laws.{punctuator_exact}
use Rattle.js_lexer.proofs.Tests.{both_true, equal, or_left, or_right, same_some}

-- whether a comment begins behind a `/`
abbrev pub is_comment_second : ℕ → Bool
is_comment_second c = c == 47 || c == 42

-- families of elements
pub data Family : Type 0 where
  gaps : Family
  words : Family
  numbers : Family
  strings : Family
  template_parts : Family
  marks : Family
  no_family : Family

abbrev pub family_of : Element → Family
family_of elements.Gap = gaps
family_of elements.Word = words
family_of elements.Number = numbers
family_of elements.String = strings
family_of (elements.Template part) = template_parts
family_of (elements.Punctuator p) = marks

-- whether an element of the family may begin with c, with cs behind it
abbrev pub may_begin : Bool → Family → ℕ → List ℕ → Bool
may_begin inside gaps c cs = (is_white_space c || is_line_terminator c) || (c == 47 && begins_with is_comment_second cs)
may_begin inside words c cs = is_name_start c
may_begin inside numbers c cs = is_digit c || (c == 46 && begins_with is_digit cs)
may_begin inside strings c cs = c == 34 || c == 39
may_begin inside template_parts c cs = c == 96 || (c == 125 && inside)
may_begin inside marks c cs = is_some (single c) && not (c == 125 && inside)
may_begin inside no_family c cs = false

-- whether a form may
abbrev pub form_begins : Form → ℕ → List ℕ → Bool
form_begins forms.BigInt c cs = is_digit c
form_begins forms.Separator c cs = is_digit c || (c == 46 && begins_with is_digit cs)
form_begins forms.Escape c cs = is_name_start c || c == 92
form_begins forms.Private c cs = c == 35
form_begins forms.Decorator c cs = c == 64

-- a sequence of a class and more
second : (p q : ℕ → Bool) (xs ys : List ℕ) (r : Rule) → (begins : (c : ℕ) → p c ≡ true → q c ≡ true) → Leads (Then (One p) r) xs ys → begins_with q xs ≡ true
second p q [] ys r begins (ms, h, k) = absurd h
second p q (x ∷ xs) ys r begins (ms, h, k) = begins x h.0

nonzero_is_digit : (c : ℕ) → is_nonzero_digit c ≡ true → is_digit c ≡ true
nonzero_is_digit c h = grind (arith, nat_tests)

zero_is_digit : (c : ℕ) → (c == 48) ≡ true → is_digit c ≡ true
zero_is_digit c h = grind (arith, nat_tests)

integer_begins : (s : Bool) (c : ℕ) (cs ys : List ℕ) → Leads (decimal_integer s) (c ∷ cs) ys → is_digit c ≡ true
integer_begins s c cs ys (inl h) = zero_is_digit c h.0
integer_begins s c cs ys (inr (ms, h, k)) = nonzero_is_digit c h.0

decimal_begins : (s : Bool) (c : ℕ) (cs ys : List ℕ) → Leads (decimal_literal s) (c ∷ cs) ys → (is_digit c || (c == 46 && begins_with is_digit cs)) ≡ true
decimal_begins s c cs ys (inl (ms, h, k)) = or_left (is_digit c) (c == 46 && begins_with is_digit cs) (integer_begins s c cs ms h)
decimal_begins s c cs ys (inr (ms, h, k)) =
    or_right (is_digit c) (c == 46 && begins_with is_digit cs)
    (both_true (c == 46) (begins_with is_digit cs) h.0 (digits_begin s cs ms ys h.1 k))
  where
    digit_first : (s : Bool) (xs zs : List ℕ) → Leads (digits s is_digit) xs zs → begins_with is_digit xs ≡ true
    digit_first s xs zs h = second is_digit is_digit xs zs (more_digits s is_digit) (λ c h. h) h

    digits_begin : (s : Bool) (cs ms ys : List ℕ) → cs ≡ ms → Leads (Then (digits s is_digit) (optional (exponent s))) ms ys → begins_with is_digit cs ≡ true
    digits_begin s cs ms ys e (zs, h, k) = subst (λ z. begins_with is_digit z ≡ true) (sym e) (digit_first s ms zs h)

number_begins : (s : Bool) (c : ℕ) (cs ys : List ℕ) → Leads (numeric_literal s) (c ∷ cs) ys → (is_digit c || (c == 46 && begins_with is_digit cs)) ≡ true
number_begins s c cs ys (ms, inl h, k) = decimal_begins s c cs ms h
number_begins s c cs ys (ms, inr (zs, h, l), k) = or_left (is_digit c) (c == 46 && begins_with is_digit cs) (zero_is_digit c h.0)

bigint_begins : (c : ℕ) (cs ys : List ℕ) → Leads bigint (c ∷ cs) ys → is_digit c ≡ true
bigint_begins c cs ys (ms, inl h, k) = integer_begins true c cs ms h
bigint_begins c cs ys (ms, inr (zs, h, l), k) = zero_is_digit c h.0

-- punctuators
begun_some : (o : Option Punctuator) (cs : List ℕ) (r : Punctuator × List ℕ) → begun o cs ≡ Some r → is_some o ≡ true
begun_some None cs r h = absurd (cc)
begun_some (Some p) cs r h = refl

mark_begins : (p : Punctuator) (c : ℕ) (cs ys : List ℕ) → IsPunctuator p (c ∷ cs) ys → is_some (single c) ≡ true
mark_begins p c cs ys h = begun_some (single c) cs (p, ys) ((punctuator_exact p (c ∷ cs) ys).0 h)

-- a `}` alone is read as that
brace_alone : (cs : List ℕ) → (grown punctuators.RightBrace cs).0 ≡ punctuators.RightBrace
brace_alone [] = refl
brace_alone (c ∷ cs) = by_equals (c == 61)
  where
    by_equals : (b : Bool) → (grows (λ q. grown q cs) punctuators.RightBrace c cs (cond b None None)).0 ≡ punctuators.RightBrace
    by_equals true = refl
    by_equals false = refl

brace_mark : (p : Punctuator) (cs ys : List ℕ) → IsPunctuator p (125 ∷ cs) ys → p ≡ punctuators.RightBrace
brace_mark p cs ys h =
    let e : Some (grown punctuators.RightBrace cs) ≡ Some (p, ys) = (punctuator_exact p (125 ∷ cs) ys).0 h in
    sym (ap (λ z. z.0) (same_some (Some (p, ys)) (grown punctuators.RightBrace cs) (p, ys) (sym e) refl)) ∙ brace_alone cs

mark_stands : (inside : Bool) (p : Punctuator) (c : ℕ) (cs ys : List ℕ) → IsPunctuator p (c ∷ cs) ys → MayStand inside p → (is_some (single c) && not (c == 125 && inside)) ≡ true
mark_stands inside p c cs ys h m = both_true (is_some (single c)) (not (c == 125 && inside)) (mark_begins p c cs ys h) (by_brace (c == 125) inside refl m)
  where
    by_brace : (b inside : Bool) → (c == 125) ≡ b → MayStand inside p → not (b && inside) ≡ true
    by_brace true true e m = absurd (m refl (brace_mark p cs ys (subst (λ z. IsPunctuator p (z ∷ cs) ys) (equal c 125 e) h)))
    by_brace true false e m = refl
    by_brace false inside e m = refl

gap_begins : (c : ℕ) (cs ys : List ℕ) → Leads gap (c ∷ cs) ys → ((is_white_space c || is_line_terminator c) || (c == 47 && begins_with is_comment_second cs)) ≡ true
gap_begins c cs ys (inl h) = or_left (is_white_space c || is_line_terminator c) (c == 47 && begins_with is_comment_second cs) (or_left (is_white_space c) (is_line_terminator c) h.0)
gap_begins c cs ys (inr (inl h)) = or_left (is_white_space c || is_line_terminator c) (c == 47 && begins_with is_comment_second cs) (or_right (is_white_space c) (is_line_terminator c) h.0)
gap_begins c cs ys (inr (inr (inl (ms, h, k)))) =
    or_right (is_white_space c || is_line_terminator c) (c == 47 && begins_with is_comment_second cs)
    (both_true (c == 47) (begins_with is_comment_second cs) h.0 (subst (λ z. begins_with is_comment_second z ≡ true) (sym h.1) (second (is 47) is_comment_second ms ys rest_of_line (λ c e. or_left (c == 47) (c == 42) e) k)))
gap_begins c cs ys (inr (inr (inr (ms, h, k)))) =
    or_right (is_white_space c || is_line_terminator c) (c == 47 && begins_with is_comment_second cs)
    (both_true (c == 47) (begins_with is_comment_second cs) h.0 (subst (λ z. begins_with is_comment_second z ≡ true) (sym h.1) (second (is 42) is_comment_second ms ys rest_of_comment (λ c e. or_right (c == 47) (c == 42) e) k)))

pub begins : (inside : Bool) (e : Element) (c : ℕ) (cs ys : List ℕ) → Stands inside e (c ∷ cs) ys → may_begin inside (family_of e) c cs ≡ true
begins inside elements.Gap c cs ys h = gap_begins c cs ys h
begins inside elements.Word c cs ys (ms, h, k) = h.0
begins inside elements.Number c cs ys h = number_begins false c cs ys h
begins inside elements.String c cs ys (inl (ms, h, k)) = or_left (c == 34) (c == 39) h.0
begins inside elements.String c cs ys (inr (ms, h, k)) = or_right (c == 34) (c == 39) h.0
begins inside (elements.Template templates.Whole) c cs ys (ms, h, k) = or_left (c == 96) (c == 125 && inside) h.0
begins inside (elements.Template templates.Head) c cs ys (ms, h, k) = or_left (c == 96) (c == 125 && inside) h.0
begins inside (elements.Template templates.Middle) c cs ys (i, (ms, h, k)) = or_right (c == 96) (c == 125 && inside) (both_true (c == 125) inside h.0 i)
begins inside (elements.Template templates.Tail) c cs ys (i, (ms, h, k)) = or_right (c == 96) (c == 125 && inside) (both_true (c == 125) inside h.0 i)
begins inside (elements.Punctuator p) c cs ys h = mark_stands inside p c cs ys h.0 h.1

pub form_begins_so : (form : Form) (c : ℕ) (cs : List ℕ) → Shows form (c ∷ cs) → form_begins form c cs ≡ true
form_begins_so forms.BigInt c cs (ys, h) = bigint_begins c cs ys h
form_begins_so forms.Separator c cs (ys, h, n) = number_begins true c cs ys h
form_begins_so forms.Escape c cs (ys, (ms, inl (zs, h, l), k)) = or_left (is_name_start c) (c == 92) h.0
form_begins_so forms.Escape c cs (ys, (ms, inr e, k)) = or_right (is_name_start c) (c == 92) (at_backslash ms e k)
  where
    at_backslash : (ms : List ℕ) → c ∷ cs ≡ ms → Leads (Then (char 92) unicode_escape) ms ys → (c == 92) ≡ true
    at_backslash [] e (zs, h, l) = absurd h
    at_backslash (x ∷ xs) e (zs, h, l) = let same : c ≡ x = cc in subst (λ z. (z == 92) ≡ true) (sym same) h.0
form_begins_so forms.Private c cs (ys, (ms, h, k)) = h.0
form_begins_so forms.Decorator c cs (ys, h) = h.0
