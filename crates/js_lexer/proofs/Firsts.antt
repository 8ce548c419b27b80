-- Which characters begin no name, and which no punctuator.
use Rattle.std.proofs.Common.{◌≡◌, ℕ, ◌||◌, ◌&&◌, Bool, true, false, cond, not, List, [], ◌∷◌, map, Some, None, is_some, refl, ap, ◌∙◌, arith}
use Rattle.std.proofs.lemmas.Bool.Decides.{nat_tests}
use Rattle.unicode_ident.proofs.Computing.{unicode_ident}
use Rattle.js_lexer.specs.declared.punctuators.Punctuator.{Punctuator}
use Rattle.js_lexer.specs.Characters.{is_name_start, is_digit, is_white_space, is_line_terminator}
use Rattle.js_lexer.specs.Punctuators.{single, singles, named}
use Rattle.js_lexer.proofs.Tests.{apart, both, not_false, is_one_of, entry}

-- no name begins with these: a table

abbrev none_starts : List ℕ → Type 0
none_starts ns = map is_name_start ns ≡ map (λ n. false) ns

abbrev digits : List ℕ
digits = 48 ∷ 49 ∷ 50 ∷ 51 ∷ 52 ∷ 53 ∷ 54 ∷ 55 ∷ 56 ∷ 57 ∷ []

no_digit : none_starts digits
unfolding is_name_start unicode_ident
no_digit = refl

abbrev spaces : List ℕ
spaces =
    9 ∷ 10 ∷ 11 ∷ 12 ∷ 13 ∷ 32 ∷ 160 ∷ 0x1680 ∷ 0x2000 ∷ 0x2001 ∷ 0x2002 ∷ 0x2003 ∷ 0x2004 ∷ 0x2005 ∷ 0x2006 ∷ 0x2007 ∷ 0x2008 ∷ 0x2009 ∷ 0x200a
    ∷ 0x2028 ∷ 0x2029 ∷ 0x202f ∷ 0x205f ∷ 0x3000 ∷ 0xfeff ∷ []

no_space : none_starts spaces
unfolding is_name_start unicode_ident
no_space = refl

-- `"`, `#`, `'`, `.`, `/`, `@`, `\`, the grave accent and `}`
abbrev pub signs : List ℕ
signs = 34 ∷ 35 ∷ 39 ∷ 46 ∷ 47 ∷ 64 ∷ 92 ∷ 96 ∷ 125 ∷ []

no_sign : none_starts signs
unfolding is_name_start unicode_ident
no_sign = refl

pub digit_no_start : (c : ℕ) → is_digit c ≡ true → is_name_start c ≡ false
digit_no_start c h = entry is_name_start (λ n. false) digits c no_digit (listed c h)
  where
    listed : (c : ℕ) → is_digit c ≡ true → is_one_of digits c ≡ true
    listed c h = grind (arith, nat_tests)

pub space_no_start : (c : ℕ) → (is_white_space c || is_line_terminator c) ≡ true → is_name_start c ≡ false
space_no_start c h = entry is_name_start (λ n. false) spaces c no_space (listed c h)
  where
    listed : (c : ℕ) → (is_white_space c || is_line_terminator c) ≡ true → is_one_of spaces c ≡ true
    listed c h = grind (arith, nat_tests)

pub sign_no_start : (c : ℕ) → is_one_of signs c ≡ true → is_name_start c ≡ false
sign_no_start c h = entry is_name_start (λ n. false) signs c no_sign h

-- no punctuator begins with a character of a class of which none does

abbrev none_of : (ℕ → Bool) → List (ℕ × Punctuator) → Bool
none_of p [] = true
none_of p (e ∷ es) = not (p e.0) && none_of p es

none_named : (p : ℕ → Bool) (c : ℕ) (es : List (ℕ × Punctuator)) → p c ≡ true → none_of p es ≡ true → named c es ≡ None
none_named p c [] h k = refl
none_named p c (e ∷ es) h k =
    let q : (not (p e.0) ≡ true) × (none_of p es ≡ true) = both (not (p e.0)) (none_of p es) k in
    ap (λ b. cond b (Some e.1) (named c es)) (apart p c e.0 h (not_false (p e.0) q.0)) ∙ none_named p c es h q.1

pub digit_no_mark : (c : ℕ) → is_digit c ≡ true → is_some (single c) ≡ false
digit_no_mark c h = ap is_some (none_named is_digit c singles h refl)

pub space_no_mark : (c : ℕ) → (is_white_space c || is_line_terminator c) ≡ true → is_some (single c) ≡ false
space_no_mark c h = ap is_some (none_named (λ c. is_white_space c || is_line_terminator c) c singles h refl)

no_name : none_of is_name_start singles ≡ true
unfolding is_name_start unicode_ident
no_name = refl

pub start_no_mark : (c : ℕ) → is_name_start c ≡ true → is_some (single c) ≡ false
start_no_mark c h = ap is_some (none_named is_name_start c singles h no_name)
