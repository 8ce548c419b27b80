-- What the next character does to what is left of a text.
use Rattle.std.proofs.Common.{◌≡◌, ℕ, MatchOption, List, [], ◌∷◌, ◌++◌, length, drop, Option, Some, None, refl, sym, ap, ◌∙◌, ◌≤◌, arith}
use Rattle.std.specs.Str.{IsUtf8, chars}
use Rattle.std.specs.Char.{encode_utf8}
use Rattle.std.proofs.lemmas.Str.{chars_past_char, chars-nil, encodes-chars, length-le-encodes}
use Rattle.js_lexer.specs.Characters.{first_of}

empty : (bs : List ℕ) → length bs ≡ 0 → bs ≡ []
empty [] h = refl
empty (b ∷ bs) h = absurd (cc)

pub no_characters : (bs : List ℕ) → length bs ≡ 0 → None ≡ first_of (chars bs)
no_characters bs h = sym (ap (λ l. first_of (chars l)) (empty bs h) ∙ ap first_of chars-nil)

pub no_rest : (bs : List ℕ) → length bs ≡ 0 → chars bs ≡ drop 1 (chars bs)
no_rest bs h = let e : chars bs ≡ [] = ap chars (empty bs h) ∙ chars-nil in e ∙ sym (ap (drop 1) e)

pub next_character : (r : Option ℕ) (old new : List ℕ) → IsUtf8 old → MatchOption r ((length old ≡ 0) × (new ≡ old)) (λ c. old ≡ encode_utf8 c ++ new) → r ≡ first_of (chars old)
next_character None old new u h = no_characters old h.0
next_character (Some c) old new u h = sym (ap first_of (chars_past_char old new c u h))

pub next_rest : {X : Type 0} (view : X → List ℕ) (r : Option ℕ) (old new : X) (whole : List ℕ) → IsUtf8 (view old) → chars (view old) ≡ whole
    → MatchOption r ((length (view old) ≡ 0) × (new ≡ old)) (λ c. view old ≡ encode_utf8 c ++ view new) → chars (view new) ≡ drop 1 whole
next_rest view None old new whole u e h = ap (λ s. chars (view s)) h.1 ∙ no_rest (view old) h.0 ∙ ap (drop 1) e
next_rest view (Some c) old new whole u e h = sym (ap (drop 1) (chars_past_char (view old) (view new) c u h)) ∙ ap (drop 1) e

pub at_most_bytes : (bs : List ℕ) → IsUtf8 bs → length (chars bs) ≤ length bs
at_most_bytes bs u = omega (arith, length-le-encodes (chars bs), ap length (encodes-chars bs u))

-- the first character, and what is behind it
pub front : (cs : List ℕ) (c : ℕ) → first_of cs ≡ Some c → cs ≡ c ∷ drop 1 cs
front [] c h = absurd (cc)
front (x ∷ xs) c h = cc

pub nothing : (cs : List ℕ) → first_of cs ≡ None → cs ≡ []
nothing [] h = refl
nothing (x ∷ xs) h = absurd (cc)

pub front_taken : (cs rest : List ℕ) (c : ℕ) → first_of cs ≡ Some c → rest ≡ drop 1 cs → cs ≡ c ∷ rest
front_taken cs rest c h e = front cs c h ∙ ap (λ l. c ∷ l) (sym e)
