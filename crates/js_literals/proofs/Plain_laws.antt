-- What stands for itself is its own units.
use Rattle.std.proofs.Common.{◌≡◌, ℕ, ◌<◌, Bool, true, false, List, [], ◌∷◌, ◌++◌, length, take, drop, get_or, cond, suc, ◌+◌, ◌-◌, ◌≤◌, length-drop, subst, Option, Some, None, OnSome, IfSome, refl, sym, ap, ◌∙◌, arith, not}
use Rattle.std.specs.Prelude.{◌==◌, ◌&&◌, ◌||◌, nat_lt}
use Rattle.std.specs.Char.Escape.{encode_utf16}
use Rattle.std.specs.List.{prefix_len, list_all}
use Rattle.std.specs.Str.{IsAscii, IsUtf8, chars}
use Rattle.std.proofs.Math.Seq.{take-length}
use Rattle.std.proofs.lemmas.Bool.{true≢false}
use Rattle.std.proofs.lemmas.Bool.Decides.{nat_tests}
use Rattle.std.proofs.lemmas.List.{take-append-drop}
use Rattle.std.proofs.lemmas.Str.{chars-IsAscii, IsAscii-append, IsAscii-drop, IsUtf8-from_ascii}
use Rattle.std.proofs.lemmas.Str.Ascii.{IsAscii-cons, IsAscii-nil}
use Rattle.js_text.specs.Utf8.{utf16_of}
use Rattle.js_literals.specs.Escapes.{piece}
use Rattle.js_literals.specs.Plain.{is_itself, is_plain}
use Rattle.js_literals.specs.StringValues.{front_piece, is_end, units_of_code, value_behind, sv, tv}
use Rattle.js_literals.specs.declared.pieces.Delimiter.{Delimiter}
use Rattle.js_literals.specs.declared.pieces.Delimiter.TheVariants.{Quote, Template}
use Rattle.js_literals.proofs.StringValues_laws.{value_step, value_end}

both : (a b : Bool) → (a && b) ≡ true → (a ≡ true) × (b ≡ true)
both true true h = (refl, refl)
both true false h = absurd (true≢false (sym h))
both false b h = absurd (true≢false (sym h))

none_of_two : (a b : Bool) → not (a || b) ≡ true → (a ≡ false) × (b ≡ false)
none_of_two false false h = (refl, refl)
none_of_two false true h = absurd (true≢false (sym h))
none_of_two true b h = absurd (true≢false (sym h))

not_end : (d : Delimiter) (c : ℕ) (cs : List ℕ) → is_itself d c ≡ true → is_end d (c ∷ cs) ≡ false
not_end (Quote q) c cs h = (none_of_two _ _ h).0
not_end Template c cs h =
    let most = none_of_two _ _ h in
    let some = none_of_two (c == 96 || c == 92) (c == 36) (ap not most.0) in
    let two = none_of_two (c == 96) (c == 92) (ap not some.0) in
    rw (two.0, some.1) refl

itself_piece : (d : Delimiter) (c : ℕ) (cs : List ℕ) → is_itself d c ≡ true → front_piece d (c ∷ cs) ≡ piece (Some c) 0
itself_piece (Quote q) c cs h = rw ((none_of_two (c == q) (c == 92) h).1) refl
itself_piece Template c cs h =
    let most = none_of_two (c == 96 || c == 92 || c == 36) (c == 13) h in
    let some = none_of_two (c == 96 || c == 92) (c == 36) (ap not most.0) in
    let two = none_of_two (c == 96) (c == 92) (ap not some.0) in
    rw (most.1, two.1) refl

-- characters that stand for themselves, up to the end
pub itself_value : (d : Delimiter) (cs close : List ℕ) → list_all (is_itself d) cs ≡ true → is_end d close ≡ true → value_behind d 0 (cs ++ close) ≡ utf16_of cs
itself_value d [] close h e = value_end d close e
itself_value d (c ∷ cs) close h e =
    let now = both (is_itself d c) (list_all (is_itself d) cs) h in
    let first = itself_piece d c (cs ++ close) now.0 in
    value_step d (c ∷ (cs ++ close)) (not_end d c (cs ++ close) now.0)
    ∙ ap (λ p. units_of_code p.code ++ value_behind d 0 (drop p.taken (cs ++ close))) first
    ∙ ap (λ l. encode_utf16 c ++ l) (itself_value d cs close now.1 e)

ascii_unit : (c : ℕ) → nat_lt c 128 ≡ true → encode_utf16 c ≡ c ∷ []
ascii_unit c h = grind (arith, nat_tests)

below : (c : ℕ) → nat_lt c 128 ≡ true → c < 128
below c h = grind (arith, nat_tests)

plain_units : (d : Delimiter) (cs : List ℕ) → list_all (is_plain d) cs ≡ true → utf16_of cs ≡ cs
plain_units d [] h = refl
plain_units d (c ∷ cs) h =
    let now = both (is_plain d c) (list_all (is_plain d) cs) h in
    ap (λ l. l ++ utf16_of cs) (ascii_unit c (both (nat_lt c 128) (is_itself d c) now.0).0) ∙ ap (λ l. c ∷ l) (plain_units d cs now.1)

plain_itself : (d : Delimiter) (cs : List ℕ) → list_all (is_plain d) cs ≡ true → list_all (is_itself d) cs ≡ true
plain_itself d [] h = refl
plain_itself d (c ∷ cs) h =
    let now = both (is_plain d c) (list_all (is_plain d) cs) h in
    rw ((both (nat_lt c 128) (is_itself d c) now.0).1) (plain_itself d cs now.1)

plain_ascii : (d : Delimiter) (cs : List ℕ) → list_all (is_plain d) cs ≡ true → IsAscii cs
plain_ascii d [] h = IsAscii-nil
plain_ascii d (c ∷ cs) h =
    let now = both (is_plain d c) (list_all (is_plain d) cs) h in
    IsAscii-cons c cs (below c (both (nat_lt c 128) (is_itself d c) now.0).0) (plain_ascii d cs now.1)

front_all_by : (p : ℕ → Bool) (x : ℕ) (xs : List ℕ) (b : Bool) → p x ≡ b → list_all p (take (prefix_len p xs) xs) ≡ true
    → list_all p (take (cond b (1 + prefix_len p xs) 0) (x ∷ xs)) ≡ true
front_all_by p x xs false e h = refl
front_all_by p x xs true e h = let s : 1 + prefix_len p xs ≡ suc (prefix_len p xs) = omega arith in rw (s, e) h

front_all : (p : ℕ → Bool) (xs : List ℕ) → list_all p (take (prefix_len p xs) xs) ≡ true
front_all p [] = refl
front_all p (x ∷ xs) = front_all_by p x xs (p x) refl (front_all p xs)

-- the plain bytes at the front, where what follows ends the text
module _ (d : Delimiter) (bytes : List ℕ) where
  pub plain_inside_ascii : (n : ℕ) → n ≡ prefix_len (is_plain d) bytes → IsAscii (take n bytes)
  plain_inside_ascii n e = rw e (plain_ascii d (take (prefix_len (is_plain d) bytes) bytes) (front_all (is_plain d) bytes))

  pub plain_all_ascii : (n : ℕ) → n ≡ prefix_len (is_plain d) bytes → IsAscii (drop n bytes) → IsAscii bytes
  plain_all_ascii n e h =
      subst IsAscii (take-append-drop n bytes) (IsAscii-append (take n bytes) (drop n bytes) (plain_inside_ascii n e) h)

  pub plain_value : (n : ℕ) → n ≡ prefix_len (is_plain d) bytes → is_end d (drop n bytes) ≡ true → value_behind d 0 bytes ≡ take n bytes
  plain_value n e h =
      let all : list_all (is_plain d) (take n bytes) ≡ true = rw e (front_all (is_plain d) bytes) in
      ap (value_behind d 0) (sym (take-append-drop n bytes))
      ∙ itself_value d (take n bytes) (drop n bytes) (plain_itself d (take n bytes) all) h
      ∙ plain_units d (take n bytes) all

-- with the first character in front

pub behind_first : (bytes : List ℕ) → take (length bytes - 1) (drop 1 bytes) ≡ drop 1 bytes
behind_first bytes = ap (λ n. take n (drop 1 bytes)) (sym (length-drop 1 bytes)) ∙ take-length (drop 1 bytes)

pub first_ascii : {A : Type 0} (r : Option A) (bytes behind : List ℕ) → behind ≡ drop 1 bytes → 1 ≤ length bytes → get_or bytes 0 0 < 128 → OnSome r (IsAscii behind) → OnSome r (IsUtf8 bytes)
first_ascii r [] behind b some l h = absurd (omega arith)
first_ascii None (c ∷ cs) behind b some l h = tt
first_ascii (Some x) (c ∷ cs) behind b some l h = IsUtf8-from_ascii (c ∷ cs) (IsAscii-cons c cs l (subst IsAscii b h))

pub string_plain : {A : Type 0} (view : A → List ℕ) (r : Option A) (bytes behind : List ℕ) (quote : ℕ) → quote ≡ get_or bytes 0 0 → behind ≡ drop 1 bytes → 1 ≤ length bytes → get_or bytes 0 0 < 128
    → OnSome r (IsAscii behind) → IfSome r (λ x. value_behind (Quote quote) 0 behind ≡ view x) → IfSome r (λ x. sv (chars bytes) ≡ view x)
string_plain view r [] behind quote q b some l h e = absurd (omega arith)
string_plain view None (c ∷ cs) behind quote q b some l h e = tt
string_plain view (Some x) (c ∷ cs) behind quote q b some l h e =
    ap sv (chars-IsAscii (c ∷ cs) (IsAscii-cons c cs l (subst IsAscii b h))) ∙ ap (λ p. value_behind (Quote p) 0 cs) (sym q) ∙ ap (value_behind (Quote quote) 0) (sym b) ∙ e

pub template_plain : {A : Type 0} (view : A → List ℕ) (r : Option A) (bytes behind : List ℕ) → behind ≡ drop 1 bytes → 1 ≤ length bytes → get_or bytes 0 0 < 128 → OnSome r (IsAscii behind)
    → IfSome r (λ x. value_behind Template 0 behind ≡ view x) → IfSome r (λ x. tv (chars bytes) ≡ view x)
template_plain view r [] behind b some l h e = absurd (omega arith)
template_plain view None (c ∷ cs) behind b some l h e = tt
template_plain view (Some x) (c ∷ cs) behind b some l h e =
    ap tv (chars-IsAscii (c ∷ cs) (IsAscii-cons c cs l (subst IsAscii b h))) ∙ ap (value_behind Template 0) (sym b) ∙ e

-- the units of ASCII
pub ascii_units : (bytes : List ℕ) → IsAscii bytes → utf16_of (chars bytes) ≡ bytes
ascii_units bytes h = ap utf16_of (chars-IsAscii bytes h) ∙ all_units bytes (λ i. h i)
  where
    all_units : (xs : List ℕ) → IsAscii xs → utf16_of xs ≡ xs
    all_units [] k = refl
    all_units (x ∷ xs) k = ap (λ l. l ++ utf16_of xs) (ascii_unit x (grind (arith, nat_tests, k 0))) ∙ ap (λ l. x ∷ l) (all_units xs (IsAscii-drop (x ∷ xs) 1 k))

pub quote_ends : (quote : ℕ) → is_end (Quote quote) (quote ∷ []) ≡ true
quote_ends quote = grind (arith, nat_tests)
