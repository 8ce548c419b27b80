-- Names of packages: all in ASCII, in one part or two.
use Rattle.std.proofs.Common.{◌≡◌, ◌⊎◌, ◌<◌, ℕ, ◌+◌, ◌-◌, ◌==◌, ◌&&◌, ◌||◌, Bool, true, false, cond, not, nat_lt, List, [], ◌∷◌, ◌++◌, length, drop, Some, None, refl, ap, ◌∙◌, sym, subst, inl, inr, ⊎_elim, arith, length-append, true≢false}
use Rattle.std.proofs.lemmas.Bool.{and_parts, and_right, cases_Bool, cond-true, cond-false, eqb-true, false_from_ne_true, le-ltb, leb-true, lt-ltb, not-true, or_cases}
use Rattle.std.proofs.lemmas.List.{take_at}
use Rattle.std.specs.Char.{is_ascii_alphanumeric}
use Rattle.std.specs.Int.{is_in_range}
use Rattle.std.specs.List.{list_all, position}
use Rattle.std.specs.Prelude.{nat_le, slice_index, slice_range}
use Rattle.pkg_graph.specs.PackageNames.{is_name_byte, is_name_part, is_package_name, is_scoped_name}
use Rattle.pkg_load.specs.Slashes.{is_slash}
use Rattle.lava_granted.proofs.Cut_laws.{Cut, IsCutAt, NoSlash, behind, cut, none_before, slash_at}
use Rattle.lava_granted.proofs.Text_laws.{AllAscii}

-- BYTES OF A NAME

in_range : (lo hi c : ℕ) → hi < 128 → is_in_range lo hi c ≡ true → c < 128
in_range lo hi c few e = let most = leb-true c hi (and_parts (nat_le lo c) (nat_le c hi) e).1 in omega (arith, most, few)

is_it : (b c : ℕ) → c < 128 → (b == c) ≡ true → b < 128
is_it b c few e = let same = eqb-true b c e in omega (arith, same, few)

alphanumeric : (b : ℕ) → is_ascii_alphanumeric b ≡ true → b < 128
alphanumeric b e =
    ⊎_elim
    (λ d. ⊎_elim (in_range 48 57 b (omega arith)) (in_range 65 90 b (omega arith)) (or_cases (is_in_range 48 57 b) (is_in_range 65 90 b) d))
    (in_range 97 122 b (omega arith))
    (or_cases (is_in_range 48 57 b || is_in_range 65 90 b) (is_in_range 97 122 b) e)

name_byte : (b : ℕ) → is_name_byte b ≡ true → b < 128
name_byte b e =
    ⊎_elim
    (λ d. ⊎_elim
    (λ f. ⊎_elim
    (λ g. ⊎_elim (alphanumeric b) (is_it b 45 (omega arith)) (or_cases (is_ascii_alphanumeric b) (b == 45) g))
    (is_it b 95 (omega arith))
    (or_cases (is_ascii_alphanumeric b || b == 45) (b == 95) f))
    (is_it b 46 (omega arith))
    (or_cases ((is_ascii_alphanumeric b || b == 45) || b == 95) (b == 46) d))
    (is_it b 126 (omega arith))
    (or_cases (((is_ascii_alphanumeric b || b == 45) || b == 95) || b == 46) (b == 126) e)

-- a byte that is none of a name is not this one
other_byte : (c b : ℕ) → is_name_byte c ≡ false → is_name_byte b ≡ true → (b == c) ≡ false
other_byte c b none e = false_from_ne_true (b == c) (λ d. true≢false (sym e ∙ ap is_name_byte (eqb-true b c d) ∙ none))

all_ascii : (bs : List ℕ) → list_all is_name_byte bs ≡ true → AllAscii bs
all_ascii [] e = tt
all_ascii (b ∷ bs) e = let both = and_parts (is_name_byte b) (list_all is_name_byte bs) e in (name_byte b both.0, all_ascii bs both.1)

no_slash : (bs : List ℕ) → list_all is_name_byte bs ≡ true → NoSlash bs
no_slash [] e = tt
no_slash (b ∷ bs) e = let both = and_parts (is_name_byte b) (list_all is_name_byte bs) e in (other_byte 47 b refl both.0, no_slash bs both.1)

-- PARTS

pub record IsPart (x : List ℕ) : Type 0 where
  pub ascii : AllAscii x
  pub whole : NoSlash x

part_bytes : (x : List ℕ) → is_name_part x ≡ true → list_all is_name_byte x ≡ true
part_bytes x e = (and_parts (not (length x == 0) && not (slice_index x 0 == 46)) (list_all is_name_byte x) e).1

pub as_part : (x : List ℕ) → is_name_part x ≡ true → IsPart x
as_part x e = record { ascii = all_ascii x (part_bytes x e); whole = no_slash x (part_bytes x e) }

-- NAMES OF ONE PART

pub record IsPlain (l : List ℕ) : Type 0 where
  pub part : IsPart l
  pub head : ℕ
  pub tail : List ℕ
  pub is : l ≡ head ∷ tail
  pub no_dot : (head == 46) ≡ false
  pub no_scope : (head == 64) ≡ false

plain : (u : ℕ) (us : List ℕ) → is_name_part (u ∷ us) ≡ true → IsPlain (u ∷ us)
plain u us e =
    let tests = (and_parts (not (length (u ∷ us) == 0) && not (slice_index (u ∷ us) 0 == 46)) (list_all is_name_byte (u ∷ us)) e).0 in
    let dot = (and_parts (not (length (u ∷ us) == 0)) (not (u == 46)) tests).1 in
    let bytes = and_parts (is_name_byte u) (list_all is_name_byte us) (part_bytes (u ∷ us) e) in
    record {
      part = as_part (u ∷ us) e;
      head = u;
      tail = us;
      is = refl;
      no_dot = not-true (u == 46) dot;
      no_scope = other_byte 64 u refl bytes.0;
    }

-- NAMES OF TWO PARTS

pub record IsScoped (l : List ℕ) : Type 0 where
  pub scope : List ℕ
  pub name : List ℕ
  pub front : IsPart (64 ∷ scope)
  pub back : IsPart name
  pub is : l ≡ (64 ∷ scope) ++ 47 ∷ name

at_slash : (x y : List ℕ) → NoSlash x → position is_slash (x ++ 47 ∷ y) ≡ Some (length x)
at_slash x y h =
    let at = slash_at x y h in
    let some : length x < length (x ++ 47 ∷ y) = omega (arith, length-append x (47 ∷ y)) in
    ap (λ (n : ℕ). cond (nat_lt n (length (x ++ 47 ∷ y))) (Some n) None) at ∙ cond-true (nat_lt (length x) (length (x ++ 47 ∷ y))) _ _ (lt-ltb (length x) (length (x ++ 47 ∷ y)) some)

no_place : (x : List ℕ) → NoSlash x → position is_slash x ≡ None
no_place x h =
    let at = none_before x h in
    ap (λ (n : ℕ). cond (nat_lt n (length x)) (Some n) None) at ∙ cond-false (nat_lt (length x) (length x)) _ _ (le-ltb (length x) (length x) (omega arith))

scoped_at : (x y : List ℕ) → NoSlash (64 ∷ x) → is_scoped_name (Some (length (64 ∷ x))) ((64 ∷ x) ++ 47 ∷ y) ≡ true → IsScoped ((64 ∷ x) ++ 47 ∷ y)
scoped_at x y h e =
    let l : List ℕ = (64 ∷ x) ++ 47 ∷ y in
    let both = and_parts (is_name_part (slice_range l 1 (length (64 ∷ x)))) (is_name_part (drop (length (64 ∷ x) + 1) l)) e in
    let few : length x ≡ length (64 ∷ x) - 1 = omega arith in
    let first : slice_range l 1 (length (64 ∷ x)) ≡ x = take_at x (47 ∷ y) (length (64 ∷ x) - 1) few in
    let scope = as_part x (sym (ap is_name_part first) ∙ both.0) in
    record {
      scope = x;
      name = y;
      front = record { ascii = (omega arith, scope.ascii); whole = h };
      back = as_part y (sym (ap is_name_part (behind (64 ∷ x) y)) ∙ both.1);
      is = refl;
    }

scoped_cut : (u : ℕ) (us x y : List ℕ) → u ≡ 64 → IsCutAt (u ∷ us) x y → is_scoped_name (position is_slash (u ∷ us)) (u ∷ us) ≡ true → IsScoped (u ∷ us)
scoped_cut u us [] y at c e = let clash : u ≡ 47 = ap (λ bs. slice_index bs 0) c.is in absurd (omega (arith, at, clash))
scoped_cut u us (v ∷ x) y at c e =
    let first : v ≡ 64 = sym (ap (λ bs. slice_index bs 0) c.is) ∙ at in
    let is : u ∷ us ≡ (64 ∷ x) ++ 47 ∷ y = c.is ∙ ap (λ w. (w ∷ x) ++ 47 ∷ y) first in
    let front : NoSlash (64 ∷ x) = subst (λ w. NoSlash (w ∷ x)) first c.front in
    let there = sym (ap (λ l. is_scoped_name (position is_slash l) l) is) ∙ e in
    let named = sym (ap (λ o. is_scoped_name o ((64 ∷ x) ++ 47 ∷ y)) (at_slash (64 ∷ x) y front)) ∙ there in
    subst IsScoped (sym is) (scoped_at x y front named)

scoped : (u : ℕ) (us : List ℕ) → u ≡ 64 → is_scoped_name (position is_slash (u ∷ us)) (u ∷ us) ≡ true → Cut (u ∷ us) → IsScoped (u ∷ us)
scoped u us at e (inl h) = absurd (true≢false (sym e ∙ ap (λ o. is_scoped_name o (u ∷ us)) (no_place (u ∷ us) h)))
scoped u us at e (inr c) = scoped_cut u us c.0 c.1 at c.2 e

-- ALL NAMES

has_scope_test : (u : ℕ) (us : List ℕ) → (u == 64) ≡ true → (not (length (u ∷ us) == 0) && u == 64) ≡ true
has_scope_test u us e = let some : (length (u ∷ us) == 0) ≡ false = false_from_ne_true (length (u ∷ us) == 0) (λ d. let none = eqb-true (length (u ∷ us)) 0 d in absurd (omega (arith, none))) in
    ap (λ b. not b && u == 64) some ∙ e

pub named : (l : List ℕ) → is_package_name l ≡ true → IsPlain l ⊎ IsScoped l
named [] e = absurd (true≢false (sym e))
named (u ∷ us) e =
    let test : Bool = not (length (u ∷ us) == 0) && u == 64 in
    ⊎_elim
    (λ d. inr (scoped u us (eqb-true u 64 d) (sym (cond-true test (is_scoped_name (position is_slash (u ∷ us)) (u ∷ us)) (is_name_part (u ∷ us)) (has_scope_test u us d)) ∙ e) (cut (u ∷ us))))
    (λ d. inl (plain u us (sym (cond-false test (is_scoped_name (position is_slash (u ∷ us)) (u ∷ us)) (is_name_part (u ∷ us)) (and_right (not (length (u ∷ us) == 0)) (u == 64) d)) ∙ e)))
    (cases_Bool (u == 64))

ascii_of : (l : List ℕ) → IsPlain l ⊎ IsScoped l → AllAscii l
ascii_of l (inl h) = h.part.ascii
ascii_of l (inr h) = subst AllAscii (sym h.is) (joined (64 ∷ h.scope) h.name h.front.ascii h.back.ascii)
  where
    joined : (x y : List ℕ) → AllAscii x → AllAscii y → AllAscii (x ++ 47 ∷ y)
    joined [] y h k = (omega arith, k)
    joined (u ∷ x) y h k = (h.0, joined x y h.1 k)

pub name_ascii : (l : List ℕ) → is_package_name l ≡ true → AllAscii l
name_ascii l e = ascii_of l (named l e)
