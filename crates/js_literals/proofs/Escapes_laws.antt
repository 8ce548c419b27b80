-- What the next hexadecimal digit does to a number, and how far digits go.
use Rattle.std.proofs.Common.{map, not, Bool, true, false, ◌≡◌, ℕ, zero, suc, if◌then◌else◌, ◌+◌, ◌-◌, ◌*◌, ◌<◌, ◌≤◌, List, [], ◌∷◌, length, drop, min, refl, sym, ap, ◌∙◌, arith}
use Rattle.std.proofs.Math.Logic.{⊎_elim}
use Rattle.std.proofs.lemmas.Bool.{true≢false}
use Rattle.std.proofs.str.Laws.{order}
use Rattle.std.specs.List.{list_all}
use Rattle.std.specs.Prelude.{◌==◌, ◌&&◌}
use Rattle.js_lexer.specs.Characters.{is_hex_digit, hex_value}
use Rattle.js_lexer.specs.Grammar.{hex_from}
use Rattle.js_literals.specs.Escapes.{escaped_by, hex_digits}

hex_from_ge : (v : ℕ) (cs : List ℕ) → v ≤ hex_from v cs
hex_from_ge v [] = omega arith
hex_from_ge v (c ∷ cs) = omega (arith, hex_from_ge (v * 16 + hex_value c) cs)

capped : (v most : ℕ) (cs : List ℕ) → min (hex_from (min v most) cs) most ≡ min (hex_from v cs) most
capped v most cs = ⊎_elim
    (λ l. let e : min v most ≡ v = omega arith in rw e refl)
    (λ l. let e : min v most ≡ most = omega arith in rw e (omega (arith, hex_from_ge v cs, hex_from_ge most cs)))
    (order v most)

digits_step : (left c : ℕ) (cs : List ℕ) → 0 < left → is_hex_digit c ≡ true → hex_digits left (c ∷ cs) ≡ c ∷ hex_digits (left - 1) cs
digits_step zero c cs h t = absurd (omega arith)
digits_step (suc n) c cs h t = let e : suc n - 1 ≡ n = omega arith in rw (t, e) refl

pub digits_none : (left c : ℕ) (cs : List ℕ) → is_hex_digit c ≡ false → hex_digits left (c ∷ cs) ≡ []
digits_none zero c cs t = refl
digits_none (suc n) c cs t = rw t refl

pub digits_end : (left : ℕ) → hex_digits left [] ≡ []
digits_end zero = refl
digits_end (suc n) = refl

-- one digit more is read
pub number_step : (number left digit next most : ℕ) (cs rest : List ℕ) → cs ≡ digit ∷ rest → 0 < left → is_hex_digit digit ≡ true
    → next ≡ min (number * 16 + hex_value digit) most
    → min (hex_from next (hex_digits (left - 1) rest)) most ≡ min (hex_from number (hex_digits left cs)) most
number_step number left digit next most cs rest e h t n =
    ap (λ v. min (hex_from v (hex_digits (left - 1) rest)) most) n
    ∙ capped (number * 16 + hex_value digit) most (hex_digits (left - 1) rest)
    ∙ sym (ap (λ l. min (hex_from number (hex_digits left l)) most) e ∙ ap (λ l. min (hex_from number l) most) (digits_step left digit rest h t))

pub rest_step : (left digit : ℕ) (cs rest : List ℕ) → cs ≡ digit ∷ rest → 0 < left → is_hex_digit digit ≡ true
    → drop (length (hex_digits (left - 1) rest)) rest ≡ drop (length (hex_digits left cs)) cs
rest_step left digit cs rest e h t =
    sym (ap (λ l. drop (length (hex_digits left l)) l) e ∙ ap (λ l. drop (length l) (digit ∷ rest)) (digits_step left digit rest h t))

-- as many digits as there are characters are all
pub digits_all : (most : ℕ) (cs : List ℕ) → length cs ≤ most → hex_digits most cs ≡ hex_digits (length cs) cs
digits_all most [] h = digits_end most
digits_all zero (c ∷ cs) h = absurd (omega arith)
digits_all (suc n) (c ∷ cs) h = ap (λ l. if is_hex_digit c then c ∷ l else []) (digits_all n cs (omega arith))

-- where no digit stands, nothing is added
pub number_stop : (number left most : ℕ) (cs : List ℕ) (total : ℕ) → hex_digits left cs ≡ [] → number ≤ most → min (hex_from number (hex_digits left cs)) most ≡ total → number ≡ total
number_stop number left most cs total e w i =
    let whole : number ≡ min number most = omega arith in
    whole ∙ sym (ap (λ l. min (hex_from number l) most) e) ∙ i

not_true : (b : Bool) → not b ≡ true → b ≡ false
not_true false h = refl
not_true true h = absurd (true≢false (sym h))

both : (a b : Bool) → (a && b) ≡ true → (a ≡ true) × (b ≡ true)
both true true h = (refl, refl)
both true false h = absurd (true≢false (sym h))
both false b h = absurd (true≢false (sym h))

-- what stands in no row stands for itself
pub escaped_other : (rows : List (ℕ × ℕ)) (c : ℕ) → list_all (λ e. not (e == c)) (map (λ row. row.0) rows) ≡ true → escaped_by rows c ≡ c
escaped_other [] c h = refl
escaped_other (row ∷ rows) c h =
    let parts = both (not (row.0 == c)) (list_all (λ e. not (e == c)) (map (λ r. r.0) rows)) h in
    rw (not_true (row.0 == c) parts.0) (escaped_other rows c parts.1)
