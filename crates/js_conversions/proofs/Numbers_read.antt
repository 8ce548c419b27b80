-- A text stands for one number.
use Rattle.std.proofs.Common.{◌≡◌, ℕ, List, Option, Some, None, refl, ap, subst}
use Rattle.std.specs.Prelude.{ℤ, MatchOption}
use Rattle.lava_base.specs.SafeIntegers.{IsSafe}
use Rattle.js_num.specs.SafeRange.{NoSafe}
use Rattle.js_num.specs.StringToNumber.{IsNumberOf, AtMostOne}
use Rattle.js_conversions.specs.Primitives.{ReadsNumbers}

-- what is read is the number that the text stands for
pub number_found : (read : List ℕ → Option ℤ) (t : List ℕ) (n : ℤ) → ReadsNumbers read → ((u : List ℕ) → AtMostOne (IsNumberOf u)) → IsNumberOf t n → IsSafe n → read t ≡ Some n
number_found read t n reads one h s = by (read t) (reads t) where
  by : (o : Option ℤ) → MatchOption o (NoSafe (IsNumberOf t)) (λ m. IsNumberOf t m × IsSafe m) → o ≡ Some n
  by None f = absurd (f n s h)
  by (Some m) p = ap Some (one t m n p.0 h)

pub number_given : (read : List ℕ → Option ℤ) (t u : List ℕ) (n : ℤ) → ReadsNumbers read → ((w : List ℕ) → AtMostOne (IsNumberOf w)) → u ≡ t → IsNumberOf u n → IsSafe n → read t ≡ Some n
number_given read t u n reads one e h s = number_found read t n reads one (subst (λ w. IsNumberOf w n) e h) s

-- and nothing is where it stands for none
pub number_missing : (read : List ℕ → Option ℤ) (t : List ℕ) → ReadsNumbers read → NoSafe (IsNumberOf t) → read t ≡ None
number_missing read t reads f = by (read t) (reads t) where
  by : (o : Option ℤ) → MatchOption o (NoSafe (IsNumberOf t)) (λ m. IsNumberOf t m × IsSafe m) → o ≡ None
  by None g = refl
  by (Some m) p = absurd (f m p.1 p.0)
