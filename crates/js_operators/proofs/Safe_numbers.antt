-- What js_num gives is what an operator on two numbers gives.
use Rattle.std.proofs.Common.{◌≡◌, inl, inr, ◌≤◌, Bool, true, false, if◌then◌else◌, Option, Some, Result, Ok, Err, IfOk, OnOk, OnErr, ℤ, pos, negsuc, unsigned_abs, sym, ◌∙◌, ap, arith}
use Rattle.std.proofs.lemmas.Int.{ints}
use Rattle.std.proofs.lemmas.Bool.{le-leb}
use Rattle.std.proofs.lemmas.Bool.Decides.{leb_tells}
use Rattle.lava_base.specs.SafeIntegers.{IsSafe}
use Rattle.lava_base.specs.declared.limits.TheConstants.{MAX_SAFE_INTEGER}
use Rattle.js_num.specs.declared.safe.NotSafe.{NotSafe}
use Rattle.js_operation.specs.js_run.Operators.{is_safe}
use Rattle.js_operation.specs.Computing.{number_or_end, safe_or_end}
use Rattle.js_operation.specs.declared.operation.Computed.{Computed}
use Rattle.js_operation.specs.declared.operation.Computed.TheVariants as computed
use Rattle.js_desc.specs.declared.decision.EndKind.TheVariants as end

safe_size : (n : ℤ) → IsSafe n → unsigned_abs n ≤ MAX_SAFE_INTEGER
safe_size (pos n) h = let top = h.1 in omega (arith, ints)
safe_size (negsuc n) h = let low = h.0 in omega (arith, ints)

pub size_safe : (n : ℤ) → unsigned_abs n ≤ MAX_SAFE_INTEGER → IsSafe n
size_safe (pos n) h = (omega (arith, ints), omega (arith, ints))
size_safe (negsuc n) h = (omega (arith, ints), omega (arith, ints))

is_safe_of : (n : ℤ) → IsSafe n → is_safe n ≡ true
is_safe_of n h = le-leb (unsigned_abs n) MAX_SAFE_INTEGER (safe_size n h)

is_unsafe_of : (n : ℤ) → ¬ (IsSafe n) → is_safe n ≡ false
is_unsafe_of n h = elim (leb_tells (unsigned_abs n) MAX_SAFE_INTEGER) [ inl t ↦ absurd (h (size_safe n t.1)) | inr t ↦ t.0 ]

abbrev given : Bool → ℤ → Computed ℤ
given b n = if b then computed.Is n else computed.End end.Number

pub safe_given : (n : ℤ) → IsSafe n → computed.Is n ≡ number_or_end (Some n)
safe_given n h = ap (λ b. given b n) (sym (is_safe_of n h))

pub unsafe_ends : (n : ℤ) → ¬ (IsSafe n) → computed.End end.Number ≡ number_or_end (Some n)
unsafe_ends n h = ap (λ b. given b n) (sym (is_unsafe_of n h))

-- a result that js_num gives exactly
pub exactly : (r : Result ℤ NotSafe) (n : ℤ) → IfOk r (λ s. s ≡ n) → OnOk r (IsSafe n) → OnErr r (¬ (IsSafe n)) → safe_or_end r ≡ number_or_end (Some n)
exactly (Ok s) n e h f = ap computed.Is e ∙ safe_given n h
exactly (Err x) n e h f = unsafe_ends n f

-- a number that is given
pub number_given : (r : Result ℤ NotSafe) (x : Option ℤ) (a b : ℤ) → safe_or_end r ≡ number_or_end x → r ≡ Ok a → b ≡ a → number_or_end x ≡ computed.Is b
number_given r x a b e f g = sym e ∙ ap safe_or_end f ∙ ap computed.Is (sym g)
