-- The answer to bytes that are UTF-8.
use Rattle.std.proofs.Common.{◌≡◌, ◌↔◌, ℕ, ◌<◌, ◌≤◌, List, length, Result, Ok, Err, sym, subst, ◌∙◌}
use Rattle.std.proofs.Math.Logic.{inl, ⊎_elim}
use Rattle.std.proofs.str.Laws.{order}
use Rattle.std.specs.Prelude.{IsErrOf, IsOkUnless, OnOk}
use Rattle.std.specs.Str.{IsAscii, IsUtf8, chars}
use Rattle.std.proofs.lemmas.Str.{IsUtf8-from_ascii}
use Rattle.js_text.specs.Utf8.{IsFault, IsTooLong, units_of}
use Rattle.js_text.specs.declared.fault.TextFault.{TextFault}
use Rattle.js_text.specs.declared.fault.TextFault.TheVariants as fault
use Rattle.js_text.specs.declared.text.TheConstants.{MAX_UNITS}
use Rattle.js_literals.specs.Answers.{IsTooLongBy}
use Rattle.js_literals.proofs.Plain_laws.{ascii_units}

module _ {A : Type 0} (r : Result A TextFault) (bytes units : List ℕ) where
  no_fault : (at : ℕ) → IsErrOf r (fault.NotUtf8 at) → (IsErrOf r fault.TooLong ↔ (MAX_UNITS < length units)) → (length units ≤ MAX_UNITS → IsOkUnless r fault.OutOfMemory) → ⊥
  no_fault at e long memory = ⊎_elim
      (λ l. let both : ◌≡◌ {A = Result A TextFault} (Err (fault.NotUtf8 at)) (Err fault.TooLong) = sym e ∙ long.1 l in cc)
      (λ l. let other : fault.NotUtf8 at ≡ fault.OutOfMemory = subst (λ x. IsOkUnless x fault.OutOfMemory) e (memory l) in cc)
      (order MAX_UNITS (length units))

  pub whole_not_utf8 : IsUtf8 bytes → (IsErrOf r fault.TooLong ↔ (MAX_UNITS < length units)) → (length units ≤ MAX_UNITS → IsOkUnless r fault.OutOfMemory)
      → (at : ℕ) → IsErrOf r (fault.NotUtf8 at) ↔ IsFault bytes at
  whole_not_utf8 utf8 long memory at = (λ e. absurd (no_fault at e long memory), λ f. absurd (f.0 utf8))

  pub whole_too_long : (value : List ℕ → List ℕ) → IsUtf8 bytes → value (chars bytes) ≡ units → (IsErrOf r fault.TooLong ↔ (MAX_UNITS < length units))
      → IsErrOf r fault.TooLong ↔ IsTooLongBy value bytes
  whole_too_long value utf8 e long = (
    (λ t. inl (utf8, subst (λ l. MAX_UNITS < length l) (sym e) (long.0 t))),
    (λ t. ⊎_elim (λ l. long.1 (subst (λ l. MAX_UNITS < length l) e l.1)) (λ l. absurd (l.2.0 utf8)) t),
  )

-- the units of ASCII are its bytes, and these are UTF-8
module _ {A : Type 0} (r : Result A TextFault) (bytes : List ℕ) (ascii : IsAscii bytes) where
  pub ascii_long : (IsErrOf r fault.TooLong ↔ IsTooLong bytes) → IsErrOf r fault.TooLong ↔ (MAX_UNITS < length bytes)
  ascii_long long = (
    (λ t. ⊎_elim (λ l. subst (λ l. MAX_UNITS < length l) (ascii_units bytes ascii) l.1) (λ l. absurd (l.2.0 (IsUtf8-from_ascii bytes ascii))) (long.0 t)),
    (λ l. long.1 (inl (IsUtf8-from_ascii bytes ascii, subst (λ l. MAX_UNITS < length l) (sym (ascii_units bytes ascii)) l))),
  )

  pub ascii_memory : (IsUtf8 bytes → length (units_of bytes) ≤ MAX_UNITS → IsOkUnless r fault.OutOfMemory) → length bytes ≤ MAX_UNITS → IsOkUnless r fault.OutOfMemory
  ascii_memory memory l = memory (IsUtf8-from_ascii bytes ascii) (subst (λ l. length l ≤ MAX_UNITS) (sym (ascii_units bytes ascii)) l)

pub on_ok : {A E P : Type 0} (r : Result A E) → P → OnOk r P
on_ok (Ok x) p = p
on_ok (Err e) p = tt
