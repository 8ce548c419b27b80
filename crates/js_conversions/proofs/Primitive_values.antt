-- What is no object is converted at once.
use Rattle.std.proofs.Common.{◌≡◌, ℕ, List, Option, refl}
use Rattle.std.specs.Prelude.{ℤ}
use Rattle.js_text.specs.declared.value.Value.{Value}
use Rattle.js_text.specs.declared.value.Value.TheVariants as value
use Rattle.js_conversions.specs.Conversions.{convert, converted, method_called}
use Rattle.js_conversions.specs.declared.next.Waiting.{Waiting}
use Rattle.js_conversions.specs.declared.next.Wanted.{Wanted}

module _ {R S : Type 0} (read : List ℕ → Option ℤ) where
  pub convert_primitive : (w : Wanted) (v : Value R S) → ((r : R) → v ≡ value.Ref r → ⊥) → convert read w v ≡ converted read w v
  convert_primitive w value.Undefined f = refl
  convert_primitive w value.Null f = refl
  convert_primitive w (value.Bool b) f = refl
  convert_primitive w (value.Int n) f = refl
  convert_primitive w (value.Text t) f = refl
  convert_primitive w (value.Symbol s) f = refl
  convert_primitive w (value.Ref r) f = absurd (f r refl)

  pub called_primitive : (w : Waiting R) (v : Value R S) → ((r : R) → v ≡ value.Ref r → ⊥) → method_called read w v ≡ converted read w.wanted v
  called_primitive w value.Undefined f = refl
  called_primitive w value.Null f = refl
  called_primitive w (value.Bool b) f = refl
  called_primitive w (value.Int n) f = refl
  called_primitive w (value.Text t) f = refl
  called_primitive w (value.Symbol s) f = refl
  called_primitive w (value.Ref r) f = absurd (f r refl)
