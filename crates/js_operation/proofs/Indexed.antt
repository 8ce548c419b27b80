-- Numbers that are array indices.
use Rattle.std.proofs.Common.{◌≡◌, false, nat_lt, ℤ, pos, negsuc, int_lt, refl, sym, ap, ◌∙◌}
use Rattle.std.proofs.lemmas.Bool.{ltb-false}
use Rattle.std.specs.Fmt.{decimal, signed_decimal}
use Rattle.lava_base.specs.declared.ids.MadeSymbol.{MadeSymbol}
use Rattle.js_text.specs.Indices.{key_of_text}
use Rattle.js_text.specs.declared.value.Key.TheVariants as key
use Rattle.js_text.proofs.Keys.{key_is}
use lib.IntN.{nat_abs}

-- a number that is not below 0 and not beyond the last index is the index that its text writes
pub indexed : (n last : ℤ) → int_lt n (pos 0) ≡ false → int_lt last n ≡ false → last ≡ pos 4294967294 → key_of_text {S = MadeSymbol} (signed_decimal n) ≡ key.Index (nat_abs n)
indexed (pos m) last some few same = let short : nat_lt 4294967294 m ≡ false = ap (λ l. int_lt l (pos m)) (sym same) ∙ few in sym (key_is (decimal m) (key.Index m) (ltb-false 4294967294 m short, refl))
indexed (negsuc m) last some few same = cc
