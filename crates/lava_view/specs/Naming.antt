-- Objects and made symbols as the keys under which a view counts them.
use Rattle.std.specs.Prelude.{◌≡◌, true, Bool, List, ◌++◌, map, refl, IsTrue}
use Rattle.std.specs.Cmp.{IsEquivalence, decided}
use Rattle.std.specs.Hash as fed
use Rattle.std.proofs.Common.{ap, sym, true≢false, ◌∙◌}
use Rattle.lava_base.specs.Ids.{made_symbol_writes, ref_writes}
use Rattle.lava_base.specs.SameRefs.{same_ref_decides}
use Rattle.lava_base.specs.SameSymbols.{same_made_symbol_decides}
use Rattle.lava_base.specs.declared.ids.MadeSymbol.{MadeSymbol}
use Rattle.lava_base.specs.declared.ids.Ref.{Ref}
use Rattle.js_text.specs.Identities.{Identity, Of_object, Of_symbol}
use Rattle.lava_view.specs.Views.{same_identity}
use Rattle.lava_view.specs.declared.named.Named.{Named}
use Rattle.lava_view.specs.declared.named.Named.TheVariants.{AnObject, ASymbol}

abbrev pub identity_of : Named → Identity Ref MadeSymbol
identity_of (AnObject r) = Of_object r
identity_of (ASymbol s) = Of_symbol s

abbrev pub identities : List Named → List (Identity Ref MadeSymbol)
identities xs = map identity_of xs

abbrev pub same_named : Named → Named → Bool
same_named a b = same_identity (identity_of a) (identity_of b)

abbrev pub named_writes : Named → fed.HashWrites
named_writes (AnObject r) = fed.u8 0 ++ ref_writes r
named_writes (ASymbol s) = fed.u8 1 ++ made_symbol_writes s

sound : (a b : Named) → same_named a b ≡ true → a ≡ b
sound (AnObject r) (AnObject s) h = ap AnObject ((same_ref_decides r s).0 h)
sound (AnObject r) (ASymbol s) h = absurd (true≢false (sym h))
sound (ASymbol r) (AnObject s) h = absurd (true≢false (sym h))
sound (ASymbol r) (ASymbol s) h = ap ASymbol ((same_made_symbol_decides r s).0 h)

itself : (a : Named) → same_named a a ≡ true
itself (AnObject r) = (same_ref_decides r r).1 refl
itself (ASymbol s) = (same_made_symbol_decides s s).1 refl

complete : (a b : Named) → a ≡ b → same_named a b ≡ true
complete a b e = sym (ap (same_named a) e) ∙ itself a

pub same_named_equiv : IsEquivalence same_named
same_named_equiv = decided same_named (λ a b. (sound a b, complete a b))

-- what is the same is hashed alike
pub same_named_write_alike : (a b : Named) → IsTrue (same_named a b) → named_writes a ≡ named_writes b
same_named_write_alike a b h = ap named_writes (sound a b h)
