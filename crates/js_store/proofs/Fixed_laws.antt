-- What is found in a frozen object is fixed.
use Rattle.std.proofs.Common.{◌≡◌, ℕ, zero, suc, ◌<◌, Bool, true, false, cond, List, [], ◌∷◌, length, Option, Some, None, arith, get_or, sym, ap, ◌∙◌, subst}
use Rattle.std.specs.List.{All}
use Rattle.std.specs.Map.{lookup}
use Rattle.std.specs.Option.{IfSome, option_map}
use Rattle.std.proofs.lemmas.List.{length-map}
use Rattle.std.proofs.lemmas.List.Elements.{All-head, All-tail, All-get_or}
use Rattle.lava_base.specs.Ids.{same_made_symbol}
use Rattle.lava_base.specs.declared.ids.MadeSymbol.{MadeSymbol}
use Rattle.lava_base.specs.declared.ids.Ref.{Ref}
use Rattle.js_text.specs.Values.{same_key}
use Rattle.js_text.specs.declared.value.Key.{Key}
use Rattle.js_desc.specs.declared.descriptor.Descriptor.{Descriptor}
use Rattle.js_store.specs.Frozen.{CommonObject, IsFixed, IsFrozenObject, IsFrozen, common_part, place_of_common, unmade}
use Rattle.js_store.specs.Maps.{map_object}
use Rattle.js_store.specs.Objects.{Object, fresh, object_at, plain_marks, ordinary_get_own_property}
use Rattle.js_store.specs.declared.slot.Slot.TheVariants as slot

found_of : (k : Key MadeSymbol) (ps : List (Key MadeSymbol × Descriptor Ref MadeSymbol)) → All (λ p. IsFixed p.1) ps → IfSome (ordinary_get_own_property same_made_symbol k ps) (λ d. IsFixed d)
found_of k [] h = tt
found_of k (p ∷ ps) h = by_test (same_key same_made_symbol k p.0) (found_of k ps (All-tail (λ q. IsFixed q.1) p ps h))
  where
    by_test : (b : Bool) → IfSome (ordinary_get_own_property same_made_symbol k ps) (λ d. IsFixed d) → IfSome (cond b (Some p.1) (ordinary_get_own_property same_made_symbol k ps)) (λ d. IsFixed d)
    by_test true rest = All-head (λ q. IsFixed q.1) p ps h
    by_test false rest = rest

pub found_fixed : (objects : List (Object Ref MadeSymbol)) (part : List CommonObject) (id : ℕ) (k : Key MadeSymbol) → common_part objects ≡ part → IsFrozen objects → id < length part → IfSome (ordinary_get_own_property same_made_symbol k (object_at objects id).properties) (λ d. IsFixed d)
found_fixed objects part id k same frozen lt =
    let n : length part ≡ length objects = ap length (sym same) ∙ length-map objects (map_object place_of_common unmade) in
    found_of k (object_at objects id).properties (All-get_or (IsFrozenObject (length objects)) objects id (fresh None plain_marks slot.Plain) (omega arith) frozen).fixed

-- and so where it is seen through a reference
pub fixed_now : {B : Type 0} (now : B → Descriptor Ref MadeSymbol) (o : Option B) (found : Option (Descriptor Ref MadeSymbol)) → option_map now o ≡ found → IfSome found (λ d. IsFixed d) → IfSome o (λ b. IsFixed (now b))
fixed_now now None found same h = tt
fixed_now now (Some b) found same h = subst (λ f. IfSome f (λ d. IsFixed d)) (sym same) h
