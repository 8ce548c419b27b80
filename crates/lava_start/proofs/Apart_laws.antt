-- Where granted names are apart, the global has them behind the intrinsics.
use Rattle.std.proofs.Common.{◌≡◌, false, List, [], ◌∷◌, ◌++◌, if◌then◌else◌, refl, sym, ap, ◌∙◌, subst, append_assoc, append-nil}
use Rattle.lava_base.specs.Ids.{same_made_symbol}
use Rattle.lava_base.specs.SameSymbols.{same_made_symbol_decides}
use Rattle.lava_base.specs.declared.ids.MadeSymbol.{MadeSymbol}
use Rattle.lava_base.specs.declared.ids.Ref.{Ref}
use Rattle.js_text.specs.Naming.{naming_of}
use Rattle.js_text.specs.SameKeys.{same_key_equiv}
use Rattle.js_text.specs.Values.{same_key}
use Rattle.js_text.specs.declared.value.Key.{Key}
use Rattle.js_desc.specs.declared.descriptor.Descriptor.{Descriptor}
use Rattle.js_store.specs.Objects.{written}
use Rattle.js_store.specs.Order.{IsInOrder, MayPrecede, PrecedesAll}
use Rattle.js_world.specs.js_run.Globals.{default_properties}
use Rattle.js_world.specs.js_run.Starts.{package_global}
use Rattle.lava_start.specs.Grants.{Granted_names_stand_behind, global_supply, supplied_properties, with_properties}

abbrev Property : Type 0
Property = Key MadeSymbol × Descriptor Ref MadeSymbol

-- a key may stand behind all of these
abbrev Follows : Key MadeSymbol → List Property → Type 0
Follows k [] = Unit {0}
Follows k (x ∷ ps) = MayPrecede same_made_symbol x.0 k × Follows k ps

written_last : (k : Key MadeSymbol) (d : Descriptor Ref MadeSymbol) (ps : List Property) → Follows k ps → written same_made_symbol k d ps ≡ ps ++ (k, d) ∷ []
written_last k d [] f = refl
written_last k d (x ∷ ps) f =
    let other : same_key same_made_symbol k x.0 ≡ false = (same_key_equiv same_made_symbol_decides).symm k x.0 ∙ f.0.other in
    (λ j. if other j then (x.0, d) ∷ ps else (if f.0.before j then (k, d) ∷ x ∷ ps else x ∷ written same_made_symbol k d ps))
    ∙ ap (λ t. x ∷ t) (written_last k d ps f.1)

precedes_one : (a : Key MadeSymbol) (ps : List Property) (x : Property) (xs : List Property) → PrecedesAll same_made_symbol a (ps ++ x ∷ xs) → MayPrecede same_made_symbol a x.0
precedes_one a [] x xs h = h.0
precedes_one a (y ∷ ys) x xs h = precedes_one a ys x xs h.1

follows_all : (ps : List Property) (x : Property) (xs : List Property) → IsInOrder same_made_symbol (ps ++ x ∷ xs) → Follows x.0 ps
follows_all [] x xs h = tt
follows_all (y ∷ ys) x xs h = (precedes_one y.0 ys x xs h.0, follows_all ys x xs h.1)

-- what is in order with what is there comes behind it
all_last : (xs ps : List Property) → IsInOrder same_made_symbol (ps ++ xs) → with_properties xs ps ≡ ps ++ xs
all_last [] ps h = sym (append-nil ps)
all_last (x ∷ xs) ps h =
    ap (with_properties xs) (written_last x.0 x.1 ps (follows_all ps x xs h))
    ∙ all_last xs (ps ++ x ∷ []) (subst (λ (qs : List Property). IsInOrder same_made_symbol qs) (sym (append_assoc ps (x ∷ []) xs)) h)
    ∙ append_assoc ps (x ∷ []) xs

pub stand_behind : Granted_names_stand_behind
stand_behind p globals apart =
    let given = supplied_properties (global_supply p) 1 globals in
    let none : default_properties (naming_of p) ++ [] ≡ default_properties (naming_of p) = append-nil (default_properties (naming_of p)) in
    (λ j. record (package_global (naming_of p) []) { properties = with_properties given (none j) })
    ∙ ap (λ (ps : List Property). record (package_global (naming_of p) []) { properties = ps }) (all_last given (default_properties (naming_of p)) apart)
