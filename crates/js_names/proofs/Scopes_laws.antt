-- What is found in a scope with one name more.
use Rattle.std.proofs.Common.{◌≡◌, ℕ, Bool, true, false, cond, List, [], ◌∷◌, ◌++◌, length, Some, None, Option, is_some, refl, ap, sym, subst, ◌∙◌}
use Rattle.std.proofs.lemmas.Bool.{true≢false}
use Rattle.std.specs.Option.{option_map}
use Rattle.js_text.specs.SameKeys.{same_units_decides}
use Rattle.js_text.specs.Texts.{same_units}
use Rattle.js_names.specs.Scopes.{found_at, found_in, IsIndexed, one_further}
use Rattle.js_names.specs.declared.declared.DeclaredName.{DeclaredName}
use Rattle.js_names.specs.declared.declared.FoundName.{FoundName}

missing_by : (b : Bool) (f : FoundName) (o : Option FoundName) → cond b (Some f) (option_map one_further o) ≡ None → (b ≡ false) × (o ≡ None)
missing_by true f o h = cc
missing_by false f None h = (refl, refl)
missing_by false f (Some g) h = cc

append_by : (s b : Bool) (d f : FoundName) (o : Option FoundName) → (s ≡ true → b ≡ false)
    → cond b (Some f) (option_map one_further (cond s (Some d) o)) ≡ cond s (Some (one_further d)) (cond b (Some f) (option_map one_further o))
append_by true true d f o h = absurd (true≢false (h refl))
append_by true false d f o h = refl
append_by false true d f o h = refl
append_by false false d f o h = refl

other_name : (a b c : List ℕ) → same_units a b ≡ false → same_units b c ≡ true → same_units a c ≡ false
other_name a b c h s = subst (λ v. same_units a v ≡ false) ((same_units_decides b c).0 s) h

pub append_found : (q : List ℕ) (d : DeclaredName) (ds : List DeclaredName) → found_in d.name ds ≡ None
    → found_in q (ds ++ d ∷ []) ≡ cond (same_units d.name q) (Some (found_at (length ds) d)) (found_in q ds)
append_found q d [] h = refl
append_found q d (e ∷ ds) h =
    let m = missing_by (same_units e.name d.name) (found_at 0 e) (found_in d.name ds) h in
    ap (λ o. cond (same_units e.name q) (Some (found_at 0 e)) (option_map one_further o)) (append_found q d ds m.1)
    ∙ append_by (same_units d.name q) (same_units e.name q) (found_at (length ds) d) (found_at 0 e) (found_in q ds) (other_name e.name d.name q m.0)

-- an index with a new name in it is that of the scope with the name
pub kept_append : {index : List ℕ → Option FoundName} {ds : List DeclaredName} → IsIndexed index ds → (d : DeclaredName) → found_in d.name ds ≡ None
    → (es : List DeclaredName) → es ≡ ds ++ d ∷ [] → (new : List ℕ → Option FoundName)
    → ((q : List ℕ) → new q ≡ cond (same_units d.name q) (Some (found_at (length ds) d)) (index q)) → IsIndexed new es
kept_append {index} {ds} i d missing es e new h = subst (λ l. IsIndexed new l) (sym e) (record {
  indexed = λ q. h q ∙ ap (λ o. cond (same_units d.name q) (Some (found_at (length ds) d)) o) (i.indexed q) ∙ sym (append_found q d ds missing);
})

pub nothing : {A : Type 0} (o : Option A) → is_some o ≡ false → o ≡ None
nothing None h = refl
nothing (Some x) h = cc
