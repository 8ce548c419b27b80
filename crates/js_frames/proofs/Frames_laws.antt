-- What is found in a frame with one slot more.
use Rattle.std.proofs.Common.{◌≡◌, ℕ, Bool, true, false, cond, List, [], ◌∷◌, ◌++◌, length, Some, None, Option, is_some, refl, ap, sym, subst, ◌∙◌}
use Rattle.std.proofs.lemmas.Bool.{true≢false}
use Rattle.std.specs.Option.{option_map}
use Rattle.js_text.specs.SameKeys.{same_units_decides}
use Rattle.js_text.specs.Texts.{same_units}
use Rattle.js_frames.specs.Frames.{found_at, found_in, IsIndexed, one_further}
use Rattle.js_frames.specs.declared.frame.SlotName.{SlotName}
use Rattle.js_frames.specs.declared.frame.FoundSlot.{FoundSlot}

missing_by : (b : Bool) (f : FoundSlot) (o : Option FoundSlot) → cond b (Some f) (option_map one_further o) ≡ None → (b ≡ false) × (o ≡ None)
missing_by true f o h = cc
missing_by false f None h = (refl, refl)
missing_by false f (Some g) h = cc

append_by : (s b : Bool) (d f : FoundSlot) (o : Option FoundSlot) → (s ≡ true → b ≡ false)
    → cond b (Some f) (option_map one_further (cond s (Some d) o)) ≡ cond s (Some (one_further d)) (cond b (Some f) (option_map one_further o))
append_by true true d f o h = absurd (true≢false (h refl))
append_by true false d f o h = refl
append_by false true d f o h = refl
append_by false false d f o h = refl

other_name : (a b c : List ℕ) → same_units a b ≡ false → same_units b c ≡ true → same_units a c ≡ false
other_name a b c h s = subst (λ v. same_units a v ≡ false) ((same_units_decides b c).0 s) h

pub append_found : (q : List ℕ) (d : SlotName) (ds : List SlotName) → found_in d.name ds ≡ None
    → found_in q (ds ++ d ∷ []) ≡ cond (same_units d.name q) (Some (found_at (length ds) d)) (found_in q ds)
append_found q d [] h = refl
append_found q d (e ∷ ds) h =
    let m = missing_by (same_units e.name d.name) (found_at 0 e) (found_in d.name ds) h in
    ap (λ o. cond (same_units e.name q) (Some (found_at 0 e)) (option_map one_further o)) (append_found q d ds m.1)
    ∙ append_by (same_units d.name q) (same_units e.name q) (found_at (length ds) d) (found_at 0 e) (found_in q ds) (other_name e.name d.name q m.0)

-- an index with a new name in it is that of the frame with the slot
pub kept_append : {index : List ℕ → Option FoundSlot} {ds : List SlotName} → IsIndexed index ds → (d : SlotName) → found_in d.name ds ≡ None
    → (es : List SlotName) → es ≡ ds ++ d ∷ [] → (new : List ℕ → Option FoundSlot)
    → ((q : List ℕ) → new q ≡ cond (same_units d.name q) (Some (found_at (length ds) d)) (index q)) → IsIndexed new es
kept_append {index} {ds} i d missing es e new h = subst (λ l. IsIndexed new l) (sym e) (record {
  indexed = λ q. h q ∙ ap (λ o. cond (same_units d.name q) (Some (found_at (length ds) d)) o) (i.indexed q) ∙ sym (append_found q d ds missing);
})

pub nothing : {A : Type 0} (o : Option A) → is_some o ≡ false → o ≡ None
nothing None h = refl
nothing (Some x) h = cc

-- a slot whose name stands already changes nothing that is found

found_here : (b : Bool) (f : FoundSlot) (o p : Option FoundSlot) → (b ≡ false → o ≡ p) → cond b (Some f) (option_map one_further o) ≡ cond b (Some f) (option_map one_further p)
found_here true f o p h = refl
found_here false f o p h = ap (option_map one_further) (h refl)

in_rest : (b : Bool) (f : FoundSlot) (o : Option FoundSlot) → is_some (cond b (Some f) (option_map one_further o)) ≡ true → b ≡ false → is_some o ≡ true
in_rest true f o h e = absurd (true≢false e)
in_rest false f None h e = h
in_rest false f (Some g) h e = refl

same_rest : (q : List ℕ) (d e : SlotName) → same_units d.name q ≡ true → same_units e.name q ≡ false → same_units e.name d.name ≡ false
same_rest q d e s h = subst (λ v. same_units e.name v ≡ false) (sym ((same_units_decides d.name q).0 s)) h

not_found_last : (q : List ℕ) (d : SlotName) (ds : List SlotName) → same_units d.name q ≡ false → found_in q (ds ++ d ∷ []) ≡ found_in q ds
not_found_last q d [] h = rw h refl
not_found_last q d (e ∷ ds) h = ap (λ o. cond (same_units e.name q) (Some (found_at 0 e)) (option_map one_further o)) (not_found_last q d ds h)

found_before : (q : List ℕ) (d : SlotName) (ds : List SlotName) → same_units d.name q ≡ true → is_some (found_in d.name ds) ≡ true → found_in q (ds ++ d ∷ []) ≡ found_in q ds
found_before q d [] s h = cc
found_before q d (e ∷ ds) s h = found_here (same_units e.name q) (found_at 0 e) (found_in q (ds ++ d ∷ [])) (found_in q ds)
    (λ n. found_before q d ds s (in_rest (same_units e.name d.name) (found_at 0 e) (found_in d.name ds) h (same_rest q d e s n)))

again_by : (q : List ℕ) (d : SlotName) (ds : List SlotName) → is_some (found_in d.name ds) ≡ true → (b : Bool) → same_units d.name q ≡ b → found_in q (ds ++ d ∷ []) ≡ found_in q ds
again_by q d ds h true s = found_before q d ds s h
again_by q d ds h false s = not_found_last q d ds s

pub kept_again : {index : List ℕ → Option FoundSlot} {ds : List SlotName} → IsIndexed index ds → (d : SlotName) → is_some (found_in d.name ds) ≡ true
    → (es : List SlotName) → es ≡ ds ++ d ∷ [] → IsIndexed index es
kept_again {index} {ds} i d there es e = subst (λ l. IsIndexed index l) (sym e) (record {
  indexed = λ q. i.indexed q ∙ sym (again_by q d ds there (same_units d.name q) refl);
})
