-- Each common object to which a text gives a body has the template of a function that stands there.
use Rattle.std.proofs.Common.{◌≡◌, ◌≢◌, ℕ, zero, suc, ◌+◌, ◌<◌, Bool, true, false, ◌&&◌, cond, nat_eq, List, [], ◌∷◌, ◌++◌, map, length, length-append, slice_get, Option, Some, None, append_assoc, append-nil, arith, eq-eqb, refl, sym, ap, ◌∙◌, subst}
use Rattle.std.proofs.lemmas.Bool.{true≢false, eqb-true}
use Rattle.std.proofs.lemmas.List.{get_or-set_same, get_or-set_other, length-set}
use Rattle.std.proofs.lemmas.List.FromFn.{length-map-range_with_len}
use Rattle.js_frames.specs.Frames.{Frame}
use Rattle.js_store.specs.Objects.{object_at}
use Rattle.js_term.specs.declared.term.TemplateKind.{TemplateKind}
use Rattle.ses_lockdown.specs.Intrinsics.{initial_object, initial_objects, body_of}
use Rattle.ses_lockdown.specs.Lockdown.{Obj}
use Rattle.ses_lockdown.specs.Permits.{count}
use Rattle.ses_lockdown.specs.declared.intrinsics.Intrinsics.{Intrinsics}
use Rattle.ses_prelude.specs.Functions.{PreludeFunction, kind_at, frame_of, template_of, added, added_all, bodiless, is_in, is_met, is_met_at, all_met, places_of, is_whole, intrinsics_by}
use Rattle.ses_prelude.specs.Laws.{HasBodies, Each_has_its_body}

-- WHAT IS ADDED

module _ (frame : Frame) where
  pub added_templates : (ds : List PreludeFunction) (i : Intrinsics) → (added_all frame ds i).templates ≡ i.templates ++ map (template_of frame) ds
  added_templates [] i = sym (append-nil i.templates)
  added_templates (d ∷ ds) i =
      added_templates ds (added frame d i) ∙ append_assoc i.templates (template_of frame d ∷ []) (map (template_of frame) ds)

  same_count : (d : PreludeFunction) (i : Intrinsics) → length (added frame d i).objects ≡ length i.objects
  same_count d i = length-set i.objects d.place _

  no_such : (b : Bool) (rest : Bool) → cond b true rest ≡ false → (b ≡ false) × (rest ≡ false)
  no_such true rest e = absurd (true≢false e)
  no_such false rest e = (refl, e)

  other_place : (a b : ℕ) → nat_eq a b ≡ false → b ≢ a
  other_place a b e same = true≢false (sym (eq-eqb a b (sym same)) ∙ e)

  -- an object that no function gives a body stays
  stays : (ds : List PreludeFunction) (i : Intrinsics) (p : ℕ) → is_in p (places_of ds) ≡ false → object_at (added_all frame ds i).objects p ≡ object_at i.objects p
  stays [] i p e = refl
  stays (d ∷ ds) i p e =
      let n = no_such (nat_eq d.place p) (is_in p (places_of ds)) e in
      stays ds (added frame d i) p (n.1) ∙ get_or-set_other i.objects d.place p _ _ (other_place d.place p (n.0))

  -- what a function gives the object of its place
  given : (d : PreludeFunction) (i : Intrinsics) → d.place < length i.objects → (object_at (added frame d i).objects d.place).slot ≡ body_of (length i.templates)
  given d i within = ap (λ (o : Obj). o.slot) (get_or-set_same i.objects d.place _ _ within)

  -- the last function of a place gives its object the body
  record Gets (ds : List PreludeFunction) (i : Intrinsics) (p : ℕ) : Type 0 where
    number : ℕ
    function : PreludeFunction
    declared : slice_get ds number ≡ Some function
    there : function.place ≡ p
    body : (object_at (added_all frame ds i).objects p).slot ≡ body_of (length i.templates + number)

  here : (d : PreludeFunction) (ds : List PreludeFunction) (i : Intrinsics) (p : ℕ) → p < length i.objects → nat_eq d.place p ≡ true → is_in p (places_of ds) ≡ false → Gets (d ∷ ds) i p
  here d ds i p within same none =
      let at : d.place ≡ p = eqb-true d.place p same in
      record {
        number = 0;
        function = d;
        declared = refl;
        there = at;
        body = ap (λ (o : Obj). o.slot) (stays ds (added frame d i) p none)
            ∙ subst (λ q. (object_at (added frame d i).objects q).slot ≡ body_of (length i.templates)) at (given d i (subst (λ q. q < length i.objects) (sym at) within))
            ∙ ap body_of (let z : length i.templates ≡ length i.templates + 0 = omega arith in z);
      }

  later : (d : PreludeFunction) (ds : List PreludeFunction) (i : Intrinsics) (p : ℕ) → Gets ds (added frame d i) p → Gets (d ∷ ds) i p
  later d ds i p g = record {
    number = suc g.number;
    function = g.function;
    declared = g.declared;
    there = g.there;
    body = g.body ∙ ap body_of (let z : length (i.templates ++ template_of frame d ∷ []) + g.number ≡ length i.templates + suc g.number = omega (arith, length-append i.templates (template_of frame d ∷ [])) in z);
  }

  one_of : (d : PreludeFunction) (ds : List PreludeFunction) (i : Intrinsics) (p : ℕ) → p < length i.objects → (is_in p (places_of ds) ≡ true → Gets ds (added frame d i) p)
      → (b : Bool) → is_in p (places_of ds) ≡ b → (h : Bool) → nat_eq d.place p ≡ h → cond h true (is_in p (places_of ds)) ≡ true → Gets (d ∷ ds) i p
  one_of d ds i p within rest true r h s e = later d ds i p (rest r)
  one_of d ds i p within rest false r true s e = here d ds i p within s r
  one_of d ds i p within rest false r false s e = absurd (true≢false (sym e ∙ r))

  gets : (ds : List PreludeFunction) (i : Intrinsics) (p : ℕ) → p < length i.objects → is_in p (places_of ds) ≡ true → Gets ds i p
  gets [] i p within e = absurd (true≢false (sym e))
  gets (d ∷ ds) i p within e =
      one_of d ds i p within (gets ds (added frame d i) p (subst (λ n. p < n) (sym (same_count d i)) within)) (is_in p (places_of ds)) refl (nat_eq d.place p) refl e

-- WHAT IS WHOLE

both_true : (a b : Bool) → a && b ≡ true → (a ≡ true) × (b ≡ true)
both_true true b e = (refl, e)
both_true false b e = absurd (true≢false (sym e))

met_by : (places : List ℕ) (n p : ℕ) → p < suc n → is_met places n ≡ true → (p < n → is_met places p ≡ true) → (b : Bool) → nat_eq p n ≡ b → is_met places p ≡ true
met_by places n p within last rest true s = subst (λ q. is_met places q ≡ true) (sym (eqb-true p n s)) last
met_by places n p within last rest false s =
    let ne : p ≢ n = λ same. true≢false (sym (eq-eqb p n same) ∙ s) in rest (omega (arith, within, ne))

met_below : (places : List ℕ) (n p : ℕ) → p < n → all_met places n ≡ true → is_met places p ≡ true
met_below places zero p within e = absurd (omega (arith, within))
met_below places (suc n) p within e =
    let h = both_true (is_met places n) (all_met places n) e in
    met_by places n p within (h.0) (λ w. met_below places n p w (h.1)) (nat_eq p n) refl

found : (places : List ℕ) (p : ℕ) (o : Option TemplateKind) (k : TemplateKind) → o ≡ Some k → is_met_at o (is_in p places) ≡ true → is_in p places ≡ true
found places p None k e h = cc
found places p (Some j) k e h = h

so_many : length initial_objects ≡ count
unfolding initial_objects
so_many = length-map-range_with_len initial_object 0 count

whole_by : (ds : List PreludeFunction) (b : Bool) (i : Intrinsics) → is_whole ds ≡ b → cond b (Some (added_all (frame_of ds) ds bodiless)) None ≡ Some i → HasBodies ds i
whole_by ds false i w e = cc
whole_by ds true i w e =
    let same : added_all (frame_of ds) ds bodiless ≡ i = cc in
    subst (HasBodies ds) same (record {
      templates = added_templates (frame_of ds) ds bodiless;
      bodies = λ p k within is.
          let g : Gets (frame_of ds) ds bodiless p = gets (frame_of ds) ds bodiless p (subst (λ n. p < n) (sym so_many) within) (found (places_of ds) p (kind_at p) k is (met_below (places_of ds) count p within w)) in
          record { number = g.number; function = g.function; declared = g.declared; there = g.there; body = g.body ∙ ap body_of (let z : 0 + g.number ≡ g.number = omega arith in z) };
    })

pub each_has_its_body : Each_has_its_body
each_has_its_body l ds i declares makes = whole_by ds (is_whole ds) i refl (subst (λ o. intrinsics_by o ≡ Some i) declares makes)
