-- What a text makes has the properties and prototypes of the tables.
use Rattle.std.proofs.Common.{◌≡◌, Bool, true, false, cond, List, [], ◌∷◌, length, Option, Some, None, refl, subst}
use Rattle.js_frames.specs.Frames.{Frame}
use Rattle.js_term.specs.declared.term.Template.{out-Template}
use Rattle.js_tree.specs.declared.tree.Stmt.{Stmt}
use Rattle.ses_lockdown.specs.Accessors.{HasTableProperties, PropertiesStay}
use Rattle.ses_lockdown.specs.declared.intrinsics.Intrinsics.{Intrinsics}
use Rattle.ses_prelude.specs.Functions.{PreludeFunction, functions_in, frame_of, template_of, added, added_all, bodiless, is_whole, intrinsics_by, intrinsics_of}

all_properties : PropertiesStay → (frame : Frame) (ds : List PreludeFunction) (i : Intrinsics) → HasTableProperties i.objects → HasTableProperties (added_all frame ds i).objects
all_properties stay frame [] i h = h
all_properties stay frame (d ∷ ds) i h = all_properties stay frame ds (added frame d i) (stay.given d.place (length i.templates) (out-Template (template_of frame d)).length i.objects h)

whole_properties : PropertiesStay → (ds : List PreludeFunction) (b : Bool) (i : Intrinsics) → cond b (Some (added_all (frame_of ds) ds bodiless)) None ≡ Some i → HasTableProperties i.objects
whole_properties stay ds false i e = cc
whole_properties stay ds true i e =
    let same : added_all (frame_of ds) ds bodiless ≡ i = cc in
    subst (λ (j : Intrinsics). HasTableProperties j.objects) same (all_properties stay (frame_of ds) ds bodiless stay.initial)

of_functions : PropertiesStay → (o : Option (List PreludeFunction)) (i : Intrinsics) → intrinsics_by o ≡ Some i → HasTableProperties i.objects
of_functions stay None i e = cc
of_functions stay (Some ds) i e = whole_properties stay ds (is_whole ds) i e

pub have_properties : PropertiesStay → (l : List Stmt) (i : Intrinsics) → intrinsics_of l ≡ Some i → HasTableProperties i.objects
have_properties stay l i e = of_functions stay (functions_in l) i e
