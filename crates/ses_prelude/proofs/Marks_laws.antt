-- What a text makes has the marks of the table of places.
use Rattle.std.proofs.Common.{◌≡◌, Bool, true, false, cond, List, [], ◌∷◌, length, Option, Some, None, refl, subst}
use Rattle.js_frames.specs.Frames.{Frame}
use Rattle.js_term.specs.declared.term.Template.{out-Template}
use Rattle.js_tree.specs.declared.tree.Stmt.{Stmt}
use Rattle.ses_lockdown.specs.Entries.{HasTableMarks}
use Rattle.ses_lockdown.specs.Laws.{MarksStay}
use Rattle.ses_lockdown.specs.declared.intrinsics.Intrinsics.{Intrinsics}
use Rattle.ses_prelude.specs.Functions.{PreludeFunction, functions_in, frame_of, template_of, added, added_all, bodiless, is_whole, intrinsics_by, intrinsics_of}

all_marks : MarksStay → (frame : Frame) (ds : List PreludeFunction) (i : Intrinsics) → HasTableMarks i.objects → HasTableMarks (added_all frame ds i).objects
all_marks stay frame [] i h = h
all_marks stay frame (d ∷ ds) i h = all_marks stay frame ds (added frame d i) (stay.given d.place (length i.templates) (out-Template (template_of frame d)).length i.objects h)

whole_marks : MarksStay → (ds : List PreludeFunction) (b : Bool) (i : Intrinsics) → cond b (Some (added_all (frame_of ds) ds bodiless)) None ≡ Some i → HasTableMarks i.objects
whole_marks stay ds false i e = cc
whole_marks stay ds true i e =
    let same : added_all (frame_of ds) ds bodiless ≡ i = cc in
    subst (λ (j : Intrinsics). HasTableMarks j.objects) same (all_marks stay (frame_of ds) ds bodiless stay.initial)

of_functions : MarksStay → (o : Option (List PreludeFunction)) (i : Intrinsics) → intrinsics_by o ≡ Some i → HasTableMarks i.objects
of_functions stay None i e = cc
of_functions stay (Some ds) i e = whole_marks stay ds (is_whole ds) i e

pub have_marks : MarksStay → (l : List Stmt) (i : Intrinsics) → intrinsics_of l ≡ Some i → HasTableMarks i.objects
have_marks stay l i e = of_functions stay (functions_in l) i e
