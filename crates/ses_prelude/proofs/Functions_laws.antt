-- A function of a text more.
use Rattle.std.proofs.Common.{◌≡◌, ℕ, true, false, cond, Result, Ok, Err, IfOk, ◌-◌, ◌≤◌, get_or, take, drop, arith, List, [], ◌∷◌, ◌++◌, map, length, Option, Some, None, append_assoc, append-nil, refl, sym, ap, ◌∙◌}
use Rattle.std.proofs.lemmas.List.{take_rest}
use Rattle.std.specs.Option.{option_map}
use Rattle.js_frames.specs.Frames.{Frame}
use Rattle.js_tree.specs.declared.tree.Stmt.{Stmt}
use Rattle.lava_base.specs.declared.memory.OutOfMemory.{OutOfMemory}
use Rattle.ses_lockdown.specs.Permits.{count}
use Rattle.ses_lockdown.specs.declared.intrinsics.Intrinsics.{Intrinsics}
use Rattle.ses_prelude.specs.Functions.{PreludeFunction, both, declared, functions_in, places_of, function_slot, frame_of, added, added_all, bodiless, all_met, is_whole, intrinsics_by}
use Rattle.ses_prelude.specs.Helpers.{added_to, shape_of}

-- the places and the scope of some functions, behind those of others
abbrev pub shape_after : List ℕ → Frame → List PreludeFunction → List ℕ × Frame
shape_after places frame ds = (places ++ places_of ds, frame ++ map function_slot ds)

pub shape_more : (places : List ℕ) (frame : Frame) (d : PreludeFunction) (ds : Option (List PreludeFunction))
    → option_map (shape_after places frame) (both (Some d) ds) ≡ option_map (shape_after (places ++ d.place ∷ []) (frame ++ function_slot d ∷ [])) ds
shape_more places frame d None = refl
shape_more places frame d (Some ds) =
    ap (λ l. Some (l, frame ++ function_slot d ∷ map function_slot ds)) (sym (append_assoc places (d.place ∷ []) (places_of ds)))
    ∙ ap (λ l. Some ((places ++ d.place ∷ []) ++ places_of ds, l)) (sym (append_assoc frame (function_slot d ∷ []) (map function_slot ds)))

pub shape_whole : (places : List ℕ) (frame : Frame) → Some (places, frame) ≡ option_map (shape_after places frame) (Some [])
shape_whole places frame = ap (λ l. Some (l, frame)) (sym (append-nil places)) ∙ ap (λ l. Some (places ++ [], l)) (sym (append-nil frame))

-- the loop over the statements goes on
pub shape_step : (xs : List Stmt) (first : Stmt) (d : PreludeFunction) (places places' : List ℕ) (frame frame' : Frame) (all : Option (List ℕ × Frame))
    → 1 ≤ length xs → first ≡ get_or xs 0 first → Some d ≡ declared first → places' ≡ places ++ d.place ∷ [] → frame' ≡ frame ++ function_slot d ∷ []
    → option_map (shape_after places frame) (functions_in xs) ≡ all → option_map (shape_after places' frame') (functions_in (take (length xs - 1) (drop 1 xs))) ≡ all
shape_step [] first d places places' frame frame' all some at is put slot inv = absurd (omega (arith, some))
shape_step (x ∷ rest) first d places places' frame frame' all some at is put slot inv =
    rw (take_rest (x ∷ rest) 1)
    (ap (λ l. option_map (shape_after l frame') (functions_in rest)) put
    ∙ ap (λ l. option_map (shape_after (places ++ d.place ∷ []) l) (functions_in rest)) slot
    ∙ sym (shape_more places frame d (functions_in rest))
    ∙ ap (λ o. option_map (shape_after places frame) (both o (functions_in rest))) (is ∙ ap declared at)
    ∙ inv)

-- it comes to a statement that is none of the common part
pub shape_stop : (xs : List Stmt) (first : Stmt) (places : List ℕ) (frame : Frame) (all : Option (List ℕ × Frame))
    → 1 ≤ length xs → first ≡ get_or xs 0 first → None ≡ declared first → option_map (shape_after places frame) (functions_in xs) ≡ all → None ≡ all
shape_stop [] first places frame all some at is inv = absurd (omega (arith, some))
shape_stop (x ∷ rest) first places frame all some at is inv =
    ap (λ o. option_map (shape_after places frame) (both o (functions_in rest))) (is ∙ ap declared at) ∙ inv

pub added_more : (frame : Frame) (i : Intrinsics) (d : PreludeFunction) (ds : Option (List PreludeFunction))
    → option_map (added_to frame i) (both (Some d) ds) ≡ option_map (added_to frame (added frame d i)) ds
added_more frame i d None = refl
added_more frame i d (Some ds) = refl

pub added_step : (xs : List Stmt) (first : Stmt) (d : PreludeFunction) (frame : Frame) (i j : Intrinsics) (all : Option Intrinsics)
    → 1 ≤ length xs → first ≡ get_or xs 0 first → Some d ≡ declared first → j ≡ added frame d i
    → option_map (added_to frame i) (functions_in xs) ≡ all → option_map (added_to frame j) (functions_in (take (length xs - 1) (drop 1 xs))) ≡ all
added_step [] first d frame i j all some at is made inv = absurd (omega (arith, some))
added_step (x ∷ rest) first d frame i j all some at is made inv =
    rw (take_rest (x ∷ rest) 1)
    (ap (λ k. option_map (added_to frame k) (functions_in rest)) made
    ∙ sym (added_more frame i d (functions_in rest))
    ∙ ap (λ o. option_map (added_to frame i) (both o (functions_in rest))) (is ∙ ap declared at)
    ∙ inv)

pub added_stop : (xs : List Stmt) (first : Stmt) (frame : Frame) (i : Intrinsics) (all : Option Intrinsics)
    → 1 ≤ length xs → first ≡ get_or xs 0 first → None ≡ declared first → option_map (added_to frame i) (functions_in xs) ≡ all → None ≡ all
added_stop [] first frame i all some at is inv = absurd (omega (arith, some))
added_stop (x ∷ rest) first frame i all some at is inv =
    ap (λ o. option_map (added_to frame i) (both o (functions_in rest))) (is ∙ ap declared at) ∙ inv

-- intrinsics are their objects and their templates
pub same_intrinsics : (i j : Intrinsics) → i.objects ≡ j.objects → i.templates ≡ j.templates → i ≡ j
same_intrinsics i j objects templates = λ k. record { objects = objects k; templates = templates k }

-- the whole list of functions makes the intrinsics
pub made_whole : (o : Option (List PreludeFunction)) (places : List ℕ) (frame : Frame) (r : Result (Option Intrinsics) OutOfMemory)
    → Some (places, frame) ≡ option_map shape_of o → all_met places count ≡ true → IfOk r (λ made. made ≡ option_map (added_to frame bodiless) o) → IfOk r (λ made. made ≡ intrinsics_by o)
made_whole None places frame r shape whole made = cc
made_whole (Some ds) places frame (Err e) shape whole made = tt
made_whole (Some ds) places frame (Ok i) shape whole made =
    let same : (places, frame) ≡ shape_of ds = cc in
    let all : is_whole ds ≡ true = ap (λ (s : List ℕ × Frame). all_met s.0 count) (sym same) ∙ whole in
    made ∙ ap (λ (s : List ℕ × Frame). Some (added_all s.1 ds bodiless)) same ∙ ap (λ b. cond b (Some (added_all (frame_of ds) ds bodiless)) None) (sym all)

pub made_none : (o : Option (List PreludeFunction)) → None ≡ option_map shape_of o → None ≡ intrinsics_by o
made_none None shape = refl
made_none (Some ds) shape = cc

pub made_broken : (o : Option (List PreludeFunction)) (places : List ℕ) (frame : Frame) → Some (places, frame) ≡ option_map shape_of o → all_met places count ≡ false → None ≡ intrinsics_by o
made_broken None places frame shape broken = refl
made_broken (Some ds) places frame shape broken =
    let same : (places, frame) ≡ shape_of ds = cc in
    let none : is_whole ds ≡ false = ap (λ (s : List ℕ × Frame). all_met s.0 count) (sym same) ∙ broken in
    ap (λ b. cond b (Some (added_all (frame_of ds) ds bodiless)) None) (sym none)
