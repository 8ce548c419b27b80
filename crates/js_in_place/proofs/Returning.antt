-- Values that are returned, forms that wait for others, and bodies that end.
use Rattle.std.proofs.Common.{◌≡◌, ℕ, ◌-◌, ◌<◌, Bool, ◌∷◌, drop, Some, None, refl, sym, ap, ◌∙◌, subst, arith, Result, Ok, Err, IfOk}
use Rattle.js_text.specs.Naming.{naming_of}
use Rattle.js_desc.specs.declared.reply.Reply.TheVariants as reply
use Rattle.js_tree.specs.declared.operator.BinaryOperator.{BinaryOperator}
use Rattle.js_code.specs.Decoded.{layer_of, term_at}
use Rattle.js_code.specs.declared.node.Node.{Node}
use Rattle.js_code.specs.declared.node.Node.TheVariants as node
use Rattle.js_term.specs.declared.term.Jump.TheVariants.{outs-Return}
use Rattle.js_term.specs.declared.term.Term.{out-Term}
use Rattle.js_direct.specs.Direct.{GivesAtOnce, value_of}
use Rattle.js_direct.specs.declared.plain.Plain.{Plain}
use Rattle.js_direct.specs.declared.plain.Plain.TheVariants as plain
use Rattle.js_machine.specs.Bodies.{stood_in}
use Rattle.js_machine.specs.Opened.{without_body}
use Rattle.js_machine.specs.Steps.{deed_of_row, deed_with, over, settles, under}
use Rattle.js_machine.specs.Views.{View, below, fitting, newest, party_of, top}
use Rattle.js_machine.specs.declared.frame.Frame.{Frame}
use Rattle.js_machine.specs.declared.frame.Frame.TheVariants as frame
use Rattle.js_machine.specs.declared.frame.Mode.{Mode}
use Rattle.js_machine.specs.declared.frame.Mode.TheVariants as mode
use Rattle.js_machine.specs.js_run.Acts.{Evaluate}
use Rattle.js_machine.specs.js_run.Completions.{Replied, Returns}
use Rattle.js_machine.specs.js_run.Control.{jump_at}
use Rattle.js_machine.specs.js_run.Going.{go_on}
use Rattle.js_machine.specs.js_run.Runs.{Gives, answered}
use Rattle.js_in_place.specs.Holding.{Holds}
use Rattle.js_in_place.specs.InPlace.{RunsTo, point_at, sight_of}
use Rattle.js_in_place.specs.Places.{ComesTo, IsWent, Place, at_deed, at_form, at_mode, at_return, at_value}
use Rattle.js_in_place.specs.declared.seat.How.TheVariants as how
use Rattle.js_in_place.specs.declared.seat.Seat.{Seat}
use Rattle.js_in_place.specs.declared.seat.Went.{Went}
use Rattle.js_in_place.specs.declared.spot.Spot.{Spot}
use Rattle.js_in_place.specs.declared.spot.Spot.TheVariants as spot
use Rattle.js_in_place.specs.declared.spot.Stand.{Stand}
use Rattle.js_in_place.proofs.Newest.{first_back}
use Rattle.js_in_place.proofs.Placed.{all_kept, gives_under, popped, pushed, row_done, same_place, stands_at, still, then_to, then_went, went_next, went_other, went_stopped}

-- WHERE A RUN STANDS

-- a form is next for the machine's own steps
pub led_to_form : (m : Mode) (at left : ℕ) (s : Seat) (r : Went) → m ≡ mode.Eval at → s.at ≡ at → r ≡ record { how = how.Next; left = left } → (w : View) → IsWent (at_mode m w) left w w s r
led_to_form m at left s r e d f w =
    subst (λ x. IsWent (at_mode x w) left w w s r) (sym e)
    (went_next left left w w (at_mode (mode.Eval at) w) s r (stands_at left left at w w w (at_mode (mode.Eval at) w) s refl d (still left w (at_form at w))) f)

pub led_on : (m : Mode) (left : ℕ) (s : Seat) (r : Went) → s.mode ≡ m → r ≡ record { how = how.Other; left = left } → (w : View) → IsWent (at_mode m w) left w w s r
led_on m left s r d f w = went_other left left w w (at_mode m w) s r (subst (λ x. ComesTo left w w (at_mode m w) (at_mode x w) left) (sym d) (still left w (at_mode m w))) f

-- it stands there after a form that went so far
pub run_of : {E : Type 0} (r : Result Stand E) (p : Spot) (left : ℕ) (old new : View) (seat : Seat) (step : Went)
    → IfOk r (λ s. (q : Spot) (l : ℕ) (v w : View) → IsWent (λ a. point_at a v q) l v w seat step → RunsTo q l v w s) → IsWent (λ a. point_at a old p) left old new seat step → IfOk r (RunsTo p left old new)
run_of (Ok s) p left old new seat step h g = h p left old new g
run_of (Err x) p left old new seat step h g = tt

-- A VALUE IS GIVEN TO A CALL

pub given_passes : (v : Plain) (left : ℕ) (old low : View) → newest old.frames ≡ Some frame.Given → low ≡ record old { frames = drop 1 old.frames } → ComesTo left old low (at_value v old) (at_value v low) left
given_passes v left old low e d =
    then_to left left left old low low (at_value v old) (at_deed (deed_with frame.Given (value_of v) low) low) (at_value v low) (popped frame.Given v left old low e d)
    (same_place left low low (at_deed (deed_with frame.Given (value_of v) low) low) (at_value v low) (all_kept low) (λ a. refl))

-- A VALUE IS RETURNED

-- what a frame does with a value that is returned
abbrev return_to : Frame → Plain → View → Place
return_to f v low = at_deed (λ a. go_on (naming_of low.me) a.shared (over f low a) (Returns (value_of v)) (party_of a low)) (under f low)

-- it comes to the newest frame, which is taken off
returned_low : (f : Frame) (v : Plain) (left : ℕ) (low : View) → ComesTo left (record low { frames = f ∷ low.frames }) (under f low) (at_return v (record low { frames = f ∷ low.frames })) (return_to f v low) left
returned_low f v left low = same_place left (record low { frames = f ∷ low.frames }) (under f low) (at_return v (record low { frames = f ∷ low.frames })) (return_to f v low) (all_kept low) (λ a. refl)

pub returned_to : (f : Frame) (v : Plain) (left : ℕ) (old low : View) → newest old.frames ≡ Some f → low ≡ record old { frames = drop 1 old.frames } → ComesTo left old (under f low) (at_return v old) (return_to f v low) left
returned_to f v left old low e d =
    let back : record low { frames = f ∷ low.frames } ≡ old = (λ j. record (d j) { frames = f ∷ (d j).frames }) ∙ ap (λ fs. record old { frames = fs }) (sym (first_back f old.frames e)) in
    subst (λ w. ComesTo left w (under f low) (at_return v w) (return_to f v low) left) back (returned_low f v left low)

pub list_left : (s c left : ℕ) (v : Plain) (old low : View) → newest old.frames ≡ Some (frame.Seq s c) → low ≡ record old { frames = drop 1 old.frames } → ComesTo left old low (at_return v old) (at_return v low) left
list_left s c left v old low e d = returned_to (frame.Seq s c) v left old low e d

pub turn_left : (t left : ℕ) (v : Plain) (old low : View) → newest old.frames ≡ Some (frame.Turned t) → low ≡ record old { frames = drop 1 old.frames } → ComesTo left old low (at_return v old) (at_return v low) left
turn_left t left v old low e d = returned_to (frame.Turned t) v left old low e d

pub scope_left : (back left : ℕ) (v : Plain) (old low new : View) → newest old.frames ≡ Some (frame.ScopeExit back) → low ≡ record old { frames = drop 1 old.frames } → new ≡ record low { bodies = stood_in back low.bodies } → ComesTo left old new (at_return v old) (at_return v new) left
scope_left back left v old low new e d f =
    then_to left left left old low new (at_return v old) (return_to (frame.ScopeExit back) v low) (at_return v new) (returned_to (frame.ScopeExit back) v left old low e d)
    (subst (λ x. ComesTo left low x (return_to (frame.ScopeExit back) v low) (at_return v x) left) (sym f)
    (same_place left low (record low { bodies = stood_in back low.bodies }) (return_to (frame.ScopeExit back) v low) (at_return v (record low { bodies = stood_in back low.bodies })) (all_kept low) (λ a. refl)))

-- the body of a call is over
pub body_left : (left : ℕ) (v : Plain) (old low : View) → newest old.frames ≡ Some frame.Called → low ≡ record old { frames = drop 1 old.frames } → ComesTo left old (without_body low) (at_return v old) (at_value v (without_body low)) left
body_left left v old low e d =
    then_to left left left old low (without_body low) (at_return v old) (return_to frame.Called v low) (at_value v (without_body low)) (returned_to frame.Called v left old low e d)
    (same_place left low (without_body low) (return_to frame.Called v low) (at_value v (without_body low)) (all_kept low) (λ a. refl))

-- it is still returned, by the machine's own steps
pub still_returned : (v : Plain) (left : ℕ) (old new : View) (s : Seat) (r : Went) → new ≡ record old { values = value_of v ∷ old.values } → s.mode ≡ mode.Return → r ≡ record { how = how.Other; left = left } → IsWent (at_return v old) left old new s r
still_returned v left old new s r e d f =
    went_other left left old new (at_return v old) s r
    (subst (λ m. ComesTo left old new (at_return v old) (at_mode m new) left) (sym d)
    (subst (λ w. ComesTo left old w (at_return v old) (at_mode mode.Return w) left) (sym e)
    (same_place left old (record old { values = value_of v ∷ old.values }) (at_return v old) (at_mode mode.Return (record old { values = value_of v ∷ old.values })) (all_kept old) (λ a. refl)))) f

-- FORMS THAT WAIT

pub slot_holds : (n : Node) (h i : ℕ) (constant : Bool) (at : ℕ) → n ≡ node.SetLocal h i constant at → Holds n (frame.SetLocal h i constant) at
slot_holds n h i constant at e = subst (λ x. Holds x (frame.SetLocal h i constant) at) (sym e) (record { owns = λ w. refl; evaluates = λ w a. refl })

pub init_holds : (n : Node) (h i at : ℕ) → n ≡ node.Init h i at → Holds n (frame.Init h i) at
init_holds n h i at e = subst (λ x. Holds x (frame.Init h i) at) (sym e) (record { owns = λ w. refl; evaluates = λ w a. refl })

pub operator_holds : (n : Node) (o : BinaryOperator) (left right : ℕ) → n ≡ node.Binary o left right → Holds n (frame.BinaryLeft o right) left
operator_holds n o left right e = subst (λ x. Holds x (frame.BinaryLeft o right) left) (sym e) (record { owns = λ w. refl; evaluates = λ w a. refl })

pub return_holds : (at : ℕ) → Holds (node.ReturnValue at) frame.Return at
return_holds at = record { owns = λ w. refl; evaluates = λ w a. ap (λ x. jump_at x (party_of a w)) (outs-Return (Some (term_at w.code at))) }

-- the row evaluates the form
row_evaluates : (n : Node) (f : Frame) (at left : ℕ) (w : View) → Holds n f at → ComesTo left w w (at_deed (deed_of_row n w) w) (at_deed (λ a. Evaluate (term_at w.code at) (party_of a w) (over f w a)) w) left
row_evaluates n f at left w h =
    same_place left w w (at_deed (deed_of_row n w) w) (at_deed (λ a. Evaluate (term_at w.code at) (party_of a w) (over f w a)) w) (all_kept w) (λ a. let b = fitting w a in ap (λ x. settles b w w.values (answered (naming_of w.me) b.env x)) (sym (h.evaluates w b)))

-- a form gives at once the value that is returned
pub return_given : (at form left k rest : ℕ) (v : Plain) (w : View) → out-Term (term_at w.code at) ≡ layer_of w.code (term_at w.code) (node.ReturnValue form) → GivesAtOnce (sight_of w) form (value_of v) k → k < left → rest ≡ left - 1 - k
    → ComesTo left w w (at_form at w) (at_return v w) rest
return_given at form left k rest v w e h l d =
    let begun : Place = at_deed (λ a. Evaluate (term_at w.code form) (party_of a w) (over frame.Return w a)) w in
    then_to left (left - 1) rest w w w (at_form at w) (at_deed (deed_of_row (node.ReturnValue form) w) w) (at_return v w) (row_done at left (left - 1) (node.ReturnValue form) w e (omega (arith, l)) refl)
    (then_to (left - 1) (left - 1) rest w w w (at_deed (deed_of_row (node.ReturnValue form) w) w) begun (at_return v w) (row_evaluates (node.ReturnValue form) frame.Return form (left - 1) w (return_holds form))
    (gives_under form (left - 1) k rest (value_of v) w (over frame.Return w) h (omega (arith, l)) d))

-- nothing is returned
pub returns_nothing : (at left rest : ℕ) (w : View) → out-Term (term_at w.code at) ≡ layer_of w.code (term_at w.code) node.Return → 0 < left → rest ≡ left - 1 → ComesTo left w w (at_form at w) (at_return plain.Undefined w) rest
returns_nothing at left rest w e l d =
    then_to left rest rest w w w (at_form at w) (at_deed (deed_of_row node.Return w) w) (at_return plain.Undefined w) (row_done at left rest node.Return w e l d)
    (same_place rest w w (at_deed (deed_of_row node.Return w) w) (at_return plain.Undefined w) (all_kept w)
    (λ a. let b = fitting w a in ap (λ x. settles b w w.values (answered (naming_of w.me) b.env (jump_at x (party_of b w)))) (sym (outs-Return None))))

-- the form that it evaluates begins, and its frame waits
pub form_waits : (n : Node) (f : Frame) (at first left rest : ℕ) (w new : View) → Holds n f first → out-Term (term_at w.code at) ≡ layer_of w.code (term_at w.code) n → 0 < left → rest ≡ left - 1 → new ≡ record w { frames = f ∷ w.frames }
    → ComesTo left w new (at_form at w) (at_form first new) rest
form_waits n f at first left rest w new h e l d i =
    let begun : Place = at_deed (λ a. Evaluate (term_at w.code first) (party_of a w) (over f w a)) w in
    let pushed_there = record w { frames = f ∷ w.frames } in
    let over_it : ComesTo rest w pushed_there begun (at_form first pushed_there) rest =
    subst (λ u. ComesTo rest u pushed_there (at_deed (λ a. Evaluate (term_at w.code first) (party_of a w) (over f w a)) u) (at_form first pushed_there) rest) (h.owns w) (pushed f first rest w) in
    then_to left rest rest w w new (at_form at w) (at_deed (deed_of_row n w) w) (at_form first new) (row_done at left rest n w e l d)
    (then_to rest rest rest w w new (at_deed (deed_of_row n w) w) begun (at_form first new) (row_evaluates n f first rest w h) (subst (λ x. ComesTo rest w x begun (at_form first x) rest) (sym i) over_it))

-- the machine is as it was
pub unchanged_waits : (n : Node) (at left : ℕ) (old mid new : View) (s : Seat) (r : Went) → mid ≡ old → (out-Term (term_at mid.code at) ≡ layer_of mid.code (term_at mid.code) n → IsWent (at_form at mid) left mid new s r)
    → out-Term (term_at old.code at) ≡ layer_of old.code (term_at old.code) n → IsWent (at_form at old) left old new s r
unchanged_waits n at left old mid new s r e h = subst (λ w. out-Term (term_at w.code at) ≡ layer_of w.code (term_at w.code) n → IsWent (at_form at w) left w new s r) e h

-- no step is left, or nothing is held
pub not_begun : (at left : ℕ) (w : View) (s : Seat) (r : Went) → s.at ≡ at → r ≡ record { how = how.Stopped; left = left } → IsWent (at_form at w) left w w s r
not_begun at left w s r d f = went_stopped left left w w (at_form at w) s r (stands_at left left at w w w (at_form at w) s refl d (still left w (at_form at w))) f

-- the form that is evaluated first is next
pub waits_next : (n : Node) (f : Frame) (at first left : ℕ) (w new : View) (s : Seat) (r : Went) → Holds n f first → 0 < left → new ≡ record w { frames = f ∷ w.frames } → s.at ≡ first → r ≡ record { how = how.Next; left = left - 1 }
    → out-Term (term_at w.code at) ≡ layer_of w.code (term_at w.code) n → IsWent (at_form at w) left w new s r
waits_next n f at first left w new s r h l i d g e =
    went_next left (left - 1) w new (at_form at w) s r (stands_at left (left - 1) first w new new (at_form at w) s refl d (form_waits n f at first left (left - 1) w new h e l refl i)) g

-- FRAMES THAT A VALUE COMES TO

pub value_returned : {E : Type 0} (r : Result Stand E) (v : Plain) (left : ℕ) (old low new : View) (seat : Seat) (step : Went) → newest old.frames ≡ Some frame.Return → low ≡ record old { frames = drop 1 old.frames } → IsWent (at_return v low) left low new seat step
    → IfOk r (λ s. (q : Spot) (l : ℕ) (u w : View) → IsWent (λ a. point_at a u q) l u w seat step → RunsTo q l u w s) → IfOk r (RunsTo (spot.Given v) left old new)
value_returned r v left old low new seat step e d h g =
    run_of r (spot.Given v) left old new seat step g
    (then_went left left old low new (at_value v old) (at_return v low) seat step (popped frame.Return v left old low e d) h)

-- a plain value that a step of the machine's own gave comes off its stack
pub value_taken : (v : Plain) (left : ℕ) (old new : View) → top old.values ≡ value_of v → new ≡ record old { values = below old.values } → ComesTo left old new (at_mode mode.Value old) (at_value v new) left
value_taken v left old new e d =
    let low = record old { values = below old.values } in
    subst (λ w. ComesTo left old w (at_mode mode.Value old) (at_value v w) left) (sym d)
    (same_place left old low (at_mode mode.Value old) (at_value v low) (all_kept old) (λ a. let b = fitting old a in ap (λ x. settles b low low.values (Gives (Replied (reply.Value x)) (party_of b old))) (sym e)))
