-- Answers that come to frames.
use Rattle.std.proofs.Common.{◌≡◌, ℕ, Bool, true, false, ◌∷◌, Option, Some, drop, refl, sym, ap, ◌∙◌, subst, Result, Ok, Err, IfOk, if◌then◌else◌}
use Rattle.lava_base.specs.declared.ids.MadeSymbol.{MadeSymbol}
use Rattle.lava_base.specs.declared.ids.Ref.{Ref}
use Rattle.js_text.specs.Naming.{Naming, naming_of}
use Rattle.js_text.specs.declared.value.Value.{Value}
use Rattle.js_code.specs.Tables.{Tables}
use Rattle.js_desc.specs.declared.fault.FaultText.TheVariants as fault
use Rattle.js_desc.specs.declared.reply.Reply.{Reply}
use Rattle.js_desc.specs.declared.reply.Reply.TheVariants as reply
use Rattle.js_machine.specs.js_run.Acts.{Act, Give, Turns, after_turn, give, on_value}
use Rattle.js_machine.specs.js_run.Completions.{Completion, Replied}
use Rattle.js_machine.specs.js_run.Control.{finally_ends}
use Rattle.js_machine.specs.js_run.Faults.{faults}
use Rattle.js_machine.specs.js_run.Going.{go_on}
use Rattle.js_machine.specs.js_run.Parties.{Party, Shared}
use Rattle.js_machine.specs.js_run.Runs.{answered, settle}
use Rattle.js_machine.specs.Bodies.{stood_in}
use Rattle.js_machine.specs.Replies.{deed_replied}
use Rattle.js_machine.specs.Steps.{IsDelivered, LeadsTo, point_of, settles, under, without_top, deed_with}
use Rattle.js_machine.specs.Views.{Around, Values, View, Waits, completion_with, fitting, flag_in, prototype_in, next_over, next_part_of, nexts_of, owned, party_of, reply_of_answer, rest_of, takes_answers, takes_values, top, turns_at}
use Rattle.js_machine.specs.declared.asked.Answer.{Answer}
use Rattle.js_machine.specs.declared.asked.Answer.TheVariants as answer
use Rattle.js_machine.specs.declared.frame.Frame.{Frame}
use Rattle.js_machine.specs.declared.frame.Frame.TheVariants as frame
use Rattle.js_machine.specs.declared.frame.Mode.{Mode}
use Rattle.js_machine.specs.declared.frame.Mode.TheVariants as mode
use Rattle.js_machine.proofs.Passes.{kept, nothing_waits}

pub set_known : {E : Type 0} (r : Result Mode E) (b : Bool) (v : Value Ref MadeSymbol) (old mid new : View) → v ≡ top old.values → mid ≡ without_top old
    → IfOk r (LeadsTo (λ a. if b then give v (party_of a mid) else faults (naming_of mid.me) fault.CannotSet (party_of a mid)) mid new) → IfOk r (LeadsTo (deed_replied frame.HasSet (reply.Flag b) old) (under frame.HasSet old) new)
set_known (Ok m) b v old mid new e s h =
    let w = subst (λ (x : View). LeadsTo (λ a. if b then give v (party_of a x) else faults (naming_of x.me) fault.CannotSet (party_of a x)) x new m) s h in
    let u = subst (λ x. LeadsTo (λ a. if b then give x (party_of a (without_top old)) else faults (naming_of old.me) fault.CannotSet (party_of a (without_top old))) (without_top old) new m) e w in
    record { leads = λ a. u.leads a; keeps = u.keeps }
set_known (Err x) b v old mid new e s h = tt

-- a truth value comes
flag_there : (x : Answer) (b : Bool) → flag_in x ≡ Some b → reply_of_answer x ≡ reply.Flag b
flag_there (answer.Flag c) b e = cc
flag_there x b e = cc

pub flag_comes : {E : Type 0} (r : Result Mode E) (f : Frame) (o : Option Bool) (b : Bool) (old new : View) → o ≡ flag_in old.answer → o ≡ Some b
    → IfOk r (LeadsTo (deed_replied f (reply.Flag b) old) (under f old) new) → IfOk r (IsDelivered f mode.Answer old new)
flag_comes (Ok m) f o b old new e s h =
    let w = subst (λ y. LeadsTo (deed_replied f y old) (under f old) new m) (sym (flag_there old.answer b (sym e ∙ s))) h in
    record { stands = λ a. w.leads a; keeps = w.keeps }
flag_comes (Err x) f o b old new e s h = tt

-- a prototype comes
prototype_there : (x : Answer) (o : Option Ref) → prototype_in x ≡ Some o → reply_of_answer x ≡ reply.Proto o
prototype_there (answer.Proto q) o e = cc
prototype_there x o e = cc

pub prototype_comes : {E : Type 0} (r : Result Mode E) (f : Frame) (x : Option (Option Ref)) (o : Option Ref) (old new : View) → x ≡ prototype_in old.answer → x ≡ Some o
    → IfOk r (LeadsTo (deed_replied f (reply.Proto o) old) (under f old) new) → IfOk r (IsDelivered f mode.Answer old new)
prototype_comes (Ok m) f x o old new e s h =
    let w = subst (λ y. LeadsTo (deed_replied f y old) (under f old) new m) (sym (prototype_there old.answer o (sym e ∙ s))) h in
    record { stands = λ a. w.leads a; keeps = w.keeps }
prototype_comes (Err y) f x o old new e s h = tt

-- a frame that is known
pub arm_replied : {E : Type 0} (r : Result Mode E) (f g : Frame) (y : Reply Ref MadeSymbol) (old new : View) → f ≡ g → IfOk r (LeadsTo (deed_replied g y old) (under g old) new) → IfOk r (LeadsTo (deed_replied f y old) (under f old) new)
arm_replied r f g y old new e h = subst (λ x. IfOk r (LeadsTo (deed_replied x y old) (under x old) new)) (sym e) h

-- AN ANSWER PASSES

module _ (names : Naming Ref MadeSymbol) (shared : Shared) (c : Tables) where
  untaken : (x : Answer) (p : Party Ref MadeSymbol) (go : Value Ref MadeSymbol → Party Ref MadeSymbol → Act Ref MadeSymbol) → on_value (Replied (reply_of_answer x)) p go ≡ Give (Replied (reply_of_answer x)) p
  untaken (answer.Proto o) p go = refl
  untaken (answer.Flag b) p go = refl
  untaken (answer.Desc d) p go = refl
  untaken (answer.Keys ks) p go = refl

  after_last : (x : Answer) (earlier : Completion Ref MadeSymbol) (p : Party Ref MadeSymbol) → finally_ends earlier (Replied (reply_of_answer x)) p ≡ Give (Replied (reply_of_answer x)) p
  after_last (answer.Proto o) e p = refl
  after_last (answer.Flag b) e p = refl
  after_last (answer.Desc d) e p = refl
  after_last (answer.Keys ks) e p = refl

  part_untaken : (f : Frame) (x : Answer) (vs : Values) (p : Party Ref MadeSymbol) → go_on names shared (next_part_of names shared c f vs) (Replied (reply_of_answer x)) p ≡ Give (Replied (reply_of_answer x)) p
  unfolding next_part_of
  part_untaken (frame.Define start count) x vs p = untaken x p _
  part_untaken (frame.Part e at left) x vs p = untaken x p _
  part_untaken (frame.PartValue e at left) x vs p = untaken x p _
  part_untaken (frame.Parts e start count) x vs p = untaken x p _
  part_untaken (frame.ClassParent k) x vs p = untaken x p _
  part_untaken (frame.ClassPrototype k) x vs p = untaken x p _
  part_untaken f x vs p = untaken x p _

  by_frame : (f : Frame) (x : Answer) (vs : Values) (ws : Waits) → takes_values f ≡ true → takes_answers f ≡ false → (p : Party Ref MadeSymbol)
      → go_on names shared (next_over names shared c f vs ws) (Replied (reply_of_answer x)) p ≡ Give (Replied (reply_of_answer x)) p
  by_frame (frame.ScopeExit s) x vs ws t n p = cc
  by_frame (frame.Turned k) x vs ws t n p = cc
  by_frame (frame.Label l) x vs ws t n p = cc
  by_frame (frame.Guarded g) x vs ws t n p = cc
  by_frame (frame.Handled g s) x vs ws t n p = cc
  by_frame (frame.Finally e) x vs ws t n p = after_last x (completion_with c e (top vs)) p
  by_frame frame.Decides x vs ws t n p = cc
  by_frame frame.Called x vs ws t n p = cc
  by_frame (frame.Constructed o) x vs ws t n p = cc
  by_frame frame.Derived x vs ws t n p = cc
  by_frame frame.Built x vs ws t n p = cc
  by_frame (frame.ModuleBody k at o) x vs ws t n p = cc
  by_frame (frame.ModuleEnds k at) x vs ws t n p = cc
  by_frame (frame.SlotCharged which count) x vs ws t n p = cc
  by_frame (frame.Refused b) x vs ws t n p = cc
  by_frame frame.HasSet x vs ws t n p = cc
  by_frame frame.HasDeleted x vs ws t n p = cc
  by_frame frame.SuperHome x vs ws t n p = cc
  by_frame (frame.Global k soft) x vs ws t n p = cc
  by_frame (frame.SetGlobal k e) x vs ws t n p = cc
  by_frame (frame.CallSuperHome args) x vs ws t n p = cc
  by_frame (frame.SuperParent args) x vs ws t n p = cc
  by_frame frame.Paid x vs ws t n p = cc
  by_frame frame.Told x vs ws t n p = cc
  by_frame frame.Inherits x vs ws t n p = cc
  by_frame (frame.Charged which count) x vs ws t n p = cc
  by_frame frame.Made x vs ws t n p = cc
  by_frame (frame.Define start count) x vs ws t n p = part_untaken (frame.Define start count) x vs p
  by_frame (frame.Part e at left) x vs ws t n p = part_untaken (frame.Part e at left) x vs p
  by_frame (frame.PartValue e at left) x vs ws t n p = part_untaken (frame.PartValue e at left) x vs p
  by_frame (frame.Parts e start count) x vs ws t n p = part_untaken (frame.Parts e start count) x vs p
  by_frame (frame.ClassParent k) x vs ws t n p = part_untaken (frame.ClassParent k) x vs p
  by_frame (frame.ClassPrototype k) x vs ws t n p = part_untaken (frame.ClassPrototype k) x vs p
  by_frame f x vs ws t n p = untaken x p _

passed : (f : Frame) (w : View) → takes_values f ≡ true → takes_answers f ≡ false → (a : Around)
    → point_of a (record w { values = rest_of f w.values }) mode.Answer ≡ point_of a (record w { frames = f ∷ w.frames }) mode.Answer
passed f w t n a =
    ap (λ act. settles a w (rest_of f w.values) (answered (naming_of w.me) a.env act)) (sym (by_frame (naming_of w.me) a.shared w.code f w.answer w.values w.waits t n (party_of a w)))
    ∙ ap (λ ws. settle (naming_of w.me) a.shared a.env (nexts_of (naming_of w.me) a.shared w.code w.frames (rest_of f w.values) ws) (answered (naming_of w.me) a.env (go_on (naming_of w.me) a.shared (next_over (naming_of w.me) a.shared w.code f w.values w.waits) (Replied (reply_of_answer w.answer)) (party_of a w)))) (ap (λ b. if b then drop 1 w.waits else w.waits) (sym (nothing_waits f t)))

pub answer_passes : (f : Frame) (old new : View) → takes_values f ≡ true → takes_answers f ≡ false → new ≡ record old { values = drop (owned f) old.values } → IsDelivered f mode.Answer old new mode.Answer
answer_passes f old new t n e = record { stands = λ a. subst (λ w. point_of (fitting old a) w mode.Answer ≡ point_of (fitting old a) (record old { frames = f ∷ old.frames }) mode.Answer) (sym e) (passed f old t n (fitting old a)); keeps = kept old new _ e }

-- A VALUE THAT IS NO ANSWER PASSES

passes_value : (f : Frame) (v : Value Ref MadeSymbol) (m : Mode) (old new : View) → takes_answers f ≡ true → LeadsTo (λ a. give v (party_of a (record old { values = drop (owned f) old.values }))) (record old { values = drop (owned f) old.values }) new m
    → LeadsTo (deed_with f v old) (under f old) new m
passes_value frame.HasSet v m old new t h = record { leads = λ a. h.leads a; keeps = h.keeps }
passes_value frame.HasDeleted v m old new t h = record { leads = λ a. h.leads a; keeps = h.keeps }
passes_value frame.SuperHome v m old new t h = record { leads = λ a. h.leads a; keeps = h.keeps }
passes_value (frame.Global k soft) v m old new t h = record { leads = λ a. h.leads a; keeps = h.keeps }
passes_value (frame.SetGlobal k e) v m old new t h = record { leads = λ a. h.leads a; keeps = h.keeps }
passes_value (frame.CallSuperHome args) v m old new t h = record { leads = λ a. h.leads a; keeps = h.keeps }
passes_value (frame.SuperParent args) v m old new t h = record { leads = λ a. h.leads a; keeps = h.keeps }
passes_value frame.Told v m old new t h = record { leads = λ a. h.leads a; keeps = h.keeps }
passes_value frame.Inherits v m old new t h = record { leads = λ a. h.leads a; keeps = h.keeps }
passes_value f v m old new t h = cc

pub value_passes : {E : Type 0} (r : Result Mode E) (f : Frame) (v : Value Ref MadeSymbol) (old mid new : View) → takes_answers f ≡ true → mid ≡ record old { values = drop (owned f) old.values }
    → IfOk r (LeadsTo (λ a. give v (party_of a mid)) mid new) → IfOk r (LeadsTo (deed_with f v old) (under f old) new)
value_passes (Ok m) f v old mid new t e h = passes_value f v m old new t (subst (λ x. LeadsTo (λ a. give v (party_of a x)) x new m) e h)
value_passes (Err x) f v old mid new t e h = tt

-- AN ANSWER LEAVES A SCOPE, A LABEL AND A LOOP

pub leaves_scope : (s : ℕ) (old new : View) → new ≡ record old { bodies = stood_in s old.bodies } → IsDelivered (frame.ScopeExit s) mode.Answer old new mode.Answer
leaves_scope s old new e =
    let left : IsDelivered (frame.ScopeExit s) mode.Answer old (record old { bodies = stood_in s old.bodies }) mode.Answer = record { stands = λ a. refl; keeps = (refl, (refl, (refl, (refl, refl)))) } in
    subst (λ w. IsDelivered (frame.ScopeExit s) mode.Answer old w mode.Answer) (sym e) left

pub leaves_label : (l : ℕ) (old : View) → IsDelivered (frame.Label l) mode.Answer old old mode.Answer
leaves_label l old = record { stands = λ a. refl; keeps = (refl, (refl, (refl, (refl, refl)))) }

turn_over : (l : Turns) (x : Answer) (p : Party Ref MadeSymbol) → after_turn l (Replied (reply_of_answer x)) p ≡ Give (Replied (reply_of_answer x)) p
turn_over l (answer.Proto o) p = refl
turn_over l (answer.Flag b) p = refl
turn_over l (answer.Desc d) p = refl
turn_over l (answer.Keys ks) p = refl

pub leaves_loop : (t : ℕ) (old : View) → IsDelivered (frame.Turned t) mode.Answer old old mode.Answer
leaves_loop t old = record { stands = λ a. (let b = fitting old a in ap (λ act. settles b old old.values (answered (naming_of old.me) b.env act)) (sym (turn_over (turns_at old.code t) old.answer (party_of b old)))); keeps = (refl, (refl, (refl, (refl, refl)))) }
