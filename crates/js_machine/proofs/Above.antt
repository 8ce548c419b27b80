-- Properties, methods and calls of `super`.
use Rattle.std.proofs.Common.{◌≡◌, ℕ, ◌+◌, Bool, true, false, List, drop, Option, Some, None, refl, sym, ap, ◌∙◌, subst, Result, Ok, Err, IfOk, if◌then◌else◌}
use Rattle.lava_base.specs.declared.ids.MadeSymbol.{MadeSymbol}
use Rattle.lava_base.specs.declared.ids.Ref.{Ref}
use Rattle.lava_base.specs.declared.marks.Marks.{Marks}
use Rattle.js_text.specs.Naming.{naming_of}
use Rattle.js_text.specs.declared.value.Key.{Key}
use Rattle.js_text.specs.declared.value.Value.{Value}
use Rattle.js_text.specs.declared.value.Value.TheVariants as value
use Rattle.js_code.specs.Decoded.{arguments_at, term_at}
use Rattle.js_desc.specs.declared.ask.Ask.TheVariants as ask
use Rattle.js_desc.specs.declared.fault.FaultText.TheVariants as fault
use Rattle.js_desc.specs.declared.reply.Reply.TheVariants as reply
use Rattle.js_operation.specs.js_run.Acts.{Next, asks, give, with_value}
use Rattle.js_operation.specs.js_run.Asking.{calls}
use Rattle.js_operation.specs.js_run.Calls.{binds_this, constructs_by, super_called, super_constructs}
use Rattle.js_operation.specs.js_run.Control.{argument_values}
use Rattle.js_operation.specs.js_run.Faults.{faults}
use Rattle.js_operation.specs.js_run.Parties.{first_body, replaces_body, running}
use Rattle.js_operation.specs.js_run.Properties.{get_above, on_this, super_base, with_this}
use Rattle.js_operation.specs.js_run.Rows.{call_super_key, super_key}
use Rattle.js_machine.specs.Conversions.{BecomesKey, KeyReaches, ReadsSuper, super_frame}
use Rattle.js_machine.specs.Decisions.{object_of_value}
use Rattle.js_machine.specs.Keys.{plain_key}
use Rattle.js_machine.specs.Looks.{marks_in}
use Rattle.js_machine.specs.Replies.{deed_replied}
use Rattle.js_machine.specs.Steps.{Deed, IsDelivered, LeadsTo, WaitsFor, over, settles, under, with_top, without_top}
use Rattle.js_machine.specs.Supers.{parent_of}
use Rattle.js_machine.specs.Views.{Around, View, applied, args_on, fitting, held, object_on, party_of, prototype_in, reply_of_answer, super_method, super_parent, top}
use Rattle.js_machine.specs.declared.asked.Answer.{Answer}
use Rattle.js_machine.specs.declared.asked.Answer.TheVariants as answer
use Rattle.js_machine.specs.declared.frame.Frame.{Frame}
use Rattle.js_machine.specs.declared.frame.Frame.TheVariants as frame
use Rattle.js_machine.specs.declared.frame.KeyGoal.TheVariants as key_goal
use Rattle.js_machine.specs.declared.frame.Mode.{Mode}
use Rattle.js_machine.specs.declared.frame.Mode.TheVariants as mode
use Rattle.js_machine.specs.declared.frame.Purpose.{Purpose}
use Rattle.js_machine.specs.declared.frame.Purpose.TheVariants as purpose
use Rattle.js_machine.proofs.Called_laws.{Applies}
use Rattle.js_machine.proofs.Dropped.{drop_below}
use Rattle.js_machine.proofs.Followed.{is_object}
use Rattle.js_machine.proofs.Looked.{looked}
use Rattle.js_machine.proofs.Referenced.{reference_known, same_deed}

abbrev V : Type 0
V = Value Ref MadeSymbol

-- THE OBJECT WHERE `super` LOOKS

module _ (next : Around → Next Ref MadeSymbol) where
  -- what a home object leads to
  abbrev Homed : Option Ref → V → View → View → Mode → Type 0
  Homed o k old new m = LeadsTo (λ a. super_base (naming_of old.me) a.shared o (party_of a old) (λ x p. get_above (naming_of old.me) a.shared k x p (next a))) old new m

  homed : {E : Type 0} (r : Result Mode E) (o p : Option Ref) (k : V) (old new : View) → o ≡ (first_body old.bodies).home → o ≡ p → IfOk r (Homed p k old new) → IfOk r (Homed (first_body old.bodies).home k old new)
  homed r o p k old new e f h = subst (λ x. IfOk r (Homed x k old new)) (sym f ∙ e) h

pub no_home : {E : Type 0} (r : Result Mode E) (o : Option Ref) (k : V) (old new : View) → o ≡ (first_body old.bodies).home → o ≡ None → IfOk r (LeadsTo (λ a. faults (naming_of old.me) fault.CannotConvert (party_of a old)) old new)
    → IfOk r (LeadsTo (λ a. super_key (naming_of old.me) a.shared k (party_of a old)) old new)
no_home r o k old new e f h = homed (λ a. with_value give) r o None k old new e f h

pub home_asked : {E : Type 0} (r : Result Mode E) (o : Option Ref) (home : Ref) (k : V) (old mid new : View) → o ≡ (first_body old.bodies).home → o ≡ Some home → mid ≡ with_top k old → IfOk r (WaitsFor frame.SuperHome home ask.GetPrototypeOf mid new)
    → IfOk r (LeadsTo (λ a. super_key (naming_of old.me) a.shared k (party_of a old)) old new)
home_asked (Ok m) o home k old mid new e f s h =
    let w = subst (λ x. WaitsFor frame.SuperHome home ask.GetPrototypeOf x new m) s h in
    homed (λ a. with_value give) {E = ℕ} (Ok m) o (Some home) k old new e f (record { leads = λ a. w.leads a; keeps = w.keeps })
home_asked (Err x) o home k old mid new e f s h = tt

module _ (at : ℕ) where
  abbrev method_next : View → Around → Next Ref MadeSymbol
  method_next old a = with_value (super_method (naming_of old.me) a.shared (arguments_at old.code (term_at old.code) at))

  pub no_method_home : {E : Type 0} (r : Result Mode E) (o : Option Ref) (k : V) (old new : View) → o ≡ (first_body old.bodies).home → o ≡ None → IfOk r (LeadsTo (λ a. faults (naming_of old.me) fault.CannotConvert (party_of a old)) old new)
      → IfOk r (LeadsTo (λ a. call_super_key (naming_of old.me) a.shared (arguments_at old.code (term_at old.code) at) k (party_of a old)) old new)
  no_method_home r o k old new e f h = homed (method_next old) r o None k old new e f h

  pub method_home_asked : {E : Type 0} (r : Result Mode E) (o : Option Ref) (home : Ref) (k : V) (old mid new : View) → o ≡ (first_body old.bodies).home → o ≡ Some home → mid ≡ with_top k old
      → IfOk r (WaitsFor (frame.CallSuperHome at) home ask.GetPrototypeOf mid new)
      → IfOk r (LeadsTo (λ a. call_super_key (naming_of old.me) a.shared (arguments_at old.code (term_at old.code) at) k (party_of a old)) old new)
  method_home_asked (Ok m) o home k old mid new e f s h =
      let w = subst (λ x. WaitsFor (frame.CallSuperHome at) home ask.GetPrototypeOf x new m) s h in
      homed (method_next old) {E = ℕ} (Ok m) o (Some home) k old new e f (record { leads = λ a. w.leads a; keeps = w.keeps })
  method_home_asked (Err x) o home k old mid new e f s h = tt

-- A PROPERTY ABOVE

module _ (call : Option ℕ) (k : Key MadeSymbol) (o : Ref) (old : View) where
  -- what the key leads to, with this for `this`
  abbrev Reads : Option V → Deed
  Reads t a = on_this (naming_of old.me) t (party_of a old) (λ this p. asks (naming_of old.me) o (ask.Get k this) p (over (super_frame call) old a))

  read_so : {E : Type 0} (r : Result Mode E) (t u : Option V) (new : View) → t ≡ (first_body old.bodies).this → t ≡ u → IfOk r (LeadsTo (Reads u) old new) → IfOk r (ReadsSuper call o k old new)
  read_so r t u new e d h =
      same_deed r (Reads u) (λ a. with_this (naming_of old.me) (party_of a old) (λ this p. asks (naming_of old.me) o (ask.Get k this) p (over (super_frame call) old a))) old new (λ a. ap (λ x. Reads x (fitting old a)) (sym e ∙ d)) h

  pub read_without : {E : Type 0} (r : Result Mode E) (t : Option V) (new : View) → t ≡ (first_body old.bodies).this → t ≡ None → IfOk r (LeadsTo (λ a. faults (naming_of old.me) fault.NoThis (party_of a old)) old new) → IfOk r (ReadsSuper call o k old new)
  read_without r t new e d h = read_so r t None new e d h

  -- no frame that waits for a property of `super` has values
  stays : (c : Option ℕ) → under (super_frame c) old ≡ old
  stays None = refl
  stays (Some at) = refl

  pub read_with : {E : Type 0} (r : Result Mode E) (t : Option V) (this : V) (f : Frame) (new : View) → f ≡ super_frame call → t ≡ (first_body old.bodies).this → t ≡ Some this → IfOk r (WaitsFor f o (ask.Get k this) old new) → IfOk r (ReadsSuper call o k old new)
  read_with r t this f new s e d h =
      let w = subst (λ g. IfOk r (WaitsFor g o (ask.Get k this) old new)) s h in
      read_so r t (Some this) new e d (subst (λ x. IfOk r (LeadsTo (λ a. asks (naming_of old.me) o (ask.Get k this) (party_of a old) (over (super_frame call) old a)) x new)) (stays call) w)

abbrev Gets : Option ℕ → V → Ref → View → View → Mode → Type 0
Gets call v o old new m = LeadsTo (λ a. get_above (naming_of old.me) a.shared v (Some o) (party_of a old) (over (super_frame call) old a)) old new m

pub super_known : {E : Type 0} (r : Result Mode E) (call : Option ℕ) (v : V) (x : Option (Key MadeSymbol)) (k : Key MadeSymbol) (o : Ref) (old new : View) → x ≡ plain_key v → x ≡ Some k → IfOk r (ReadsSuper call o k old new) → IfOk r (Gets call v o old new)
super_known r call v x k o old new g s h =
    same_deed r (λ a. with_this (naming_of old.me) (party_of a old) (λ this p. asks (naming_of old.me) o (ask.Get k this) p (over (super_frame call) old a))) (λ a. get_above (naming_of old.me) a.shared v (Some o) (party_of a old) (over (super_frame call) old a)) old new
    (λ a. reference_known (naming_of old.me) (fitting old a).shared (value.Bool true) v k (party_of (fitting old a) old) (λ name q. with_this (naming_of old.me) q (λ this p. asks (naming_of old.me) o (ask.Get name this) p (over (super_frame call) old (fitting old a)))) refl (sym g ∙ s))
    h

pub super_later : {E : Type 0} (r : Result Mode E) (call : Option ℕ) (v : V) (o : Ref) (old mid new : View) → mid ≡ with_top (value.Ref o) old → IfOk r (BecomesKey v (key_goal.Super call) mid new) → IfOk r (Gets call v o old new)
super_later (Ok m) None v o old mid new s h = let w = subst (λ (x : View). BecomesKey v (key_goal.Super None) x new m) s h in record { leads = λ a. w.leads a; keeps = w.keeps }
super_later (Ok m) (Some at) v o old mid new s h = let w = subst (λ (x : View). BecomesKey v (key_goal.Super (Some at)) x new m) s h in record { leads = λ a. w.leads a; keeps = w.keeps }
super_later (Err x) call v o old mid new s h = tt

reached_so : (m : Mode) (call : Option ℕ) (k : Key MadeSymbol) (old new : View) → ReadsSuper call (object_on (top old.values)) k (without_top old) new m → KeyReaches (key_goal.Super call) k old new m
reached_so m None k old new u = record { leads = λ a. u.leads a; keeps = u.keeps }
reached_so m (Some at) k old new u = record { leads = λ a. u.leads a; keeps = u.keeps }

pub super_reached : {E : Type 0} (r : Result Mode E) (call : Option ℕ) (o : Ref) (k : Key MadeSymbol) (old mid new : View) → o ≡ object_on (top old.values) → mid ≡ without_top old → IfOk r (ReadsSuper call o k mid new) → IfOk r (KeyReaches (key_goal.Super call) k old new)
super_reached (Ok m) call o k old mid new e s h =
    let w = subst (λ (x : View). ReadsSuper call o k x new m) s h in
    reached_so m call k old new (subst (λ x. ReadsSuper call x k (without_top old) new m) e w)
super_reached (Err x) call o k old mid new e s h = tt

-- what stands above comes to a frame that has the key
pub home_known : {E : Type 0} (r : Result Mode E) (k : V) (o : Option Ref) (old mid new : View) → k ≡ top old.values → mid ≡ without_top old
    → IfOk r (LeadsTo (λ a. get_above (naming_of mid.me) a.shared k o (party_of a mid) (over frame.Given mid a)) mid new) → IfOk r (LeadsTo (deed_replied frame.SuperHome (reply.Proto o) old) (under frame.SuperHome old) new)
home_known (Ok m) k o old mid new e s h =
    let w = subst (λ (x : View). LeadsTo (λ a. get_above (naming_of x.me) a.shared k o (party_of a x) (over frame.Given x a)) x new m) s h in
    let u = subst (λ x. LeadsTo (λ a. get_above (naming_of old.me) a.shared x o (party_of a (without_top old)) (over frame.Given (without_top old) a)) (without_top old) new m) e w in
    record { leads = λ a. u.leads a; keeps = u.keeps }
home_known (Err x) k o old mid new e s h = tt

pub method_home_known : {E : Type 0} (r : Result Mode E) (at : ℕ) (k : V) (o : Option Ref) (old mid new : View) → k ≡ top old.values → mid ≡ without_top old
    → IfOk r (LeadsTo (λ a. get_above (naming_of mid.me) a.shared k o (party_of a mid) (over (frame.CallSuperMethod at) mid a)) mid new) → IfOk r (LeadsTo (deed_replied (frame.CallSuperHome at) (reply.Proto o) old) (under (frame.CallSuperHome at) old) new)
method_home_known (Ok m) at k o old mid new e s h =
    let w = subst (λ (x : View). LeadsTo (λ a. get_above (naming_of x.me) a.shared k o (party_of a x) (over (frame.CallSuperMethod at) x a)) x new m) s h in
    let u = subst (λ x. LeadsTo (λ a. get_above (naming_of old.me) a.shared x o (party_of a (without_top old)) (over (frame.CallSuperMethod at) (without_top old) a)) (without_top old) new m) e w in
    record { leads = λ a. u.leads a; keeps = u.keeps }
method_home_known (Err x) at k o old mid new e s h = tt

-- METHODS

abbrev Begins : Purpose → (at : ℕ) → View → View → Mode → Type 0
Begins k at old new m = LeadsTo (λ a. argument_values (naming_of old.me) a.shared (arguments_at old.code (term_at old.code) at) (party_of a old) (applied (naming_of old.me) a.shared k old.values)) (record old { values = drop (held k) old.values }) new m

pub super_method_led : {E : Type 0} (r : Result Mode E) (f : V) (at : ℕ) (old mid new : View) → mid ≡ with_top f old → IfOk r (Begins purpose.SuperCall at mid new)
    → IfOk r (LeadsTo (λ a. super_method (naming_of old.me) a.shared (arguments_at old.code (term_at old.code) at) f (party_of a old)) old new)
super_method_led (Ok m) f at old mid new d h = let w = subst (λ x. Begins purpose.SuperCall at x new m) d h in record { leads = λ a. w.leads a; keeps = w.keeps }
super_method_led (Err x) f at old mid new d h = tt

module _ (f : V) (args : List V) (old : View) where
  -- a function is called on this `this`
  abbrev Called_on : Option V → Deed
  Called_on t a = on_this (naming_of old.me) t (party_of a old) (λ this p. calls (naming_of old.me) a.shared f this args p (with_value give))

  pub called_on : {E : Type 0} (r : Result Mode E) (t u : Option V) (new : View) → t ≡ (first_body old.bodies).this → t ≡ u → IfOk r (LeadsTo (Called_on u) old new) → IfOk r (LeadsTo (Called_on (first_body old.bodies).this) old new)
  called_on r t u new e d h = subst (λ x. IfOk r (LeadsTo (Called_on x) old new)) (sym d ∙ e) h

pub super_call_applied : {E : Type 0} (r : Result Mode E) (done : ℕ) (args : List V) (f : V) (old mid low new : View) → args ≡ args_on done old.values → mid ≡ record old { values = drop done old.values } → f ≡ top mid.values → low ≡ without_top mid
    → IfOk r (LeadsTo (λ a. with_this (naming_of low.me) (party_of a low) (λ this p. calls (naming_of low.me) a.shared f this args p (with_value give))) low new) → IfOk r (Applies purpose.SuperCall done old new)
super_call_applied (Ok m) done args f old mid low new s e g d h =
    let rest = record old { values = drop (done + 1) old.values } in
    let there : low ≡ rest = d ∙ ap without_top e ∙ ap (λ vs. record old { values = vs }) (drop_below done old.values) in
    let w = subst (λ (x : View). LeadsTo (λ a. with_this (naming_of x.me) (party_of a x) (λ this p. calls (naming_of x.me) a.shared f this args p (with_value give))) x new m) there h in
    let u = subst (λ x. LeadsTo (λ a. with_this (naming_of old.me) (party_of a rest) (λ this p. calls (naming_of old.me) a.shared x this args p (with_value give))) rest new m) (g ∙ ap (λ (x : View). top x.values) e) w in
    let v = subst (λ xs. LeadsTo (λ a. with_this (naming_of old.me) (party_of a rest) (λ this p. calls (naming_of old.me) a.shared (top (drop done old.values)) this xs p (with_value give))) rest new m) s u in
    record { leads = λ a. v.leads a; keeps = v.keeps }
super_call_applied (Err x) done args f old mid low new s e g d h = tt

-- CONSTRUCTIONS

module _ (at : ℕ) (old : View) where
  -- what the function that runs leads to
  abbrev Called_by : Option Ref → Deed
  Called_by f a = super_called (naming_of old.me) a.shared f (arguments_at old.code (term_at old.code) at) (party_of a old)

  pub called_by : {E : Type 0} (r : Result Mode E) (t u : Option Ref) (new : View) → t ≡ (first_body old.bodies).function → t ≡ u → IfOk r (LeadsTo (Called_by u) old new) → IfOk r (LeadsTo (Called_by (first_body old.bodies).function) old new)
  called_by r t u new e d h = subst (λ x. IfOk r (LeadsTo (Called_by x) old new)) (sym d ∙ e) h

  pub parent_asked : {E : Type 0} (r : Result Mode E) (t : Option Ref) (f : Ref) (new : View) → t ≡ (first_body old.bodies).function → t ≡ Some f → IfOk r (WaitsFor (frame.SuperParent at) f ask.GetPrototypeOf old new)
      → IfOk r (LeadsTo (Called_by (first_body old.bodies).function) old new)
  parent_asked (Ok m) t f new e d h = called_by {E = ℕ} (Ok m) t (Some f) new e d (record { leads = λ a. h.leads a; keeps = h.keeps })
  parent_asked (Err x) t f new e d h = tt

pub super_parent_led : {E : Type 0} (r : Result Mode E) (p : V) (o : Option Ref) (at : ℕ) (old mid new : View) → p ≡ parent_of o → mid ≡ with_top p old → IfOk r (Begins purpose.SuperNew at mid new)
    → IfOk r (LeadsTo (λ a. super_parent (naming_of old.me) a.shared (arguments_at old.code (term_at old.code) at) o (party_of a old)) old new)
super_parent_led (Ok m) p None at old mid new e d h = let w = subst (λ x. Begins purpose.SuperNew at x new m) (d ∙ ap (λ v. with_top v old) e) h in record { leads = λ a. w.leads a; keeps = w.keeps }
super_parent_led (Ok m) p (Some o) at old mid new e d h = let w = subst (λ x. Begins purpose.SuperNew at x new m) (d ∙ ap (λ v. with_top v old) e) h in record { leads = λ a. w.leads a; keeps = w.keeps }
super_parent_led (Err x) p o at old mid new e d h = tt

module _ (target : Ref) (args : List V) (old : View) where
  -- what constructs a `this`
  abbrev Constructs : V → View → Mode → Type 0
  Constructs f new m = LeadsTo (λ a. constructs_by (naming_of old.me) a.shared f target args (party_of a old) (λ v p. binds_this (naming_of old.me) a.shared (running p).this v p)) old new m

  -- an object is asked, if its marks say so
  abbrev Asked : Ref → Bool → Deed
  Asked f b a =
      if b then asks (naming_of old.me) f (ask.Construct target args) (party_of a old) (with_value (λ v p. binds_this (naming_of old.me) a.shared (running p).this v p)) else faults (naming_of old.me) fault.NotAConstructor (party_of a old)

  by_marks : {E : Type 0} (r : Result Mode E) (f : Ref) (n : Marks) (b : Bool) (new : View) → n ≡ marks_in old f → n.constructor ≡ b → IfOk r (LeadsTo (Asked f b) old new) → IfOk r (Constructs (value.Ref f) new)
  by_marks (Ok m) f n b new e t h =
      let w = subst (λ x. LeadsTo (Asked f x) old new m) (sym t ∙ ap (λ (k : Marks). k.constructor) e) h in
      record {
        leads = λ a. (let b = fitting old a in w.leads a ∙ ap (λ x. settles b old old.values x) (sym (looked f old a (λ (k : Marks). Asked f k.constructor b))));
        keeps = w.keeps;
      }
  by_marks (Err x) f n b new e t h = tt

  pub parent_asks : {E : Type 0} (r : Result Mode E) (f : Ref) (n : Marks) (new : View) → n ≡ marks_in old f → n.constructor ≡ true → IfOk r (WaitsFor frame.BindThis f (ask.Construct target args) old new) → IfOk r (Constructs (value.Ref f) new)
  parent_asks (Ok m) f n new e t h = by_marks {E = ℕ} (Ok m) f n true new e t (record { leads = λ a. h.leads a; keeps = h.keeps })
  parent_asks (Err x) f n new e t h = tt

  pub parent_refused : {E : Type 0} (r : Result Mode E) (f : Ref) (n : Marks) (new : View) → n ≡ marks_in old f → n.constructor ≡ false → IfOk r (LeadsTo (λ a. faults (naming_of old.me) fault.NotAConstructor (party_of a old)) old new) → IfOk r (Constructs (value.Ref f) new)
  parent_refused r f n new e t h = by_marks r f n false new e t h

  pub parent_object : {E : Type 0} (r : Result Mode E) (o : Option Ref) (v : V) (f : Ref) (new : View) → o ≡ object_of_value v → o ≡ Some f → IfOk r (Constructs (value.Ref f) new) → IfOk r (Constructs v new)
  parent_object r o v f new e s h = subst (λ x. IfOk r (Constructs x new)) (sym (is_object v f (sym e ∙ s))) h

  pub parent_other : {E : Type 0} (r : Result Mode E) (o : Option Ref) (v : V) (new : View) → o ≡ object_of_value v → o ≡ None → IfOk r (LeadsTo (λ a. faults (naming_of old.me) fault.NotAConstructor (party_of a old)) old new) → IfOk r (Constructs v new)
  parent_other r o (value.Ref f) new e s h = cc
  parent_other r o v new e s h = h

-- by the new target of the body that runs
pub by_target : {E : Type 0} (r : Result Mode E) (f : V) (args : List V) (t u : Option Ref) (old new : View) → t ≡ (first_body old.bodies).new_target → t ≡ u → IfOk r (LeadsTo (λ a. super_constructs (naming_of old.me) a.shared u f args (party_of a old)) old new)
    → IfOk r (LeadsTo (λ a. super_constructs (naming_of old.me) a.shared (first_body old.bodies).new_target f args (party_of a old)) old new)
by_target r f args t u old new e d h = subst (λ x. IfOk r (LeadsTo (λ a. super_constructs (naming_of old.me) a.shared x f args (party_of a old)) old new)) (sym d ∙ e) h

pub super_new_applied : {E : Type 0} (r : Result Mode E) (done : ℕ) (args : List V) (f : V) (old mid low new : View) → args ≡ args_on done old.values → mid ≡ record old { values = drop done old.values } → f ≡ top mid.values → low ≡ without_top mid
    → IfOk r (LeadsTo (λ a. super_constructs (naming_of low.me) a.shared (first_body low.bodies).new_target f args (party_of a low)) low new) → IfOk r (Applies purpose.SuperNew done old new)
super_new_applied (Ok m) done args f old mid low new s e g d h =
    let rest = record old { values = drop (done + 1) old.values } in
    let there : low ≡ rest = d ∙ ap without_top e ∙ ap (λ vs. record old { values = vs }) (drop_below done old.values) in
    let w = subst (λ (x : View). LeadsTo (λ a. super_constructs (naming_of x.me) a.shared (first_body x.bodies).new_target f args (party_of a x)) x new m) there h in
    let u = subst (λ x. LeadsTo (λ a. super_constructs (naming_of old.me) a.shared (first_body old.bodies).new_target x args (party_of a rest)) rest new m) (g ∙ ap (λ (x : View). top x.values) e) w in
    let v = subst (λ xs. LeadsTo (λ a. super_constructs (naming_of old.me) a.shared (first_body old.bodies).new_target (top (drop done old.values)) xs (party_of a rest)) rest new m) s u in
    record { leads = λ a. v.leads a; keeps = v.keeps }
super_new_applied (Err x) done args f old mid low new s e g d h = tt

-- `this` IS BOUND

module _ (v : V) (old : View) where
  abbrev Binds : Option V → Deed
  Binds t a = binds_this (naming_of old.me) a.shared t v (party_of a old)

  pub bound_twice : {E : Type 0} (r : Result Mode E) (t : Option V) (w : V) (new : View) → t ≡ (first_body old.bodies).this → t ≡ Some w → IfOk r (LeadsTo (λ a. faults (naming_of old.me) fault.ThisTwice (party_of a old)) old new) → IfOk r (LeadsTo (Binds (first_body old.bodies).this) old new)
  bound_twice r t w new e d h = subst (λ x. IfOk r (LeadsTo (Binds x) old new)) (sym d ∙ e) h

  pub bound_once : {E : Type 0} (r : Result Mode E) (t : Option V) (w : V) (mid new : View) → t ≡ (first_body old.bodies).this → t ≡ None → w ≡ v → mid ≡ record old { bodies = replaces_body (record (first_body old.bodies) { this = Some w }) old.bodies }
      → IfOk r (LeadsTo (λ a. give v (party_of a mid)) mid new) → IfOk r (LeadsTo (Binds (first_body old.bodies).this) old new)
  bound_once (Ok m) t w mid new e d s f h =
      let there = f ∙ ap (λ x. record old { bodies = replaces_body (record (first_body old.bodies) { this = Some x }) old.bodies }) s in
      let g = subst (λ (x : View). LeadsTo (λ a. give v (party_of a x)) x new m) there h in
      let gave : LeadsTo (Binds None) old new m = record { leads = λ a. g.leads a; keeps = g.keeps } in
      subst (λ x. LeadsTo (Binds x) old new m) (sym d ∙ e) gave
  bound_once (Err x) t w mid new e d s f h = tt

-- AN ANSWER

proto_there : (x : Answer) (o : Option Ref) → prototype_in x ≡ Some o → reply_of_answer x ≡ reply.Proto o
proto_there (answer.Proto p) o e = cc
proto_there x o e = cc

pub prototype_comes : {E : Type 0} (r : Result Mode E) (f : Frame) (t : Option (Option Ref)) (o : Option Ref) (old new : View) → t ≡ prototype_in old.answer → t ≡ Some o
    → IfOk r (LeadsTo (deed_replied f (reply.Proto o) old) (under f old) new) → IfOk r (IsDelivered f mode.Answer old new)
prototype_comes (Ok m) f t o old new e s h =
    let w = subst (λ y. LeadsTo (deed_replied f y old) (under f old) new m) (sym (proto_there old.answer o (sym e ∙ s))) h in
    record { stands = λ a. w.leads a; keeps = w.keeps }
prototype_comes (Err x) f t o old new e s h = tt
