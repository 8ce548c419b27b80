-- The numbers that decisions want, and the methods that give them.
use Rattle.std.proofs.Common.{◌≡◌, ℕ, Bool, true, false, List, [], Option, Some, None, refl, sym, ap, ◌∙◌, subst, Result, Ok, Err, IfOk, if◌then◌else◌}
use Rattle.std.specs.Prelude.{ℤ}
use Rattle.lava_base.specs.declared.ids.MadeSymbol.{MadeSymbol}
use Rattle.lava_base.specs.declared.ids.Ref.{Ref}
use Rattle.lava_base.specs.declared.marks.Marks.{Marks}
use Rattle.js_text.specs.Naming.{Naming, naming_of}
use Rattle.js_text.specs.declared.value.Key.{Key}
use Rattle.js_text.specs.declared.value.Key.TheVariants as key
use Rattle.js_text.specs.declared.value.Value.{Value}
use Rattle.js_text.specs.declared.value.Value.TheVariants as value
use Rattle.js_desc.specs.declared.ask.Ask.TheVariants as ask
use Rattle.js_desc.specs.declared.decision.Decision.TheVariants as decision
use Rattle.js_desc.specs.declared.fault.FaultText.TheVariants as fault
use Rattle.js_desc.specs.declared.reply.Reply.{Reply}
use Rattle.js_desc.specs.declared.reply.Reply.TheVariants as reply
use Rattle.js_machine.specs.js_conversions.Conversions.{method_name}
use Rattle.js_machine.specs.js_conversions.Primitives as conversions
use Rattle.js_machine.specs.js_conversions.Primitives.{ReadsNumbers}
use Rattle.js_machine.specs.js_conversions.declared.next.Wanted.TheVariants as wanted
use Rattle.js_machine.specs.js_exotic.Verdicts.{ExoticDecision}
use Rattle.js_machine.specs.js_exotic.declared.next.Next.{Next as ExoticNext}
use Rattle.js_machine.specs.js_operation.Computing.{number_converted, number_of}
use Rattle.js_machine.specs.js_operation.declared.operation.Computed.{Computed}
use Rattle.js_machine.specs.js_operation.declared.operation.Computed.TheVariants as computed
use Rattle.js_machine.specs.js_run.Acts.{Act, Give, on_value}
use Rattle.js_machine.specs.js_run.Asking.{waits_for}
use Rattle.js_machine.specs.js_run.Completions.{Replied}
use Rattle.js_machine.specs.js_run.Conversions.{number_read, to_number}
use Rattle.js_machine.specs.js_run.Decisions.{follows, follows_once}
use Rattle.js_machine.specs.js_run.Faults.{faults}
use Rattle.js_machine.specs.js_run.Parties.{Party, Shared}
use Rattle.js_machine.specs.js_run.Runs.{answered}
use Rattle.js_machine.specs.Decisions.{object_of_value}
use Rattle.js_machine.specs.Looks.{marks_in}
use Rattle.js_machine.specs.Steps.{LeadsTo, Wakes, settles}
use Rattle.js_machine.specs.Views.{View, fitting, next_of_wait, next_of_want, party_of}
use Rattle.js_machine.specs.Wanting.{goes_computed, goes_with, number_method_gave, number_method_got, number_comes, tries_rest}
use Rattle.js_machine.specs.declared.asked.NumberFor.{NumberFor}
use Rattle.js_machine.specs.declared.asked.NumberFor.TheVariants as number_for
use Rattle.js_machine.specs.declared.asked.Wait.{Wait}
use Rattle.js_machine.specs.declared.asked.Wait.TheVariants as wait
use Rattle.js_machine.specs.declared.frame.Mode.{Mode}
use Rattle.js_machine.proofs.Followed.{is_object}
use Rattle.js_machine.proofs.Looked.{looked}

abbrev V : Type 0
V = Value Ref MadeSymbol

-- A PRIMITIVE VALUE

module _ (names : Naming Ref MadeSymbol) (shared : Shared) (k : NumberFor) (p : Party Ref MadeSymbol) where
  text_so : (o : Option ℤ) → number_read names shared (waits_for names) o p (goes_with names shared k) ≡ goes_computed names shared k (number_converted {R = Ref} {S = MadeSymbol} (conversions.number_read o)) p
  text_so None = refl
  text_so (Some i) = refl

  computed_so : (v : V) → number_comes names shared k v p ≡ goes_computed names shared k (number_of shared.number_of v) p
  computed_so (value.Text t) = text_so (shared.number_of t)
  computed_so (value.Bool true) = refl
  computed_so (value.Bool false) = refl
  computed_so v = refl

abbrev pub Comes : NumberFor → V → View → View → Mode → Type 0
Comes k v old new m = LeadsTo (λ a. number_comes (naming_of old.me) a.shared k v (party_of a old)) old new m

abbrev pub Computes : NumberFor → Computed ℤ → View → View → Mode → Type 0
Computes k n old new m = LeadsTo (λ a. goes_computed (naming_of old.me) a.shared k n (party_of a old)) old new m

pub number_computed : {E : Type 0} (r : Result Mode E) (k : NumberFor) (v : V) (n : Computed ℤ) (old new : View) → ((read : List ℕ → Option ℤ) → ReadsNumbers read → n ≡ number_of read v) → IfOk r (Computes k n old new) → IfOk r (Comes k v old new)
number_computed (Ok m) k v n old new e h =
    record {
      leads = λ a. (
          let b = fitting old a in
          let names = naming_of old.me in
          h.leads a
          ∙ ap (λ act. settles b old old.values (answered names b.env act))
          (ap (λ c. goes_computed names b.shared k c (party_of b old)) (e b.shared.number_of b.numbers) ∙ sym (computed_so names b.shared k (party_of b old) v)));
      keeps = h.keeps;
    }
number_computed (Err x) k v n old new e h = tt

pub computes_by : {E : Type 0} (r : Result Mode E) (k : NumberFor) (n c : Computed ℤ) (old new : View) → n ≡ c → IfOk r (Computes k c old new) → IfOk r (Computes k n old new)
computes_by r k n c old new e h = subst (λ x. IfOk r (Computes k x old new)) (sym e) h

-- METHODS

module _ {E : Type 0} (r : Result Mode E) (o : Ref) (last : Bool) (k : NumberFor) (old new : View) where
  abbrev Tries : Type 0
  Tries = IfOk r (LeadsTo (λ a. tries_rest (naming_of old.me) a.shared last o k (party_of a old)) old new)

  abbrev Got : V → Type 0
  Got f = IfOk r (LeadsTo (λ a. number_method_got (naming_of old.me) a.shared last o k f (party_of a old)) old new)

  abbrev Gave : V → Type 0
  Gave v = IfOk r (LeadsTo (λ a. number_method_gave (naming_of old.me) a.shared last o k v (party_of a old)) old new)

  pub got_object : (q : Option Ref) (v : V) (f : Ref) → q ≡ object_of_value v → q ≡ Some f → Got (value.Ref f) → Got v
  got_object q v f e s h = subst (λ x. Got x) (sym (is_object v f (sym e ∙ s))) h

  pub got_other : (q : Option Ref) (v : V) → q ≡ object_of_value v → q ≡ None → Tries → Got v
  got_other q (value.Ref f) e s h = cc
  got_other q v e s h = h

  pub gave_object : (q : Option Ref) (v : V) (f : Ref) → q ≡ object_of_value v → q ≡ Some f → Tries → Gave v
  gave_object q v f e s h = subst (λ x. Gave x) (sym (is_object v f (sym e ∙ s))) h

  pub gave_other : (q : Option Ref) (v : V) → q ≡ object_of_value v → q ≡ None → IfOk r (LeadsTo (λ a. number_comes (naming_of old.me) a.shared k v (party_of a old)) old new) → Gave v
  gave_other q (value.Ref f) e s h = cc
  gave_other q v e s h = h

  pub none_left : last ≡ true → IfOk r (LeadsTo (λ a. faults (naming_of old.me) fault.CannotConvert (party_of a old)) old new) → Tries
  none_left e h = subst (λ b. IfOk r (LeadsTo (λ a. tries_rest (naming_of old.me) a.shared b o k (party_of a old)) old new)) (sym e) h

  pub one_left : last ≡ false
      → IfOk r (LeadsTo (λ a. waits_for (naming_of old.me) o (ask.Get (key.Text (method_name wanted.Number true)) (value.Ref o)) (party_of a old) (next_of_wait (naming_of old.me) a.shared old.code (wait.MethodGot o true k))) old new) → Tries
  unfolding next_of_want
  one_left e h = subst (λ b. IfOk r (LeadsTo (λ a. tries_rest (naming_of old.me) a.shared b o k (party_of a old)) old new)) (sym e) h

-- a method is called, if its marks say so
abbrev Calls : Bool → Ref → Ref → (last : Bool) → NumberFor → View → View → Mode → Type 0
Calls b f o last k old new m =
    LeadsTo (λ a. if b then waits_for (naming_of old.me) f (ask.Call (value.Ref o) []) (party_of a old) (next_of_wait (naming_of old.me) a.shared old.code (wait.MethodCalled o last k)) else tries_rest (naming_of old.me) a.shared last o k (party_of a old)) old new m

by_marks : {E : Type 0} (r : Result Mode E) (n : Marks) (b : Bool) (f o : Ref) (last : Bool) (k : NumberFor) (old new : View) → n ≡ marks_in old f → n.callable ≡ b → IfOk r (Calls b f o last k old new)
    → IfOk r (LeadsTo (λ a. number_method_got (naming_of old.me) a.shared last o k (value.Ref f) (party_of a old)) old new)
unfolding next_of_want
by_marks (Ok m) n b f o last k old new e t h =
    let g = subst (λ c. Calls c f o last k old new m) (sym t ∙ ap (λ (x : Marks). x.callable) e) h in
    record {
      leads = λ a. (
          let d = fitting old a in
          let names = naming_of old.me in
          g.leads a
          ∙ ap (settles d old old.values) (sym (looked f old a (λ (x : Marks). if x.callable then waits_for names f (ask.Call (value.Ref o) []) (party_of d old) (next_of_wait names d.shared old.code (wait.MethodCalled o last k)) else tries_rest names d.shared last o k (party_of d old)))));
      keeps = g.keeps;
    }
by_marks (Err x) n b f o last k old new e t h = tt

pub method_asks : {E : Type 0} (r : Result Mode E) (n : Marks) (args : List V) (f o : Ref) (last : Bool) (k : NumberFor) (old new : View) → n ≡ marks_in old f → n.callable ≡ true → args ≡ []
    → IfOk r (LeadsTo (λ a. waits_for (naming_of old.me) f (ask.Call (value.Ref o) args) (party_of a old) (next_of_wait (naming_of old.me) a.shared old.code (wait.MethodCalled o last k))) old new)
    → IfOk r (LeadsTo (λ a. number_method_got (naming_of old.me) a.shared last o k (value.Ref f) (party_of a old)) old new)
unfolding next_of_want
method_asks r n args f o last k old new e t s h =
    by_marks r n true f o last k old new e t
    (subst (λ xs. IfOk r (LeadsTo (λ a. waits_for (naming_of old.me) f (ask.Call (value.Ref o) xs) (party_of a old) (next_of_wait (naming_of old.me) a.shared old.code (wait.MethodCalled o last k))) old new)) s h)

pub method_passed : {E : Type 0} (r : Result Mode E) (n : Marks) (f o : Ref) (last : Bool) (k : NumberFor) (old new : View) → n ≡ marks_in old f → n.callable ≡ false
    → IfOk r (LeadsTo (λ a. tries_rest (naming_of old.me) a.shared last o k (party_of a old)) old new)
    → IfOk r (LeadsTo (λ a. number_method_got (naming_of old.me) a.shared last o k (value.Ref f) (party_of a old)) old new)
unfolding next_of_want
method_passed r n f o last k old new e t h = by_marks r n false f o last k old new e t h

-- A VALUE IS MADE A NUMBER

abbrev pub Begins : NumberFor → V → View → View → Mode → Type 0
Begins k v old new m = LeadsTo (λ a. to_number (naming_of old.me) a.shared (waits_for (naming_of old.me)) v (party_of a old) (goes_with (naming_of old.me) a.shared k)) old new m

pub begins_object : {E : Type 0} (r : Result Mode E) (q : Option Ref) (v : V) (o : Ref) (k : NumberFor) (old new : View) → q ≡ object_of_value v → q ≡ Some o
    → IfOk r (LeadsTo (λ a. waits_for (naming_of old.me) o (ask.Get (key.Text (method_name wanted.Number false)) (value.Ref o)) (party_of a old) (next_of_wait (naming_of old.me) a.shared old.code (wait.MethodGot o false k))) old new)
    → IfOk r (Begins k v old new)
unfolding next_of_want
begins_object r q v o k old new e s h = subst (λ x. IfOk r (Begins k x old new)) (sym (is_object v o (sym e ∙ s))) h

pub begins_other : {E : Type 0} (r : Result Mode E) (q : Option Ref) (v : V) (k : NumberFor) (old new : View) → q ≡ object_of_value v → q ≡ None
    → IfOk r (LeadsTo (λ a. number_comes (naming_of old.me) a.shared k v (party_of a old)) old new) → IfOk r (Begins k v old new)
begins_other r q (value.Ref f) k old new e s h = cc
begins_other r q v k old new e s h = h

-- WHAT WAITS

no_value : (y : Reply Ref MadeSymbol) → ((v : V) → y ≡ reply.Value v → ⊥) → (p : Party Ref MadeSymbol) (go : V → Party Ref MadeSymbol → Act Ref MadeSymbol) → on_value (Replied y) p go ≡ Give (Replied y) p
no_value (reply.Value v) f p go = absurd (f v refl)
no_value y f p go = refl

pub got_passes : {E : Type 0} (r : Result Mode E) (o : Ref) (last : Bool) (k : NumberFor) (y : Reply Ref MadeSymbol) (old new : View) → ((v : V) → y ≡ reply.Value v → ⊥)
    → IfOk r (LeadsTo (λ a. Give (Replied y) (party_of a old)) old new) → IfOk r (Wakes (wait.MethodGot o last k) y old new)
unfolding next_of_want
got_passes (Ok m) o last k y old new f h =
    record {
      leads = λ a. (let b = fitting old a in h.leads a ∙ ap (λ act. settles b old old.values (answered (naming_of old.me) b.env act)) (sym (no_value y f (party_of b old) (number_method_got (naming_of old.me) b.shared last o k))));
      keeps = h.keeps;
    }
got_passes (Err x) o last k y old new f h = tt

pub called_passes : {E : Type 0} (r : Result Mode E) (o : Ref) (last : Bool) (k : NumberFor) (y : Reply Ref MadeSymbol) (old new : View) → ((v : V) → y ≡ reply.Value v → ⊥)
    → IfOk r (LeadsTo (λ a. Give (Replied y) (party_of a old)) old new) → IfOk r (Wakes (wait.MethodCalled o last k) y old new)
unfolding next_of_want
called_passes (Ok m) o last k y old new f h =
    record {
      leads = λ a. (let b = fitting old a in h.leads a ∙ ap (λ act. settles b old old.values (answered (naming_of old.me) b.env act)) (sym (no_value y f (party_of b old) (number_method_gave (naming_of old.me) b.shared last o k))));
      keeps = h.keeps;
    }
called_passes (Err x) o last k y old new f h = tt

-- what follows where no number is wanted
pub followed : {E : Type 0} (r : Result Mode E) (me : Ref) (d : ExoticDecision Ref MadeSymbol) (old new : View) → ((v : V) (n : ExoticNext Ref MadeSymbol) → d ≡ decision.Number v n → ⊥)
    → IfOk r (LeadsTo (λ a. follows_once (naming_of old.me) a.shared me d (party_of a old)) old new) → IfOk r (LeadsTo (λ a. follows (naming_of old.me) a.shared me d (party_of a old)) old new)
followed r me (decision.Number v n) old new f h = absurd (f v n refl)
followed r me d old new f h = h

-- a number is wanted
pub wants_number : {E : Type 0} (r : Result Mode E) (me : Ref) (d : ExoticDecision Ref MadeSymbol) (v : V) (n : ExoticNext Ref MadeSymbol) (old new : View) → d ≡ decision.Number v n → IfOk r (Begins (number_for.Object me n) v old new)
    → IfOk r (LeadsTo (λ a. follows (naming_of old.me) a.shared me d (party_of a old)) old new)
unfolding goes_with
wants_number r me d v n old new e h = subst (λ x. IfOk r (LeadsTo (λ a. follows (naming_of old.me) a.shared me x (party_of a old)) old new)) (sym e) h

pub method_asked : {E : Type 0} (r : Result Mode E) (o : Ref) (last : Bool) (k : NumberFor) (y : Key MadeSymbol) (n : List ℕ) (old new : View) → y ≡ key.Text n → n ≡ method_name wanted.Number last
    → IfOk r (LeadsTo (λ a. waits_for (naming_of old.me) o (ask.Get y (value.Ref o)) (party_of a old) (next_of_wait (naming_of old.me) a.shared old.code (wait.MethodGot o last k))) old new)
    → IfOk r (LeadsTo (λ a. waits_for (naming_of old.me) o (ask.Get (key.Text (method_name wanted.Number last)) (value.Ref o)) (party_of a old) (next_of_wait (naming_of old.me) a.shared old.code (wait.MethodGot o last k))) old new)
method_asked r o last k y n old new e f h =
    subst (λ x. IfOk r (LeadsTo (λ a. waits_for (naming_of old.me) o (ask.Get x (value.Ref o)) (party_of a old) (next_of_wait (naming_of old.me) a.shared old.code (wait.MethodGot o last k))) old new)) (e ∙ ap key.Text f) h

-- WHAT WANTS A NUMBER, AND A PRIMITIVE VALUE, BY THEIR KINDS

-- a number that is handed on is the same one
pub goes_by : {E : Type 0} {x : ℤ} (r : Result Mode E) (k j : NumberFor) (i : ℤ) (old new : View) → x ≡ i → k ≡ j → IfOk r (LeadsTo (λ a. goes_with (naming_of old.me) a.shared j x (party_of a old)) old new)
    → IfOk r (LeadsTo (λ a. goes_with (naming_of old.me) a.shared k i (party_of a old)) old new)
goes_by r k j i old new q e h = subst (λ y. IfOk r (LeadsTo (λ a. goes_with (naming_of old.me) a.shared y i (party_of a old)) old new)) (sym e) (subst (λ y. IfOk r (LeadsTo (λ a. goes_with (naming_of old.me) a.shared j y (party_of a old)) old new)) q h)

pub computed_is : {E : Type 0} {x : ℤ} (r : Result Mode E) (k : NumberFor) (n : Computed ℤ) (i : ℤ) (old new : View) → x ≡ i → n ≡ computed.Is i → IfOk r (LeadsTo (λ a. goes_with (naming_of old.me) a.shared k x (party_of a old)) old new)
    → IfOk r (Computes k n old new)
computed_is r k n i old new q e h = computes_by r k n (computed.Is i) old new e (subst (λ y. IfOk r (LeadsTo (λ a. goes_with (naming_of old.me) a.shared k y (party_of a old)) old new)) q h)

-- what waits, by its kind
pub wakes_by : {E : Type 0} (r : Result Mode E) (w k : Wait) (y : Reply Ref MadeSymbol) (old new : View) → w ≡ k → IfOk r (Wakes k y old new) → IfOk r (Wakes w y old new)
unfolding next_of_want
wakes_by r w k y old new e h = subst (λ x. IfOk r (Wakes x y old new)) (sym e) h
