-- What `classOf` tells.
use Rattle.std.proofs.Common.{◌≡◌, ℕ, Bool, List, [], ◌∷◌, drop, Option, Some, refl, sym, ap, ◌∙◌, subst, Result, Ok, Err, IfOk}
use Rattle.lava_base.specs.declared.ids.MadeSymbol.{MadeSymbol}
use Rattle.lava_base.specs.declared.ids.Ref.{Ref}
use Rattle.lava_base.specs.declared.marks.Marks.{Marks}
use Rattle.js_text.specs.Naming.{naming_of}
use Rattle.js_text.specs.declared.native.Native.TheVariants as native
use Rattle.js_text.specs.declared.value.Value.{Value}
use Rattle.js_text.specs.declared.value.Value.TheVariants as value
use Rattle.js_desc.specs.declared.ask.Ask.{Ask}
use Rattle.js_desc.specs.declared.decision.Decision.TheVariants as decision
use Rattle.js_machine.specs.js_maker_natives.Kinds.{class_of, object_kind}
use Rattle.js_machine.specs.js_maker_natives.MakerDecisions.{MakerDecision}
use Rattle.js_machine.specs.js_maker_natives.declared.next.Next.{Next}
use Rattle.js_machine.specs.js_maker_natives.declared.next.Next.TheVariants as maker
use Rattle.js_machine.specs.js_native_steps.Steps.{NativeStep, of_maker, waits_as}
use Rattle.js_machine.specs.js_operations.Looks.{marks_seen}
use Rattle.js_machine.specs.js_run.NativeTurns.{follows_native}
use Rattle.js_machine.specs.js_run.SlotNatives.{asks_slot, tells_kind}
use Rattle.js_machine.specs.Decisions.{object_of_value}
use Rattle.js_machine.specs.Proxying.{known_if, known_of, marks_if}
use Rattle.js_machine.specs.SlotAsks.{first_object}
use Rattle.js_machine.specs.Steps.{LeadsTo, settles}
use Rattle.js_machine.specs.Views.{Values, View, args_on, fitting, party_of}
use Rattle.js_machine.specs.declared.frame.Mode.{Mode}
use Rattle.js_machine_natives.specs.Telling.{kind_follows, wait_of}
use Rattle.js_machine_natives.proofs.Proxied_laws.{seen_as_known}
use Rattle.js_machine_natives.proofs.Slot_asked.{first_of, known_there, value_looked}

abbrev V : Type 0
V = Value Ref MadeSymbol

abbrev Rest : ℕ → View → View
Rest n w = record w { values = drop n w.values }

abbrev Decided : Type 0
Decided = MakerDecision Ref MadeSymbol

-- by the marks of the first operand alone
kind_alike : (marks : Ref → Marks) (m : Marks) (v : V) (vs : Values) → ((r : Ref) → object_of_value v ≡ Some r → marks r ≡ m) → class_of marks (v ∷ vs) ≡ class_of (λ r. m) (v ∷ vs)
kind_alike marks m (value.Ref r) [] e = ap (λ (k : Marks). object_kind r k.callable k.class) (e r refl)
kind_alike marks m (value.Ref r) (w ∷ ws) e = refl
kind_alike marks m v [] e = refl
kind_alike marks m v (w ∷ ws) e = refl

abbrev decided_by : View → Option Ref → Values → Decided
decided_by w o vs = class_of (marks_seen (naming_of w.me) w.objects w.common (known_of w o)) vs

-- what is decided by marks that are known, as the machine knows them
pub kind_decided : {E : Type 0} (r : Result Decided E) (w : View) (o q : Option Ref) (vs : Values) (known nothing : List (Ref × Marks)) → nothing ≡ [] → o ≡ q → known ≡ known_if (naming_of w.me) w.known nothing o
    → IfOk r (λ d. d ≡ class_of (marks_seen (naming_of w.me) w.objects w.common known) vs) → IfOk r (λ d. d ≡ decided_by w q vs)
kind_decided r w o q vs known nothing e f g h =
    subst (λ (l : List (Ref × Marks)). IfOk r (λ d. d ≡ class_of (marks_seen (naming_of w.me) w.objects w.common l) vs)) (known_there w o known nothing e g ∙ ap (λ x. known_of w x) f) h

abbrev Kind : Decided → View → View → View → Mode → Type 0
Kind d w old new m = LeadsTo (λ a. kind_follows (naming_of w.me) a.shared d (party_of a w)) old new m

abbrev Tells : Values → ℕ → View → View → Mode → Type 0
Tells vs n old new m = LeadsTo (λ a. tells_kind (naming_of old.me) a.shared vs (party_of a old)) (Rest n old) new m

told_with : (v : V) (vs : Values) (n : ℕ) (d : Decided) (old new : View) (m : Mode) → d ≡ decided_by old (object_of_value v) (v ∷ vs) → Kind d old (Rest n old) new m → Tells (v ∷ vs) n old new m
told_with v vs n d old new m e h =
    let marks = marks_seen (naming_of old.me) old.objects old.common (known_of old (object_of_value v)) in
    let same : d ≡ class_of (λ r. marks_if old (object_of_value v)) (v ∷ vs) = e ∙ kind_alike marks (marks_if old (object_of_value v)) v vs (λ r q. seen_as_known old (object_of_value v) r q) in
    let w = subst (λ k. Kind k old (Rest n old) new m) same h in
    record {
      leads = λ a. (let b = fitting old a in
          w.leads a ∙ ap (settles b (Rest n old) (drop n old.values)) (sym (value_looked v old a (λ k. kind_follows (naming_of old.me) b.shared (class_of (λ r. k) (v ∷ vs)) (party_of b old)))));
      keeps = w.keeps;
    }

told_by_kind : (vs : Values) (n : ℕ) (d : Decided) (old new : View) (m : Mode) → d ≡ decided_by old (first_object vs) vs → Kind d old (Rest n old) new m → Tells vs n old new m
told_by_kind [] n d old new m e h = let w = subst (λ k. Kind k old (Rest n old) new m) e h in record { leads = λ a. w.leads a; keeps = w.keeps }
told_by_kind (v ∷ vs) n d old new m e h = told_with v vs n d old new m (e ∙ ap (λ o. decided_by old o (v ∷ vs)) (first_of v vs)) h

pub kind_told : {E : Type 0} (r : Result Mode E) (n : ℕ) (vs : Values) (d : Decided) (old mid new : View) → vs ≡ args_on n old.values → mid ≡ Rest n old → d ≡ decided_by mid (first_object vs) vs → IfOk r (Kind d mid mid new) → IfOk r (Tells (args_on n old.values) n old new)
kind_told (Ok m) n vs d old mid new e s k h =
    let f : d ≡ decided_by old (first_object vs) vs = k ∙ ap (λ (x : View). decided_by x (first_object vs) vs) s in
    let w = subst (λ (x : View). Kind d x x new m) s h in
    let u : Kind d old (Rest n old) new m = record { leads = λ a. w.leads a; keeps = w.keeps } in
    subst (λ xs. Tells xs n old new m) e (told_by_kind vs n d old new m f u)
kind_told (Err x) n vs d old mid new e s k h = tt

-- an object is asked
pub kind_asked : {E : Type 0} (r : Result Mode E) (callable : Bool) (t : Ref) (x : Ask Ref MadeSymbol) (n : Next Ref) (old new : View) → n ≡ maker.KindTold callable
    → IfOk r (LeadsTo (λ a. asks_slot (naming_of old.me) a.shared ((naming_of old.me).origin t) t x native.ClassOf (waits_as (wait_of native.ClassOf (Some callable))) (party_of a old)) old new) → IfOk r (Kind (decision.Ask (Some t) x n) old old new)
kind_asked r callable t x n old new e h = subst (λ k. IfOk r (Kind (decision.Ask (Some t) x k) old old new)) (sym e) h

pub kind_target : {E : Type 0} (r : Result Mode E) (o q : Option Ref) (x : Ask Ref MadeSymbol) (n : Next Ref) (old new : View) → o ≡ q → IfOk r (Kind (decision.Ask q x n) old old new) → IfOk r (Kind (decision.Ask o x n) old old new)
kind_target r o q x n old new e h = subst (λ y. IfOk r (Kind (decision.Ask y x n) old old new)) (sym e) h

pub kind_by : {E : Type 0} (r : Result Mode E) (d e : Decided) (old new : View) → d ≡ e → IfOk r (Kind e old old new) → IfOk r (Kind d old old new)
kind_by r d e old new f h = subst (λ x. IfOk r (Kind x old old new)) (sym f) h

-- nothing is asked
abbrev Native_follows : NativeStep → View → View → Mode → Type 0
Native_follows d old new m = LeadsTo (λ a. follows_native (naming_of old.me) native.ClassOf waits_as d (party_of a old)) old new m

other_kind : {E : Type 0} (r : Result Mode E) (d : Decided) (old new : View) → ((o : Option Ref) (x : Ask Ref MadeSymbol) (n : Next Ref) → d ≡ decision.Ask o x n → ⊥) → IfOk r (Native_follows (of_maker d) old new) → IfOk r (Kind d old old new)
other_kind r (decision.Done y) old new f h = h
other_kind r (decision.Fault t) old new f h = h
other_kind r (decision.Ask o x n) old new f h = absurd (f o x n refl)
other_kind r (decision.Number v n) old new f h = h
other_kind r (decision.Run body this args target) old new f h = h
other_kind r (decision.End e) old new f h = h

pub kind_other : {E : Type 0} (r : Result Mode E) (d : Decided) (s : NativeStep) (old new : View) → s ≡ of_maker d → ((o : Option Ref) (x : Ask Ref MadeSymbol) (n : Next Ref) → d ≡ decision.Ask o x n → ⊥) → IfOk r (Native_follows s old new) → IfOk r (Kind d old old new)
kind_other r d s old new e f h = other_kind r d old new f (subst (λ x. IfOk r (Native_follows x old new)) e h)
