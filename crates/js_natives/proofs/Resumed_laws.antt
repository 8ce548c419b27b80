-- How a native goes on is what follows its next decision.
use Rattle.std.proofs.Common.{◌≡◌, ℕ, Bool, true, false, List, Option, refl, sym, ap, ◌∙◌, subst, Result, Ok, Err, IfOk}
use Rattle.std.specs.Prelude.{ℤ}
use Rattle.lava_base.specs.declared.ids.MadeSymbol.{MadeSymbol}
use Rattle.lava_base.specs.declared.ids.Ref.{Ref}
use Rattle.lava_base.specs.declared.marks.Marks.{Marks}
use Rattle.js_text.specs.Naming.{naming_of}
use Rattle.js_text.specs.declared.native.Native.{Native}
use Rattle.js_text.specs.declared.value.Value.TheVariants as value
use Rattle.js_desc.specs.declared.reply.Reply.{Reply}
use Rattle.js_desc.specs.declared.reply.Reply.TheVariants as reply
use Rattle.js_run_laws.specs.js_conversions.Conversions.{conversion_resumed}
use Rattle.js_run_laws.specs.js_conversions.Primitives.{Conversion, ReadsNumbers}
use Rattle.js_run_laws.specs.js_conversions.declared.next.Next.{Next as ConversionNext}
use Rattle.js_run_laws.specs.js_conversions.declared.next.Next.TheVariants as conversion
use Rattle.js_run_laws.specs.js_maker_natives.MakerDecisions.{MakerDecision}
use Rattle.js_run_laws.specs.js_object_natives.ObjectDecisions.{ObjectDecision}
use Rattle.js_run_laws.specs.js_maker_natives.Resumed.{maker_resumed, messaging}
use Rattle.js_run_laws.specs.js_maker_natives.declared.next.Next.{Next as MakerNext}
use Rattle.js_run_laws.specs.js_maker_natives.declared.next.Next.TheVariants as maker
use Rattle.js_run_laws.specs.js_object_natives.Keyed.{converting, defining}
use Rattle.js_run_laws.specs.js_object_natives.Resumed.{native_resumed}
use Rattle.js_run_laws.specs.js_object_natives.declared.next.Next.{Next as ObjectNext}
use Rattle.js_run_laws.specs.js_object_natives.declared.next.Next.TheVariants as object
use Rattle.js_run_laws.specs.js_operations.Looks.{marks_seen}
use Rattle.js_run_laws.specs.js_operations.Descriptions.{field_come, field_given}
use Rattle.js_run_laws.specs.js_operations.Fields.{function_of_field, with_get, with_set}
use Rattle.js_desc.specs.declared.descriptor.PartialDescriptor.{PartialDescriptor}
use Rattle.js_run_laws.specs.js_operations.declared.fields.FieldName.{FieldName}
use Rattle.js_run_laws.specs.js_operations.declared.fields.FieldName.TheVariants as field
use Rattle.js_run_laws.specs.js_slot_natives.SlotNatives.{slot_native_resumed}
use Rattle.js_store.specs.Frozen.{CommonObject}
use Rattle.js_store.specs.Objects.{plain_marks}
use Rattle.js_run_laws.specs.js_run.Acts.{Of_conversion, Of_maker, Of_object}
use Rattle.js_run_laws.specs.js_run.Following.{see_come}
use Rattle.js_run_laws.specs.js_run.NativeTurns.{follows_native, follows_native_with, native_goes_on, native_turns}
use Rattle.js_run_laws.specs.js_run.Parties.{Shared}
use Rattle.js_run_laws.specs.js_run.Runs.{Env, answered}
use Rattle.js_natives.specs.Decided.{step_resumed}
use Rattle.js_natives.specs.Deeds.{Does, MachineAct, MachineNaming, MachineParty, goes_on_with, having, knowing, sharing}
use Rattle.js_natives.specs.Seen.{reply_is_there}
use Rattle.js_native_steps.specs.Steps.{MachineObjects, MachineValue, NativeStep, made_step, object_step, of_conversion, of_maker, of_object, waits_as}
use Rattle.js_native_steps.specs.declared.next.NativeNext.{NativeNext}
use Rattle.js_native_steps.specs.declared.next.NativeNext.TheVariants as next
use Rattle.js_natives.proofs.Seen_laws.{value_marks, value_seen}
use Rattle.js_natives.proofs.Step_laws.{Says, same_step}

module _ (me : ℕ) (objects : MachineObjects) (common : List CommonObject) (known : List (Ref × Marks)) (shared : Shared) (env : Env Ref) (p : MachineParty) where
  abbrev Led : MachineAct → MachineAct → Type 0
  Led a b = answered (naming_of me) (knowing known env) a ≡ answered (naming_of me) (knowing known env) b

  abbrev sees : Ref → Marks
  sees r = marks_seen (naming_of me) objects common known r

  -- the marks of what comes
  abbrev come_marks : Reply Ref MadeSymbol → Marks
  come_marks (reply.Value v) = value_marks me objects common known shared env p v
  come_marks _ = plain_marks

  abbrev alone : Reply Ref MadeSymbol → Ref → Marks
  alone r o = come_marks r

  come : (r : Reply Ref MadeSymbol) (go : Marks → MachineAct) → reply_is_there (naming_of me) objects common r ≡ true
      → Led (see_come (naming_of me) (sharing common shared) r (having objects p) go) (go (come_marks r))
  come (reply.Value v) go h = value_seen me objects common known shared env p v go h
  come r go h = refl

  -- A DECISION THAT GOES ON KNOWS THE MARKS OF WHAT COMES ALONE

  module _ (read : List ℕ → Option ℤ) where
    conversion_same : (n : ConversionNext Ref) (r : Reply Ref MadeSymbol) → conversion_resumed (alone r) read n r ≡ conversion_resumed sees read n r
    conversion_same (conversion.MethodGot w) (reply.Value (value.Ref f)) = refl
    conversion_same (conversion.MethodGot w) (reply.Value v) = refl
    conversion_same (conversion.MethodCalled w) (reply.Value v) = refl
    conversion_same n r = refl

    function_same : (v : MachineValue) → function_of_field (alone (reply.Value v)) v ≡ function_of_field sees v
    function_same (value.Ref r) = refl
    function_same v = refl

    field_same : (o : Ref) (f : FieldName) (b : Bool) (d : PartialDescriptor Ref MadeSymbol) (r : Reply Ref MadeSymbol) → field_come (alone r) o f b d r ≡ field_come sees o f b d r
    field_same o field.Get true d (reply.Value v) = ap (λ g. field_given o field.Get (with_get d g)) (function_same v)
    field_same o field.Set true d (reply.Value v) = ap (λ g. field_given o field.Set (with_set d g)) (function_same v)
    field_same o f true d (reply.Value v) = refl
    field_same o f true d r = refl
    field_same o f false d r = refl

    object_same : (n : ObjectNext Ref MadeSymbol) (r : Reply Ref MadeSymbol) → native_resumed (naming_of me) (alone r) read objects n r ≡ native_resumed (naming_of me) sees read objects n r
    object_same object.Answer r = refl
    object_same object.Described r = refl
    object_same object.Listed r = refl
    object_same (object.Keyed c n) r = ap (λ d. (converting c d, objects)) (conversion_same n r)
    object_same (object.Defining o k d) r = ap (λ x. (defining o k x, objects)) (field_same d.object d.field d.is_there d.read r)

    maker_same : (n : MakerNext Ref) (r : Reply Ref MadeSymbol) → maker_resumed (naming_of me) (alone r) read objects n r ≡ maker_resumed (naming_of me) sees read objects n r
    maker_same maker.Answer r = refl
    maker_same (maker.KindTold b) r = refl
    maker_same (maker.Message o n) r = ap (messaging (naming_of me) objects o) (conversion_same n r)

  -- WHAT FOLLOWS

  abbrev q : MachineParty
  q = having objects p

  abbrev step : NativeNext → Reply Ref MadeSymbol → NativeStep × MachineObjects
  step n r = step_resumed (naming_of me) sees objects common shared.number_of n r

  turns_same : (which : Native) (n : NativeNext) (r : Reply Ref MadeSymbol)
      → native_turns (naming_of me) (sharing common shared) which (waits_as n) r (come_marks r) q ≡ follows_native_with (naming_of me) which waits_as (step n r) q
  turns_same which (next.Object n) r =
      let d = native_resumed (naming_of me) sees shared.number_of objects n r in
      ap (λ x. follows_native_with (naming_of me) which Of_object x q) (object_same shared.number_of n r) ∙ same_step (naming_of me) which d.1 p next.Object d.0
  turns_same which (next.Maker n) r =
      let d = maker_resumed (naming_of me) sees shared.number_of objects n r in
      ap (λ x. follows_native_with (naming_of me) which Of_maker x q) (maker_same shared.number_of n r) ∙ same_step (naming_of me) which d.1 p next.Maker d.0
  turns_same which (next.Slot n) r = same_step (naming_of me) which objects p next.Slot (slot_native_resumed r)
  turns_same which (next.Conversion n) r =
      ap (λ x. follows_native (naming_of me) which Of_conversion x q) (conversion_same shared.number_of n r) ∙ same_step (naming_of me) which objects p next.Conversion (conversion_resumed sees shared.number_of n r)

  resumed_law : (which : Native) (n : NativeNext) (r : Reply Ref MadeSymbol) → reply_is_there (naming_of me) objects common r ≡ true
      → Led (native_goes_on (naming_of me) (sharing common shared) which (waits_as n) r q) (follows_native_with (naming_of me) which waits_as (step n r) q)
  resumed_law which n r h =
      come r (λ m. native_turns (naming_of me) (sharing common shared) which (waits_as n) r m q) h
      ∙ ap (λ a. answered (naming_of me) (knowing known env) a) (turns_same which n r)

abbrev sees_in : (me : ℕ) → MachineObjects → List CommonObject → List (Ref × Marks) → Ref → Marks
sees_in me objects common known o = marks_seen (naming_of me) objects common known o

pub resumed_does : {E : Type 0} (x : Result NativeStep E) (me : ℕ) (objects : MachineObjects) (common : List CommonObject) (known : List (Ref × Marks)) (which : Native) (n : NativeNext) (r : Reply Ref MadeSymbol) (after : MachineObjects)
    → reply_is_there (naming_of me) objects common r ≡ true
    → ((read : List ℕ → Option ℤ) → ReadsNumbers read → IfOk x (λ d. Says d after (step_resumed (naming_of me) (sees_in me objects common known) objects common read n r)))
    → IfOk x (λ d. Does me objects common known which (goes_on_with which n r) d after)
resumed_does (Ok d) me objects common known which n r after h e =
    record {
      does = λ shared numbers finds env p.
          (resumed_law me objects common known shared env p which n r h
          ∙ sym (ap (λ x. answered (naming_of me) (knowing known env) (follows_native_with (naming_of me) which waits_as x (having objects p))) (e shared.number_of numbers)));
    }
resumed_does (Err x) me objects common known which n r after h e = tt

-- WHAT EACH THAT WAITS DECIDES

module _ (names : MachineNaming) (marks : Ref → Marks) (objects : MachineObjects) (common : List CommonObject) (read : List ℕ → Option ℤ) (r : Reply Ref MadeSymbol) (after : MachineObjects) where
  pub object_taken : (n : NativeNext) (k : ObjectNext Ref MadeSymbol) (x : NativeStep) (d : ObjectDecision Ref MadeSymbol) → n ≡ next.Object k → x ≡ of_object d → (d, after) ≡ native_resumed names marks read objects k r
      → Says x after (step_resumed names marks objects common read n r)
  object_taken n k x d e h g = subst (λ j. Says x after (step_resumed names marks objects common read j r)) (sym e) (ap (λ y. (y, after)) h ∙ ap object_step g)

  pub maker_taken : (n : NativeNext) (k : MakerNext Ref) (x : NativeStep) (d : MakerDecision Ref MadeSymbol) → n ≡ next.Maker k → x ≡ of_maker d → (d, after) ≡ maker_resumed names marks read objects k r
      → Says x after (step_resumed names marks objects common read n r)
  maker_taken n k x d e h g = subst (λ j. Says x after (step_resumed names marks objects common read j r)) (sym e) (ap (λ y. (y, after)) h ∙ ap made_step g)

  pub conversion_taken : (n : NativeNext) (k : ConversionNext Ref) (x : NativeStep) (d : Conversion Ref MadeSymbol) → n ≡ next.Conversion k → x ≡ of_conversion d → d ≡ conversion_resumed marks read k r
      → Says x objects (step_resumed names marks objects common read n r)
  conversion_taken n k x d e h g = subst (λ j. Says x objects (step_resumed names marks objects common read j r)) (sym e) (ap (λ y. (y, objects)) (h ∙ ap of_conversion g))
