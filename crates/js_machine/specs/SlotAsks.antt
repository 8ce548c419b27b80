-- The natives that ask a `Slot`, as a machine runs them.
use Rattle.std.specs.Prelude.{Bool, true, false, List, ◌∷◌, drop, Option, Some, None}
use Rattle.lava_base.specs.declared.ids.MadeSymbol.{MadeSymbol}
use Rattle.lava_base.specs.declared.ids.Ref.{Ref}
use Rattle.lava_base.specs.declared.marks.Marks.{Marks}
use Rattle.js_text.specs.Naming.{Naming, Origin, Own, Common, Foreign}
use Rattle.js_text.specs.declared.native.Native.{Native}
use Rattle.js_text.specs.declared.native.Native.TheVariants as native
use Rattle.js_text.specs.declared.value.Value.{Value}
use Rattle.js_text.specs.declared.value.Value.TheVariants as value
use Rattle.js_desc.specs.declared.ask.Ask.{Ask}
use Rattle.js_desc.specs.declared.ask.Ask.TheVariants as ask
use Rattle.js_desc.specs.declared.decision.Decision.TheVariants as decision
use Rattle.js_desc.specs.declared.fault.FaultText.{FaultText}
use Rattle.js_desc.specs.declared.fault.FaultText.TheVariants as fault
use Rattle.js_desc.specs.declared.reply.Reply.TheVariants as reply
use Rattle.js_operation.specs.js_maker_natives.Kinds.{is_array}
use Rattle.js_operation.specs.js_maker_natives.MakerDecisions.{MakerDecision}
use Rattle.js_operation.specs.js_maker_natives.declared.next.Next.TheVariants as maker
use Rattle.js_native_steps.specs.Steps.{waits_as}
use Rattle.js_native_steps.specs.declared.next.NativeNext.{NativeNext}
use Rattle.js_native_steps.specs.declared.next.NativeNext.TheVariants as native_next
use Rattle.js_operation.specs.js_run.Acts.{Act, give}
use Rattle.js_operation.specs.js_run.Asking.{object_here, open_one}
use Rattle.js_operation.specs.js_run.Faults.{faults}
use Rattle.js_operation.specs.js_run.NativeTurns.{charged}
use Rattle.js_operation.specs.js_run.Parties.{Party, Shared}
use Rattle.js_operation.specs.js_run.SlotNatives.{asks_slot, charged_unless_sent, slot_tells}
use Rattle.js_operation.specs.js_slot_natives.SlotNatives.{SlotDecision, slot_native}
use Rattle.js_operation.specs.js_slot_natives.declared.next.Next.TheVariants as slot_next
use Rattle.js_machine.specs.declared.slot_asks.SlotStep.{SlotStep}
use Rattle.js_machine.specs.declared.slot_asks.SlotStep.TheVariants as step

-- the first operand, where it is an object
abbrev pub first_object : List (Value Ref MadeSymbol) → Option Ref
first_object (value.Ref r ∷ vs) = Some r
first_object vs = None

-- it is a foreign one
abbrev pub is_foreign : Origin → Bool
is_foreign (Own i) = false
is_foreign (Common c) = false
is_foreign Foreign = true

abbrev pub asks_foreign : Naming Ref MadeSymbol → Option Ref → Bool
asks_foreign names None = false
asks_foreign names (Some r) = is_foreign (names.origin r)

-- what a native waits for whose object tells
abbrev pub slot_wait : Native → NativeNext
slot_wait native.IsArray = native_next.Maker maker.Answer
slot_wait which = native_next.Slot slot_next.Answer

-- the fault of a native that is refused
abbrev pub refusal : (converts : Bool) → FaultText
refusal true = fault.CannotConvert
refusal false = fault.WrongKind

-- what the decision of a native says
abbrev pub step_of_slot : SlotDecision Ref MadeSymbol → SlotStep
step_of_slot (decision.Ask (Some r) x n) = step.Asks
step_of_slot (decision.Fault fault.CannotConvert) = step.Refuses true
step_of_slot d = step.Refuses false

abbrev pub step_of_maker : MakerDecision Ref MadeSymbol → SlotStep
step_of_maker (decision.Ask (Some r) x n) = step.Asks
step_of_maker (decision.Done (reply.Value (value.Bool b))) = step.Tells b
step_of_maker d = step.Refuses false

-- what a native does, where the marks of its first operand are these
abbrev pub slot_step : (Ref → Marks) → Native → List (Value Ref MadeSymbol) → SlotStep
slot_step marks native.IsArray vs = step_of_maker (is_array marks vs)
slot_step marks which vs = step_of_slot (slot_native marks which vs)

module _ (names : Naming Ref MadeSymbol) (shared : Shared) (which : Native) where
  -- an object that is not foreign is asked
  abbrev pub tells_here : Ref → Ask Ref MadeSymbol → Party Ref MadeSymbol → Act Ref MadeSymbol
  tells_here r x p = open_one p (λ q. slot_tells names shared r (object_here names shared r q).slot x which (waits_as (slot_wait which)) q)

  -- the first operand is asked with those behind it
  abbrev pub asks_by : List (Value Ref MadeSymbol) → Option Ref → Party Ref MadeSymbol → Act Ref MadeSymbol
  asks_by vs (Some r) p = asks_slot names shared (names.origin r) r (ask.Slot which (drop 1 vs)) which (waits_as (slot_wait which)) p
  asks_by vs None p = faults names fault.WrongKind p

  abbrev pub asks_first : List (Value Ref MadeSymbol) → Party Ref MadeSymbol → Act Ref MadeSymbol
  asks_first vs p = asks_by vs (first_object vs) p

  -- and what does not cross is charged
  -- own: the steps of a native
  abbrev pub charged_by : List (Value Ref MadeSymbol) → Option Ref → Party Ref MadeSymbol → Act Ref MadeSymbol
  charged_by vs (Some r) p = charged_unless_sent names shared (names.origin r) vs r (ask.Slot which (drop 1 vs)) which (waits_as (slot_wait which)) p
  charged_by vs None p = charged names shared which vs p (λ q. asks_by vs None q)

  abbrev pub slot_leads : List (Value Ref MadeSymbol) → SlotStep → Party Ref MadeSymbol → Act Ref MadeSymbol
  slot_leads vs step.Asks p = charged_by vs (first_object vs) p
  slot_leads vs (step.Tells b) p = charged names shared which vs p (λ q. give (value.Bool b) q)
  slot_leads vs (step.Refuses b) p = charged names shared which vs p (λ q. faults names (refusal b) q)
