-- Decisions of natives, whichever crate takes them.
use Rattle.std.specs.Prelude.{List}
use Rattle.lava_base.specs.declared.ids.MadeSymbol.{MadeSymbol}
use Rattle.lava_base.specs.declared.ids.Ref.{Ref}
use Rattle.js_text.specs.declared.value.Value.{Value}
use Rattle.js_desc.specs.declared.decision.Decision.{Decision}
use Rattle.js_desc.specs.declared.decision.Decision.TheVariants.{Done, Fault, Ask, Number, Run, End}
use Rattle.js_desc.specs.declared.fault.FaultText.TheVariants as fault
use Rattle.js_run.specs.js_conversions.Primitives.{Conversion}
use Rattle.js_run.specs.js_maker_natives.MakerDecisions.{MakerDecision}
use Rattle.js_native.specs.NativeDecisions.{NativeDecision}
use Rattle.js_run.specs.js_object_natives.ObjectDecisions.{ObjectDecision}
use Rattle.js_run.specs.js_slot_natives.SlotNatives.{SlotDecision}
use Rattle.js_store.specs.Objects.{Object}
use Rattle.js_run.specs.Acts as acts
use Rattle.js_run.specs.Acts.{Of_conversion, Of_maker, Of_object, Of_slot}
use Rattle.js_native_steps.specs.declared.next.NativeNext.{NativeNext}
use Rattle.js_native_steps.specs.declared.next.NativeNext.TheVariants as next

abbrev pub MachineValue : Type 0
MachineValue = Value Ref MadeSymbol

abbrev pub MachineObjects : Type 0
MachineObjects = List (Object Ref MadeSymbol)

-- an answer, or the next ask with what waits for its answer
abbrev pub NativeStep : Type 0
NativeStep = Decision NativeNext Ref MadeSymbol

-- what waits, by the name that js_run has for it
abbrev pub waits_as : NativeNext → acts.NativeNext Ref MadeSymbol
waits_as (next.Object n) = Of_object n
waits_as (next.Maker n) = Of_maker n
waits_as (next.Slot n) = Of_slot n
waits_as (next.Conversion n) = Of_conversion n

-- a decision of one kind of natives
abbrev pub step_by : {N : Type 0} → (waits : N → NativeNext) → Decision N Ref MadeSymbol → NativeStep
step_by waits (Done r) = Done r
step_by waits (Fault text) = Fault text
step_by waits (Ask target x n) = Ask target x (waits n)
step_by waits (Number v n) = Number v (waits n)
step_by waits (Run body this args target) = Run body this args target
step_by waits (End kind) = End kind

abbrev pub of_object : ObjectDecision Ref MadeSymbol → NativeStep
of_object d = step_by next.Object d

abbrev pub of_maker : MakerDecision Ref MadeSymbol → NativeStep
of_maker d = step_by next.Maker d

abbrev pub of_slot : SlotDecision Ref MadeSymbol → NativeStep
of_slot d = step_by next.Slot d

abbrev pub of_conversion : Conversion Ref MadeSymbol → NativeStep
of_conversion d = step_by next.Conversion d

-- a native on texts asks nothing
abbrev pub of_text : NativeDecision Ref MadeSymbol → NativeStep
of_text (Done r) = Done r
of_text (Fault text) = Fault text
of_text (End kind) = End kind
of_text _ = Fault fault.WrongKind

-- the decision of a native that makes an object, and the objects after it
abbrev pub made_step : MakerDecision Ref MadeSymbol × MachineObjects → NativeStep × MachineObjects
made_step d = (of_maker d.0, d.1)

abbrev pub object_step : ObjectDecision Ref MadeSymbol × MachineObjects → NativeStep × MachineObjects
object_step d = (of_object d.0, d.1)
