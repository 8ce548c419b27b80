-- What a machine's natives do that ask a `Slot`.
use Rattle.std.specs.Prelude.{List, [], ◌∷◌, Option, Some, None}
use Rattle.lava_base.specs.declared.ids.MadeSymbol.{MadeSymbol}
use Rattle.lava_base.specs.declared.ids.Ref.{Ref}
use Rattle.js_text.specs.declared.native.Native.{Native}
use Rattle.js_text.specs.declared.value.Value.{Value}
use Rattle.js_machine.specs.Decisions.{object_of_value}
use Rattle.js_machine.specs.Proxying.{marks_if}
use Rattle.js_machine.specs.SlotAsks.{slot_step}
use Rattle.js_machine.specs.Views.{View}
use Rattle.js_machine.specs.declared.slot_asks.SlotStep.{SlotStep}

-- what a native does with these operands; None where it has none
abbrev pub first_step : View → Native → List (Value Ref MadeSymbol) → Option SlotStep
first_step w which [] = None
first_step w which (v ∷ vs) = let marks = marks_if w (object_of_value v) in Some (slot_step (λ r. marks) which (v ∷ vs))
