-- The newest value comes to a frame that goes on with it.
use Rattle.std.proofs.Common.{◌≡◌, refl, Result, IfOk}
use Rattle.lava_base.specs.declared.ids.MadeSymbol.{MadeSymbol}
use Rattle.lava_base.specs.declared.ids.Ref.{Ref}
use Rattle.js_text.specs.declared.value.Value.{Value}
use Rattle.js_machine.specs.Steps.{IsDelivered, LeadsTo, deed_with, under, without_top}
use Rattle.js_machine.specs.Views.{View, top}
use Rattle.js_machine.specs.declared.frame.Frame.{Frame}
use Rattle.js_machine.specs.declared.frame.Mode.{Mode}
use Rattle.js_machine.specs.declared.frame.Mode.TheVariants as mode
use Rattle.js_machine.proofs.Leads.{delivered_ok, taken_ok}

pub comes : {E : Type 0} (r : Result Mode E) (f : Frame) (old mid new : View) (v : Value Ref MadeSymbol) → v ≡ top old.values → mid ≡ without_top old → IfOk r (LeadsTo (deed_with f v mid) (under f mid) new) → IfOk r (IsDelivered f mode.Value old new)
comes r f old mid new v s e h = delivered_ok r f old new (taken_ok r f old mid new v s e h)

-- the value stays where it is
pub stays_there : {E : Type 0} (r : Result Mode E) (f : Frame) (old new : View) → IfOk r (LeadsTo (deed_with f (top old.values) (without_top old)) (under f (without_top old)) new) → IfOk r (IsDelivered f mode.Value old new)
stays_there r f old new h = comes r f old (without_top old) new (top old.values) refl refl h
