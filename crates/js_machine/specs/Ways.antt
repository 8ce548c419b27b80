-- Which way an object decides of an ask.
use Rattle.std.specs.Prelude.{Bool, true}
use Rattle.lava_base.specs.declared.ids.MadeSymbol.{MadeSymbol}
use Rattle.lava_base.specs.declared.ids.Ref.{Ref}
use Rattle.js_text.specs.Naming.{naming_of}
use Rattle.js_desc.specs.declared.ask.Ask.{Ask}
use Rattle.js_desc.specs.declared.ask.Ask.TheVariants as ask
use Rattle.js_ordinary.specs.Origins.{object_of}
use Rattle.js_store.specs.Frozen.{common_ref}
use Rattle.js_store.specs.Objects.{Object}
use Rattle.js_store.specs.declared.slot.Held.TheVariants as held
use Rattle.js_store.specs.declared.slot.Slot.{Slot}
use Rattle.js_store.specs.declared.slot.Slot.TheVariants as slot
use Rattle.js_machine.specs.Views.{View}
use Rattle.js_machine.specs.declared.ways.Way.{Way}
use Rattle.js_machine.specs.declared.ways.Way.TheVariants as way

-- the machine itself calls a `require`, a function that keeps nothing is the host's, and every other object decides
abbrev pub way_called : Slot Ref MadeSymbol → (callable : Bool) → Way
way_called (slot.Held (held.Require n)) callable = way.Module
way_called (slot.Held held.ModuleMap) callable = way.Mapped
way_called slot.Plain true = way.Host
way_called s callable = way.Object

abbrev pub way_asked : Slot Ref MadeSymbol → (callable : Bool) → Ask Ref MadeSymbol → Way
way_asked s callable (ask.Call this args) = way_called s callable
way_asked s callable x = way.Object

-- a collection is looked into by a native
abbrev pub way_collected : Ask Ref MadeSymbol → Way
way_collected (ask.Slot which args) = way.Collection
way_collected x = way.Object

-- a proxy and a collection decide in their own ways
abbrev pub way_of : Slot Ref MadeSymbol → (callable : Bool) → Ask Ref MadeSymbol → Way
way_of (slot.Proxy proxied) callable x = way.Proxy
way_of (slot.Table es) callable x = way_collected x
way_of s callable x = way_asked s callable x

-- the object of a reference, as the machine has it
abbrev pub object_in : View → Ref → Object Ref MadeSymbol
object_in w r = object_of common_ref w.objects w.common ((naming_of w.me).origin r)

-- the way of an object, asked what the machine asks
abbrev pub way_here : View → Ref → Way
way_here w r = let o = object_in w r in way_of o.slot o.marks.callable w.asked.ask
