-- What a machine sees of the objects that a proxy looks at.
use Rattle.std.specs.Prelude.{List, [], Option, Some, None}
use Rattle.lava_base.specs.declared.ids.MadeSymbol.{MadeSymbol}
use Rattle.lava_base.specs.declared.ids.Ref.{Ref}
use Rattle.lava_base.specs.declared.marks.Marks.{Marks}
use Rattle.js_text.specs.Naming.{Naming, Origin, Own, Common, Foreign, naming_of}
use Rattle.js_desc.specs.declared.reply.Reply.{Reply}
use Rattle.js_desc.specs.declared.reply.Reply.TheVariants as reply
use Rattle.js_operation.specs.js_proxy.Decided.{decided}
use Rattle.js_store.specs.Objects.{plain_marks}
use Rattle.js_store.specs.declared.slot.Slot.{Slot}
use Rattle.js_store.specs.declared.slot.Slot.TheVariants as slot
use Rattle.js_operation.specs.js_traps.TrapDecisions.{ProxyDecision}
use Rattle.js_machine.specs.Decisions.{object_of_value}
use Rattle.js_machine.specs.Looks.{marks_in}
use Rattle.js_machine.specs.Views.{View}
use Rattle.js_machine.specs.Ways.{object_in}

-- the target of a proxy that is not revoked
abbrev pub target_of : Slot Ref MadeSymbol → Option Ref
target_of (slot.Proxy (Some p)) = Some p.target
target_of s = None

-- the object that comes as an answer
abbrev pub object_come : Reply Ref MadeSymbol → Option Ref
object_come (reply.Value v) = object_of_value v
object_come y = None

-- the marks of an object, where there is one
abbrev pub marks_if : View → Option Ref → Marks
marks_if w None = plain_marks
marks_if w (Some r) = marks_in w r

-- what is known of others, where an object is looked at: of an own or a common one nothing is
abbrev pub known_at : (known nothing : List (Ref × Marks)) → Origin → List (Ref × Marks)
known_at known nothing (Own i) = nothing
known_at known nothing (Common c) = nothing
known_at known nothing Foreign = known

abbrev pub known_if : Naming Ref MadeSymbol → (known nothing : List (Ref × Marks)) → Option Ref → List (Ref × Marks)
known_if names known nothing None = nothing
known_if names known nothing (Some r) = known_at known nothing (names.origin r)

-- what the machine knows of others, where it looks at this object
abbrev pub known_of : View → Option Ref → List (Ref × Marks)
known_of w o = known_if (naming_of w.me) w.known [] o

-- what the proxy `me` decides of the ask of the machine
abbrev pub proxy_decided : View → (me : Ref) → ProxyDecision Ref MadeSymbol
proxy_decided w me = decided (naming_of w.me) w.objects w.common (known_of w (target_of (object_in w me).slot)) me w.asked.ask
