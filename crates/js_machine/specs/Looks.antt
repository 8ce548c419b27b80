-- What a machine sees of objects, and where its ask goes.
use Rattle.std.specs.Prelude.{Option, Some, None}
use Rattle.lava_base.specs.Ids.{same_ref}
use Rattle.lava_base.specs.declared.ids.MadeSymbol.{MadeSymbol}
use Rattle.lava_base.specs.declared.ids.Ref.{Ref}
use Rattle.lava_base.specs.declared.marks.Marks.{Marks}
use Rattle.js_text.specs.Naming.{Naming, Origin, Own, Common, Foreign, naming_of}
use Rattle.js_text.specs.declared.value.Value.{Value}
use Rattle.js_text.specs.declared.value.Value.TheVariants as value
use Rattle.js_store.specs.Foreign.{marks_of}
use Rattle.js_store.specs.Objects.{object_at}
use Rattle.js_machine.specs.Views.{View}

-- the marks of an object: of an own one and one of the common part in its record, of a foreign one as they are known
abbrev pub marks_at : View → Ref → Origin → Marks
marks_at w r (Own i) = (object_at w.objects i).marks
marks_at w r (Common c) = (object_at w.common c).marks
marks_at w r Foreign = marks_of same_ref r w.known

abbrev pub marks_in : View → Ref → Marks
marks_in w r = marks_at w r ((naming_of w.me).origin r)

-- the foreign object that a value is
abbrev pub foreign_at : Ref → Origin → Option Ref
foreign_at r (Own i) = None
foreign_at r (Common c) = None
foreign_at r Foreign = Some r

abbrev pub foreign_in : Naming Ref MadeSymbol → Value Ref MadeSymbol → Option Ref
foreign_in names (value.Ref r) = foreign_at r (names.origin r)
foreign_in names v = None
