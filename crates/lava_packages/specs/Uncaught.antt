-- What a run throws that nothing catches, as the host prints it.
use Rattle.std.specs.Prelude.{◌≡◌, ◌<◌, ℕ, List, length, Option, Some, None}
use Rattle.std.specs.Option.{option_map}
use Rattle.lava_base.specs.Ids.{same_ref}
use Rattle.lava_base.specs.declared.ids.MadeSymbol.{MadeSymbol}
use Rattle.lava_base.specs.declared.ids.Ref.{Ref}
use Rattle.lava_base.specs.declared.marks.Marks.{Marks}
use Rattle.js_text.specs.Naming.{Origin, Own, Common, Foreign, origin_of}
use Rattle.js_text.specs.declared.value.Value.{Value}
use Rattle.js_desc.specs.declared.reply.Reply.{Reply}
use Rattle.js_desc.specs.declared.reply.Reply.TheVariants as reply
use Rattle.js_store.specs.Foreign.{marks_of}
use Rattle.js_store.specs.Objects.{object_at}
use Rattle.lava_start.specs.js_run.Heap.{World}
use Rattle.lava_start.specs.js_run.Journal.{Application, foreign_of}
use Rattle.lava_start.specs.js_machine.Looks.{marks_in}
use Rattle.lava_start.specs.js_machine.Views.{View}
use Rattle.lava_start.specs.js_world.Worlds.{WorldView, last_reply, turned}
use Rattle.lava_host.specs.Printed.{printed_reference, printed_value}

abbrev pub Thrown : Type 0
Thrown = Value Ref MadeSymbol

abbrev pub thrown_by : Reply Ref MadeSymbol → Option Thrown
thrown_by (reply.Throw v) = Some v
thrown_by r = None

abbrev pub thrown_in : Option (Reply Ref MadeSymbol) → Option Thrown
thrown_in None = None
thrown_in (Some r) = thrown_by r

-- IN A WORLD OF THE DEFINITIONS

-- the marks of an object as the host sees it: of its own and of those of the common part as they stand, of others as they came with the crossings
abbrev pub marks_there : Application → World → Ref → Origin → Marks
marks_there app w r (Own i) = (object_at (w.own 0).objects i).marks
marks_there app w r (Common c) = (object_at app.shared.objects c).marks
marks_there app w r Foreign = marks_of same_ref r (foreign_of app w.journal)

abbrev pub host_marks : Application → World → Ref → Marks
host_marks app w r = marks_there app w r (origin_of 0 r)

-- a value as `console` prints it
abbrev pub shown : Application → World → Thrown → List ℕ
shown app w v = printed_value (λ r. printed_reference (host_marks app w r)) v

-- what the newest crossing throws, as `console` prints it
-- own: what is told of what nothing catches
abbrev pub uncaught_of : Application → World → Option (List ℕ)
uncaught_of app w = option_map (shown app w) (thrown_in (last_reply w.journal))

-- IN THE MACHINE

abbrev pub shown_in : View → Thrown → List ℕ
shown_in m v = printed_value (λ r. printed_reference (marks_in m r)) v

abbrev pub uncaught_in : WorldView → Option (List ℕ)
uncaught_in v = option_map (shown_in (turned 0 v).machine) (thrown_in v.last)

-- what is told of it, where the machine can turn to the host
pub record IsUncaughtIn (v : WorldView) (text : Option (List ℕ)) : Type 0 where
  pub is : text ≡ uncaught_in v
  pub here : v.machine.me < length v.others
  pub host : 0 < length v.others
