-- The newest crossing, with the marks of the references that it names: what a trace writes a line of.
use Rattle.std.specs.Prelude.{◌≡◌, ℕ, Bool, true, nat_eq, List, [], ◌∷◌, ◌++◌, map, Option, Some, None, if◌then◌else◌}
use Rattle.std.specs.Option.{unwrap_or}
use Rattle.lava_base.specs.declared.ids.MadeSymbol.{MadeSymbol}
use Rattle.lava_base.specs.declared.ids.Ref.{Ref}
use Rattle.lava_base.specs.declared.ids.Ref.TheVariants as reference
use Rattle.lava_base.specs.declared.marks.Marks.{Marks}
use Rattle.js_text.specs.Identities.{Identity, Of_object, Of_symbol}
use Rattle.js_text.specs.declared.value.Value.{Value}
use Rattle.js_text.specs.declared.value.Value.TheVariants as value
use Rattle.js_desc.specs.declared.ask.Ask.{Ask}
use Rattle.js_desc.specs.declared.ask.Ask.TheVariants as ask
use Rattle.js_desc.specs.declared.crossing.CrossBody.{CrossBody}
use Rattle.js_desc.specs.declared.crossing.CrossBody.TheVariants as body
use Rattle.js_desc.specs.declared.crossing.Crossing as desc
use Rattle.js_desc.specs.declared.descriptor.Descriptor.{Descriptor}
use Rattle.js_desc.specs.declared.descriptor.Descriptor.TheVariants.{Data, Accessor}
use Rattle.js_desc.specs.declared.descriptor.PartialDescriptor.{PartialDescriptor}
use Rattle.js_desc.specs.declared.reply.Reply.{Reply}
use Rattle.js_desc.specs.declared.reply.Reply.TheVariants as reply
use Rattle.js_store.specs.Objects.{object_at, plain_marks}
use Rattle.js_machine.specs.js_run.Identities.{Message, Requests, Replies, message_identities}
use Rattle.js_machine.specs.js_run.Journal.{Application, Crossing, find_mark, owner_of, table_of}
use Rattle.js_machine.specs.js_run.Runs.{Asks, Imports, Makes}
use Rattle.js_machine.specs.Looks.{marks_in}
use Rattle.js_machine.specs.Views.{View}
use Rattle.js_crossing.specs.declared.newest.TracedCrossing.{TracedCrossing}

-- IN A JOURNAL

-- what crosses, as it is written
abbrev pub body_of : Message Ref MadeSymbol → CrossBody Ref MadeSymbol
body_of (Requests (Asks r x)) = body.Ask (Some r) x
body_of (Requests (Imports link path)) = body.Ask None (ask.Import link path)
body_of (Requests (Makes globals modules meter)) = body.Ask None (ask.Make globals modules)
body_of (Replies r) = body.Answer r

-- who sends what to whom
abbrev pub crossing_between : (from to : ℕ) → CrossBody Ref MadeSymbol → desc.Crossing Ref MadeSymbol
crossing_between from to b = record { from = record { 0 = from }; to = record { 0 = to }; body = b }

abbrev pub crossing_of : Crossing → desc.Crossing Ref MadeSymbol
crossing_of x = crossing_between x.sender x.receiver (body_of x.sent.body)

-- the references among objects and symbols
abbrev pub references_in : List (Identity Ref MadeSymbol) → List Ref
references_in [] = []
references_in (Of_object r ∷ xs) = r ∷ references_in xs
references_in (Of_symbol s ∷ xs) = references_in xs

-- the marks of a reference in the newest crossing of a journal: of the common part as its objects have them, of the sender's own objects as they are sent with the crossing, of others as they came before
-- own: marks in a trace
abbrev pub marks_at_crossing : Application → Crossing → (journal : List Crossing) → Ref → Marks
marks_at_crossing app x journal (reference.Common c) = (object_at app.shared.objects c.0).marks
marks_at_crossing app x journal (reference.Own p i) =
    if nat_eq p.0 x.sender then unwrap_or (find_mark (reference.Own p i) x.sent.marks) plain_marks else table_of app journal (reference.Own p i)

-- each reference with its marks
abbrev pub with_their_marks : (Ref → Marks) → List Ref → List (Ref × Marks)
with_their_marks marks rs = map (λ r. (r, marks r)) rs

-- the newest crossing of a journal, with the marks of each reference in it
abbrev pub newest_crossing : Application → List Crossing → Option TracedCrossing
newest_crossing app [] = None
newest_crossing app (x ∷ older) =
    Some (record { crossing = crossing_of x; marks = with_their_marks (marks_at_crossing app x (x ∷ older)) (references_in (message_identities x.sent.body)) })

-- IN WHAT IS SENT

abbrev pub option_references : Option Ref → List Ref
option_references None = []
option_references (Some r) = r ∷ []

abbrev pub field_references : Option (Option Ref) → List Ref
field_references None = []
field_references (Some o) = option_references o

abbrev pub value_references : Value Ref MadeSymbol → List Ref
value_references (value.Ref r) = r ∷ []
value_references v = []

abbrev pub maybe_references : Option (Value Ref MadeSymbol) → List Ref
maybe_references None = []
maybe_references (Some v) = value_references v

abbrev pub all_references : List (Value Ref MadeSymbol) → List Ref
all_references [] = []
all_references (v ∷ vs) = value_references v ++ all_references vs

abbrev pub descriptor_references : Descriptor Ref MadeSymbol → List Ref
descriptor_references (Data v w e c) = value_references v
descriptor_references (Accessor g s e c) = option_references g ++ option_references s

abbrev pub property_references : Option (Descriptor Ref MadeSymbol) → List Ref
property_references None = []
property_references (Some d) = descriptor_references d

abbrev pub partial_references : PartialDescriptor Ref MadeSymbol → List Ref
partial_references d = maybe_references d.value ++ (field_references d.get ++ field_references d.set)

-- those in an ask that makes no party, without its target
abbrev pub ask_references : Ask Ref MadeSymbol → List Ref
ask_references (ask.SetPrototypeOf p) = option_references p
ask_references (ask.DefineOwnProperty k d) = partial_references d
ask_references (ask.Get k receiver) = value_references receiver
ask_references (ask.Set k v receiver) = value_references v ++ value_references receiver
ask_references (ask.Call this args) = value_references this ++ all_references args
ask_references (ask.Construct target args) = target ∷ all_references args
ask_references (ask.Slot which args) = all_references args
ask_references x = []

abbrev pub reply_references : Reply Ref MadeSymbol → List Ref
reply_references (reply.Value v) = value_references v
reply_references (reply.Proto p) = option_references p
reply_references (reply.Desc d) = property_references d
reply_references (reply.Throw v) = value_references v
reply_references r = []

-- IN THE MACHINE OF THE SENDER

abbrev pub traced_ask : View → Ref → Ask Ref MadeSymbol → TracedCrossing
traced_ask m r x = record { crossing = crossing_between m.me (owner_of r) (body.Ask (Some r) x); marks = with_their_marks (marks_in m) (r ∷ ask_references x) }

abbrev pub traced_reply : View → (to : ℕ) → Reply Ref MadeSymbol → TracedCrossing
traced_reply m to r = record { crossing = crossing_between m.me to (body.Answer r); marks = with_their_marks (marks_in m) (reply_references r) }

abbrev pub traced_import : (from to : ℕ) (link path : List ℕ) → TracedCrossing
traced_import from to link path = record { crossing = crossing_between from to (body.Ask None (ask.Import link path)); marks = [] }
