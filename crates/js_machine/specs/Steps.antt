-- What each step of a machine does.
use Rattle.std.specs.Prelude.{◌≡◌, ℕ, Bool, nat_eq, not, List, [], ◌∷◌, ◌++◌, length, Some, codes}
use Rattle.lava_base.specs.declared.ids.MadeSymbol.{MadeSymbol}
use Rattle.lava_base.specs.declared.ids.Ref.{Ref}
use Rattle.js_text.specs.Naming.{Naming, Origin, Own, Common, Foreign, naming_of}
use Rattle.js_text.specs.declared.value.Key.{Key}
use Rattle.js_text.specs.declared.value.Key.TheVariants as key
use Rattle.js_text.specs.declared.value.Value.{Value}
use Rattle.js_text.specs.declared.value.Value.TheVariants as value
use Rattle.js_desc.specs.declared.ask.Ask.{Ask}
use Rattle.js_desc.specs.declared.fault.NativeError.{NativeError}
use Rattle.js_desc.specs.declared.reply.Reply.{Reply}
use Rattle.js_desc.specs.declared.reply.Reply.TheVariants as reply
use Rattle.js_code.specs.Decoded.{layer_of, term_at}
use Rattle.js_code.specs.declared.node.Node.{Node}
use Rattle.js_operation.specs.js_run.Acts.{Act, Evaluate, Next, Pay, asks, asks_value}
use Rattle.js_operation.specs.js_run.Completions.{Completion, Replied}
use Rattle.js_operation.specs.js_run.Decisions.{decides}
use Rattle.js_operation.specs.js_run.Faults.{error_marks, error_object, error_prototype, hidden_unless}
use Rattle.js_operation.specs.js_run.Going.{go_on}
use Rattle.js_operation.specs.js_run.Hosts.{outside_answers}
use Rattle.js_operation.specs.js_run.Parties.{Party}
use Rattle.js_operation.specs.js_run.Rows.{row, row_at}
use Rattle.js_operation.specs.js_run.Runs.{Asks, Imports, Begins, Decides, Due, Ended, Gives, Move, Nothing, Point, Sends, answered, settle}
use Rattle.js_store.specs.Objects.{Object}
use Rattle.js_store.specs.declared.slot.Slot.TheVariants as slot
use Rattle.js_machine.specs.Halts.{halt_coded}
use Rattle.js_machine.specs.Views.{Around, Values, View, below, completion_with, fitting, halt_of, knows, next_of_wait, next_over, nexts_of, party_of, reply_of_answer, rest_of, top, values_without, waits_under}
use Rattle.js_machine.specs.declared.asked.Wait.{Wait}
use Rattle.js_machine.specs.declared.frame.Frame.{Frame}
use Rattle.js_machine.specs.declared.frame.Mode.{Mode}
use Rattle.js_machine.specs.declared.frame.Mode.TheVariants as mode

-- a move over the frames of a machine, where it has these values
abbrev pub settles : Around → View → Values → Move Ref MadeSymbol → Point Ref MadeSymbol
settles a w vs x = settle (naming_of w.me) a.shared a.env (nexts_of (naming_of w.me) a.shared w.code w.frames vs w.waits) x

-- a completion comes to the newest frame
abbrev pub comes : Around → View → Mode → Point Ref MadeSymbol
comes a w m = settles a w (values_without m w.values) (Gives (completion_with w.code m (top w.values)) (party_of a w))

-- an ask that waits for its step, or that is sent where the object is a foreign one
abbrev pub asked_there : Origin → Ref → Ask Ref MadeSymbol → Party Ref MadeSymbol → List (Next Ref MadeSymbol) → Point Ref MadeSymbol
asked_there (Own i) r x p ks = Due 0 (Decides (value.Ref r) x) p ks
asked_there (Common c) r x p ks = Due 0 (Decides (value.Ref r) x) p ks
asked_there Foreign r x p ks = Sends (Asks r x) p ks

abbrev pub asked_at : Naming Ref MadeSymbol → Value Ref MadeSymbol → Ask Ref MadeSymbol → Party Ref MadeSymbol → List (Next Ref MadeSymbol) → Point Ref MadeSymbol
asked_at names (value.Ref r) x p ks = asked_there (names.origin r) r x p ks
asked_at names v x p ks = Due 0 (Decides v x) p ks

-- the outside answers the newest call
abbrev pub outside_point : Around → View → Point Ref MadeSymbol
outside_point a w = settles a w w.values (answered (naming_of w.me) a.env (outside_answers (naming_of w.me) a.shared (party_of a w) (a.env.outside w.calls)))

-- where the machine stands
abbrev pub point_of : Around → View → Mode → Point Ref MadeSymbol
point_of a w (mode.Eval at) = Due 0 (Begins (term_at w.code at)) (party_of a w) (nexts_of (naming_of w.me) a.shared w.code w.frames w.values w.waits)
point_of a w mode.Ask = asked_at (naming_of w.me) w.asked.target w.asked.ask (party_of a w) (nexts_of (naming_of w.me) a.shared w.code w.frames w.values w.waits)
point_of a w mode.Answer = settles a w w.values (Gives (Replied (reply_of_answer w.answer)) (party_of a w))
point_of a w (mode.End n) = Ended (halt_of (halt_coded n))
point_of a w (mode.Pay n) = Due n Nothing (party_of a w) (nexts_of (naming_of w.me) a.shared w.code w.frames w.values w.waits)
point_of a w (mode.Serve n) = Due n (Decides w.asked.target w.asked.ask) (party_of a w) (nexts_of (naming_of w.me) a.shared w.code w.frames w.values w.waits)
point_of a w mode.Import = Sends (Imports w.imported.link w.imported.path) (party_of a w) (nexts_of (naming_of w.me) a.shared w.code w.frames w.values w.waits)
point_of a w mode.Outside = outside_point a w
point_of a w m = comes a w m

-- an act, whatever stands around the party
abbrev pub Deed : Type 0
Deed = Around → Act Ref MadeSymbol

-- the party and its code stay, and what the machine knows of others
abbrev pub Keeps : (old new : View) → Type 0
Keeps old new = (new.me ≡ old.me) × ((new.code ≡ old.code) × ((new.common ≡ old.common) × ((new.common_templates ≡ old.common_templates) × (knows new ≡ knows old))))

-- the machine stands where an act leads, whatever stands around
pub record LeadsTo (deed : Deed) (old new : View) (m : Mode) : Type 0 where
  pub leads : (a : Around) → let b = fitting old a in point_of b new m ≡ settles b old old.values (answered (naming_of old.me) b.env (deed b))
  pub keeps : Keeps old new

-- the machine without what is a frame's own
abbrev pub under : Frame → View → View
under f w = record w { values = rest_of f w.values; waits = waits_under f w.waits }

-- what a frame of the machine goes on with
abbrev pub over : Frame → View → Around → Next Ref MadeSymbol
over f w a = next_over (naming_of w.me) a.shared w.code f w.values w.waits

abbrev pub without_top : View → View
without_top w = record w { values = below w.values }

abbrev pub with_top : Value Ref MadeSymbol → View → View
with_top v w = record w { values = v ∷ w.values }

-- a form is evaluated, and a frame waits for it
abbrev pub Waits : Frame → ℕ → (old new : View) → Mode → Type 0
Waits f at old new m = LeadsTo (λ a. Evaluate (term_at old.code at) (party_of a old) (over f old a)) (under f old) new m

abbrev pub WaitsWith : Value Ref MadeSymbol → Frame → ℕ → (old new : View) → Mode → Type 0
WaitsWith v f at old new m = Waits f at (with_top v old) new m

-- an object is asked, and a frame waits for its answer
abbrev pub WaitsFor : Frame → Ref → Ask Ref MadeSymbol → (old new : View) → Mode → Type 0
WaitsFor f o x old new m = LeadsTo (λ a. asks (naming_of old.me) o x (party_of a old) (over f old a)) (under f old) new m

-- a value is asked, and a frame waits for its answer
abbrev pub WaitsForValue : Frame → Value Ref MadeSymbol → Ask Ref MadeSymbol → (old new : View) → Mode → Type 0
WaitsForValue f v x old new m = LeadsTo (λ a. asks_value (naming_of old.me) v x (party_of a old) (over f old a)) (under f old) new m

-- so much and one is to be paid, and a frame waits
abbrev pub Pays : ℕ → Frame → (old new : View) → Mode → Type 0
Pays n f old new m = LeadsTo (λ a. Pay n (party_of a old) (over f old a)) (under f old) new m

-- what waits goes on with a reply
abbrev pub Wakes : Wait → Reply Ref MadeSymbol → (old new : View) → Mode → Type 0
Wakes w y old new m = LeadsTo (λ a. go_on (naming_of old.me) a.shared (next_of_wait (naming_of old.me) a.shared old.code w) (Replied y) (party_of a old)) old new m

-- the ask of the machine is decided
pub record IsDecided (old new : View) (m : Mode) : Type 0 where
  pub leads : LeadsTo (λ a. decides (naming_of old.me) a.shared old.asked.target old.asked.ask (party_of a old)) old new m

-- what the row of a node says
abbrev pub deed_of_row : Node → View → Deed
deed_of_row n w = λ a. row_at (naming_of w.me) a.shared (layer_of w.code (term_at w.code) n) (party_of a w)

-- what a frame does with a value
abbrev pub deed_with : Frame → Value Ref MadeSymbol → View → Deed
deed_with f v w = λ a. go_on (naming_of w.me) a.shared (over f w a) (Replied (reply.Value v)) (party_of a w)

-- what a frame does with the newest value
abbrev pub deed_of_frame : Frame → View → Deed
deed_of_frame f w = λ a. go_on (naming_of w.me) a.shared (over f (without_top w) a) (Replied (reply.Value (top w.values))) (party_of a w)

-- what goes on with the newest value leads there
abbrev pub GoesOn : ((a : Around) → Value Ref MadeSymbol → Party Ref MadeSymbol → Act Ref MadeSymbol) → (old new : View) → Mode → Type 0
GoesOn go old new m = LeadsTo (λ a. go a (top old.values) (party_of a old)) (record old { values = below old.values }) new m

-- what goes on with the completion that comes leads there
abbrev pub Follows : ((a : Around) → Completion Ref MadeSymbol → Party Ref MadeSymbol → Act Ref MadeSymbol) → Mode → (old new : View) → Mode → Type 0
Follows go m old new after = LeadsTo (λ a. go a (completion_with old.code m (top old.values)) (party_of a old)) (record old { values = values_without m old.values }) new after

-- the row of the form at a place leads there
pub record IsBegun (at : ℕ) (old new : View) (m : Mode) : Type 0 where
  pub leads : LeadsTo (λ a. row (naming_of old.me) a.shared (term_at old.code at) (party_of a old)) old new m

-- a completion came to a frame that was taken off, and the machine stands where it stood before that
pub record IsDelivered (f : Frame) (m : Mode) (old new : View) (after : Mode) : Type 0 where
  pub stands : (a : Around) → point_of (fitting old a) new after ≡ point_of (fitting old a) (record old { frames = f ∷ old.frames }) m
  pub keeps : Keeps old new

-- a new error is thrown
abbrev pub with_error : NativeError → (message : List ℕ) → View → View
with_error error message w = record w {
  objects = w.objects ++ error_object (naming_of w.me) (nat_eq w.me 0) (error_prototype error) message ∷ [];
  values = value.Ref ((naming_of w.me).own (length w.objects)) ∷ w.values;
}

abbrev pub message_key : Key MadeSymbol
message_key = key.Text (codes "message")

-- an error with this prototype, without a message so far
abbrev pub bare_error : (frozen : Bool) → Ref → Object Ref MadeSymbol
bare_error frozen prototype = record { prototype = Some prototype; extensible = not frozen; properties = []; slot = slot.Plain; marks = error_marks }

-- an error with this prototype and message
abbrev pub error_with : (frozen : Bool) → Ref → List ℕ → Object Ref MadeSymbol
error_with frozen prototype message =
    record { prototype = Some prototype; extensible = not frozen; properties = hidden_unless frozen message_key (value.Text message) ∷ []; slot = slot.Plain; marks = error_marks }
