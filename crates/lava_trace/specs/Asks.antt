-- What crosses, as it is read.
use Rattle.std.specs.Prelude.{ℕ, ◌==◌, if◌then◌else◌, List, [], ◌∷◌, codes, length, Option, Some, None}
use Rattle.lava_base.specs.declared.ids.MadeSymbol.{MadeSymbol}
use Rattle.lava_base.specs.declared.ids.Ref.{Ref}
use Rattle.js_text.specs.Texts.{same_units}
use Rattle.js_text.specs.Natives.{native_name}
use Rattle.js_text.specs.declared.native.Native.{Native}
use Rattle.js_text.specs.declared.native.Native.TheVariants as native
use Rattle.js_text.specs.declared.value.Value.TheVariants as value
use Rattle.js_desc.specs.declared.ask.Ask.{Ask}
use Rattle.js_desc.specs.declared.ask.Ask.TheVariants as ask
use Rattle.js_desc.specs.declared.crossing.CrossBody.{CrossBody}
use Rattle.js_desc.specs.declared.crossing.CrossBody.TheVariants as body
use Rattle.js_desc.specs.declared.crossing.Crossing.{Crossing}
use Rattle.js_desc.specs.declared.reply.Reply.{Reply}
use Rattle.js_desc.specs.declared.reply.Reply.TheVariants as reply
use Rattle.lava_trace.specs.Left.{Got, Left, byte_at, number_at, party_at, skipped, word_at}
use Rattle.lava_trace.specs.Items.{fields_at, globals_at, keys_at, modules_at, object_at, object_or_word_at, property_at, spaced_key_at, spaced_text_at, spaced_value_at, truth_at, value_at, values_at}
use Rattle.lava_trace.specs.declared.answers.AnswerKind.{AnswerKind}
use Rattle.lava_trace.specs.declared.answers.AnswerKind.TheVariants as kind
use Rattle.lava_trace.specs.declared.asks.MethodName.{MethodName}
use Rattle.lava_trace.specs.declared.asks.MethodName.TheVariants as method
use Rattle.lava_trace.specs.declared.natives.TheConstants.{NATIVES}

-- METHODS

-- a method by its name
unfoldable pub method_of : List ℕ → MethodName
method_of w =
    if same_units w (codes "GetPrototypeOf") then method.GetPrototypeOf
    else if same_units w (codes "SetPrototypeOf") then method.SetPrototypeOf
    else if same_units w (codes "IsExtensible") then method.IsExtensible
    else if same_units w (codes "PreventExtensions") then method.PreventExtensions
    else if same_units w (codes "GetOwnProperty") then method.GetOwnProperty
    else if same_units w (codes "DefineOwnProperty") then method.DefineOwnProperty
    else if same_units w (codes "HasProperty") then method.HasProperty
    else if same_units w (codes "Get") then method.Get
    else if same_units w (codes "Set") then method.Set
    else if same_units w (codes "Delete") then method.Delete
    else if same_units w (codes "OwnPropertyKeys") then method.OwnPropertyKeys
    else if same_units w (codes "Call") then method.Call
    else if same_units w (codes "Construct") then method.Construct
    else if same_units w (codes "Import") then method.Import
    else if same_units w (codes "Slot") then method.Slot
    else if same_units w (codes "Make") then method.Make
    else if same_units w (codes "Queue") then method.Queue
    else method.Turn

-- the first of some natives with a name, and else another one
unfoldable pub native_from : Native → List ℕ → List Native → Native
native_from other w [] = other
native_from other w (n ∷ ns) = if same_units w (native_name n) then n else native_from other w ns

-- a native by its name
unfoldable pub native_of : List ℕ → Native
native_of w = native_from native.GetProto w NATIVES

-- ASKS

-- what stands before the target: the native of a Slot
unfoldable pub native_at : MethodName → Left → Got Native
native_at method.Slot l = (native_of (word_at (skipped 1 l)), skipped (length (word_at (skipped 1 l))) (skipped 1 l))
native_at _ l = (native.GetProto, l)

unfoldable pub spaced_object_at : Left → Got Ref
spaced_object_at l = object_at (skipped 1 l)

unfoldable pub spaced_target_at : Left → Got (Option Ref)
spaced_target_at l = (Some (spaced_object_at l).0, (spaced_object_at l).1)

-- the target, which four methods do not have
unfoldable pub target_at : MethodName → Left → Got (Option Ref)
target_at method.Import l = (None, l)
target_at method.Make l = (None, l)
target_at method.Queue l = (None, l)
target_at method.Turn l = (None, l)
target_at _ l = spaced_target_at l

unfoldable pub proto_at : Left → Got (Ask Ref MadeSymbol)
proto_at l = (ask.SetPrototypeOf (object_or_word_at 4 (skipped 1 l)).0, (object_or_word_at 4 (skipped 1 l)).1)

unfoldable pub define_at : Left → Got (Ask Ref MadeSymbol)
define_at l =
    let key = spaced_key_at l in
    let fields = fields_at (skipped 1 key.1) in
    (ask.DefineOwnProperty key.0 fields.0, fields.1)

unfoldable pub get_at : Left → Got (Ask Ref MadeSymbol)
get_at l =
    let key = spaced_key_at l in
    let receiver = spaced_value_at key.1 in
    (ask.Get key.0 receiver.0, receiver.1)

unfoldable pub set_at : Left → Got (Ask Ref MadeSymbol)
set_at l =
    let key = spaced_key_at l in
    let value = spaced_value_at key.1 in
    let receiver = spaced_value_at value.1 in
    (ask.Set key.0 value.0 receiver.0, receiver.1)

unfoldable pub call_at : Left → Got (Ask Ref MadeSymbol)
call_at l =
    let this = spaced_value_at l in
    let args = values_at this.1 in
    (ask.Call this.0 args.0, args.1)

unfoldable pub construct_at : Left → Got (Ask Ref MadeSymbol)
construct_at l =
    let target = spaced_object_at l in
    let args = values_at target.1 in
    (ask.Construct target.0 args.0, args.1)

unfoldable pub import_at : Left → Got (Ask Ref MadeSymbol)
import_at l =
    let link = spaced_text_at l in
    let path = spaced_text_at link.1 in
    (ask.Import link.0 path.0, path.1)

unfoldable pub make_at : Left → Got (Ask Ref MadeSymbol)
make_at l =
    let globals = globals_at l in
    let modules = modules_at globals.1 in
    (ask.Make globals.0 modules.0, modules.1)

-- the items behind the target
unfoldable pub items_at : MethodName → Native → Left → Got (Ask Ref MadeSymbol)
items_at method.GetPrototypeOf which l = (ask.GetPrototypeOf, l)
items_at method.SetPrototypeOf which l = proto_at l
items_at method.IsExtensible which l = (ask.IsExtensible, l)
items_at method.PreventExtensions which l = (ask.PreventExtensions, l)
items_at method.GetOwnProperty which l = (ask.GetOwnProperty (spaced_key_at l).0, (spaced_key_at l).1)
items_at method.DefineOwnProperty which l = define_at l
items_at method.HasProperty which l = (ask.HasProperty (spaced_key_at l).0, (spaced_key_at l).1)
items_at method.Get which l = get_at l
items_at method.Set which l = set_at l
items_at method.Delete which l = (ask.Delete (spaced_key_at l).0, (spaced_key_at l).1)
items_at method.OwnPropertyKeys which l = (ask.OwnPropertyKeys, l)
items_at method.Call which l = call_at l
items_at method.Construct which l = construct_at l
items_at method.Import which l = import_at l
items_at method.Slot which l = (ask.Slot which (values_at l).0, (values_at l).1)
items_at method.Make which l = make_at l
items_at method.Queue which l = (ask.Queue, l)
items_at method.Turn which l = (ask.Turn, l)

-- a method by its name, the native of a Slot, the target if it has one, and its items
unfoldable pub named_ask_at : MethodName → Left → Got (CrossBody Ref MadeSymbol)
named_ask_at m l =
    let which = native_at m l in
    let target = target_at m which.1 in
    let items = items_at m which.0 target.1 in
    (body.Ask target.0 items.0, items.1)

unfoldable pub ask_at : Left → Got (CrossBody Ref MadeSymbol)
ask_at l = named_ask_at (method_of (word_at l)) (skipped (length (word_at l)) l)

-- ANSWERS

-- the kind of the answer to an ask
abbrev pub kind_of : Ask Ref MadeSymbol → AnswerKind
kind_of ask.GetPrototypeOf = kind.Prototype
kind_of (ask.SetPrototypeOf p) = kind.Truth
kind_of ask.IsExtensible = kind.Truth
kind_of ask.PreventExtensions = kind.Truth
kind_of (ask.GetOwnProperty k) = kind.Property
kind_of (ask.DefineOwnProperty k d) = kind.Truth
kind_of (ask.HasProperty k) = kind.Truth
kind_of (ask.Get k receiver) = kind.Value
kind_of (ask.Set k v receiver) = kind.Truth
kind_of (ask.Delete k) = kind.Truth
kind_of ask.OwnPropertyKeys = kind.Keys
kind_of (ask.Call this args) = kind.Value
kind_of (ask.Construct target args) = kind.Object
kind_of (ask.Import link path) = kind.Value
kind_of (ask.Slot which args) = kind.Value
kind_of (ask.Make globals modules) = kind.Object
kind_of ask.Queue = kind.Undefined
kind_of ask.Turn = kind.Undefined

-- an answer of a kind
unfoldable pub answer_at : AnswerKind → Left → Got (Reply Ref MadeSymbol)
answer_at kind.Value l = (reply.Value (value_at l).0, (value_at l).1)
answer_at kind.Object l = (reply.Value (value.Ref (object_at l).0), (object_at l).1)
answer_at kind.Undefined l = (reply.Value value.Undefined, skipped 9 l)
answer_at kind.Prototype l = (reply.Proto (object_or_word_at 4 l).0, (object_or_word_at 4 l).1)
answer_at kind.Truth l = (reply.Flag (truth_at l).0, (truth_at l).1)
answer_at kind.Property l = (reply.Desc (property_at l).0, (property_at l).1)
answer_at kind.Keys l = (reply.Keys (keys_at l).0, (keys_at l).1)

-- what crosses, where an answer is one of this kind: `ask `, `answer ` or `throw `, and what stands behind it
unfoldable pub body_at : AnswerKind → Left → Got (CrossBody Ref MadeSymbol)
body_at kind l =
    if byte_at l 0 == 116 then (body.Answer (reply.Throw (value_at (skipped 6 l)).0), (value_at (skipped 6 l)).1)
    else if byte_at l 1 == 115 then ask_at (skipped 4 l)
    else (body.Answer (answer_at kind (skipped 7 l)).0, (answer_at kind (skipped 7 l)).1)

-- the line of a crossing: `I S>R BODY`
unfoldable pub crossing_at : AnswerKind → Left → Got (Crossing Ref MadeSymbol)
crossing_at kind l =
    let number = number_at l in
    let from = party_at (skipped 1 number.1) in
    let to = party_at (skipped 1 from.1) in
    let what = body_at kind (skipped 1 to.1) in
    (record { from = from.0; to = to.0; body = what.0 }, what.1)
