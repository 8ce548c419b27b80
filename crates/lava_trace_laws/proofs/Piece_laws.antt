-- No form of a crossing has an LF among its pieces.
use Rattle.std.proofs.Common.{◌≡◌, ℕ, pos, negsuc, suc, ◌<◌, ◌^◌, Bool, true, false, List, [], ◌∷◌, ◌++◌, codes, decimal, length, map, Option, Some, None, refl, arith}
use Rattle.std.proofs.lemmas.Bool.{and_from}
use Rattle.std.specs.List.{AllByRecursion, flat_map}
use Rattle.lava_base.specs.declared.ids.MadeSymbol.{MadeSymbol}
use Rattle.lava_base.specs.declared.ids.Ref.{Ref}
use Rattle.js_text.specs.Natives.{native_name}
use Rattle.js_text.specs.declared.native.Native.{Native}
use Rattle.js_text.specs.declared.native.Native.TheVariants as native
use Rattle.js_text.specs.declared.value.Key.{Key}
use Rattle.js_text.specs.declared.value.Key.TheVariants as key
use Rattle.js_text.specs.declared.value.Symbol.{Symbol}
use Rattle.js_text.specs.declared.value.Symbol.TheVariants as symbol
use Rattle.js_text.specs.declared.value.Value.{Value}
use Rattle.js_text.specs.declared.value.Value.TheVariants as value
use Rattle.js_desc.specs.Asks.{ask_name}
use Rattle.js_desc.specs.Descriptors.{fields_of}
use Rattle.js_desc.specs.declared.ask.Ask.{Ask}
use Rattle.js_desc.specs.declared.ask.Ask.TheVariants as ask
use Rattle.js_desc.specs.declared.crossing.CrossBody.{CrossBody}
use Rattle.js_desc.specs.declared.crossing.CrossBody.TheVariants as body
use Rattle.js_desc.specs.declared.crossing.Crossing.{Crossing}
use Rattle.js_desc.specs.declared.descriptor.Descriptor.{Descriptor}
use Rattle.js_desc.specs.declared.descriptor.PartialDescriptor.{PartialDescriptor}
use Rattle.js_desc.specs.declared.reply.Reply.{Reply}
use Rattle.js_desc.specs.declared.reply.Reply.TheVariants as reply
use Rattle.lava_journal.specs.Bodies.{Pieces, all_fields, all_spaced, ask_pieces, body_pieces, field, fields_pieces, global_items, items, key_pieces, keys_pieces, module_items, native_items, object_or_null, object_or_undefined, parted, plain, property_pieces, spaced, symbol_pieces, target_items, truth_pieces, value_pieces}
use Rattle.lava_journal.specs.Lines.{head_pieces}
use Rattle.lava_journal.specs.Quotes.{quoted}
use Rattle.lava_trace.specs.declared.answers.AnswerKind.{AnswerKind}
use Rattle.lava_trace_laws.specs.Sound.{Sound_ask, Sound_body, Sound_crossing, Sound_global, Sound_key, Sound_module, Sound_partial, Sound_property, Sound_reply, Sound_value}
use Rattle.lava_trace_laws.proofs.Clean_laws.{clean, clean_append, clean_pieces, number_clean, pieces_append, text_clean}
use Rattle.lava_trace_laws.proofs.Value_laws.{not_over, not_under}

abbrev Clean : Pieces Ref MadeSymbol → Type 0
Clean ps = clean_pieces ps ≡ true

one_clean : (bs : List ℕ) → clean bs ≡ true → Clean (plain bs)
one_clean bs h = and_from (clean bs) true h refl

-- VALUES

truth_clean : (b : Bool) → Clean (truth_pieces b)
truth_clean true = refl
truth_clean false = refl

symbol_clean : (s : Symbol MadeSymbol) → Clean (symbol_pieces s)
symbol_clean symbol.Iterator = refl
symbol_clean (symbol.Registered t) = one_clean (quoted t) (text_clean t)
symbol_clean (symbol.Made s) = refl

key_clean : (k : Key MadeSymbol) → Sound_key k → Clean (key_pieces k)
key_clean (key.Index n) o = one_clean (34 ∷ (decimal n ++ 34 ∷ [])) (clean_append (decimal n) (34 ∷ []) (number_clean n (omega (arith, o))) refl)
key_clean (key.Text t) o = one_clean (quoted t) (text_clean t)
key_clean (key.Symbol s) o = symbol_clean s

value_clean : (v : Value Ref MadeSymbol) → Sound_value v → Clean (value_pieces v)
value_clean value.Undefined o = refl
value_clean value.Null o = refl
value_clean (value.Bool b) o = truth_clean b
value_clean (value.Int (pos n)) o = one_clean (decimal n) (number_clean n (let l = not_over n o in omega (arith, l)))
value_clean (value.Int (negsuc n)) o = one_clean (45 ∷ decimal (suc n)) (number_clean (suc n) (let l = not_under n o in omega (arith, l)))
value_clean (value.Text t) o = one_clean (quoted t) (text_clean t)
value_clean (value.Symbol s) o = symbol_clean s
value_clean (value.Ref r) o = refl

null_clean : (o : Option Ref) → Clean (object_or_null o)
null_clean None = refl
null_clean (Some r) = refl

undefined_clean : (o : Option Ref) → Clean (object_or_undefined o)
undefined_clean None = refl
undefined_clean (Some r) = refl

-- THINGS BEHIND SPACES

abbrev AllClean : List (Pieces Ref MadeSymbol) → Type 0
AllClean ps = AllByRecursion Clean ps

spaced_clean : (ps : List (Pieces Ref MadeSymbol)) → AllClean ps → Clean (all_spaced ps)
unfolding all_spaced spaced
spaced_clean [] h = refl
spaced_clean (p ∷ ps) h = pieces_append p (all_spaced ps) h.0 (spaced_clean ps h.1)

parted_clean : (ps : List (Pieces Ref MadeSymbol)) → AllClean ps → Clean (parted false ps)
parted_clean [] h = refl
parted_clean (p ∷ ps) h = pieces_append p (all_spaced ps) h.0 (spaced_clean ps h.1)

joined_clean : (a b : List (Pieces Ref MadeSymbol)) → AllClean a → AllClean b → AllClean (a ++ b)
joined_clean [] b h k = k
joined_clean (p ∷ a) b h k = (h.0, joined_clean a b h.1 k)

mapped_clean : {X : Type 0} (pieces : X → Pieces Ref MadeSymbol) (sound : X → Type 0) (xs : List X) → ((x : X) → sound x → Clean (pieces x)) → AllByRecursion sound xs → AllClean (map pieces xs)
mapped_clean pieces sound [] each h = tt
mapped_clean pieces sound (x ∷ xs) each h = (each x h.0, mapped_clean pieces sound xs each h.1)

globals_clean : (gs : List (Key MadeSymbol × Value Ref MadeSymbol)) → AllByRecursion Sound_global gs → AllClean (flat_map global_items gs)
globals_clean [] h = tt
globals_clean (g ∷ gs) h = (key_clean g.0 h.0.0, (value_clean g.1 h.0.1, globals_clean gs h.1))

modules_clean : (ms : List (List ℕ × Value Ref MadeSymbol)) → AllByRecursion Sound_module ms → AllClean (flat_map module_items ms)
modules_clean [] h = tt
modules_clean (m ∷ ms) h = (one_clean (quoted m.0) (text_clean m.0), (value_clean m.1 h.0.1, modules_clean ms h.1))

-- FIELDS

field_clean : {X : Type 0} (name : List ℕ) (pieces : X → Pieces Ref MadeSymbol) (x : Option X) → clean name ≡ true → ((v : X) → Clean (pieces v)) → AllClean (field name pieces x)
field_clean name pieces None h each = tt
field_clean name pieces (Some v) h each = (and_from (clean name) (clean_pieces (pieces v)) h (each v), tt)

value_field_clean : (x : Option (Value Ref MadeSymbol)) (d : PartialDescriptor Ref MadeSymbol) → Sound_partial (record d { value = x }) → AllClean (field (codes "value=") value_pieces x)
value_field_clean None d o = tt
value_field_clean (Some v) d o = (value_clean v o, tt)

fields_clean : (d : PartialDescriptor Ref MadeSymbol) → Sound_partial d → Clean (fields_pieces d)
fields_clean d o =
    pieces_append (parted false (all_fields d)) (plain (codes "}"))
    (parted_clean (all_fields d)
    (joined_clean (field (codes "value=") value_pieces d.value) _ (value_field_clean d.value d o)
    (joined_clean (field (codes "get=") object_or_undefined d.get ++ field (codes "set=") object_or_undefined d.set) _
    (joined_clean (field (codes "get=") object_or_undefined d.get) _ (field_clean (codes "get=") object_or_undefined d.get refl undefined_clean) (field_clean (codes "set=") object_or_undefined d.set refl undefined_clean))
    (joined_clean (field (codes "writable=") truth_pieces d.writable) _ (field_clean (codes "writable=") truth_pieces d.writable refl truth_clean)
    (joined_clean (field (codes "enumerable=") truth_pieces d.enumerable) _ (field_clean (codes "enumerable=") truth_pieces d.enumerable refl truth_clean) (field_clean (codes "configurable=") truth_pieces d.configurable refl truth_clean))))))
    refl

property_clean : (d : Option (Descriptor Ref MadeSymbol)) → Sound_property d → Clean (property_pieces d)
property_clean None o = refl
property_clean (Some d) o = fields_clean (fields_of d) o

keys_clean : (ks : List (Key MadeSymbol)) → AllByRecursion Sound_key ks → Clean (keys_pieces ks)
keys_clean ks o = pieces_append (parted false (map key_pieces ks)) (plain (codes "]")) (parted_clean (map key_pieces ks) (mapped_clean key_pieces Sound_key ks key_clean o)) refl

-- ASKS

native_clean : (n : Native) → clean (native_name n) ≡ true
native_clean native.GetProto = refl
native_clean native.SetProto = refl
native_clean native.IsExtensible = refl
native_clean native.PreventExt = refl
native_clean native.GetOwn = refl
native_clean native.DefineOwn = refl
native_clean native.Has = refl
native_clean native.Get = refl
native_clean native.Set = refl
native_clean native.Delete = refl
native_clean native.OwnKeys = refl
native_clean native.Apply = refl
native_clean native.Construct = refl
native_clean native.MakeObject = refl
native_clean native.MakeArray = refl
native_clean native.IsArray = refl
native_clean native.ClassOf = refl
native_clean native.IsCommon = refl
native_clean native.Bind = refl
native_clean native.MakeProxy = refl
native_clean native.Revoke = refl
native_clean native.UnitAt = refl
native_clean native.FromUnits = refl
native_clean native.Slice = refl
native_clean native.IndexIn = refl
native_clean native.Concat = refl
native_clean native.ToText = refl
native_clean native.ToNumber = refl
native_clean native.ToKey = refl
native_clean native.Ascii = refl
native_clean native.SortTexts = refl
native_clean native.MakeSymbol = refl
native_clean native.SymbolFor = refl
native_clean native.MakeError = refl
native_clean native.MakeMap = refl
native_clean native.MapGet = refl
native_clean native.MapSet = refl
native_clean native.MapHas = refl
native_clean native.MapDelete = refl
native_clean native.MapClear = refl
native_clean native.MapNext = refl
native_clean native.MapKeyAt = refl
native_clean native.MapSize = refl
native_clean native.MakeCompartment = refl
native_clean native.Evaluate = refl
native_clean native.CompartmentGlobal = refl
native_clean native.MakePromise = refl
native_clean native.Settle = refl
native_clean native.React = refl
native_clean native.Queue = refl
native_clean native.ImportModule = refl
native_clean native.IsModule = refl

method_clean : (x : Ask Ref MadeSymbol) → clean (ask_name x) ≡ true
method_clean ask.GetPrototypeOf = refl
method_clean (ask.SetPrototypeOf p) = refl
method_clean ask.IsExtensible = refl
method_clean ask.PreventExtensions = refl
method_clean (ask.GetOwnProperty k) = refl
method_clean (ask.DefineOwnProperty k d) = refl
method_clean (ask.HasProperty k) = refl
method_clean (ask.Get k r) = refl
method_clean (ask.Set k v r) = refl
method_clean (ask.Delete k) = refl
method_clean ask.OwnPropertyKeys = refl
method_clean (ask.Call this args) = refl
method_clean (ask.Construct t args) = refl
method_clean (ask.Import link path) = refl
method_clean (ask.Slot which args) = refl
method_clean (ask.Make globals modules) = refl
method_clean ask.Queue = refl
method_clean ask.Turn = refl

natives_clean : (x : Ask Ref MadeSymbol) → AllClean (native_items x)
natives_clean ask.GetPrototypeOf = tt
natives_clean (ask.SetPrototypeOf p) = tt
natives_clean ask.IsExtensible = tt
natives_clean ask.PreventExtensions = tt
natives_clean (ask.GetOwnProperty k) = tt
natives_clean (ask.DefineOwnProperty k d) = tt
natives_clean (ask.HasProperty k) = tt
natives_clean (ask.Get k r) = tt
natives_clean (ask.Set k v r) = tt
natives_clean (ask.Delete k) = tt
natives_clean ask.OwnPropertyKeys = tt
natives_clean (ask.Call this args) = tt
natives_clean (ask.Construct t args) = tt
natives_clean (ask.Import link path) = tt
natives_clean (ask.Slot which args) = (one_clean (native_name which) (native_clean which), tt)
natives_clean (ask.Make globals modules) = tt
natives_clean ask.Queue = tt
natives_clean ask.Turn = tt

target_clean : (t : Option Ref) → AllClean (target_items t)
target_clean None = tt
target_clean (Some r) = (refl, tt)

values_clean : (vs : List (Value Ref MadeSymbol)) → AllByRecursion Sound_value vs → AllClean (map value_pieces vs)
values_clean vs o = mapped_clean value_pieces Sound_value vs value_clean o

items_clean : (x : Ask Ref MadeSymbol) → Sound_ask x → AllClean (items x)
items_clean ask.GetPrototypeOf o = tt
items_clean (ask.SetPrototypeOf p) o = (null_clean p, tt)
items_clean ask.IsExtensible o = tt
items_clean ask.PreventExtensions o = tt
items_clean (ask.GetOwnProperty k) o = (key_clean k o, tt)
items_clean (ask.DefineOwnProperty k d) o = (key_clean k o.0, (fields_clean d o.1, tt))
items_clean (ask.HasProperty k) o = (key_clean k o, tt)
items_clean (ask.Get k r) o = (key_clean k o.0, (value_clean r o.1, tt))
items_clean (ask.Set k v r) o = (key_clean k o.0, (value_clean v o.1, (value_clean r o.2, tt)))
items_clean (ask.Delete k) o = (key_clean k o, tt)
items_clean ask.OwnPropertyKeys o = tt
items_clean (ask.Call this args) o = (value_clean this o.0, values_clean args o.1)
items_clean (ask.Construct t args) o = (refl, values_clean args o)
items_clean (ask.Import link path) o = (one_clean (quoted link) (text_clean link), (one_clean (quoted path) (text_clean path), tt))
items_clean (ask.Slot which args) o = values_clean args o
items_clean (ask.Make globals modules) o = (
  one_clean (decimal (length globals)) (number_clean (length globals) o.0),
  joined_clean (flat_map global_items globals) (plain (decimal (length modules)) ∷ flat_map module_items modules) (globals_clean globals o.1)
      (one_clean (decimal (length modules)) (number_clean (length modules) o.2), modules_clean modules o.3),
)
items_clean ask.Queue o = tt
items_clean ask.Turn o = tt

ask_clean : (target : Option Ref) (x : Ask Ref MadeSymbol) → Sound_ask x → Clean (ask_pieces target x)
ask_clean target x o =
    and_from (clean (ask_name x)) _ (method_clean x)
    (pieces_append (all_spaced (native_items x)) _ (spaced_clean (native_items x) (natives_clean x))
    (pieces_append (all_spaced (target_items target)) _ (spaced_clean (target_items target) (target_clean target)) (spaced_clean (items x) (items_clean x o))))

reply_clean : (r : Reply Ref MadeSymbol) → Sound_reply r → Clean (body_pieces (body.Answer r))
reply_clean (reply.Value v) o = value_clean v o
reply_clean (reply.Proto p) o = null_clean p
reply_clean (reply.Flag b) o = truth_clean b
reply_clean (reply.Desc d) o = property_clean d o
reply_clean (reply.Keys ks) o = keys_clean ks o
reply_clean (reply.Throw v) o = value_clean v o

body_clean : (k : AnswerKind) (b : CrossBody Ref MadeSymbol) → Sound_body k b → Clean (body_pieces b)
body_clean k (body.Ask target x) o = ask_clean target x o.1
body_clean k (body.Answer r) o = reply_clean r o.1

pub crossing_clean : (k : AnswerKind) (number : ℕ) (x : Crossing Ref MadeSymbol) → number < 2 ^ 64 → Sound_crossing k x → Clean (head_pieces number x.from.0 x.to.0 ++ body_pieces x.body)
crossing_clean k number x few o =
    and_from (clean (decimal number)) _ (number_clean number few)
    (and_from (clean (decimal x.from.0)) _ (number_clean x.from.0 (let l = o.from in omega (arith, l)))
    (and_from (clean (decimal x.to.0)) _ (number_clean x.to.0 (let l = o.to in omega (arith, l))) (body_clean k x.body o.body)))
