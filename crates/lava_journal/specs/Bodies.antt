-- The pieces of values, keys, properties, asks and answers, over any types of references and of made symbols.
use Rattle.std.specs.Prelude.{ℕ, Bool, true, false, List, [], ◌∷◌, ◌++◌, codes, decimal, length, map, Option, Some, None}
use Rattle.std.specs.Fmt.{signed_decimal}
use Rattle.std.specs.List.{flat_map}
use Rattle.js_text.specs.Natives.{native_name}
use Rattle.js_text.specs.declared.value.Key.{Key}
use Rattle.js_text.specs.declared.value.Key.TheVariants as key
use Rattle.js_text.specs.declared.value.Symbol.{Symbol}
use Rattle.js_text.specs.declared.value.Symbol.TheVariants.{Iterator, Registered, Made}
use Rattle.js_text.specs.declared.value.Value.{Value}
use Rattle.js_text.specs.declared.value.Value.TheVariants as value
use Rattle.js_desc.specs.Asks.{ask_name}
use Rattle.js_desc.specs.Descriptors.{fields_of}
use Rattle.js_desc.specs.declared.ask.Ask.{Ask}
use Rattle.js_desc.specs.declared.ask.Ask.TheVariants as ask
use Rattle.js_desc.specs.declared.crossing.CrossBody.{CrossBody}
use Rattle.js_desc.specs.declared.crossing.CrossBody.TheVariants as body
use Rattle.js_desc.specs.declared.descriptor.Descriptor.{Descriptor}
use Rattle.js_desc.specs.declared.descriptor.PartialDescriptor.{PartialDescriptor}
use Rattle.js_desc.specs.declared.reply.Reply.{Reply}
use Rattle.js_desc.specs.declared.reply.Reply.TheVariants as reply
use Rattle.lava_journal.specs.Quotes.{quoted, quoted_number}
use Rattle.lava_journal.specs.Sheets.{Piece, Plain, An_object, A_symbol}

abbrev pub Pieces : Type 0 → Type 0 → Type 0
Pieces R S = List (Piece R S)

abbrev pub plain : {R S : Type 0} → List ℕ → Pieces R S
plain bytes = Plain bytes ∷ []

-- a thing behind a space
unfoldable pub spaced : {R S : Type 0} → Pieces R S → Pieces R S
spaced p = Plain (codes " ") ∷ p

-- each thing behind a space
unfoldable pub all_spaced : {R S : Type 0} → List (Pieces R S) → Pieces R S
all_spaced ps = flat_map spaced ps

-- things parted by one space, where others stand before them or none
abbrev pub parted : {R S : Type 0} → Bool → List (Pieces R S) → Pieces R S
parted true ps = all_spaced ps
parted false [] = []
parted false (p ∷ ps) = p ++ all_spaced ps

-- VALUES

abbrev pub truth_text : Bool → List ℕ
truth_text true = codes "true"
truth_text false = codes "false"

abbrev pub truth_pieces : {R S : Type 0} → Bool → Pieces R S
truth_pieces b = plain (truth_text b)

abbrev pub symbol_pieces : {R S : Type 0} → Symbol S → Pieces R S
symbol_pieces Iterator = plain (codes "@iterator")
symbol_pieces (Registered t) = Plain (codes "@for") ∷ plain (quoted t)
symbol_pieces (Made s) = A_symbol s ∷ []

-- a key is a quoted text, an index by its digits, or a symbol
abbrev pub key_pieces : {R S : Type 0} → Key S → Pieces R S
key_pieces (key.Index n) = plain (quoted_number n)
key_pieces (key.Text t) = plain (quoted t)
key_pieces (key.Symbol s) = symbol_pieces s

-- own: values in a trace
abbrev pub value_pieces : {R S : Type 0} → Value R S → Pieces R S
value_pieces value.Undefined = plain (codes "undefined")
value_pieces value.Null = plain (codes "null")
value_pieces (value.Bool b) = truth_pieces b
value_pieces (value.Int n) = plain (signed_decimal n)
value_pieces (value.Text t) = plain (quoted t)
value_pieces (value.Symbol s) = symbol_pieces s
value_pieces (value.Ref r) = An_object r ∷ []

abbrev pub object_or_null : {R S : Type 0} → Option R → Pieces R S
object_or_null None = plain (codes "null")
object_or_null (Some r) = An_object r ∷ []

abbrev pub object_or_undefined : {R S : Type 0} → Option R → Pieces R S
object_or_undefined None = plain (codes "undefined")
object_or_undefined (Some r) = An_object r ∷ []

-- PROPERTIES

-- a field that is present, as `name=VALUE`; its name here has the `=`
abbrev pub field : {R S X : Type 0} → List ℕ → (X → Pieces R S) → Option X → List (Pieces R S)
field name pieces None = []
field name pieces (Some x) = (Plain name ∷ pieces x) ∷ []

-- the name of a field, behind a space where a field stands before it
abbrev pub name_pieces : {R S : Type 0} → Bool → List ℕ → Pieces R S
name_pieces true name = spaced (plain name)
name_pieces false name = plain name

abbrev pub function_fields : {R S : Type 0} → (get set : Option (Option R)) → List (Pieces R S)
function_fields get set = field (codes "get=") object_or_undefined get ++ field (codes "set=") object_or_undefined set

abbrev pub flag_fields : {R S : Type 0} → (writable enumerable configurable : Option Bool) → List (Pieces R S)
flag_fields w e c = field (codes "writable=") truth_pieces w ++ (field (codes "enumerable=") truth_pieces e ++ field (codes "configurable=") truth_pieces c)

-- the present fields, in the order value, get, set, writable, enumerable, configurable
abbrev pub all_fields : {R S : Type 0} → PartialDescriptor R S → List (Pieces R S)
all_fields d = field (codes "value=") value_pieces d.value ++ (function_fields d.get d.set ++ flag_fields d.writable d.enumerable d.configurable)

-- own: descriptors in a trace
abbrev pub fields_pieces : {R S : Type 0} → PartialDescriptor R S → Pieces R S
fields_pieces d = Plain (codes "{") ∷ (parted false (all_fields d) ++ plain (codes "}"))

abbrev pub property_pieces : {R S : Type 0} → Option (Descriptor R S) → Pieces R S
property_pieces None = plain (codes "none")
property_pieces (Some d) = fields_pieces (fields_of d)

-- ASKS

-- a global of a new party
abbrev pub global_items : {R S : Type 0} → Key S × Value R S → List (Pieces R S)
global_items e = key_pieces e.0 ∷ value_pieces e.1 ∷ []

-- a module of a new party
abbrev pub module_items : {R S : Type 0} → List ℕ × Value R S → List (Pieces R S)
module_items e = plain (quoted e.0) ∷ value_pieces e.1 ∷ []

-- the target of an ask, where it has one
abbrev pub target_items : {R S : Type 0} → Option R → List (Pieces R S)
target_items None = []
target_items (Some r) = (An_object r ∷ []) ∷ []

-- the items behind the target
abbrev pub items : {R S : Type 0} → Ask R S → List (Pieces R S)
items ask.GetPrototypeOf = []
items (ask.SetPrototypeOf p) = object_or_null p ∷ []
items ask.IsExtensible = []
items ask.PreventExtensions = []
items (ask.GetOwnProperty k) = key_pieces k ∷ []
items (ask.DefineOwnProperty k d) = key_pieces k ∷ fields_pieces d ∷ []
items (ask.HasProperty k) = key_pieces k ∷ []
items (ask.Get k receiver) = key_pieces k ∷ value_pieces receiver ∷ []
items (ask.Set k v receiver) = key_pieces k ∷ value_pieces v ∷ value_pieces receiver ∷ []
items (ask.Delete k) = key_pieces k ∷ []
items ask.OwnPropertyKeys = []
items (ask.Call this args) = value_pieces this ∷ map value_pieces args
items (ask.Construct target args) = (An_object target ∷ []) ∷ map value_pieces args
items (ask.Import link path) = plain (quoted link) ∷ plain (quoted path) ∷ []
items (ask.Slot which args) = map value_pieces args
items (ask.Make globals modules) =
    plain (decimal (length globals)) ∷ (flat_map global_items globals
    ++ plain (decimal (length modules)) ∷ flat_map module_items modules)
items ask.Queue = []
items ask.Turn = []

-- what stands before the target: the native of a Slot
abbrev pub native_items : {R S : Type 0} → Ask R S → List (Pieces R S)
native_items (ask.Slot which args) = plain (native_name which) ∷ []
native_items _ = []

-- `ask METHOD ITEMS`
-- own: asks in a trace
abbrev pub ask_pieces : {R S : Type 0} → Option R → Ask R S → Pieces R S
ask_pieces target x =
    Plain (codes "ask ") ∷ Plain (ask_name x) ∷ (all_spaced (native_items x) ++ (all_spaced (target_items target) ++ all_spaced (items x)))

-- ANSWERS

-- `[`, the keys parted by one space, `]`
abbrev pub keys_pieces : {R S : Type 0} → List (Key S) → Pieces R S
keys_pieces ks = Plain (codes "[") ∷ (parted false (map key_pieces ks) ++ plain (codes "]"))

-- the item of an answer
abbrev pub answer_pieces : {R S : Type 0} → Reply R S → Pieces R S
answer_pieces (reply.Value v) = value_pieces v
answer_pieces (reply.Proto p) = object_or_null p
answer_pieces (reply.Flag b) = truth_pieces b
answer_pieces (reply.Desc d) = property_pieces d
answer_pieces (reply.Keys ks) = keys_pieces ks
answer_pieces (reply.Throw v) = value_pieces v

abbrev pub answer_word : {R S : Type 0} → Reply R S → List ℕ
answer_word (reply.Throw v) = codes "throw "
answer_word _ = codes "answer "

-- BODY: `ask METHOD ITEMS`, `answer ITEM` or `throw VALUE`
-- own: what crosses, in a trace
abbrev pub body_pieces : {R S : Type 0} → CrossBody R S → Pieces R S
body_pieces (body.Ask target x) = ask_pieces target x
body_pieces (body.Answer r) = Plain (answer_word r) ∷ answer_pieces r
