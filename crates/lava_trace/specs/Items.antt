-- The items of asks and answers, as they are read.
use Rattle.std.specs.Prelude.{ℕ, ℤ, pos, neg_ℤ, ◌+◌, ◌-◌, ◌*◌, ◌==◌, Bool, true, false, ◌&&◌, ◌||◌, not, nat_eq, nat_lt, nat_le, if◌then◌else◌, List, [], ◌∷◌, ◌++◌, codes, length, Option, Some, None}
use Rattle.std.specs.List.{starts_with}
use Rattle.lava_base.specs.declared.ids.MadeSymbol.{MadeSymbol}
use Rattle.lava_base.specs.declared.ids.Ref.{Ref}
use Rattle.lava_base.specs.declared.ids.Ref.TheVariants as reference
use Rattle.lava_base.specs.declared.limits.TheConstants.{MAX_SAFE_INTEGER}
use Rattle.lava_base.specs.declared.marks.Class.{Class}
use Rattle.lava_base.specs.declared.marks.Class.TheVariants as class
use Rattle.lava_base.specs.declared.marks.Marks.{Marks}
use Rattle.js_text.specs.CommonPaths.{common_paths}
use Rattle.js_text.specs.Indices.{key_of_text}
use Rattle.js_text.specs.Texts.{same_units}
use Rattle.js_text.specs.declared.text.TheConstants.{MAX_UNITS}
use Rattle.js_text.specs.declared.value.Key.{Key}
use Rattle.js_text.specs.declared.value.Key.TheVariants as key
use Rattle.js_text.specs.declared.value.Symbol.{Symbol}
use Rattle.js_text.specs.declared.value.Symbol.TheVariants as symbol
use Rattle.js_text.specs.declared.value.Value.{Value}
use Rattle.js_text.specs.declared.value.Value.TheVariants as value
use Rattle.js_desc.specs.Descriptors.{complete_property_descriptor}
use Rattle.js_desc.specs.declared.descriptor.Descriptor.{Descriptor}
use Rattle.js_desc.specs.declared.descriptor.PartialDescriptor.{PartialDescriptor}
use Rattle.lava_trace.specs.Left.{Got, Left, at_end, byte_at, narrowed, number_at, party_at, path_at, skipped, word_at}
use Rattle.lava_trace.specs.Many.{many}
use Rattle.lava_trace.specs.declared.left.TheConstants.{MAX_ID}

-- TEXTS

abbrev pub hex_value : ℕ → ℕ
hex_value b = if nat_le 48 b && nat_lt b 58 then b - 48 else if nat_le 97 b && nat_lt b 103 then b - 87 else 0

-- four hexadecimal digits, from a place on
unfoldable pub hex_at : Left → ℕ → ℕ
hex_at l k = hex_value (byte_at l k) * 4096 + hex_value (byte_at l (k + 1)) * 256 + hex_value (byte_at l (k + 2)) * 16 + hex_value (byte_at l (k + 3))

-- a unit: behind a `\` a `"` or a `\`, behind `\u` four digits, and each other byte for itself
unfoldable pub unit_at : Left → Got ℕ
unit_at l = if byte_at l 0 == 92 then (if byte_at l 1 == 117 then (hex_at l 2, skipped 6 l) else (byte_at l 1, skipped 2 l)) else (byte_at l 0, skipped 1 l)

-- no `"` closes the text here
abbrev pub goes_on : Left → Bool
goes_on l = not (at_end l) && not (byte_at l 0 == 34)

-- a text has at most so many units
abbrev pub fitting : List ℕ → List ℕ
fitting units = if nat_le (length units) MAX_UNITS then units else []

-- the units of a text, behind its first `"`
unfoldable pub units_at : Left → Got (List ℕ)
units_at l = many goes_on unit_at (length l.bytes) l

-- a text between two `"`
unfoldable pub text_at : Left → Got (List ℕ)
text_at l = (fitting (units_at (skipped 1 l)).0, skipped 1 (units_at (skipped 1 l)).1)

-- REFERENCES AND SYMBOLS

-- the first place of a path, and 0 where it stands nowhere
unfoldable pub place_from : ℕ → List ℕ → List (List ℕ) → ℕ
place_from n path [] = 0
place_from n path (p ∷ ps) = if same_units path p then n else place_from (n + 1) path ps

-- the common object with a path
unfoldable pub place_of : List ℕ → ℕ
place_of path = place_from 0 path common_paths

-- a class by its name
abbrev pub class_of : List ℕ → Class
class_of w =
    if same_units w (codes "Array") then class.Array
    else if same_units w (codes "Function") then class.Function
    else if same_units w (codes "Error") then class.Error
    else if same_units w (codes "Map") then class.Map
    else if same_units w (codes "Set") then class.Set
    else if same_units w (codes "WeakMap") then class.WeakMap
    else if same_units w (codes "Compartment") then class.Compartment
    else if same_units w (codes "Global") then class.Global
    else if same_units w (codes "Proxy") then class.Proxy
    else if same_units w (codes "Promise") then class.Promise
    else if same_units w (codes "Module") then class.Module
    else class.Object

-- whether a word stands here, and what is left behind it
unfoldable pub mark_at : List ℕ → Left → Got Bool
mark_at word l = if starts_with nat_eq l.bytes word then (true, skipped (length word) l) else (false, l)

-- the marks behind a `/`
unfoldable pub marks_at : Left → Got Marks
marks_at l =
    let word = word_at l in
    let callable = mark_at (codes "+call") (skipped (length word) l) in
    let constructor = mark_at (codes "+new") callable.1 in
    (record { class = class_of word; callable = callable.0; constructor = constructor.0 }, constructor.1)

-- the marks of a reference behind which none stand
abbrev pub ordinary : Marks
ordinary = record { class = class.Object; callable = false; constructor = false }

-- a reference with its marks, or without
abbrev pub with_marks : Ref → Marks → Left → Left
with_marks r m l = record { bytes = l.bytes; marks = l.marks ++ (r, m) ∷ []; named = l.named ++ (r, m) ∷ [] }

abbrev pub without_marks : Ref → Left → Left
without_marks r l = record { bytes = l.bytes; marks = l.marks; named = l.named ++ (r, ordinary) ∷ [] }

unfoldable pub behind_name : Ref → Left → Left
behind_name r l = if byte_at l 0 == 47 then with_marks r (marks_at (skipped 1 l)).0 (marks_at (skipped 1 l)).1 else without_marks r l

-- a party and a number: an id has 32 bits
unfoldable pub pair_at : Left → Got MadeSymbol
pair_at l =
    let party = party_at l in
    let id = number_at (skipped 1 party.1) in
    (record { party = party.0; id = record { 0 = narrowed MAX_ID id.0 } }, id.1)

-- the name of an object: `%PATH%` or `#P.K`
unfoldable pub name_at : Left → Got Ref
name_at l =
    if byte_at l 0 == 37 then (reference.Common (record { 0 = place_of (path_at (skipped 1 l)) }), skipped (length (path_at (skipped 1 l)) + 1) (skipped 1 l))
    else (reference.Own (pair_at (skipped 1 l)).0.party (pair_at (skipped 1 l)).0.id, (pair_at (skipped 1 l)).1)

-- a reference: a name, and its marks if they stand behind it
unfoldable pub object_at : Left → Got Ref
object_at l = ((name_at l).0, behind_name (name_at l).0 (name_at l).1)

-- `@iterator`, `@for` with a text, or `@P.K`
unfoldable pub symbol_at : Left → Got (Symbol MadeSymbol)
symbol_at l =
    if byte_at l 1 == 105 then (symbol.Iterator, skipped 9 l)
    else if byte_at l 1 == 102 then (symbol.Registered (text_at (skipped 4 l)).0, (text_at (skipped 4 l)).1)
    else (symbol.Made (pair_at (skipped 1 l)).0, (pair_at (skipped 1 l)).1)

-- VALUES

-- a safe integer
abbrev pub signed : Bool → ℕ → ℤ
signed is_negative n = if nat_le n MAX_SAFE_INTEGER then (if is_negative then neg_ℤ (pos n) else pos n) else pos 0

unfoldable pub integer_at : Left → Got ℤ
integer_at l =
    if byte_at l 0 == 45 then (signed true (number_at (skipped 1 l)).0, (number_at (skipped 1 l)).1)
    else (signed false (number_at l).0, (number_at l).1)

-- a key is a text or a symbol
unfoldable pub key_at : Left → Got (Key MadeSymbol)
key_at l = if byte_at l 0 == 64 then (key.Symbol (symbol_at l).0, (symbol_at l).1) else (key_of_text (text_at l).0, (text_at l).1)

-- a value that is no text, no symbol and no object: its first byte tells which
unfoldable pub plain_value_at : ℕ → Left → Got (Value Ref MadeSymbol)
plain_value_at first l =
    if first == 117 then (value.Undefined, skipped 9 l)
    else if first == 110 then (value.Null, skipped 4 l)
    else if first == 116 then (value.Bool true, skipped 4 l)
    else if first == 102 then (value.Bool false, skipped 5 l)
    else (value.Int (integer_at l).0, (integer_at l).1)

-- a value
unfoldable pub value_at : Left → Got (Value Ref MadeSymbol)
value_at l =
    if byte_at l 0 == 34 then (value.Text (text_at l).0, (text_at l).1)
    else if byte_at l 0 == 64 then (value.Symbol (symbol_at l).0, (symbol_at l).1)
    else if byte_at l 0 == 35 || byte_at l 0 == 37 then (value.Ref (object_at l).0, (object_at l).1)
    else plain_value_at (byte_at l 0) l

-- a truth value
unfoldable pub truth_at : Left → Got Bool
truth_at l = if byte_at l 0 == 116 then (true, skipped 4 l) else (false, skipped 5 l)

-- a reference, or a word of so many letters: `null`, or `undefined`
unfoldable pub object_or_word_at : ℕ → Left → Got (Option Ref)
object_or_word_at letters l =
    if byte_at l 0 == 35 || byte_at l 0 == 37 then (Some (object_at l).0, (object_at l).1) else (None, skipped letters l)

-- PROPERTIES

-- behind a space, if one stands here
unfoldable pub behind_space : Left → Left
behind_space l = if byte_at l 0 == 32 then skipped 1 l else l

-- a field that is present begins with its name
unfoldable pub flag_at : List ℕ → Left → Got (Option Bool)
flag_at name l =
    let found = mark_at name (behind_space l) in
    if found.0 then (Some (truth_at found.1).0, (truth_at found.1).1) else (None, found.1)

unfoldable pub function_at : List ℕ → Left → Got (Option (Option Ref))
function_at name l =
    let found = mark_at name (behind_space l) in
    if found.0 then (Some (object_or_word_at 9 found.1).0, (object_or_word_at 9 found.1).1) else (None, found.1)

unfoldable pub value_field_at : Left → Got (Option (Value Ref MadeSymbol))
value_field_at l =
    let found = mark_at (codes "value=") l in
    if found.0 then (Some (value_at found.1).0, (value_at found.1).1) else (None, found.1)

-- the fields of a definition between `{` and `}`, in their one order
unfoldable pub fields_at : Left → Got (PartialDescriptor Ref MadeSymbol)
fields_at l =
    let value = value_field_at (skipped 1 l) in
    let get = function_at (codes "get=") value.1 in
    let set = function_at (codes "set=") get.1 in
    let writable = flag_at (codes "writable=") set.1 in
    let enumerable = flag_at (codes "enumerable=") writable.1 in
    let configurable = flag_at (codes "configurable=") enumerable.1 in
    (record { value = value.0; writable = writable.0; get = get.0; set = set.0; enumerable = enumerable.0; configurable = configurable.0 }, skipped 1 configurable.1)

-- a property with all fields of its kind, or `none`
unfoldable pub property_at : Left → Got (Option (Descriptor Ref MadeSymbol))
property_at l =
    if byte_at l 0 == 123 then (Some (complete_property_descriptor (fields_at l).0), (fields_at l).1) else (None, skipped 4 l)

-- LISTS

-- no `]` closes the keys here
abbrev pub key_begins : Left → Bool
key_begins l = not (at_end l) && not (byte_at l 0 == 93)

unfoldable pub parted_key_at : Left → Got (Key MadeSymbol)
parted_key_at l = key_at (behind_space l)

unfoldable pub parted_keys_at : ℕ → Left → Got (List (Key MadeSymbol))
parted_keys_at most l = many key_begins parted_key_at most l

-- keys between `[` and `]`
unfoldable pub keys_at : Left → Got (List (Key MadeSymbol))
keys_at l = ((parted_keys_at (length l.bytes) (skipped 1 l)).0, skipped 1 (parted_keys_at (length l.bytes) (skipped 1 l)).1)

-- something is left of the line
abbrev pub is_left : Left → Bool
is_left l = not (at_end l)

unfoldable pub spaced_value_at : Left → Got (Value Ref MadeSymbol)
spaced_value_at l = value_at (skipped 1 l)

-- values, each behind a space, up to the end of the line
unfoldable pub values_at : Left → Got (List (Value Ref MadeSymbol))
values_at l = many is_left spaced_value_at (length l.bytes) l

unfoldable pub spaced_key_at : Left → Got (Key MadeSymbol)
spaced_key_at l = key_at (skipped 1 l)

unfoldable pub spaced_text_at : Left → Got (List ℕ)
spaced_text_at l = text_at (skipped 1 l)

-- a global of a new party, and a module
unfoldable pub global_at : Left → Got (Key MadeSymbol × Value Ref MadeSymbol)
global_at l =
    let name = spaced_key_at l in
    let value = spaced_value_at name.1 in
    ((name.0, value.0), value.1)

unfoldable pub module_at : Left → Got (List ℕ × Value Ref MadeSymbol)
module_at l =
    let name = spaced_text_at l in
    let value = spaced_value_at name.1 in
    ((name.0, value.0), value.1)

-- as many as a number says, up to the end of the line
unfoldable pub globals_at : Left → Got (List (Key MadeSymbol × Value Ref MadeSymbol))
globals_at l = many is_left global_at (number_at (skipped 1 l)).0 (number_at (skipped 1 l)).1

unfoldable pub modules_at : Left → Got (List (List ℕ × Value Ref MadeSymbol))
modules_at l = many is_left module_at (number_at (skipped 1 l)).0 (number_at (skipped 1 l)).1
