-- The objects and made symbols in the pieces of a line are those that cross.
use Rattle.std.proofs.Common.{◌≡◌, ℕ, codes, Bool, true, false, List, [], ◌∷◌, ◌++◌, map, Option, Some, None, refl, ap, ◌∙◌, sym}
use Rattle.std.proofs.lemmas.List.{append_assoc, append-nil}
use Rattle.std.specs.List.{flat_map}
use Rattle.lava_base.specs.declared.ids.MadeSymbol.{MadeSymbol}
use Rattle.lava_base.specs.declared.ids.Ref.{Ref}
use Rattle.js_text.specs.Identities.{Identity, Of_object, Of_symbol, key_identities, symbol_identities, value_identities}
use Rattle.js_text.specs.declared.value.Key.{Key}
use Rattle.js_text.specs.declared.value.Key.TheVariants as key
use Rattle.js_text.specs.declared.value.Symbol.{Symbol}
use Rattle.js_text.specs.declared.value.Symbol.TheVariants.{Iterator, Registered, Made}
use Rattle.js_text.specs.declared.value.Value.{Value}
use Rattle.js_text.specs.declared.value.Value.TheVariants as value
use Rattle.js_desc.specs.Descriptors.{fields_of}
use Rattle.js_desc.specs.Identities.{all_identities, ask_identities, body_identities, descriptor_identities, global_identities, module_identities, option_identities, partial_identities, ref_identities, reply_identities}
use Rattle.js_desc.specs.declared.ask.Ask.{Ask}
use Rattle.js_desc.specs.declared.ask.Ask.TheVariants as ask
use Rattle.js_desc.specs.declared.crossing.CrossBody.{CrossBody}
use Rattle.js_desc.specs.declared.crossing.CrossBody.TheVariants as body
use Rattle.js_desc.specs.declared.descriptor.Descriptor.{Descriptor}
use Rattle.js_desc.specs.declared.descriptor.Descriptor.TheVariants.{Accessor, Data}
use Rattle.js_desc.specs.declared.descriptor.PartialDescriptor.{PartialDescriptor}
use Rattle.js_desc.specs.declared.reply.Reply.{Reply}
use Rattle.js_desc.specs.declared.reply.Reply.TheVariants as reply
use Rattle.lava_journal.specs.Bodies.{Pieces, all_fields, all_spaced, answer_pieces, ask_pieces, body_pieces, field, fields_pieces, flag_fields, function_fields, global_items, items, key_pieces, keys_pieces, module_items, native_items, object_or_null, object_or_undefined, parted, plain, property_pieces, spaced, symbol_pieces, target_items, truth_pieces, value_pieces}
use Rattle.lava_journal.specs.Sheets.{An_object, A_symbol, Piece, Plain}

abbrev Named : Type 0
Named = List (Identity Ref MadeSymbol)

-- those in one piece, in some pieces, and in some lists of pieces
abbrev pub piece_identities : Piece Ref MadeSymbol → Named
piece_identities (Plain bytes) = []
piece_identities (An_object r) = Of_object r ∷ []
piece_identities (A_symbol s) = Of_symbol s ∷ []

abbrev pub in_pieces : Pieces Ref MadeSymbol → Named
in_pieces [] = []
in_pieces (p ∷ ps) = piece_identities p ++ in_pieces ps

abbrev in_lists : List (Pieces Ref MadeSymbol) → Named
in_lists [] = []
in_lists (ps ∷ pss) = in_pieces ps ++ in_lists pss

-- SEQUENCES

in_both : (ps qs : Pieces Ref MadeSymbol) → in_pieces (ps ++ qs) ≡ in_pieces ps ++ in_pieces qs
in_both [] qs = refl
in_both (p ∷ ps) qs = ap (λ l. piece_identities p ++ l) (in_both ps qs) ∙ sym (append_assoc (piece_identities p) (in_pieces ps) (in_pieces qs))

in_both_lists : (ps qs : List (Pieces Ref MadeSymbol)) → in_lists (ps ++ qs) ≡ in_lists ps ++ in_lists qs
in_both_lists [] qs = refl
in_both_lists (p ∷ ps) qs = ap (λ l. in_pieces p ++ l) (in_both_lists ps qs) ∙ sym (append_assoc (in_pieces p) (in_lists ps) (in_lists qs))

in_spaced : (pss : List (Pieces Ref MadeSymbol)) → in_pieces (all_spaced pss) ≡ in_lists pss
unfolding all_spaced spaced
in_spaced [] = refl
in_spaced (ps ∷ pss) = in_both ps (all_spaced pss) ∙ ap (λ l. in_pieces ps ++ l) (in_spaced pss)

in_parted : (pss : List (Pieces Ref MadeSymbol)) → in_pieces (parted false pss) ≡ in_lists pss
in_parted [] = refl
in_parted (ps ∷ pss) = in_both ps (all_spaced pss) ∙ ap (λ l. in_pieces ps ++ l) (in_spaced pss)

-- VALUES

in_symbol : (s : Symbol MadeSymbol) → in_pieces (symbol_pieces s) ≡ symbol_identities s
in_symbol Iterator = refl
in_symbol (Registered t) = refl
in_symbol (Made s) = refl

in_key : (k : Key MadeSymbol) → in_pieces (key_pieces k) ≡ key_identities k
in_key (key.Index n) = refl
in_key (key.Text t) = refl
in_key (key.Symbol s) = in_symbol s

in_value : (v : Value Ref MadeSymbol) → in_pieces (value_pieces v) ≡ value_identities v
in_value value.Undefined = refl
in_value value.Null = refl
in_value (value.Bool b) = refl
in_value (value.Int n) = refl
in_value (value.Text t) = refl
in_value (value.Symbol s) = in_symbol s
in_value (value.Ref r) = refl

in_values : (vs : List (Value Ref MadeSymbol)) → in_lists (map value_pieces vs) ≡ all_identities value_identities vs
in_values [] = refl
in_values (v ∷ vs) = λ k. in_value v k ++ in_values vs k

in_keys : (ks : List (Key MadeSymbol)) → in_lists (map key_pieces ks) ≡ all_identities key_identities ks
in_keys [] = refl
in_keys (v ∷ vs) = λ k. in_key v k ++ in_keys vs k

in_object : (o : Option Ref) → in_pieces (object_or_null o) ≡ option_identities ref_identities o
in_object None = refl
in_object (Some r) = refl

in_function : (o : Option Ref) → in_pieces (object_or_undefined o) ≡ option_identities ref_identities o
in_function None = refl
in_function (Some r) = refl

-- PROPERTIES

in_field : {X : Type 0} (name : List ℕ) (pieces : X → Pieces Ref MadeSymbol) (named : X → Named) → ((x : X) → in_pieces (pieces x) ≡ named x) → (o : Option X)
    → in_lists (field name pieces o) ≡ option_identities named o
in_field name pieces named h None = refl
in_field name pieces named h (Some x) = append-nil (in_pieces (pieces x)) ∙ h x

in_flag : (name : List ℕ) (o : Option Bool) → in_lists (field name truth_pieces o) ≡ []
in_flag name None = refl
in_flag name (Some b) = refl

in_flags : (w e c : Option Bool) → in_lists (flag_fields w e c) ≡ []
in_flags w e c =
    let a = field (codes "writable=") truth_pieces w in
    let b = field (codes "enumerable=") truth_pieces e in
    let d = field (codes "configurable=") truth_pieces c in
    in_both_lists a (b ++ d) ∙ (λ k. in_flag (codes "writable=") w k ++ (in_both_lists b d ∙ (λ i. in_flag (codes "enumerable=") e i ++ in_flag (codes "configurable=") c i)) k)

in_functions : (g s : Option (Option Ref)) → in_lists (function_fields g s) ≡ option_identities (option_identities ref_identities) g ++ option_identities (option_identities ref_identities) s
in_functions g s =
    in_both_lists (field (codes "get=") object_or_undefined g) (field (codes "set=") object_or_undefined s)
    ∙ (λ k. in_field (codes "get=") object_or_undefined (option_identities ref_identities) in_function g k ++ in_field (codes "set=") object_or_undefined (option_identities ref_identities) in_function s k)

in_fields : (d : PartialDescriptor Ref MadeSymbol) → in_pieces (fields_pieces d) ≡ partial_identities d
in_fields d =
    let v = field (codes "value=") value_pieces d.value in
    let f = function_fields d.get d.set in
    let b = flag_fields d.writable d.enumerable d.configurable in
    in_both (parted false (all_fields d)) (plain (codes "}"))
    ∙ append-nil (in_pieces (parted false (all_fields d)))
    ∙ in_parted (all_fields d)
    ∙ in_both_lists v (f ++ b)
    ∙ (λ k. in_field (codes "value=") value_pieces value_identities in_value d.value k ++ (in_both_lists f b ∙ (λ i. in_functions d.get d.set i ++ in_flags d.writable d.enumerable d.configurable i) ∙ append-nil (option_identities (option_identities ref_identities) d.get ++ option_identities (option_identities ref_identities) d.set)) k)

in_descriptor : (d : Descriptor Ref MadeSymbol) → in_pieces (property_pieces (Some d)) ≡ descriptor_identities d
in_descriptor (Data v w e c) = in_fields (fields_of (Data v w e c)) ∙ append-nil (value_identities v)
in_descriptor (Accessor g s e c) = in_fields (fields_of (Accessor g s e c))

in_property : (o : Option (Descriptor Ref MadeSymbol)) → in_pieces (property_pieces o) ≡ option_identities descriptor_identities o
in_property None = refl
in_property (Some d) = in_descriptor d

-- ASKS

in_globals : (gs : List (Key MadeSymbol × Value Ref MadeSymbol)) → in_lists (flat_map global_items gs) ≡ all_identities global_identities gs
in_globals [] = refl
in_globals (g ∷ gs) =
    (λ k. in_key g.0 k ++ (in_value g.1 k ++ in_globals gs k)) ∙ sym (append_assoc (key_identities g.0) (value_identities g.1) (all_identities global_identities gs))

in_modules : (ms : List (List ℕ × Value Ref MadeSymbol)) → in_lists (flat_map module_items ms) ≡ all_identities module_identities ms
in_modules [] = refl
in_modules (m ∷ ms) = λ k. in_value m.1 k ++ in_modules ms k

in_one : (ps : Pieces Ref MadeSymbol) → in_lists (ps ∷ []) ≡ in_pieces ps
in_one ps = append-nil (in_pieces ps)

in_items : (x : Ask Ref MadeSymbol) → in_lists (items x) ≡ ask_identities x
in_items ask.GetPrototypeOf = refl
in_items (ask.SetPrototypeOf p) = in_one (object_or_null p) ∙ in_object p
in_items ask.IsExtensible = refl
in_items ask.PreventExtensions = refl
in_items (ask.GetOwnProperty k) = in_one (key_pieces k) ∙ in_key k
in_items (ask.DefineOwnProperty k d) = λ i. in_key k i ++ (in_one (fields_pieces d) ∙ in_fields d) i
in_items (ask.HasProperty k) = in_one (key_pieces k) ∙ in_key k
in_items (ask.Get k receiver) = λ i. in_key k i ++ (in_one (value_pieces receiver) ∙ in_value receiver) i
in_items (ask.Set k v receiver) = λ i. in_key k i ++ (in_value v i ++ (in_one (value_pieces receiver) ∙ in_value receiver) i)
in_items (ask.Delete k) = in_one (key_pieces k) ∙ in_key k
in_items ask.OwnPropertyKeys = refl
in_items (ask.Call this args) = λ i. in_value this i ++ in_values args i
in_items (ask.Construct target args) = ap (λ l. Of_object target ∷ l) (in_values args)
in_items (ask.Import link path) = refl
in_items (ask.Slot which args) = in_values args
in_items (ask.Make gs ms) = in_both_lists (flat_map global_items gs) (_ ∷ flat_map module_items ms) ∙ (λ i. in_globals gs i ++ in_modules ms i)
in_items ask.Queue = refl
in_items ask.Turn = refl

in_native : (x : Ask Ref MadeSymbol) → in_lists (native_items x) ≡ []
in_native ask.GetPrototypeOf = refl
in_native (ask.SetPrototypeOf p) = refl
in_native ask.IsExtensible = refl
in_native ask.PreventExtensions = refl
in_native (ask.GetOwnProperty k) = refl
in_native (ask.DefineOwnProperty k d) = refl
in_native (ask.HasProperty k) = refl
in_native (ask.Get k receiver) = refl
in_native (ask.Set k v receiver) = refl
in_native (ask.Delete k) = refl
in_native ask.OwnPropertyKeys = refl
in_native (ask.Call this args) = refl
in_native (ask.Construct target args) = refl
in_native (ask.Import link path) = refl
in_native (ask.Slot which args) = refl
in_native (ask.Make gs ms) = refl
in_native ask.Queue = refl
in_native ask.Turn = refl

in_target : (o : Option Ref) → in_lists (target_items o) ≡ option_identities ref_identities o
in_target None = refl
in_target (Some r) = refl

in_ask : (target : Option Ref) (x : Ask Ref MadeSymbol) → in_pieces (ask_pieces target x) ≡ option_identities ref_identities target ++ ask_identities x
in_ask target x =
    let a = all_spaced (native_items x) in
    let b = all_spaced (target_items target) in
    let c = all_spaced (items x) in
    in_both a (b ++ c)
    ∙ (λ k. (in_spaced (native_items x) ∙ in_native x) k ++ (in_both b c ∙ (λ i. (in_spaced (target_items target) ∙ in_target target) i ++ (in_spaced (items x) ∙ in_items x) i)) k)

-- ANSWERS

in_answer : (r : Reply Ref MadeSymbol) → in_pieces (answer_pieces r) ≡ reply_identities r
in_answer (reply.Value v) = in_value v
in_answer (reply.Proto p) = in_object p
in_answer (reply.Flag b) = refl
in_answer (reply.Desc d) = in_property d
in_answer (reply.Keys ks) =
    in_both (parted false (map key_pieces ks)) (plain (codes "]")) ∙ append-nil (in_pieces (parted false (map key_pieces ks))) ∙ in_parted (map key_pieces ks) ∙ in_keys ks
in_answer (reply.Throw v) = in_value v

-- what is named in the pieces of a body is what is named in it
pub in_body : (b : CrossBody Ref MadeSymbol) → in_pieces (body_pieces b) ≡ body_identities b
in_body (body.Ask target x) = in_ask target x
in_body (body.Answer r) = in_answer r
