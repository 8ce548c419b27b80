-- Asks are read back: the method, the native of a Slot, the target and the items.
use Rattle.std.proofs.Common.{◌≡◌, ℕ, true, not, List, [], ◌∷◌, ◌++◌, codes, decimal, length, get_or, map, Option, Some, None, refl, ap, ◌∙◌, sym, true≢false}
use Rattle.std.proofs.lemmas.Grind.{flat_map-append}
use Rattle.std.proofs.lemmas.List.{append_assoc, append-nil, drop_at}
use Rattle.std.specs.List.{flat_map}
use Rattle.lava_base.specs.declared.ids.MadeSymbol.{MadeSymbol}
use Rattle.lava_base.specs.declared.ids.Ref.{Ref}
use Rattle.js_text.specs.Natives.{native_name}
use Rattle.js_text.specs.declared.native.Native.{Native}
use Rattle.js_text.specs.declared.native.Native.TheVariants as native
use Rattle.js_text.specs.declared.value.Key.{Key}
use Rattle.js_text.specs.declared.value.Value.{Value}
use Rattle.js_desc.specs.Asks.{ask_name}
use Rattle.js_desc.specs.declared.ask.Ask.{Ask}
use Rattle.js_desc.specs.declared.ask.Ask.TheVariants as ask
use Rattle.js_desc.specs.declared.crossing.CrossBody.{CrossBody}
use Rattle.js_desc.specs.declared.crossing.CrossBody.TheVariants as body
use Rattle.js_desc.specs.declared.descriptor.PartialDescriptor.{PartialDescriptor}
use Rattle.lava_journal.specs.Bodies.{Pieces, all_spaced, ask_pieces, fields_pieces, global_items, items, key_pieces, module_items, native_items, object_or_null, plain, spaced, target_items, value_pieces}
use Rattle.lava_journal.specs.Quotes.{quoted}
use Rattle.lava_journal.specs.Sheets.{An_object, Plain}
use Rattle.lava_trace.specs.Asks.{ask_at, call_at, construct_at, define_at, get_at, import_at, items_at, make_at, method_of, named_ask_at, native_at, native_from, native_of, proto_at, set_at, spaced_object_at, spaced_target_at, target_at}
use Rattle.lava_trace.specs.Items.{fields_at, globals_at, modules_at, object_at, object_or_word_at, spaced_key_at, spaced_text_at, spaced_value_at, values_at}
use Rattle.lava_trace.specs.Left.{Got, Left, is_letter, skipped}
use Rattle.lava_trace.specs.declared.asks.MethodName.{MethodName}
use Rattle.lava_trace.specs.declared.asks.MethodName.TheVariants as method
use Rattle.lava_trace_laws.specs.Sound.{HasTarget, Sound_ask, Sound_partial}
use Rattle.lava_trace_laws.specs.Spelled.{Place, Reads, at, passed, spelled}
use Rattle.lava_trace_laws.proofs.Field_laws.{fields_read}
use Rattle.lava_trace_laws.proofs.List_laws.{all_start_last, globals_read, modules_read, spaced_key_reads, spaced_text_reads, spaced_value_reads, values_read}
use Rattle.lava_trace_laws.proofs.Name_laws.{closed_word, left, object_reads, word_read}
use Rattle.lava_trace_laws.proofs.Sequence_laws.{Last, StartsLast, behind_one, both_last, last_as, mapped, mapped_last, passed_append, reads_last, rest_names}
use Rattle.lava_trace_laws.proofs.Span_laws.{none_pass}
use Rattle.lava_trace_laws.proofs.Value_laws.{null_reads}

-- METHODS

abbrev method_name : Ask Ref MadeSymbol → MethodName
method_name ask.GetPrototypeOf = method.GetPrototypeOf
method_name (ask.SetPrototypeOf p) = method.SetPrototypeOf
method_name ask.IsExtensible = method.IsExtensible
method_name ask.PreventExtensions = method.PreventExtensions
method_name (ask.GetOwnProperty k) = method.GetOwnProperty
method_name (ask.DefineOwnProperty k d) = method.DefineOwnProperty
method_name (ask.HasProperty k) = method.HasProperty
method_name (ask.Get k r) = method.Get
method_name (ask.Set k v r) = method.Set
method_name (ask.Delete k) = method.Delete
method_name ask.OwnPropertyKeys = method.OwnPropertyKeys
method_name (ask.Call this args) = method.Call
method_name (ask.Construct t args) = method.Construct
method_name (ask.Import link path) = method.Import
method_name (ask.Slot which args) = method.Slot
method_name (ask.Make globals modules) = method.Make
method_name ask.Queue = method.Queue
method_name ask.Turn = method.Turn

method_read : (x : Ask Ref MadeSymbol) → method_of (ask_name x) ≡ method_name x
unfolding method_of
method_read ask.GetPrototypeOf = refl
method_read (ask.SetPrototypeOf p) = refl
method_read ask.IsExtensible = refl
method_read ask.PreventExtensions = refl
method_read (ask.GetOwnProperty k) = refl
method_read (ask.DefineOwnProperty k d) = refl
method_read (ask.HasProperty k) = refl
method_read (ask.Get k r) = refl
method_read (ask.Set k v r) = refl
method_read (ask.Delete k) = refl
method_read ask.OwnPropertyKeys = refl
method_read (ask.Call this args) = refl
method_read (ask.Construct t args) = refl
method_read (ask.Import link path) = refl
method_read (ask.Slot which args) = refl
method_read (ask.Make globals modules) = refl
method_read ask.Queue = refl
method_read ask.Turn = refl

method_letters : (x : Ask Ref MadeSymbol) → none_pass (λ b. not (is_letter b)) (ask_name x) ≡ true
method_letters ask.GetPrototypeOf = refl
method_letters (ask.SetPrototypeOf p) = refl
method_letters ask.IsExtensible = refl
method_letters ask.PreventExtensions = refl
method_letters (ask.GetOwnProperty k) = refl
method_letters (ask.DefineOwnProperty k d) = refl
method_letters (ask.HasProperty k) = refl
method_letters (ask.Get k r) = refl
method_letters (ask.Set k v r) = refl
method_letters (ask.Delete k) = refl
method_letters ask.OwnPropertyKeys = refl
method_letters (ask.Call this args) = refl
method_letters (ask.Construct t args) = refl
method_letters (ask.Import link path) = refl
method_letters (ask.Slot which args) = refl
method_letters (ask.Make globals modules) = refl
method_letters ask.Queue = refl
method_letters ask.Turn = refl

-- NATIVES

pub native_read : (n : Native) → native_of (native_name n) ≡ n
unfolding native_of native_from
native_read native.GetProto = refl
native_read native.SetProto = refl
native_read native.IsExtensible = refl
native_read native.PreventExt = refl
native_read native.GetOwn = refl
native_read native.DefineOwn = refl
native_read native.Has = refl
native_read native.Get = refl
native_read native.Set = refl
native_read native.Delete = refl
native_read native.OwnKeys = refl
native_read native.Apply = refl
native_read native.Construct = refl
native_read native.MakeObject = refl
native_read native.MakeArray = refl
native_read native.IsArray = refl
native_read native.ClassOf = refl
native_read native.IsCommon = refl
native_read native.Bind = refl
native_read native.MakeProxy = refl
native_read native.Revoke = refl
native_read native.UnitAt = refl
native_read native.FromUnits = refl
native_read native.Slice = refl
native_read native.IndexIn = refl
native_read native.Concat = refl
native_read native.ToText = refl
native_read native.ToNumber = refl
native_read native.ToKey = refl
native_read native.Ascii = refl
native_read native.SortTexts = refl
native_read native.MakeSymbol = refl
native_read native.SymbolFor = refl
native_read native.MakeError = refl
native_read native.MakeMap = refl
native_read native.MapGet = refl
native_read native.MapSet = refl
native_read native.MapHas = refl
native_read native.MapDelete = refl
native_read native.MapClear = refl
native_read native.MapNext = refl
native_read native.MapKeyAt = refl
native_read native.MapSize = refl
native_read native.MakeCompartment = refl
native_read native.Evaluate = refl
native_read native.CompartmentGlobal = refl
native_read native.MakePromise = refl
native_read native.Settle = refl
native_read native.React = refl
native_read native.Queue = refl
native_read native.ImportModule = refl
native_read native.IsModule = refl

native_letters : (n : Native) → none_pass (λ b. not (is_letter b)) (native_name n) ≡ true
native_letters native.GetProto = refl
native_letters native.SetProto = refl
native_letters native.IsExtensible = refl
native_letters native.PreventExt = refl
native_letters native.GetOwn = refl
native_letters native.DefineOwn = refl
native_letters native.Has = refl
native_letters native.Get = refl
native_letters native.Set = refl
native_letters native.Delete = refl
native_letters native.OwnKeys = refl
native_letters native.Apply = refl
native_letters native.Construct = refl
native_letters native.MakeObject = refl
native_letters native.MakeArray = refl
native_letters native.IsArray = refl
native_letters native.ClassOf = refl
native_letters native.IsCommon = refl
native_letters native.Bind = refl
native_letters native.MakeProxy = refl
native_letters native.Revoke = refl
native_letters native.UnitAt = refl
native_letters native.FromUnits = refl
native_letters native.Slice = refl
native_letters native.IndexIn = refl
native_letters native.Concat = refl
native_letters native.ToText = refl
native_letters native.ToNumber = refl
native_letters native.ToKey = refl
native_letters native.Ascii = refl
native_letters native.SortTexts = refl
native_letters native.MakeSymbol = refl
native_letters native.SymbolFor = refl
native_letters native.MakeError = refl
native_letters native.MakeMap = refl
native_letters native.MapGet = refl
native_letters native.MapSet = refl
native_letters native.MapHas = refl
native_letters native.MapDelete = refl
native_letters native.MapClear = refl
native_letters native.MapNext = refl
native_letters native.MapKeyAt = refl
native_letters native.MapSize = refl
native_letters native.MakeCompartment = refl
native_letters native.Evaluate = refl
native_letters native.CompartmentGlobal = refl
native_letters native.MakePromise = refl
native_letters native.Settle = refl
native_letters native.React = refl
native_letters native.Queue = refl
native_letters native.ImportModule = refl
native_letters native.IsModule = refl

-- the native of a Slot
abbrev native_in : Ask Ref MadeSymbol → Native
native_in (ask.Slot which args) = which
native_in _ = native.GetProto

native_reads : (x : Ask Ref MadeSymbol) → Reads (native_at (method_name x)) (all_spaced (native_items x)) (native_in x)
unfolding native_at all_spaced spaced
native_reads ask.GetPrototypeOf listed c q h e = refl
native_reads (ask.SetPrototypeOf p) listed c q h e = refl
native_reads ask.IsExtensible listed c q h e = refl
native_reads ask.PreventExtensions listed c q h e = refl
native_reads (ask.GetOwnProperty k) listed c q h e = refl
native_reads (ask.DefineOwnProperty k d) listed c q h e = refl
native_reads (ask.HasProperty k) listed c q h e = refl
native_reads (ask.Get k r) listed c q h e = refl
native_reads (ask.Set k v r) listed c q h e = refl
native_reads (ask.Delete k) listed c q h e = refl
native_reads ask.OwnPropertyKeys listed c q h e = refl
native_reads (ask.Call this args) listed c q h e = refl
native_reads (ask.Construct t args) listed c q h e = refl
native_reads (ask.Import link path) listed c q h e = refl
native_reads (ask.Slot which args) listed c q h e =
    let rest = spelled c.names listed q in
    let w = native_name which in
    ap (λ (v : List ℕ). (native_of v, skipped (length v) (left (w ++ rest) c.marks c.named))) (word_read w rest c.marks c.named (native_letters which) (closed_word (get_or rest 0 0) e))
    ∙ ap (λ (n : Native). (n, skipped (length w) (left (w ++ rest) c.marks c.named))) (native_read which)
    ∙ ap (λ (bs : List ℕ). (which, left bs c.marks c.named)) (drop_at w rest (length w) refl)
native_reads (ask.Make globals modules) listed c q h e = refl
native_reads ask.Queue listed c q h e = refl
native_reads ask.Turn listed c q h e = refl

native_starts : (x : Ask Ref MadeSymbol) (ps : Pieces Ref MadeSymbol) → StartsLast ps → StartsLast (all_spaced (native_items x) ++ ps)
unfolding all_spaced spaced
native_starts ask.GetPrototypeOf ps s listed names = s listed names
native_starts (ask.SetPrototypeOf p) ps s listed names = s listed names
native_starts ask.IsExtensible ps s listed names = s listed names
native_starts ask.PreventExtensions ps s listed names = s listed names
native_starts (ask.GetOwnProperty k) ps s listed names = s listed names
native_starts (ask.DefineOwnProperty k d) ps s listed names = s listed names
native_starts (ask.HasProperty k) ps s listed names = s listed names
native_starts (ask.Get k r) ps s listed names = s listed names
native_starts (ask.Set k v r) ps s listed names = s listed names
native_starts (ask.Delete k) ps s listed names = s listed names
native_starts ask.OwnPropertyKeys ps s listed names = s listed names
native_starts (ask.Call this args) ps s listed names = s listed names
native_starts (ask.Construct t args) ps s listed names = s listed names
native_starts (ask.Import link path) ps s listed names = s listed names
native_starts (ask.Slot which args) ps s listed names = refl
native_starts (ask.Make globals modules) ps s listed names = s listed names
native_starts ask.Queue ps s listed names = s listed names
native_starts ask.Turn ps s listed names = s listed names

-- TARGETS

target_some : (r : Ref) → Reads spaced_target_at (all_spaced (target_items (Some r))) (Some r)
unfolding spaced_target_at spaced_object_at all_spaced spaced
target_some r = mapped Some (λ l. object_at (skipped 1 l)) (Plain (codes " ") ∷ (An_object r ∷ [])) r (behind_one object_at (An_object r ∷ []) r (object_reads r))

target_reads : (target : Option Ref) (x : Ask Ref MadeSymbol) → HasTarget target x → Reads (target_at (method_name x)) (all_spaced (target_items target)) target
unfolding target_at all_spaced spaced
target_reads None ask.GetPrototypeOf w listed c q h e = absurd (true≢false (sym w))
target_reads (Some a) ask.GetPrototypeOf w listed c q h e = target_some a listed c q h e
target_reads None (ask.SetPrototypeOf p) w listed c q h e = absurd (true≢false (sym w))
target_reads (Some a) (ask.SetPrototypeOf p) w listed c q h e = target_some a listed c q h e
target_reads None ask.IsExtensible w listed c q h e = absurd (true≢false (sym w))
target_reads (Some a) ask.IsExtensible w listed c q h e = target_some a listed c q h e
target_reads None ask.PreventExtensions w listed c q h e = absurd (true≢false (sym w))
target_reads (Some a) ask.PreventExtensions w listed c q h e = target_some a listed c q h e
target_reads None (ask.GetOwnProperty k) w listed c q h e = absurd (true≢false (sym w))
target_reads (Some a) (ask.GetOwnProperty k) w listed c q h e = target_some a listed c q h e
target_reads None (ask.DefineOwnProperty k d) w listed c q h e = absurd (true≢false (sym w))
target_reads (Some a) (ask.DefineOwnProperty k d) w listed c q h e = target_some a listed c q h e
target_reads None (ask.HasProperty k) w listed c q h e = absurd (true≢false (sym w))
target_reads (Some a) (ask.HasProperty k) w listed c q h e = target_some a listed c q h e
target_reads None (ask.Get k r) w listed c q h e = absurd (true≢false (sym w))
target_reads (Some a) (ask.Get k r) w listed c q h e = target_some a listed c q h e
target_reads None (ask.Set k v r) w listed c q h e = absurd (true≢false (sym w))
target_reads (Some a) (ask.Set k v r) w listed c q h e = target_some a listed c q h e
target_reads None (ask.Delete k) w listed c q h e = absurd (true≢false (sym w))
target_reads (Some a) (ask.Delete k) w listed c q h e = target_some a listed c q h e
target_reads None ask.OwnPropertyKeys w listed c q h e = absurd (true≢false (sym w))
target_reads (Some a) ask.OwnPropertyKeys w listed c q h e = target_some a listed c q h e
target_reads None (ask.Call this args) w listed c q h e = absurd (true≢false (sym w))
target_reads (Some a) (ask.Call this args) w listed c q h e = target_some a listed c q h e
target_reads None (ask.Construct t args) w listed c q h e = absurd (true≢false (sym w))
target_reads (Some a) (ask.Construct t args) w listed c q h e = target_some a listed c q h e
target_reads None (ask.Import link path) w listed c q h e = refl
target_reads (Some a) (ask.Import link path) w listed c q h e = absurd (true≢false w)
target_reads None (ask.Slot which args) w listed c q h e = absurd (true≢false (sym w))
target_reads (Some a) (ask.Slot which args) w listed c q h e = target_some a listed c q h e
target_reads None (ask.Make globals modules) w listed c q h e = refl
target_reads (Some a) (ask.Make globals modules) w listed c q h e = absurd (true≢false w)
target_reads None ask.Queue w listed c q h e = refl
target_reads (Some a) ask.Queue w listed c q h e = absurd (true≢false w)
target_reads None ask.Turn w listed c q h e = refl
target_reads (Some a) ask.Turn w listed c q h e = absurd (true≢false w)

target_starts : (target : Option Ref) (ps : List (Pieces Ref MadeSymbol)) → StartsLast (all_spaced (target_items target) ++ all_spaced ps)
unfolding all_spaced spaced
target_starts None ps listed names = all_start_last ps listed names
target_starts (Some r) ps listed names = refl

-- ITEMS

-- one thing behind a space, the last of the line
one_last : {X : Type 0} (f : Left → Got X) (a : Pieces Ref MadeSymbol) (x : X) → Reads f (spaced a) x → Last f (all_spaced (a ∷ [])) x
unfolding all_spaced
one_last f a x r = last_as f (spaced a) (spaced a ++ []) x (sym (append-nil (spaced a))) (reads_last f (spaced a) x r)

-- one thing behind a space, and others
first_last : {X Y Z : Type 0} (F : X → Y → Z) (f : Left → Got X) (g : Left → Got Y) (a : Pieces Ref MadeSymbol) (ps : List (Pieces Ref MadeSymbol)) (x : X) (y : Y)
    → Reads f (spaced a) x → Last g (all_spaced ps) y → Last (λ l. (F (f l).0 (g (f l).1).0, (g (f l).1).1)) (all_spaced (a ∷ ps)) (F x y)
unfolding all_spaced
first_last F f g a ps x y r s = both_last F f g (spaced a) (all_spaced ps) x y r s (all_start_last ps)

null_spaced : (p : Option Ref) → Reads (λ l. object_or_word_at 4 (skipped 1 l)) (spaced (object_or_null p)) p
unfolding spaced
null_spaced p = behind_one (object_or_word_at 4) (object_or_null p) p (null_reads p)

object_spaced : (r : Ref) → Reads spaced_object_at (spaced (An_object r ∷ [])) r
unfolding spaced spaced_object_at
object_spaced r = behind_one object_at (An_object r ∷ []) r (object_reads r)

fields_spaced : (d : PartialDescriptor Ref MadeSymbol) → Sound_partial d → Reads (λ l. fields_at (skipped 1 l)) (spaced (fields_pieces d)) d
unfolding spaced
fields_spaced d o = behind_one fields_at (fields_pieces d) d (fields_read d o)

make_parts : (gs : List (Key MadeSymbol × Value Ref MadeSymbol)) (ms : List (List ℕ × Value Ref MadeSymbol))
    → (spaced (plain (decimal (length gs))) ++ all_spaced (flat_map global_items gs)) ++ (spaced (plain (decimal (length ms))) ++ all_spaced (flat_map module_items ms)) ≡ all_spaced (items (ask.Make gs ms))
unfolding all_spaced
make_parts gs ms =
    append_assoc (spaced (plain (decimal (length gs)))) (all_spaced (flat_map global_items gs)) (spaced (plain (decimal (length ms))) ++ all_spaced (flat_map module_items ms))
    ∙ ap (λ l. spaced (plain (decimal (length gs))) ++ l) (sym (flat_map-append spaced (flat_map global_items gs) (plain (decimal (length ms)) ∷ flat_map module_items ms)))

modules_start : (ms : List (List ℕ × Value Ref MadeSymbol)) → StartsLast (spaced (plain (decimal (length ms))) ++ all_spaced (flat_map module_items ms))
unfolding spaced
modules_start ms listed names = refl

items_read : (x : Ask Ref MadeSymbol) → Sound_ask x → Last (items_at (method_name x) (native_in x)) (all_spaced (items x)) x
unfolding items_at all_spaced proto_at define_at get_at set_at call_at construct_at import_at make_at
items_read ask.GetPrototypeOf o listed c h = refl
items_read (ask.SetPrototypeOf p) o listed c h = mapped_last (λ v. ask.SetPrototypeOf v) (λ l. object_or_word_at 4 (skipped 1 l)) _ p (one_last (λ l. object_or_word_at 4 (skipped 1 l)) (object_or_null p) p (null_spaced p)) listed c h
items_read ask.IsExtensible o listed c h = refl
items_read ask.PreventExtensions o listed c h = refl
items_read (ask.GetOwnProperty k) o listed c h = mapped_last (λ v. ask.GetOwnProperty v) spaced_key_at _ k (one_last spaced_key_at (key_pieces k) k (spaced_key_reads k o)) listed c h
items_read (ask.DefineOwnProperty k d) o listed c h =
    first_last (λ v w. ask.DefineOwnProperty v w) spaced_key_at (λ l. fields_at (skipped 1 l)) (key_pieces k) (fields_pieces d ∷ []) k d (spaced_key_reads k o.0) (one_last (λ l. fields_at (skipped 1 l)) (fields_pieces d) d (fields_spaced d o.1)) listed c h
items_read (ask.HasProperty k) o listed c h = mapped_last (λ v. ask.HasProperty v) spaced_key_at _ k (one_last spaced_key_at (key_pieces k) k (spaced_key_reads k o)) listed c h
items_read (ask.Get k r) o listed c h =
    first_last (λ v w. ask.Get v w) spaced_key_at spaced_value_at (key_pieces k) (value_pieces r ∷ []) k r (spaced_key_reads k o.0) (one_last spaced_value_at (value_pieces r) r (spaced_value_reads r o.1)) listed c h
items_read (ask.Set k v r) o listed c h =
    first_last (λ a (b : Value Ref MadeSymbol × Value Ref MadeSymbol). ask.Set a b.0 b.1) spaced_key_at (λ l. (((spaced_value_at l).0, (spaced_value_at (spaced_value_at l).1).0), (spaced_value_at (spaced_value_at l).1).1)) (key_pieces k) (value_pieces v ∷ value_pieces r ∷ []) k (v, r) (spaced_key_reads k o.0)
    (first_last (λ a b. (a, b)) spaced_value_at spaced_value_at (value_pieces v) (value_pieces r ∷ []) v r (spaced_value_reads v o.1) (one_last spaced_value_at (value_pieces r) r (spaced_value_reads r o.2))) listed c h
items_read (ask.Delete k) o listed c h = mapped_last (λ v. ask.Delete v) spaced_key_at _ k (one_last spaced_key_at (key_pieces k) k (spaced_key_reads k o)) listed c h
items_read ask.OwnPropertyKeys o listed c h = refl
items_read (ask.Call this args) o listed c h =
    first_last (λ v w. ask.Call v w) spaced_value_at values_at (value_pieces this) (map value_pieces args) this args (spaced_value_reads this o.0) (values_read args o.1) listed c h
items_read (ask.Construct t args) o listed c h =
    first_last (λ v w. ask.Construct v w) spaced_object_at values_at (An_object t ∷ []) (map value_pieces args) t args (object_spaced t) (values_read args o) listed c h
items_read (ask.Import link path) o listed c h =
    first_last (λ v w. ask.Import v w) spaced_text_at spaced_text_at (plain (quoted link)) (plain (quoted path) ∷ []) link path (spaced_text_reads link o.0) (one_last spaced_text_at (plain (quoted path)) path (spaced_text_reads path o.1)) listed c h
items_read (ask.Slot which args) o listed c h = mapped_last (λ v. ask.Slot which v) values_at _ args (values_read args o) listed c h
items_read (ask.Make globals modules) o listed c h =
    last_as (λ l. (ask.Make (globals_at l).0 (modules_at (globals_at l).1).0, (modules_at (globals_at l).1).1)) _ _ (ask.Make globals modules) (make_parts globals modules)
    (both_last (λ v w. ask.Make v w) globals_at modules_at _ _ globals modules (globals_read globals o.0 o.1) (reads_last modules_at _ modules (modules_read modules o.2 o.3)) (modules_start modules)) listed c h
items_read ask.Queue o listed c h = refl
items_read ask.Turn o listed c h = refl

-- THE WHOLE ASK

abbrev behind_method : Option Ref → Ask Ref MadeSymbol → Pieces Ref MadeSymbol
behind_method target x = all_spaced (native_items x) ++ (all_spaced (target_items target) ++ all_spaced (items x))

abbrev asked_then : MethodName → Native → Got (Option Ref) → Got (CrossBody Ref MadeSymbol)
asked_then m n t = (body.Ask t.0 (items_at m n t.1).0, (items_at m n t.1).1)

named_read : (target : Option Ref) (x : Ask Ref MadeSymbol) → HasTarget target x → Sound_ask x → Last (named_ask_at (method_name x)) (behind_method target x) (body.Ask target x)
unfolding named_ask_at
named_read target x t o listed c h =
    let m = method_name x in
    let n : Pieces Ref MadeSymbol = all_spaced (native_items x) in
    let a : Pieces Ref MadeSymbol = all_spaced (target_items target) in
    let i : Pieces Ref MadeSymbol = all_spaced (items x) in
    let c1 = passed listed c n in
    let c2 = passed listed c1 a in
    let h1 = rest_names listed c n (a ++ i) h in
    let h2 = rest_names listed c1 a i h1 in
    ap (λ (w : Got Native). asked_then m w.0 (target_at m w.1)) (native_reads x listed c (a ++ i) h (target_starts target (items x) listed c1.names))
    ∙ ap (asked_then m (native_in x)) (target_reads target x t listed c1 i h1 (all_start_last (items x) listed c2.names))
    ∙ ap (λ (g : Got (Ask Ref MadeSymbol)). (body.Ask target g.0, g.1)) (items_read x o listed c2 h2)
    ∙ ap (λ (k : Place). (body.Ask target x, at listed k [])) (sym (passed_append listed c n (a ++ i) ∙ passed_append listed c1 a i))

pub ask_reads : (target : Option Ref) (x : Ask Ref MadeSymbol) → HasTarget target x → Sound_ask x → Last (λ l. ask_at (skipped 4 l)) (ask_pieces target x) (body.Ask target x)
unfolding ask_at
ask_reads target x t o listed c h =
    let rest = spelled c.names listed (behind_method target x) in
    let w = ask_name x in
    let l = left (w ++ rest) c.marks c.named in
    let closed = native_starts x _ (target_starts target (items x)) listed c.names in
    ap (λ (v : List ℕ). named_ask_at (method_of v) (skipped (length v) l)) (word_read w rest c.marks c.named (method_letters x) (closed_word (get_or rest 0 0) closed))
    ∙ ap (λ (m : MethodName). named_ask_at m (skipped (length w) l)) (method_read x)
    ∙ ap (λ (bs : List ℕ). named_ask_at (method_name x) (left bs c.marks c.named)) (drop_at w rest (length w) refl)
    ∙ named_read target x t o listed c h.1.1
