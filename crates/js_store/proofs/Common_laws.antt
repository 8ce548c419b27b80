-- What frozen objects are as the common part is read as they are.
use Rattle.std.proofs.Common.{◌≡◌, ℕ, zero, suc, ◌<◌, List, [], ◌∷◌, ◌++◌, length, map, replicate, arith, Option, Some, None, refl, ap, ◌∙◌}
use Rattle.std.specs.List.{All, AllByRecursion}
use Rattle.std.specs.Option.{option_map}
use Rattle.std.proofs.lemmas.List.{get_or-map, length-map}
use Rattle.lava_base.specs.declared.ids.MadeSymbol.{MadeSymbol}
use Rattle.lava_base.specs.declared.ids.Ref.{Ref}
use Rattle.lava_base.specs.declared.ids.Ref.TheVariants as reference
use Rattle.js_text.specs.Identities.{Identity, symbol_identities, key_identities, value_identities}
use Rattle.js_text.specs.Maps.{map_symbol, map_key, map_value}
use Rattle.js_text.specs.declared.value.Key.{Key}
use Rattle.js_text.specs.declared.value.Key.TheVariants as key
use Rattle.js_text.specs.declared.value.Symbol.{Symbol}
use Rattle.js_text.specs.declared.value.Symbol.TheVariants.{Iterator, Registered, Made}
use Rattle.js_text.specs.declared.value.Value.{Value}
use Rattle.js_text.specs.declared.value.Value.TheVariants as value
use Rattle.js_desc.specs.Identities.{all_identities, option_identities, ref_identities, descriptor_identities}
use Rattle.js_desc.specs.Maps.{map_descriptor}
use Rattle.js_desc.specs.declared.descriptor.Descriptor.{Descriptor}
use Rattle.js_desc.specs.declared.descriptor.Descriptor.TheVariants.{Data, Accessor}
use Rattle.js_store.specs.Frozen.{IsCommonBelow, IsFrozenObject, IsFrozen, CommonObject, no_symbol, as_read, common_ref, common_at, place_of_common, unmade, common_part, bare}
use Rattle.js_store.specs.Identities.{lexical_identities, live_identities, held_identities, proxied_identities, entry_identities, reaction_identities, promise_identities, slot_identities, property_identities, object_identities}
use Rattle.js_store.specs.Maps.{map_lexical, map_live, map_held, map_proxied, map_entry, map_reaction, map_promise, map_slot, map_property, map_object}
use Rattle.js_store.specs.Objects.{Object, object_at}
use Rattle.js_store.specs.declared.slot.Entry.{Entry}
use Rattle.js_store.specs.declared.slot.Held.{Held}
use Rattle.js_store.specs.declared.slot.Held.TheVariants as held
use Rattle.js_store.specs.declared.slot.Lexical.{Lexical}
use Rattle.js_store.specs.declared.slot.Live.{Live}
use Rattle.js_store.specs.declared.slot.Promise.{Promise}
use Rattle.js_store.specs.declared.slot.Proxied.{Proxied}
use Rattle.js_store.specs.declared.slot.Reaction.{Reaction}
use Rattle.js_store.specs.declared.slot.Slot.{Slot}
use Rattle.js_store.specs.declared.slot.Slot.TheVariants as slot

-- parts of what holds of each item
front : {X : Type 0} (P : X → Type 0) (xs ys : List X) → AllByRecursion P (xs ++ ys) → AllByRecursion P xs
front P [] ys h = tt
front P (x ∷ xs) ys h = (h.0, front P xs ys h.1)

rear : {X : Type 0} (P : X → Type 0) (xs ys : List X) → AllByRecursion P (xs ++ ys) → AllByRecursion P ys
rear P [] ys h = h
rear P (x ∷ xs) ys h = rear P xs ys h.1

module _ (n : ℕ) where
  abbrev Inside : List (Identity Ref MadeSymbol) → Type 0
  Inside xs = AllByRecursion (IsCommonBelow n) xs

  first : (xs ys : List (Identity Ref MadeSymbol)) → Inside (xs ++ ys) → Inside xs
  first = front (IsCommonBelow n)

  second : (xs ys : List (Identity Ref MadeSymbol)) → Inside (xs ++ ys) → Inside ys
  second = rear (IsCommonBelow n)

  -- what is read of what the common part has, where it has no more than common references
  abbrev reads : Symbol ⊥ → Symbol MadeSymbol
  reads s = map_symbol no_symbol s

  option_back : {X Y : Type 0} (each : X → List (Identity Ref MadeSymbol)) (there : X → Y) (again : Y → X) → ((x : X) → Inside (each x) → again (there x) ≡ x) → (o : Option X) → Inside (option_identities each o) → option_map again (option_map there o) ≡ o
  option_back each there again one None h = refl
  option_back each there again one (Some x) h = ap Some (one x h)

  list_back : {X Y : Type 0} (each : X → List (Identity Ref MadeSymbol)) (there : X → Y) (again : Y → X) → ((x : X) → Inside (each x) → again (there x) ≡ x) → (xs : List X) → Inside (all_identities each xs) → map again (map there xs) ≡ xs
  list_back each there again one [] h = refl
  list_back each there again one (x ∷ xs) h = λ j. one x (first (each x) (all_identities each xs) h) j ∷ list_back each there again one xs (second (each x) (all_identities each xs) h) j

  ref_back : (r : Ref) → Inside (ref_identities r) → common_ref (place_of_common r) ≡ r
  ref_back (reference.Common c) h = refl
  ref_back (reference.Own p i) h = absurd h.0

  refs_back : (o : Option Ref) → Inside (option_identities ref_identities o) → option_map common_ref (option_map place_of_common o) ≡ o
  refs_back = option_back ref_identities place_of_common common_ref ref_back

  symbol_back : (s : Symbol MadeSymbol) → Inside (symbol_identities s) → reads (unmade s) ≡ s
  symbol_back Iterator h = refl
  symbol_back (Registered t) h = refl
  symbol_back (Made s) h = absurd h.0

  key_back : (k : Key MadeSymbol) → Inside (key_identities k) → map_key reads (map_key unmade k) ≡ k
  key_back (key.Index i) h = refl
  key_back (key.Text t) h = refl
  key_back (key.Symbol s) h = ap key.Symbol (symbol_back s h)

  value_back : (v : Value Ref MadeSymbol) → Inside (value_identities v) → map_value common_ref reads (map_value place_of_common unmade v) ≡ v
  value_back value.Undefined h = refl
  value_back value.Null h = refl
  value_back (value.Bool b) h = refl
  value_back (value.Int i) h = refl
  value_back (value.Text t) h = refl
  value_back (value.Symbol s) h = ap value.Symbol (symbol_back s h)
  value_back (value.Ref r) h = ap value.Ref (ref_back r h)

  values_back : (vs : List (Value Ref MadeSymbol)) → Inside (all_identities value_identities vs) → map (map_value common_ref reads) (map (map_value place_of_common unmade) vs) ≡ vs
  values_back = list_back value_identities (map_value place_of_common unmade) (map_value common_ref reads) value_back

  descriptor_back : (d : Descriptor Ref MadeSymbol) → Inside (descriptor_identities d) → map_descriptor common_ref reads (map_descriptor place_of_common unmade d) ≡ d
  descriptor_back (Data v w e c) h = λ j. Data (value_back v h j) w e c
  descriptor_back (Accessor g s e c) h = λ j. Accessor (refs_back g (first (option_identities ref_identities g) (option_identities ref_identities s) h) j) (refs_back s (second (option_identities ref_identities g) (option_identities ref_identities s) h) j) e c

  lexical_back : (l : Lexical Ref MadeSymbol) → Inside (lexical_identities l) → map_lexical common_ref reads (map_lexical place_of_common unmade l) ≡ l
  lexical_back l h =
      let this = option_identities value_identities l.this in
      let target = option_identities ref_identities l.new_target in
      let function = option_identities ref_identities l.function in
      let others = second this (target ++ function) h in
      λ j. record { this = option_back value_identities (map_value place_of_common unmade) (map_value common_ref reads) value_back l.this (first this (target ++ function) h) j; new_target = refs_back l.new_target (first target function others) j; function = refs_back l.function (second target function others) j }

  live_back : (l : Live Ref MadeSymbol) → Inside (live_identities l) → map_live common_ref reads (map_live place_of_common unmade l) ≡ l
  live_back l h =
      let member = option_identities key_identities l.member in
      λ j. record { global = ref_back l.global (h.0, tt) j; name = key_back l.name (first (key_identities l.name) member h.1) j; member = option_back key_identities (map_key unmade) (map_key reads) key_back l.member (second (key_identities l.name) member h.1) j }

  held_back : (x : Held Ref MadeSymbol) → Inside (held_identities x) → map_held common_ref reads (map_held place_of_common unmade x) ≡ x
  held_back (held.Require module') h = refl
  held_back held.ModuleMap h = refl
  held_back (held.LiveGetter l) h = ap held.LiveGetter (live_back l h)
  held_back (held.LiveSetter l) h = ap held.LiveSetter (live_back l h)
  held_back (held.RepairGetter v) h = ap held.RepairGetter (value_back v h)
  held_back (held.RepairSetter prototype k) h = λ j. held.RepairSetter (ref_back prototype (h.0, tt) j) (key_back k h.1 j)

  proxied_back : (x : Proxied Ref) → Inside (proxied_identities x) → map_proxied common_ref (map_proxied place_of_common x) ≡ x
  proxied_back x h = λ j. record { target = ref_back x.target (h.0, tt) j; handler = ref_back x.handler h.1 j }

  entry_back : (e : Entry Ref MadeSymbol) → Inside (entry_identities e) → map_entry common_ref reads (map_entry place_of_common unmade e) ≡ e
  entry_back e h = λ j. record { key = value_back e.key (first (value_identities e.key) (value_identities e.value) h) j; value = value_back e.value (second (value_identities e.key) (value_identities e.value) h) j; live = e.live }

  reaction_back : (r : Reaction Ref) → Inside (reaction_identities r) → map_reaction common_ref (map_reaction place_of_common r) ≡ r
  reaction_back r h = λ j. record { fulfilled = ref_back r.fulfilled (h.0, tt) j; rejected = ref_back r.rejected h.1 j }

  promise_back : (p : Promise Ref MadeSymbol) → Inside (promise_identities p) → map_promise common_ref reads (map_promise place_of_common unmade p) ≡ p
  promise_back p h = λ j. record { state = p.state; value = value_back p.value (first (value_identities p.value) (all_identities reaction_identities p.reactions) h) j; reactions = list_back reaction_identities (map_reaction place_of_common) (map_reaction common_ref) reaction_back p.reactions (second (value_identities p.value) (all_identities reaction_identities p.reactions) h) j }

  slot_back : (s : Slot Ref MadeSymbol) → Inside (slot_identities s) → map_slot common_ref reads (map_slot place_of_common unmade s) ≡ s
  slot_back slot.Plain h = refl
  slot_back (slot.Closure body home lexical) h =
      let homes = option_identities ref_identities home in
      let lexicals = option_identities lexical_identities lexical in
      λ j. slot.Closure body (refs_back home (first homes lexicals h) j) (option_back lexical_identities (map_lexical place_of_common unmade) (map_lexical common_ref reads) lexical_back lexical (second homes lexicals h) j)
  slot_back (slot.Held x) h = ap slot.Held (held_back x h)
  slot_back (slot.Bound target this args) h = λ j. slot.Bound (ref_back target (h.0, tt) j) (value_back this (first (value_identities this) (all_identities value_identities args) h.1) j) (values_back args (second (value_identities this) (all_identities value_identities args) h.1) j)
  slot_back (slot.Proxy x) h = ap slot.Proxy (option_back proxied_identities (map_proxied place_of_common) (map_proxied common_ref) proxied_back x h)
  slot_back (slot.Table es) h = ap slot.Table (list_back entry_identities (map_entry place_of_common unmade) (map_entry common_ref reads) entry_back es h)
  slot_back (slot.Chamber global) h = ap slot.Chamber (ref_back global h)
  slot_back (slot.Promised p) h = ap slot.Promised (promise_back p h)
  slot_back (slot.Namespace scope exports) h = refl

  property_back : (p : Key MadeSymbol × Descriptor Ref MadeSymbol) → Inside (property_identities p) → map_property common_ref reads (map_property place_of_common unmade p) ≡ p
  property_back p h = λ j. (key_back p.0 (first (key_identities p.0) (descriptor_identities p.1) h) j, descriptor_back p.1 (second (key_identities p.0) (descriptor_identities p.1) h) j)

  object_back : (o : Object Ref MadeSymbol) → Inside (object_identities o) → as_read common_ref (map_object place_of_common unmade o) ≡ o
  object_back o h =
      let prototypes = option_identities ref_identities o.prototype in
      let properties = all_identities property_identities o.properties in
      let others = second prototypes (properties ++ slot_identities o.slot) h in
      λ j. record {
        prototype = refs_back o.prototype (first prototypes (properties ++ slot_identities o.slot) h) j;
        extensible = o.extensible;
        properties = list_back property_identities (map_property place_of_common unmade) (map_property common_ref reads) property_back o.properties (first properties (slot_identities o.slot) others) j;
        slot = slot_back o.slot (second properties (slot_identities o.slot) others) j;
        marks = o.marks;
      }

-- a frozen object is read as it is
pub common_object : (objects : List (Object Ref MadeSymbol)) (id : ℕ) → IsFrozen objects → id < length objects → common_at (common_part objects) id ≡ object_at objects id
common_object objects id frozen lt =
    ap (as_read common_ref) (get_or-map (map_object place_of_common unmade) objects id _ _ lt)
    ∙ object_back (length objects) (object_at objects id) (frozen id _ lt).inside

-- as a store sees it
pub seen : (objects : List (Object Ref MadeSymbol)) (part : List CommonObject) (id : ℕ) → part ≡ common_part objects → IsFrozen objects → id < length part → common_at part id ≡ object_at objects id
seen objects part id is frozen lt =
    let within : id < length objects = (let n = ap length is ∙ length-map objects (map_object place_of_common unmade) in omega (arith, lt, n)) in
    ap (λ l. common_at l id) is ∙ common_object objects id frozen within

-- and all of them
all_back : (n : ℕ) (objects : List (Object Ref MadeSymbol)) → All (IsFrozenObject n) objects → map (as_read common_ref) (common_part objects) ≡ objects
all_back n [] frozen = refl
all_back n (o ∷ os) frozen =
    let here : IsFrozenObject n o = frozen 0 o (omega arith) in
    let rest : All (IsFrozenObject n) os = λ k d lt. frozen (suc k) d (omega (arith, lt)) in
    λ j. object_back n o here.inside j ∷ all_back n os rest j

pub all_read : (objects : List (Object Ref MadeSymbol)) → IsFrozen objects → map (as_read common_ref) (common_part objects) ≡ objects
all_read objects frozen = all_back (length objects) objects frozen

-- the bare objects are as they are
pub bare_part : (n : ℕ) → common_part (replicate n bare) ≡ replicate n bare
bare_part zero = refl
bare_part (suc n) = ap (λ l. bare ∷ l) (bare_part n)
