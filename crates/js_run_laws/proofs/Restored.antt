-- What is renamed there and back is as it was, where each object and made symbol in it is.
use Rattle.std.proofs.Common.{◌≡◌, ℕ, List, [], ◌∷◌, ◌++◌, map, Option, Some, None, refl, inl, inr}
use Rattle.std.specs.Option.{option_map}
use Rattle.js_text.specs.Identities.{Identity, Of_object, Of_symbol, map_identity, symbol_identities, key_identities, value_identities}
use Rattle.js_text.specs.Maps.{map_symbol, map_key, map_value}
use Rattle.js_text.specs.declared.value.Key.{Key}
use Rattle.js_text.specs.declared.value.Key.TheVariants as key
use Rattle.js_text.specs.declared.value.Symbol.{Symbol}
use Rattle.js_text.specs.declared.value.Symbol.TheVariants.{Iterator, Registered, Made}
use Rattle.js_text.specs.declared.value.Value.{Value}
use Rattle.js_text.specs.declared.value.Value.TheVariants as value
use Rattle.js_desc.specs.Identities.{all_identities, option_identities, ref_identities, descriptor_identities, partial_identities, global_identities, module_identities, ask_identities, reply_identities}
use Rattle.js_desc.specs.Maps.{map_descriptor, map_partial, map_global, map_module, map_ask, map_reply}
use Rattle.js_desc.specs.declared.ask.Ask as a
use Rattle.js_desc.specs.declared.ask.Ask.TheVariants as ask
use Rattle.js_desc.specs.declared.descriptor.Descriptor.{Descriptor}
use Rattle.js_desc.specs.declared.descriptor.Descriptor.TheVariants.{Data, Accessor}
use Rattle.js_desc.specs.declared.descriptor.PartialDescriptor.{PartialDescriptor}
use Rattle.js_desc.specs.declared.reply.Reply.{Reply}
use Rattle.js_desc.specs.declared.reply.Reply.TheVariants as reply
use Rattle.js_store.specs.Identities.{lexical_identities, live_identities, held_identities, proxied_identities, entry_identities, reaction_identities, promise_identities, slot_identities, property_identities, object_identities}
use Rattle.js_store.specs.Maps.{map_lexical, map_live, map_held, map_proxied, map_entry, map_reaction, map_promise, map_slot, map_property, map_object}
use Rattle.js_store.specs.Objects.{Object}
use Rattle.js_store.specs.declared.slot.Entry.{Entry}
use Rattle.js_store.specs.declared.slot.Held.{Held}
use Rattle.js_store.specs.declared.slot.Held.TheVariants as held
use Rattle.js_store.specs.declared.slot.Lexical.{Lexical}
use Rattle.js_store.specs.declared.slot.Live.{Live}
use Rattle.js_store.specs.declared.slot.Promise.{Promise}
use Rattle.js_store.specs.declared.slot.Proxied.{Proxied}
use Rattle.js_store.specs.declared.slot.Reaction.{Reaction}
use Rattle.js_store.specs.declared.slot.Slot.{Slot}
use Rattle.js_store.specs.declared.slot.Slot.TheVariants as slot
use Rattle.js_run.specs.Identities.{Message, Requests, Replies, request_identities, message_identities, history_identities, scope_identities, open_body_identities, party_identities, IsAmong}
use Rattle.js_run.specs.Maps.{map_request, map_message, map_scope, map_open_body, map_party}
use Rattle.js_state.specs.Scopes.{Scope}
use Rattle.js_run.specs.Parties.{Body, Party}
use Rattle.js_run.specs.Runs.{Request, Asks, Imports, Makes}
use Rattle.js_run_laws.proofs.Looks.{in_front, behind}

module _ {A B S T : Type 0} (f : A → B) (g : S → T) (h : B → A) (k : T → S) where
  -- each of these comes back
  abbrev pub Restores : List (Identity A S) → Type 0
  Restores xs = (a : Identity A S) → IsAmong a xs → map_identity h k (map_identity f g a) ≡ a

  abbrev to : Symbol S → Symbol T
  to s = map_symbol g s

  abbrev fro : Symbol T → Symbol S
  fro s = map_symbol k s

  pub first_of : (xs ys : List (Identity A S)) → Restores (xs ++ ys) → Restores xs
  first_of xs ys r a z = r a (in_front a xs ys z)

  pub second_of : (xs ys : List (Identity A S)) → Restores (xs ++ ys) → Restores ys
  second_of xs ys r a z = r a (behind a xs ys z)

  rest_of : (x : Identity A S) (xs : List (Identity A S)) → Restores (x ∷ xs) → Restores xs
  rest_of x xs r a z = r a (inr z)

  object_restored : (x : A) (xs : List (Identity A S)) → Restores (Of_object x ∷ xs) → h (f x) ≡ x
  object_restored x xs r = let e = r (Of_object x) (inl refl) in cc e

  all_restored : {X Y : Type 0} (each : X → List (Identity A S)) (there : X → Y) (back : Y → X) → ((x : X) → Restores (each x) → back (there x) ≡ x) → (xs : List X) → Restores (all_identities each xs) → map back (map there xs) ≡ xs
  all_restored each there back restored [] r = refl
  all_restored each there back restored (x ∷ xs) r = λ j. restored x (first_of (each x) (all_identities each xs) r) j ∷ all_restored each there back restored xs (second_of (each x) (all_identities each xs) r) j

  option_restored : {X Y : Type 0} (each : X → List (Identity A S)) (there : X → Y) (back : Y → X) → ((x : X) → Restores (each x) → back (there x) ≡ x) → (o : Option X) → Restores (option_identities each o) → option_map back (option_map there o) ≡ o
  option_restored each there back restored None r = refl
  option_restored each there back restored (Some x) r = λ j. Some (restored x r j)

  ref_restored : (o : Option A) → Restores (option_identities ref_identities o) → option_map h (option_map f o) ≡ o
  ref_restored o r = option_restored ref_identities f h (λ x z. object_restored x [] z) o r

  -- VALUES
  symbol_restored : (s : Symbol S) → Restores (symbol_identities s) → fro (to s) ≡ s
  symbol_restored Iterator r = refl
  symbol_restored (Registered t) r = refl
  symbol_restored (Made s) r = let e = r (Of_symbol s) (inl refl) in let z : k (g s) ≡ s = cc e in λ j. Made (z j)

  key_restored : (x : Key S) → Restores (key_identities x) → map_key fro (map_key to x) ≡ x
  key_restored (key.Index n) r = refl
  key_restored (key.Text t) r = refl
  key_restored (key.Symbol s) r = λ j. key.Symbol (symbol_restored s r j)

  value_restored : (v : Value A S) → Restores (value_identities v) → map_value h fro (map_value f to v) ≡ v
  value_restored value.Undefined r = refl
  value_restored value.Null r = refl
  value_restored (value.Bool b) r = refl
  value_restored (value.Int n) r = refl
  value_restored (value.Text t) r = refl
  value_restored (value.Symbol s) r = λ j. value.Symbol (symbol_restored s r j)
  value_restored (value.Ref x) r = λ j. value.Ref (object_restored x [] r j)

  values_restored : (vs : List (Value A S)) → Restores (all_identities value_identities vs) → map (map_value h fro) (map (map_value f to) vs) ≡ vs
  values_restored vs r = all_restored value_identities (map_value f to) (map_value h fro) value_restored vs r

  -- DESCRIPTORS, ASKS AND REPLIES
  descriptor_restored : (d : Descriptor A S) → Restores (descriptor_identities d) → map_descriptor h fro (map_descriptor f to d) ≡ d
  descriptor_restored (Data v w e c) r = λ j. Data (value_restored v r j) w e c
  descriptor_restored (Accessor get set e c) r =
      λ j. Accessor
      (ref_restored get (first_of (option_identities ref_identities get) (option_identities ref_identities set) r) j)
      (ref_restored set (second_of (option_identities ref_identities get) (option_identities ref_identities set) r) j) e c

  half_restored : (o : Option (Option A)) → Restores (option_identities (option_identities ref_identities) o) → option_map (option_map h) (option_map (option_map f) o) ≡ o
  half_restored o r = option_restored (option_identities ref_identities) (option_map f) (option_map h) ref_restored o r

  partial_restored : (d : PartialDescriptor A S) → Restores (partial_identities d) → map_partial h fro (map_partial f to d) ≡ d
  partial_restored d r =
      let vs = option_identities value_identities d.value in
      let gets = option_identities (option_identities ref_identities) d.get in
      let sets = option_identities (option_identities ref_identities) d.set in
      λ j. record {
        value = option_restored value_identities (map_value f to) (map_value h fro) value_restored d.value (first_of vs (gets ++ sets) r) j;
        writable = d.writable;
        get = half_restored d.get (first_of gets sets (second_of vs (gets ++ sets) r)) j;
        set = half_restored d.set (second_of gets sets (second_of vs (gets ++ sets) r)) j;
        enumerable = d.enumerable;
        configurable = d.configurable;
      }

  global_restored : (x : Key S × Value A S) → Restores (global_identities x) → map_global h fro (map_global f to x) ≡ x
  global_restored x r = λ j. (key_restored x.0 (first_of (key_identities x.0) (value_identities x.1) r) j, value_restored x.1 (second_of (key_identities x.0) (value_identities x.1) r) j)

  module_restored : (m : List ℕ × Value A S) → Restores (module_identities m) → map_module h fro (map_module f to m) ≡ m
  module_restored m r = λ j. (m.0, value_restored m.1 r j)

  globals_restored : (xs : List (Key S × Value A S)) → Restores (all_identities global_identities xs) → map (map_global h fro) (map (map_global f to) xs) ≡ xs
  globals_restored xs r = all_restored global_identities (map_global f to) (map_global h fro) global_restored xs r

  modules_restored : (xs : List (List ℕ × Value A S)) → Restores (all_identities module_identities xs) → map (map_module h fro) (map (map_module f to) xs) ≡ xs
  modules_restored xs r = all_restored module_identities (map_module f to) (map_module h fro) module_restored xs r

  ask_restored : (x : a.Ask A S) → Restores (ask_identities x) → map_ask h fro (map_ask f to x) ≡ x
  ask_restored ask.GetPrototypeOf r = refl
  ask_restored (ask.SetPrototypeOf o) r = λ j. ask.SetPrototypeOf (ref_restored o r j)
  ask_restored ask.IsExtensible r = refl
  ask_restored ask.PreventExtensions r = refl
  ask_restored (ask.GetOwnProperty x) r = λ j. ask.GetOwnProperty (key_restored x r j)
  ask_restored (ask.DefineOwnProperty x d) r = λ j. ask.DefineOwnProperty (key_restored x (first_of (key_identities x) (partial_identities d) r) j) (partial_restored d (second_of (key_identities x) (partial_identities d) r) j)
  ask_restored (ask.HasProperty x) r = λ j. ask.HasProperty (key_restored x r j)
  ask_restored (ask.Get x receiver) r = λ j. ask.Get (key_restored x (first_of (key_identities x) (value_identities receiver) r) j) (value_restored receiver (second_of (key_identities x) (value_identities receiver) r) j)
  ask_restored (ask.Set x v receiver) r =
      let rest = second_of (key_identities x) (value_identities v ++ value_identities receiver) r in
      λ j. ask.Set
      (key_restored x (first_of (key_identities x) (value_identities v ++ value_identities receiver) r) j)
      (value_restored v (first_of (value_identities v) (value_identities receiver) rest) j)
      (value_restored receiver (second_of (value_identities v) (value_identities receiver) rest) j)
  ask_restored (ask.Delete x) r = λ j. ask.Delete (key_restored x r j)
  ask_restored ask.OwnPropertyKeys r = refl
  ask_restored (ask.Call this args) r = λ j. ask.Call (value_restored this (first_of (value_identities this) (all_identities value_identities args) r) j) (values_restored args (second_of (value_identities this) (all_identities value_identities args) r) j)
  ask_restored (ask.Construct target args) r = λ j. ask.Construct (object_restored target (all_identities value_identities args) r j) (values_restored args (rest_of (Of_object target) (all_identities value_identities args) r) j)
  ask_restored (ask.Import link path) r = refl
  ask_restored (ask.Slot which args) r = λ j. ask.Slot which (values_restored args r j)
  ask_restored (ask.Make globals modules) r =
      λ j. ask.Make
      (globals_restored globals (first_of (all_identities global_identities globals) (all_identities module_identities modules) r) j)
      (modules_restored modules (second_of (all_identities global_identities globals) (all_identities module_identities modules) r) j)
  ask_restored ask.Queue r = refl
  ask_restored ask.Turn r = refl

  reply_restored : (x : Reply A S) → Restores (reply_identities x) → map_reply h fro (map_reply f to x) ≡ x
  reply_restored (reply.Value v) r = λ j. reply.Value (value_restored v r j)
  reply_restored (reply.Proto o) r = λ j. reply.Proto (ref_restored o r j)
  reply_restored (reply.Flag b) r = refl
  reply_restored (reply.Desc d) r = λ j. reply.Desc (option_restored descriptor_identities (map_descriptor f to) (map_descriptor h fro) descriptor_restored d r j)
  reply_restored (reply.Keys ks) r = λ j. reply.Keys (all_restored key_identities (map_key to) (map_key fro) key_restored ks r j)
  reply_restored (reply.Throw v) r = λ j. reply.Throw (value_restored v r j)

  -- MESSAGES
  request_restored : (x : Request A S) → Restores (request_identities x) → map_request h fro (map_request f to x) ≡ x
  request_restored (Asks o x) r = λ j. Asks (object_restored o (ask_identities x) r j) (ask_restored x (rest_of (Of_object o) (ask_identities x) r) j)
  request_restored (Imports link path) r = refl
  request_restored (Makes globals modules meter) r =
      λ j. Makes
      (globals_restored globals (first_of (all_identities global_identities globals) (all_identities module_identities modules) r) j)
      (modules_restored modules (second_of (all_identities global_identities globals) (all_identities module_identities modules) r) j) meter

  pub message_restored : (x : Message A S) → Restores (message_identities x) → map_message h fro (map_message f to x) ≡ x
  message_restored (Requests x) r = λ j. Requests (request_restored x r j)
  message_restored (Replies x) r = λ j. Replies (reply_restored x r j)

  pub history_restored : (xs : List (Message A S)) → Restores (history_identities xs) → map (map_message h fro) (map (map_message f to) xs) ≡ xs
  history_restored xs r = all_restored message_identities (map_message f to) (map_message h fro) message_restored xs r

  -- OBJECTS
  lexical_restored : (l : Lexical A S) → Restores (lexical_identities l) → map_lexical h fro (map_lexical f to l) ≡ l
  lexical_restored l r =
      let this = option_identities value_identities l.this in
      let target = option_identities ref_identities l.new_target in
      let function = option_identities ref_identities l.function in
      λ j. record {
        this = option_restored value_identities (map_value f to) (map_value h fro) value_restored l.this (first_of this (target ++ function) r) j;
        new_target = ref_restored l.new_target (first_of target function (second_of this (target ++ function) r)) j;
        function = ref_restored l.function (second_of target function (second_of this (target ++ function) r)) j;
      }

  live_restored : (l : Live A S) → Restores (live_identities l) → map_live h fro (map_live f to l) ≡ l
  live_restored l r =
      let names = key_identities l.name ++ option_identities key_identities l.member in
      let rest = rest_of (Of_object l.global) names r in
      λ j. record {
        global = object_restored l.global names r j;
        name = key_restored l.name (first_of (key_identities l.name) (option_identities key_identities l.member) rest) j;
        member = option_restored key_identities (map_key to) (map_key fro) key_restored l.member (second_of (key_identities l.name) (option_identities key_identities l.member) rest) j;
      }

  held_restored : (x : Held A S) → Restores (held_identities x) → map_held h fro (map_held f to x) ≡ x
  held_restored (held.Require number) r = refl
  held_restored held.ModuleMap r = refl
  held_restored (held.LiveGetter l) r = λ j. held.LiveGetter (live_restored l r j)
  held_restored (held.LiveSetter l) r = λ j. held.LiveSetter (live_restored l r j)
  held_restored (held.RepairGetter v) r = λ j. held.RepairGetter (value_restored v r j)
  held_restored (held.RepairSetter prototype x) r = λ j. held.RepairSetter (object_restored prototype (key_identities x) r j) (key_restored x (rest_of (Of_object prototype) (key_identities x) r) j)

  proxied_restored : (x : Proxied A) → Restores (proxied_identities x) → map_proxied h (map_proxied f x) ≡ x
  proxied_restored x r = λ j. record {
    target = object_restored x.target (Of_object x.handler ∷ []) r j;
    handler = object_restored x.handler [] (rest_of (Of_object x.target) (Of_object x.handler ∷ []) r) j;
  }

  entry_restored : (x : Entry A S) → Restores (entry_identities x) → map_entry h fro (map_entry f to x) ≡ x
  entry_restored x r = λ j. record {
    key = value_restored x.key (first_of (value_identities x.key) (value_identities x.value) r) j;
    value = value_restored x.value (second_of (value_identities x.key) (value_identities x.value) r) j;
    live = x.live;
  }

  reaction_restored : (x : Reaction A) → Restores (reaction_identities x) → map_reaction h (map_reaction f x) ≡ x
  reaction_restored x r = λ j. record {
    fulfilled = object_restored x.fulfilled (Of_object x.rejected ∷ []) r j;
    rejected = object_restored x.rejected [] (rest_of (Of_object x.fulfilled) (Of_object x.rejected ∷ []) r) j;
  }

  promise_restored : (x : Promise A S) → Restores (promise_identities x) → map_promise h fro (map_promise f to x) ≡ x
  promise_restored x r = λ j. record {
    state = x.state;
    value = value_restored x.value (first_of (value_identities x.value) (all_identities reaction_identities x.reactions) r) j;
    reactions = all_restored reaction_identities (map_reaction f) (map_reaction h) reaction_restored x.reactions (second_of (value_identities x.value) (all_identities reaction_identities x.reactions) r) j;
  }

  slot_restored : (x : Slot A S) → Restores (slot_identities x) → map_slot h fro (map_slot f to x) ≡ x
  slot_restored slot.Plain r = refl
  slot_restored (slot.Closure body home lexical) r =
      λ j. slot.Closure body
      (ref_restored home (first_of (option_identities ref_identities home) (option_identities lexical_identities lexical) r) j)
      (option_restored lexical_identities (map_lexical f to) (map_lexical h fro) lexical_restored lexical (second_of (option_identities ref_identities home) (option_identities lexical_identities lexical) r) j)
  slot_restored (slot.Held x) r = λ j. slot.Held (held_restored x r j)
  slot_restored (slot.Bound target this args) r =
      let values = value_identities this ++ all_identities value_identities args in
      let rest = rest_of (Of_object target) values r in
      λ j. slot.Bound
      (object_restored target values r j)
      (value_restored this (first_of (value_identities this) (all_identities value_identities args) rest) j)
      (values_restored args (second_of (value_identities this) (all_identities value_identities args) rest) j)
  slot_restored (slot.Proxy x) r = λ j. slot.Proxy (option_restored proxied_identities (map_proxied f) (map_proxied h) proxied_restored x r j)
  slot_restored (slot.Table es) r = λ j. slot.Table (all_restored entry_identities (map_entry f to) (map_entry h fro) entry_restored es r j)
  slot_restored (slot.Chamber global) r = λ j. slot.Chamber (object_restored global [] r j)
  slot_restored (slot.Promised x) r = λ j. slot.Promised (promise_restored x r j)
  slot_restored (slot.Namespace scope exports) r = refl

  property_restored : (x : Key S × Descriptor A S) → Restores (property_identities x) → map_property h fro (map_property f to x) ≡ x
  property_restored x r = λ j. (key_restored x.0 (first_of (key_identities x.0) (descriptor_identities x.1) r) j, descriptor_restored x.1 (second_of (key_identities x.0) (descriptor_identities x.1) r) j)

  object_record_restored : (o : Object A S) → Restores (object_identities o) → map_object h fro (map_object f to o) ≡ o
  object_record_restored o r =
      let prototype = option_identities ref_identities o.prototype in
      let properties = all_identities property_identities o.properties in
      let rest = second_of prototype (properties ++ slot_identities o.slot) r in
      λ j. record {
        prototype = ref_restored o.prototype (first_of prototype (properties ++ slot_identities o.slot) r) j;
        extensible = o.extensible;
        properties = all_restored property_identities (map_property f to) (map_property h fro) property_restored o.properties (first_of properties (slot_identities o.slot) rest) j;
        slot = slot_restored o.slot (second_of properties (slot_identities o.slot) rest) j;
        marks = o.marks;
      }

  -- A PARTY
  value_there : (o : Option (Value A S)) → Restores (option_identities value_identities o) → option_map (map_value h fro) (option_map (map_value f to) o) ≡ o
  value_there o r = option_restored value_identities (map_value f to) (map_value h fro) value_restored o r

  scope_restored : (s : Scope A S) → Restores (scope_identities s) → map_scope h fro (map_scope f to s) ≡ s
  scope_restored s r = λ j. record { outer = s.outer; slots = all_restored (option_identities value_identities) (option_map (map_value f to)) (option_map (map_value h fro)) value_there s.slots r j }

  open_body_restored : (b : Body A S) → Restores (open_body_identities b) → map_open_body h fro (map_open_body f to b) ≡ b
  open_body_restored b r =
      let this = option_identities value_identities b.this in
      let target = option_identities ref_identities b.new_target in
      let function = option_identities ref_identities b.function in
      let home = option_identities ref_identities b.home in
      let after_this = second_of this (target ++ (function ++ home)) r in
      let after_target = second_of target (function ++ home) after_this in
      λ j. record {
        kind = b.kind;
        scope = b.scope;
        this = value_there b.this (first_of this (target ++ (function ++ home)) r) j;
        new_target = ref_restored b.new_target (first_of target (function ++ home) after_this) j;
        function = ref_restored b.function (first_of function home after_target) j;
        home = ref_restored b.home (second_of function home after_target) j;
      }

  pub party_restored : (p : Party A S) → Restores (party_identities p) → map_party h fro (map_party f to p) ≡ p
  party_restored p r =
      let objects = all_identities object_identities p.objects in
      let scopes = all_identities scope_identities p.scopes in
      let bodies = all_identities open_body_identities p.bodies in
      let builtin = option_identities value_identities p.builtin in
      let modules = all_identities module_identities p.module_map in
      let after_objects = second_of objects (scopes ++ (bodies ++ (builtin ++ modules))) r in
      let after_scopes = second_of scopes (bodies ++ (builtin ++ modules)) after_objects in
      let after_bodies = second_of bodies (builtin ++ modules) after_scopes in
      λ j. record {
        name = p.name;
        main = p.main;
        modules = p.modules;
        links = p.links;
        builtin = value_there p.builtin (first_of builtin modules after_bodies) j;
        module_map = modules_restored p.module_map (second_of builtin modules after_bodies) j;
        meter = p.meter;
        objects = all_restored object_identities (map_object f to) (map_object h fro) object_record_restored p.objects (first_of objects (scopes ++ (bodies ++ (builtin ++ modules))) r) j;
        templates = p.templates;
        scopes = all_restored scope_identities (map_scope f to) (map_scope h fro) scope_restored p.scopes (first_of scopes (bodies ++ (builtin ++ modules)) after_objects) j;
        bodies = all_restored open_body_identities (map_open_body f to) (map_open_body h fro) open_body_restored p.bodies (first_of bodies (builtin ++ modules) after_scopes) j;
        depth = p.depth;
        calls = p.calls;
        frozen_errors = p.frozen_errors;
      }
