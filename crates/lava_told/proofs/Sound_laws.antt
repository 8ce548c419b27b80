-- What can be written can be under other names: texts, integers and keys stay as they are, and so does what an ask wants.
use Rattle.std.proofs.Common.{◌≡◌, ℕ, ◌<◌, ◌^◌, ◌==◌, ◌&&◌, not, if◌then◌else◌, is_some, nat_le, nat_lt, List, [], ◌∷◌, map, Option, Some, None, refl, ap, ◌∙◌, sym, subst}
use Rattle.std.proofs.lemmas.List.{length-map}
use Rattle.std.specs.List.{AllByRecursion}
use Rattle.std.specs.Option.{option_map}
use Rattle.std.specs.Prelude.{IfSome}
use Rattle.lava_base.specs.declared.ids.MadeSymbol.{MadeSymbol}
use Rattle.lava_base.specs.declared.ids.Ref.{Ref}
use Rattle.js_text.specs.Maps.{map_key, map_symbol, map_value}
use Rattle.js_text.specs.declared.value.Key.{Key}
use Rattle.js_text.specs.declared.value.Key.TheVariants as key
use Rattle.js_text.specs.declared.value.Symbol.{Symbol}
use Rattle.js_text.specs.declared.value.Symbol.TheVariants as symbol
use Rattle.js_text.specs.declared.value.Value.{Value}
use Rattle.js_text.specs.declared.value.Value.TheVariants as value
use Rattle.js_desc.specs.Maps.{map_ask, map_body, map_crossing, map_descriptor, map_global, map_module, map_partial, map_reply}
use Rattle.js_desc.specs.declared.ask.Ask.{Ask}
use Rattle.js_desc.specs.declared.ask.Ask.TheVariants as ask
use Rattle.js_desc.specs.declared.crossing.CrossBody.{CrossBody}
use Rattle.js_desc.specs.declared.crossing.CrossBody.TheVariants as body
use Rattle.js_desc.specs.declared.crossing.Crossing.{Crossing}
use Rattle.js_desc.specs.declared.descriptor.Descriptor.{Descriptor}
use Rattle.js_desc.specs.declared.descriptor.Descriptor.TheVariants.{Accessor, Data}
use Rattle.js_desc.specs.declared.descriptor.PartialDescriptor.{PartialDescriptor}
use Rattle.js_desc.specs.declared.reply.Reply.{Reply}
use Rattle.js_desc.specs.declared.reply.Reply.TheVariants as reply
use Rattle.lava_trace.specs.Asks.{kind_of}
use Rattle.lava_trace.specs.Courses.{is_make, may_cross, opens}
use Rattle.lava_trace.specs.declared.answers.AnswerKind.{AnswerKind}
use Rattle.lava_trace.specs.declared.answers.AnswerKind.TheVariants as kind
use Rattle.lava_trace.specs.declared.left.TheConstants.{MAX_PARTY}
use Rattle.lava_trace_laws.specs.Sound.{IsOfKind, Sound_ask, Sound_body, Sound_crossing, Sound_global, Sound_key, Sound_module, Sound_partial, Sound_property, Sound_reply, Sound_symbol, Sound_value, takes_target}

all_mapped : {X Y : Type 0} (P : X → Type 0) (Q : Y → Type 0) (f : X → Y) → ((x : X) → P x → Q (f x)) → (xs : List X) → AllByRecursion P xs → AllByRecursion Q (map f xs)
all_mapped P Q f h [] a = tt
all_mapped P Q f h (x ∷ xs) a = (h x a.0, all_mapped P Q f h xs a.1)

some_mapped : {X Y : Type 0} (f : X → Y) (o : Option X) → is_some (option_map f o) ≡ is_some o
some_mapped f None = refl
some_mapped f (Some x) = refl

module _ (f : Ref → Ref) (g : MadeSymbol → MadeSymbol) where
  symbol_sound : (s : Symbol MadeSymbol) → Sound_symbol s → Sound_symbol (map_symbol g s)
  symbol_sound symbol.Iterator h = tt
  symbol_sound (symbol.Registered t) h = h
  symbol_sound (symbol.Made s) h = tt

  key_sound : (k : Key MadeSymbol) → Sound_key k → Sound_key (map_key (map_symbol g) k)
  key_sound (key.Index n) h = h
  key_sound (key.Text t) h = h
  key_sound (key.Symbol s) h = symbol_sound s h

  value_sound : (v : Value Ref MadeSymbol) → Sound_value v → Sound_value (map_value f (map_symbol g) v)
  value_sound value.Undefined h = tt
  value_sound value.Null h = tt
  value_sound (value.Bool b) h = tt
  value_sound (value.Int n) h = h
  value_sound (value.Text t) h = h
  value_sound (value.Symbol s) h = symbol_sound s h
  value_sound (value.Ref r) h = tt

  field_sound : (o : Option (Value Ref MadeSymbol)) → IfSome o Sound_value → IfSome (option_map (map_value f (map_symbol g)) o) Sound_value
  field_sound None h = h
  field_sound (Some v) h = value_sound v h

  partial_sound : (d : PartialDescriptor Ref MadeSymbol) → Sound_partial d → Sound_partial (map_partial f (map_symbol g) d)
  partial_sound d h = field_sound d.value h

  property_sound : (o : Option (Descriptor Ref MadeSymbol)) → Sound_property o → Sound_property (option_map (map_descriptor f (map_symbol g)) o)
  property_sound None h = tt
  property_sound (Some (Data v w e c)) h = value_sound v h
  property_sound (Some (Accessor x s e c)) h = h

  values_sound : (vs : List (Value Ref MadeSymbol)) → AllByRecursion Sound_value vs → AllByRecursion Sound_value (map (map_value f (map_symbol g)) vs)
  values_sound vs h = all_mapped Sound_value Sound_value (map_value f (map_symbol g)) value_sound vs h

  -- ASKS

  global_sound : (e : Key MadeSymbol × Value Ref MadeSymbol) → Sound_global e → Sound_global (map_global f (map_symbol g) e)
  global_sound e h = (key_sound e.0 h.0, value_sound e.1 h.1)

  module_sound : (m : List ℕ × Value Ref MadeSymbol) → Sound_module m → Sound_module (map_module f (map_symbol g) m)
  module_sound m h = (h.0, value_sound m.1 h.1)

  ask_sound : (x : Ask Ref MadeSymbol) → Sound_ask x → Sound_ask (map_ask f (map_symbol g) x)
  ask_sound ask.GetPrototypeOf h = tt
  ask_sound (ask.SetPrototypeOf p) h = tt
  ask_sound ask.IsExtensible h = tt
  ask_sound ask.PreventExtensions h = tt
  ask_sound (ask.GetOwnProperty k) h = key_sound k h
  ask_sound (ask.DefineOwnProperty k d) h = (key_sound k h.0, partial_sound d h.1)
  ask_sound (ask.HasProperty k) h = key_sound k h
  ask_sound (ask.Get k r) h = (key_sound k h.0, value_sound r h.1)
  ask_sound (ask.Set k v r) h = (key_sound k h.0, value_sound v h.1, value_sound r h.2)
  ask_sound (ask.Delete k) h = key_sound k h
  ask_sound ask.OwnPropertyKeys h = tt
  ask_sound (ask.Call this args) h = (value_sound this h.0, values_sound args h.1)
  ask_sound (ask.Construct t args) h = values_sound args h
  ask_sound (ask.Import link path) h = h
  ask_sound (ask.Slot which args) h = values_sound args h
  ask_sound (ask.Make globals modules) h = (
    subst (λ (n : ℕ). n < 2 ^ 64) (sym (length-map globals (map_global f (map_symbol g)))) h.0,
    all_mapped Sound_global Sound_global (map_global f (map_symbol g)) global_sound globals h.1,
    subst (λ (n : ℕ). n < 2 ^ 64) (sym (length-map modules (map_module f (map_symbol g)))) h.2,
    all_mapped Sound_module Sound_module (map_module f (map_symbol g)) module_sound modules h.3,
  )
  ask_sound ask.Queue h = tt
  ask_sound ask.Turn h = tt

  -- it wants a target, and an answer of a kind, as before
  abbrev StaysAsk : Option Ref → Ask Ref MadeSymbol → Type 0
  StaysAsk target x =
      (takes_target (map_ask f (map_symbol g) x) ≡ takes_target x) × (kind_of (map_ask f (map_symbol g) x) ≡ kind_of x)
      × (is_make (body.Ask (option_map f target) (map_ask f (map_symbol g) x)) ≡ is_make (body.Ask target x))

  ask_same : (target : Option Ref) (x : Ask Ref MadeSymbol) → StaysAsk target x
  ask_same target ask.GetPrototypeOf = (refl, refl, refl)
  ask_same target (ask.SetPrototypeOf p) = (refl, refl, refl)
  ask_same target ask.IsExtensible = (refl, refl, refl)
  ask_same target ask.PreventExtensions = (refl, refl, refl)
  ask_same target (ask.GetOwnProperty k) = (refl, refl, refl)
  ask_same target (ask.DefineOwnProperty k d) = (refl, refl, refl)
  ask_same target (ask.HasProperty k) = (refl, refl, refl)
  ask_same target (ask.Get k r) = (refl, refl, refl)
  ask_same target (ask.Set k v r) = (refl, refl, refl)
  ask_same target (ask.Delete k) = (refl, refl, refl)
  ask_same target ask.OwnPropertyKeys = (refl, refl, refl)
  ask_same target (ask.Call this args) = (refl, refl, refl)
  ask_same target (ask.Construct t args) = (refl, refl, refl)
  ask_same target (ask.Import link path) = (refl, refl, refl)
  ask_same target (ask.Slot which args) = (refl, refl, refl)
  ask_same target (ask.Make globals modules) = (refl, refl, refl)
  ask_same target ask.Queue = (refl, refl, refl)
  ask_same target ask.Turn = (refl, refl, refl)

  -- ANSWERS

  kind_same : (k : AnswerKind) (r : Reply Ref MadeSymbol) → IsOfKind k (map_reply f (map_symbol g) r) ≡ IsOfKind k r
  kind_same kind.Value (reply.Value v) = refl
  kind_same kind.Value (reply.Proto p) = refl
  kind_same kind.Value (reply.Flag b) = refl
  kind_same kind.Value (reply.Desc d) = refl
  kind_same kind.Value (reply.Keys ks) = refl
  kind_same kind.Value (reply.Throw v) = refl
  kind_same kind.Object (reply.Value value.Undefined) = refl
  kind_same kind.Object (reply.Value value.Null) = refl
  kind_same kind.Object (reply.Value (value.Bool b)) = refl
  kind_same kind.Object (reply.Value (value.Int n)) = refl
  kind_same kind.Object (reply.Value (value.Text t)) = refl
  kind_same kind.Object (reply.Value (value.Symbol s)) = refl
  kind_same kind.Object (reply.Value (value.Ref r)) = refl
  kind_same kind.Object (reply.Proto p) = refl
  kind_same kind.Object (reply.Flag b) = refl
  kind_same kind.Object (reply.Desc d) = refl
  kind_same kind.Object (reply.Keys ks) = refl
  kind_same kind.Object (reply.Throw v) = refl
  kind_same kind.Undefined (reply.Value value.Undefined) = refl
  kind_same kind.Undefined (reply.Value value.Null) = refl
  kind_same kind.Undefined (reply.Value (value.Bool b)) = refl
  kind_same kind.Undefined (reply.Value (value.Int n)) = refl
  kind_same kind.Undefined (reply.Value (value.Text t)) = refl
  kind_same kind.Undefined (reply.Value (value.Symbol s)) = refl
  kind_same kind.Undefined (reply.Value (value.Ref r)) = refl
  kind_same kind.Undefined (reply.Proto p) = refl
  kind_same kind.Undefined (reply.Flag b) = refl
  kind_same kind.Undefined (reply.Desc d) = refl
  kind_same kind.Undefined (reply.Keys ks) = refl
  kind_same kind.Undefined (reply.Throw v) = refl
  kind_same kind.Prototype (reply.Value v) = refl
  kind_same kind.Prototype (reply.Proto p) = refl
  kind_same kind.Prototype (reply.Flag b) = refl
  kind_same kind.Prototype (reply.Desc d) = refl
  kind_same kind.Prototype (reply.Keys ks) = refl
  kind_same kind.Prototype (reply.Throw v) = refl
  kind_same kind.Truth (reply.Value v) = refl
  kind_same kind.Truth (reply.Proto p) = refl
  kind_same kind.Truth (reply.Flag b) = refl
  kind_same kind.Truth (reply.Desc d) = refl
  kind_same kind.Truth (reply.Keys ks) = refl
  kind_same kind.Truth (reply.Throw v) = refl
  kind_same kind.Property (reply.Value v) = refl
  kind_same kind.Property (reply.Proto p) = refl
  kind_same kind.Property (reply.Flag b) = refl
  kind_same kind.Property (reply.Desc d) = refl
  kind_same kind.Property (reply.Keys ks) = refl
  kind_same kind.Property (reply.Throw v) = refl
  kind_same kind.Keys (reply.Value v) = refl
  kind_same kind.Keys (reply.Proto p) = refl
  kind_same kind.Keys (reply.Flag b) = refl
  kind_same kind.Keys (reply.Desc d) = refl
  kind_same kind.Keys (reply.Keys ks) = refl
  kind_same kind.Keys (reply.Throw v) = refl

  reply_sound : (r : Reply Ref MadeSymbol) → Sound_reply r → Sound_reply (map_reply f (map_symbol g) r)
  reply_sound (reply.Value v) h = value_sound v h
  reply_sound (reply.Proto p) h = tt
  reply_sound (reply.Flag b) h = tt
  reply_sound (reply.Desc d) h = property_sound d h
  reply_sound (reply.Keys ks) h = all_mapped Sound_key Sound_key (map_key (map_symbol g)) key_sound ks h
  reply_sound (reply.Throw v) h = value_sound v h

  -- CROSSINGS

  body_sound : (k : AnswerKind) (b : CrossBody Ref MadeSymbol) → Sound_body k b → Sound_body k (map_body f (map_symbol g) b)
  body_sound k (body.Ask target x) h = (some_mapped f target ∙ h.0 ∙ sym (ask_same target x).0, ask_sound x h.1)
  body_sound k (body.Answer r) h = (coe 1 0 (i. kind_same k r i) h.0, reply_sound r h.1)

  pub crossing_sound : (k : AnswerKind) (x : Crossing Ref MadeSymbol) → Sound_crossing k x → Sound_crossing k (map_crossing f (map_symbol g) x)
  crossing_sound k x h = record { from = h.from; to = h.to; body = body_sound k x.body h.body }

  pub make_same : (b : CrossBody Ref MadeSymbol) → is_make (map_body f (map_symbol g) b) ≡ is_make b
  make_same (body.Ask target x) = (ask_same target x).2
  make_same (body.Answer r) = refl

  pub opens_same : (b : CrossBody Ref MadeSymbol) → opens (map_body f (map_symbol g) b) ≡ opens b
  opens_same (body.Ask target x) = ap (λ (k : AnswerKind). Some k) (ask_same target x).1
  opens_same (body.Answer r) = refl

  pub cross_same : (parties : ℕ) (x : Crossing Ref MadeSymbol) → may_cross parties (map_crossing f (map_symbol g) x) ≡ may_cross parties x
  unfolding may_cross
  cross_same parties x =
      ap (λ b. nat_lt x.from.0 parties && (if b then (x.to.0 == parties) && nat_le parties MAX_PARTY else nat_lt x.to.0 parties && not (x.from.0 == x.to.0))) (make_same x.body)
