-- Other references and made symbols in the place of those that stand there: the pieces are the pieces of what is renamed, and the view stays the same.
use Rattle.std.proofs.Common.{◌≡◌, ℕ, Bool, true, false, List, [], ◌∷◌, ◌++◌, codes, decimal, length, map, Option, Some, None, refl, ap, ◌∙◌, sym}
use Rattle.std.proofs.lemmas.List.{map-append, length-map}
use Rattle.std.specs.List.{flat_map}
use Rattle.std.specs.Option.{option_map}
use Rattle.lava_base.specs.declared.ids.MadeSymbol.{MadeSymbol}
use Rattle.lava_base.specs.declared.ids.Ref.{Ref}
use Rattle.js_text.specs.Maps.{map_key, map_symbol, map_value}
use Rattle.js_text.specs.declared.value.Key.{Key}
use Rattle.js_text.specs.declared.value.Key.TheVariants as key
use Rattle.js_text.specs.declared.value.Symbol.{Symbol}
use Rattle.js_text.specs.declared.value.Symbol.TheVariants as symbol
use Rattle.js_text.specs.declared.value.Value.{Value}
use Rattle.js_text.specs.declared.value.Value.TheVariants as value
use Rattle.js_desc.specs.Asks.{ask_name}
use Rattle.js_desc.specs.Descriptors.{fields_of}
use Rattle.js_desc.specs.Maps.{map_ask, map_body, map_descriptor, map_global, map_module, map_partial, map_reply}
use Rattle.js_desc.specs.declared.ask.Ask.{Ask}
use Rattle.js_desc.specs.declared.ask.Ask.TheVariants as ask
use Rattle.js_desc.specs.declared.crossing.CrossBody.{CrossBody}
use Rattle.js_desc.specs.declared.crossing.CrossBody.TheVariants as body
use Rattle.js_desc.specs.declared.descriptor.Descriptor.{Descriptor}
use Rattle.js_desc.specs.declared.descriptor.Descriptor.TheVariants.{Accessor, Data}
use Rattle.js_desc.specs.declared.descriptor.PartialDescriptor.{PartialDescriptor}
use Rattle.js_desc.specs.declared.reply.Reply.{Reply}
use Rattle.js_desc.specs.declared.reply.Reply.TheVariants as reply
use Rattle.lava_journal.specs.Bodies.{Pieces, all_fields, all_spaced, ask_pieces, body_pieces, field, fields_pieces, global_items, items, key_pieces, module_items, native_items, object_or_null, object_or_undefined, parted, plain, property_pieces, spaced, symbol_pieces, target_items, truth_pieces, value_pieces}
use Rattle.lava_journal.specs.Quotes.{quoted}
use Rattle.lava_journal.specs.Sheets.{An_object, A_symbol, Piece, Plain}

module _ (f : Ref → Ref) (g : MadeSymbol → MadeSymbol) where
  abbrev pub renamed : Piece Ref MadeSymbol → Piece Ref MadeSymbol
  renamed (Plain bytes) = Plain bytes
  renamed (An_object r) = An_object (f r)
  renamed (A_symbol s) = A_symbol (g s)

  abbrev pub renamed_pieces : Pieces Ref MadeSymbol → Pieces Ref MadeSymbol
  renamed_pieces ps = map renamed ps

  append_renamed : (a b : Pieces Ref MadeSymbol) → map renamed (a ++ b) ≡ map renamed a ++ map renamed b
  append_renamed a b = map-append renamed a b

  -- VALUES

  symbol_renamed : (s : Symbol MadeSymbol) → symbol_pieces {R = Ref} (map_symbol g s) ≡ map renamed (symbol_pieces s)
  symbol_renamed symbol.Iterator = refl
  symbol_renamed (symbol.Registered t) = refl
  symbol_renamed (symbol.Made s) = refl

  key_renamed : (k : Key MadeSymbol) → key_pieces {R = Ref} (map_key (map_symbol g) k) ≡ map renamed (key_pieces k)
  key_renamed (key.Index n) = refl
  key_renamed (key.Text t) = refl
  key_renamed (key.Symbol s) = symbol_renamed s

  truth_renamed : (b : Bool) → truth_pieces {R = Ref} {S = MadeSymbol} b ≡ map renamed (truth_pieces b)
  truth_renamed true = refl
  truth_renamed false = refl

  value_renamed : (v : Value Ref MadeSymbol) → value_pieces (map_value f (map_symbol g) v) ≡ map renamed (value_pieces v)
  value_renamed value.Undefined = refl
  value_renamed value.Null = refl
  value_renamed (value.Bool b) = truth_renamed b
  value_renamed (value.Int n) = refl
  value_renamed (value.Text t) = refl
  value_renamed (value.Symbol s) = symbol_renamed s
  value_renamed (value.Ref r) = refl

  null_renamed : (o : Option Ref) → object_or_null {S = MadeSymbol} (option_map f o) ≡ map renamed (object_or_null o)
  null_renamed None = refl
  null_renamed (Some r) = refl

  undefined_renamed : (o : Option Ref) → object_or_undefined {S = MadeSymbol} (option_map f o) ≡ map renamed (object_or_undefined o)
  undefined_renamed None = refl
  undefined_renamed (Some r) = refl

  -- LISTS OF THINGS

  spaced_renamed : (ps : List (Pieces Ref MadeSymbol)) → map renamed (all_spaced ps) ≡ all_spaced (map (λ p. map renamed p) ps)
  unfolding all_spaced spaced
  spaced_renamed [] = refl
  spaced_renamed (p ∷ ps) = ap (λ l. Plain (codes " ") ∷ l) (append_renamed p (all_spaced ps) ∙ ap (λ l. map renamed p ++ l) (spaced_renamed ps))

  parted_renamed : (ps : List (Pieces Ref MadeSymbol)) → map renamed (parted false ps) ≡ parted false (map (λ p. map renamed p) ps)
  parted_renamed [] = refl
  parted_renamed (p ∷ ps) = append_renamed p (all_spaced ps) ∙ ap (λ l. map renamed p ++ l) (spaced_renamed ps)

  each_renamed : {X Y : Type 0} (to : X → Y) (pieces : X → Pieces Ref MadeSymbol) (others : Y → Pieces Ref MadeSymbol) → ((x : X) → others (to x) ≡ map renamed (pieces x))
      → (xs : List X) → map others (map to xs) ≡ map (λ p. map renamed p) (map pieces xs)
  each_renamed to pieces others h [] = refl
  each_renamed to pieces others h (x ∷ xs) = (λ k. h x k ∷ each_renamed to pieces others h xs k)

  values_renamed : (vs : List (Value Ref MadeSymbol)) → map value_pieces (map (map_value f (map_symbol g)) vs) ≡ map (λ p. map renamed p) (map value_pieces vs)
  values_renamed vs = each_renamed (map_value f (map_symbol g)) value_pieces value_pieces value_renamed vs

  keys_renamed : (ks : List (Key MadeSymbol)) → map key_pieces (map (map_key (map_symbol g)) ks) ≡ map (λ p. map renamed p) (map key_pieces ks)
  keys_renamed ks = each_renamed (map_key (map_symbol g)) key_pieces key_pieces key_renamed ks

  globals_renamed : (gs : List (Key MadeSymbol × Value Ref MadeSymbol)) → flat_map global_items (map (map_global f (map_symbol g)) gs) ≡ map (λ p. map renamed p) (flat_map global_items gs)
  globals_renamed [] = refl
  globals_renamed (e ∷ gs) = (λ k. key_renamed e.0 k ∷ value_renamed e.1 k ∷ globals_renamed gs k)

  modules_renamed : (ms : List (List ℕ × Value Ref MadeSymbol)) → flat_map module_items (map (map_module f (map_symbol g)) ms) ≡ map (λ p. map renamed p) (flat_map module_items ms)
  modules_renamed [] = refl
  modules_renamed (e ∷ ms) = (λ k. plain (quoted e.0) ∷ value_renamed e.1 k ∷ modules_renamed ms k)

  -- FIELDS

  field_renamed : {X Y : Type 0} (to : X → Y) (name : List ℕ) (pieces : X → Pieces Ref MadeSymbol) (others : Y → Pieces Ref MadeSymbol) → ((x : X) → others (to x) ≡ map renamed (pieces x))
      → (o : Option X) → field name others (option_map to o) ≡ map (λ p. map renamed p) (field name pieces o)
  field_renamed to name pieces others h None = refl
  field_renamed to name pieces others h (Some x) = ap (λ l. (Plain name ∷ l) ∷ []) (h x)

  flag_renamed : (name : List ℕ) (o : Option Bool) → field {R = Ref} {S = MadeSymbol} name truth_pieces o ≡ map (λ p. map renamed p) (field name truth_pieces o)
  flag_renamed name None = refl
  flag_renamed name (Some b) = ap (λ l. (Plain name ∷ l) ∷ []) (truth_renamed b)

  joined_renamed : (a b a' b' : List (Pieces Ref MadeSymbol)) → a' ≡ map (λ p. map renamed p) a → b' ≡ map (λ p. map renamed p) b → a' ++ b' ≡ map (λ p. map renamed p) (a ++ b)
  joined_renamed a b a' b' h k = (λ i. h i ++ k i) ∙ sym (map-append (λ (p : Pieces Ref MadeSymbol). map renamed p) a b)

  all_fields_renamed : (d : PartialDescriptor Ref MadeSymbol) → all_fields (map_partial f (map_symbol g) d) ≡ map (λ p. map renamed p) (all_fields d)
  all_fields_renamed d =
      joined_renamed _ _ _ _ (field_renamed (map_value f (map_symbol g)) (codes "value=") value_pieces value_pieces value_renamed d.value)
      (joined_renamed _ _ _ _ (joined_renamed _ _ _ _ (field_renamed (option_map f) (codes "get=") object_or_undefined object_or_undefined undefined_renamed d.get) (field_renamed (option_map f) (codes "set=") object_or_undefined object_or_undefined undefined_renamed d.set))
      (joined_renamed _ _ _ _ (flag_renamed (codes "writable=") d.writable) (joined_renamed _ _ _ _ (flag_renamed (codes "enumerable=") d.enumerable) (flag_renamed (codes "configurable=") d.configurable))))

  fields_renamed : (d : PartialDescriptor Ref MadeSymbol) → fields_pieces (map_partial f (map_symbol g) d) ≡ map renamed (fields_pieces d)
  fields_renamed d =
      ap (λ l. Plain (codes "{") ∷ (parted false l ++ plain (codes "}"))) (all_fields_renamed d)
      ∙ ap (λ l. Plain (codes "{") ∷ (l ++ plain (codes "}"))) (sym (parted_renamed (all_fields d)))
      ∙ ap (λ l. Plain (codes "{") ∷ l) (sym (append_renamed (parted false (all_fields d)) (plain (codes "}"))))

  property_renamed : (o : Option (Descriptor Ref MadeSymbol)) → property_pieces (option_map (map_descriptor f (map_symbol g)) o) ≡ map renamed (property_pieces o)
  property_renamed None = refl
  property_renamed (Some (Data v w e c)) = fields_renamed (fields_of (Data v w e c))
  property_renamed (Some (Accessor x s e c)) = fields_renamed (fields_of (Accessor x s e c))

  -- ASKS

  target_renamed : (t : Option Ref) → target_items {S = MadeSymbol} (option_map f t) ≡ map (λ p. map renamed p) (target_items t)
  target_renamed None = refl
  target_renamed (Some r) = refl

  items_renamed : (x : Ask Ref MadeSymbol) → items (map_ask f (map_symbol g) x) ≡ map (λ p. map renamed p) (items x)
  items_renamed ask.GetPrototypeOf = refl
  items_renamed (ask.SetPrototypeOf p) = ap (λ l. l ∷ []) (null_renamed p)
  items_renamed ask.IsExtensible = refl
  items_renamed ask.PreventExtensions = refl
  items_renamed (ask.GetOwnProperty k) = ap (λ l. l ∷ []) (key_renamed k)
  items_renamed (ask.DefineOwnProperty k d) = (λ i. key_renamed k i ∷ fields_renamed d i ∷ [])
  items_renamed (ask.HasProperty k) = ap (λ l. l ∷ []) (key_renamed k)
  items_renamed (ask.Get k r) = (λ i. key_renamed k i ∷ value_renamed r i ∷ [])
  items_renamed (ask.Set k v r) = (λ i. key_renamed k i ∷ value_renamed v i ∷ value_renamed r i ∷ [])
  items_renamed (ask.Delete k) = ap (λ l. l ∷ []) (key_renamed k)
  items_renamed ask.OwnPropertyKeys = refl
  items_renamed (ask.Call this args) = (λ i. value_renamed this i ∷ values_renamed args i)
  items_renamed (ask.Construct t args) = ap (λ l. (An_object (f t) ∷ []) ∷ l) (values_renamed args)
  items_renamed (ask.Import link path) = refl
  items_renamed (ask.Slot which args) = values_renamed args
  items_renamed (ask.Make globals modules) =
      (λ i. plain (decimal (length-map globals (map_global f (map_symbol g)) i)) ∷ (globals_renamed globals i ++ plain (decimal (length-map modules (map_module f (map_symbol g)) i)) ∷ modules_renamed modules i))
      ∙ ap (λ l. plain (decimal (length globals)) ∷ l) (sym (map-append (λ (p : Pieces Ref MadeSymbol). map renamed p) (flat_map global_items globals) (plain (decimal (length modules)) ∷ flat_map module_items modules)))
  items_renamed ask.Queue = refl
  items_renamed ask.Turn = refl

  natives_renamed : (x : Ask Ref MadeSymbol) → native_items (map_ask f (map_symbol g) x) ≡ map (λ p. map renamed p) (native_items x)
  natives_renamed ask.GetPrototypeOf = refl
  natives_renamed (ask.SetPrototypeOf p) = refl
  natives_renamed ask.IsExtensible = refl
  natives_renamed ask.PreventExtensions = refl
  natives_renamed (ask.GetOwnProperty k) = refl
  natives_renamed (ask.DefineOwnProperty k d) = refl
  natives_renamed (ask.HasProperty k) = refl
  natives_renamed (ask.Get k r) = refl
  natives_renamed (ask.Set k v r) = refl
  natives_renamed (ask.Delete k) = refl
  natives_renamed ask.OwnPropertyKeys = refl
  natives_renamed (ask.Call this args) = refl
  natives_renamed (ask.Construct t args) = refl
  natives_renamed (ask.Import link path) = refl
  natives_renamed (ask.Slot which args) = refl
  natives_renamed (ask.Make globals modules) = refl
  natives_renamed ask.Queue = refl
  natives_renamed ask.Turn = refl

  method_renamed : (x : Ask Ref MadeSymbol) → ask_name (map_ask f (map_symbol g) x) ≡ ask_name x
  method_renamed ask.GetPrototypeOf = refl
  method_renamed (ask.SetPrototypeOf p) = refl
  method_renamed ask.IsExtensible = refl
  method_renamed ask.PreventExtensions = refl
  method_renamed (ask.GetOwnProperty k) = refl
  method_renamed (ask.DefineOwnProperty k d) = refl
  method_renamed (ask.HasProperty k) = refl
  method_renamed (ask.Get k r) = refl
  method_renamed (ask.Set k v r) = refl
  method_renamed (ask.Delete k) = refl
  method_renamed ask.OwnPropertyKeys = refl
  method_renamed (ask.Call this args) = refl
  method_renamed (ask.Construct t args) = refl
  method_renamed (ask.Import link path) = refl
  method_renamed (ask.Slot which args) = refl
  method_renamed (ask.Make globals modules) = refl
  method_renamed ask.Queue = refl
  method_renamed ask.Turn = refl

  ask_renamed : (t : Option Ref) (x : Ask Ref MadeSymbol) → ask_pieces (option_map f t) (map_ask f (map_symbol g) x) ≡ map renamed (ask_pieces t x)
  ask_renamed t x =
      let n : Pieces Ref MadeSymbol = all_spaced (native_items x) in
      let a : Pieces Ref MadeSymbol = all_spaced (target_items t) in
      let i : Pieces Ref MadeSymbol = all_spaced (items x) in
      (λ k. Plain (codes "ask ") ∷ Plain (method_renamed x k) ∷ (all_spaced (natives_renamed x k) ++ (all_spaced (target_renamed t k) ++ all_spaced (items_renamed x k))))
      ∙ (λ k. Plain (codes "ask ") ∷ Plain (ask_name x) ∷ (sym (spaced_renamed (native_items x)) k ++ (sym (spaced_renamed (target_items t)) k ++ sym (spaced_renamed (items x)) k)))
      ∙ ap (λ l. Plain (codes "ask ") ∷ Plain (ask_name x) ∷ l) (ap (λ l. map renamed n ++ l) (sym (append_renamed a i)) ∙ sym (append_renamed n (a ++ i)))

  reply_renamed : (r : Reply Ref MadeSymbol) → body_pieces (body.Answer (map_reply f (map_symbol g) r)) ≡ map renamed (body_pieces (body.Answer r))
  reply_renamed (reply.Value v) = ap (λ l. Plain (codes "answer ") ∷ l) (value_renamed v)
  reply_renamed (reply.Proto p) = ap (λ l. Plain (codes "answer ") ∷ l) (null_renamed p)
  reply_renamed (reply.Flag b) = ap (λ l. Plain (codes "answer ") ∷ l) (truth_renamed b)
  reply_renamed (reply.Desc d) = ap (λ l. Plain (codes "answer ") ∷ l) (property_renamed d)
  reply_renamed (reply.Keys ks) =
      ap (λ l. Plain (codes "answer ") ∷ Plain (codes "[") ∷ (parted false l ++ plain (codes "]"))) (keys_renamed ks)
      ∙ ap (λ l. Plain (codes "answer ") ∷ Plain (codes "[") ∷ (l ++ plain (codes "]"))) (sym (parted_renamed (map key_pieces ks)))
      ∙ ap (λ l. Plain (codes "answer ") ∷ Plain (codes "[") ∷ l) (sym (append_renamed (parted false (map key_pieces ks)) (plain (codes "]"))))
  reply_renamed (reply.Throw v) = ap (λ l. Plain (codes "throw ") ∷ l) (value_renamed v)

  pub body_renamed : (b : CrossBody Ref MadeSymbol) → body_pieces (map_body f (map_symbol g) b) ≡ renamed_pieces (body_pieces b)
  body_renamed (body.Ask t x) = ask_renamed t x
  body_renamed (body.Answer r) = reply_renamed r
