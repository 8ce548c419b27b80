-- The references in what is sent, and their marks as its sender sees them.
use Rattle.std.proofs.Common.{◌≡◌, ◌≢◌, ℕ, Bool, true, false, ◌&&◌, nat_eq, List, [], ◌∷◌, ◌++◌, map, Option, Some, None, refl, sym, ap, ◌∙◌, subst, ⊎_elim, ◌⊎◌, inl, inr, if◌then◌else◌}
use Rattle.std.specs.Map.{lookup}
use Rattle.std.specs.Option.{unwrap_or}
use Rattle.lava_base.specs.Ids.{same_ref}
use Rattle.lava_base.specs.declared.ids.MadeSymbol.{MadeSymbol}
use Rattle.lava_base.specs.declared.ids.ObjId.{ObjId}
use Rattle.lava_base.specs.declared.ids.PartyId.{PartyId}
use Rattle.lava_base.specs.declared.ids.Ref.{Ref}
use Rattle.lava_base.specs.declared.ids.Ref.TheVariants as reference
use Rattle.lava_base.specs.declared.marks.Marks.{Marks}
use Rattle.js_text.specs.Identities.{Identity, Of_object, Of_symbol, key_identities, symbol_identities, value_identities}
use Rattle.js_text.specs.Naming.{Origin, Own, Common, Foreign, naming_of}
use Rattle.js_text.specs.declared.value.Key.{Key}
use Rattle.js_text.specs.declared.value.Key.TheVariants as key
use Rattle.js_text.specs.declared.value.Symbol.{Symbol}
use Rattle.js_text.specs.declared.value.Symbol.TheVariants as symbol
use Rattle.js_text.specs.declared.value.Value.{Value}
use Rattle.js_text.specs.declared.value.Value.TheVariants as value
use Rattle.js_desc.specs.Identities.{all_identities, ask_identities, descriptor_identities, option_identities, partial_identities, ref_identities, reply_identities}
use Rattle.js_desc.specs.declared.ask.Ask.{Ask}
use Rattle.js_desc.specs.declared.ask.Ask.TheVariants as ask
use Rattle.js_desc.specs.declared.descriptor.Descriptor.{Descriptor}
use Rattle.js_desc.specs.declared.descriptor.Descriptor.TheVariants as desc
use Rattle.js_desc.specs.declared.descriptor.PartialDescriptor.{PartialDescriptor}
use Rattle.js_desc.specs.declared.reply.Reply.{Reply}
use Rattle.js_desc.specs.declared.reply.Reply.TheVariants as reply
use Rattle.js_store.specs.Foreign.{marks_of}
use Rattle.js_store.specs.Objects.{object_at, plain_marks}
use Rattle.js_machine.specs.js_run.Identities.{IsAmong}
use Rattle.js_machine.specs.js_run.Journal.{Application, Crossing, find_mark, foreign_of, table_of}
use Rattle.js_machine.specs.js_run.Local.{marks_of_place, own_marks}
use Rattle.js_machine.specs.js_run.Parties.{Party}
use Rattle.js_machine.specs.Looks.{marks_at, marks_in}
use Rattle.js_machine.specs.Views.{View}
use Rattle.js_crossing.specs.Newest.{all_references, ask_references, descriptor_references, field_references, marks_at_crossing, maybe_references, option_references, partial_references, property_references, references_in, reply_references, value_references, with_their_marks}
use Rattle.js_crossing.specs.Shows.{makes_none}
use Rattle.js_crossing.proofs.Shown_laws.{choose, found}

-- THE REFERENCES

in_both : (xs ys : List (Identity Ref MadeSymbol)) → references_in (xs ++ ys) ≡ references_in xs ++ references_in ys
in_both [] ys = refl
in_both (Of_object r ∷ xs) ys = ap (λ rs. r ∷ rs) (in_both xs ys)
in_both (Of_symbol s ∷ xs) ys = in_both xs ys

in_symbol : (s : Symbol MadeSymbol) → references_in (symbol_identities s) ≡ []
in_symbol symbol.Iterator = refl
in_symbol (symbol.Registered t) = refl
in_symbol (symbol.Made s) = refl

in_key : (k : Key MadeSymbol) → references_in (key_identities k) ≡ []
in_key (key.Index n) = refl
in_key (key.Text t) = refl
in_key (key.Symbol s) = in_symbol s

behind_key : (k : Key MadeSymbol) (xs : List (Identity Ref MadeSymbol)) → references_in (key_identities k ++ xs) ≡ references_in xs
behind_key k xs = in_both (key_identities k) xs ∙ ap (λ rs. rs ++ references_in xs) (in_key k)

in_keys : (ks : List (Key MadeSymbol)) → references_in (all_identities key_identities ks) ≡ []
in_keys [] = refl
in_keys (k ∷ ks) = behind_key k (all_identities key_identities ks) ∙ in_keys ks

in_value : (v : Value Ref MadeSymbol) → references_in (value_identities v) ≡ value_references v
in_value value.Undefined = refl
in_value value.Null = refl
in_value (value.Bool b) = refl
in_value (value.Int n) = refl
in_value (value.Text t) = refl
in_value (value.Symbol s) = in_symbol s
in_value (value.Ref r) = refl

in_values : (vs : List (Value Ref MadeSymbol)) → references_in (all_identities value_identities vs) ≡ all_references vs
in_values [] = refl
in_values (v ∷ vs) = in_both (value_identities v) (all_identities value_identities vs) ∙ (λ j. in_value v j ++ in_values vs j)

in_option : (o : Option Ref) → references_in (option_identities ref_identities o) ≡ option_references o
in_option None = refl
in_option (Some r) = refl

in_field : (o : Option (Option Ref)) → references_in (option_identities (option_identities ref_identities) o) ≡ field_references o
in_field None = refl
in_field (Some o) = in_option o

in_maybe : (o : Option (Value Ref MadeSymbol)) → references_in (option_identities value_identities o) ≡ maybe_references o
in_maybe None = refl
in_maybe (Some v) = in_value v

in_descriptor : (d : Descriptor Ref MadeSymbol) → references_in (descriptor_identities d) ≡ descriptor_references d
in_descriptor (desc.Data v a b c) = in_value v
in_descriptor (desc.Accessor g s b c) = in_both (option_identities ref_identities g) (option_identities ref_identities s) ∙ (λ j. in_option g j ++ in_option s j)

in_property : (o : Option (Descriptor Ref MadeSymbol)) → references_in (option_identities descriptor_identities o) ≡ property_references o
in_property None = refl
in_property (Some d) = in_descriptor d

in_partial : (d : PartialDescriptor Ref MadeSymbol) → references_in (partial_identities d) ≡ partial_references d
in_partial d =
    let gs : List (Identity Ref MadeSymbol) = option_identities (option_identities ref_identities) d.get in
    let ss : List (Identity Ref MadeSymbol) = option_identities (option_identities ref_identities) d.set in
    in_both (option_identities value_identities d.value) (gs ++ ss) ∙ ap (λ rs. references_in (option_identities value_identities d.value) ++ rs) (in_both gs ss) ∙ (λ j. in_maybe d.value j ++ (in_field d.get j ++ in_field d.set j))

in_two : (v u : Value Ref MadeSymbol) → references_in (value_identities v ++ value_identities u) ≡ value_references v ++ value_references u
in_two v u = in_both (value_identities v) (value_identities u) ∙ (λ j. in_value v j ++ in_value u j)

pub in_ask : (x : Ask Ref MadeSymbol) → makes_none x ≡ true → references_in (ask_identities x) ≡ ask_references x
in_ask ask.GetPrototypeOf n = refl
in_ask (ask.SetPrototypeOf p) n = in_option p
in_ask ask.IsExtensible n = refl
in_ask ask.PreventExtensions n = refl
in_ask (ask.GetOwnProperty k) n = in_key k
in_ask (ask.DefineOwnProperty k d) n = behind_key k (partial_identities d) ∙ in_partial d
in_ask (ask.HasProperty k) n = in_key k
in_ask (ask.Get k v) n = behind_key k (value_identities v) ∙ in_value v
in_ask (ask.Set k v u) n = behind_key k (value_identities v ++ value_identities u) ∙ in_two v u
in_ask (ask.Delete k) n = in_key k
in_ask ask.OwnPropertyKeys n = refl
in_ask (ask.Call this args) n = in_both (value_identities this) (all_identities value_identities args) ∙ (λ j. in_value this j ++ in_values args j)
in_ask (ask.Construct target args) n = ap (λ rs. target ∷ rs) (in_values args)
in_ask (ask.Import link path) n = refl
in_ask (ask.Slot which args) n = in_values args
in_ask (ask.Make globals modules) n = absurd (cc n)
in_ask ask.Queue n = refl
in_ask ask.Turn n = refl

pub in_reply : (r : Reply Ref MadeSymbol) → references_in (reply_identities r) ≡ reply_references r
in_reply (reply.Value v) = in_value v
in_reply (reply.Proto p) = in_option p
in_reply (reply.Flag b) = refl
in_reply (reply.Desc d) = in_property d
in_reply (reply.Keys ks) = in_keys ks
in_reply (reply.Throw v) = in_value v

-- THEIR MARKS

abbrev party_in : Ref → ℕ
party_in (reference.Common c) = 0
party_in (reference.Own p i) = p.0

abbrev id_in : Ref → ℕ
id_in (reference.Common c) = 0
id_in (reference.Own p i) = i.0

-- an object of the sender's own is sent with its marks
marks_said : (k : ℕ) (s : Party Ref MadeSymbol) (p : PartyId) (i : ObjId) (xs : List (Identity Ref MadeSymbol)) → p.0 ≡ k → IsAmong (reference.Own p i) (references_in xs)
    → find_mark (reference.Own p i) (own_marks (naming_of k) s xs) ≡ Some (object_at s.objects i.0).marks
marks_said k s p i [] e h = absurd h
marks_said k s p i (Of_symbol x ∷ xs) e h = marks_said k s p i xs e h
marks_said k s p i (Of_object (reference.Common c) ∷ xs) e h = ⊎_elim (λ a. absurd (cc a)) (λ more. marks_said k s p i xs e more) h
marks_said k s p i (Of_object (reference.Own q j) ∷ xs) e h =
    let r : Ref = reference.Own p i in
    let x : Ref = reference.Own q j in
    let more = own_marks (naming_of k) s xs in
    let m : Marks = (object_at s.objects i.0).marks in
    choose q.0 k (λ b. find_mark r (marks_of_place s x (if b then Own j.0 else Foreign) more) ≡ Some m)
    (λ home.
    (let same_party : nat_eq q.0 p.0 ≡ true = choose q.0 p.0 (λ b. b ≡ true) (λ z. refl) (λ n. absurd (n (home ∙ sym e))) in
    ap (λ b. if b && nat_eq j.0 i.0 then Some (object_at s.objects j.0).marks else find_mark r more) same_party
    ∙ choose j.0 i.0 (λ b. (if b then Some (object_at s.objects j.0).marks else find_mark r more) ≡ Some m)
    (λ same. ap (λ n. Some (object_at s.objects n).marks) same)
    (λ other. ⊎_elim (λ a. absurd (other (ap id_in (sym a)))) (λ behind. marks_said k s p i xs e behind) h)))
    (λ away. ⊎_elim (λ a. absurd (away (ap party_in (sym a) ∙ e))) (λ behind. marks_said k s p i xs e behind) h)

-- the sender sees each reference with the marks that the crossing has of it
seen_so : (app : Application) (x : Crossing) (journal : List Crossing) (m : View) (s : Party Ref MadeSymbol) (xs : List (Identity Ref MadeSymbol)) → x.sender ≡ m.me → x.sent.marks ≡ own_marks (naming_of m.me) s xs
    → m.common ≡ app.shared.objects → s.objects ≡ m.objects → m.known ≡ foreign_of app journal → (r : Ref) → IsAmong r (references_in xs) → marks_in m r ≡ marks_at_crossing app x journal r
seen_so app x journal m s xs me said common own known (reference.Common c) h = ap (λ l. (object_at l c.0).marks) common
seen_so app x journal m s xs me said common own known (reference.Own p i) h =
    let r : Ref = reference.Own p i in
    choose p.0 m.me (λ b. marks_at m r (if b then Own i.0 else Foreign) ≡ (if b then unwrap_or (find_mark r x.sent.marks) plain_marks else table_of app journal r))
    (λ home.
    (let there : find_mark r x.sent.marks ≡ Some (object_at s.objects i.0).marks = ap (find_mark r) said ∙ marks_said m.me s p i xs home h in
    ap (λ l. (object_at l i.0).marks) (sym own) ∙ ap (λ o. unwrap_or o plain_marks) (sym there)))
    (λ away. ap (λ l. marks_of same_ref r l) known ∙ ap (λ o. unwrap_or o plain_marks) (found r (foreign_of app journal)))
    ∙ ap (λ n. if nat_eq p.0 n then unwrap_or (find_mark r x.sent.marks) plain_marks else table_of app journal r) (sym me)

marked_alike : (f g : Ref → Marks) (rs : List Ref) → ((r : Ref) → IsAmong r rs → f r ≡ g r) → with_their_marks f rs ≡ with_their_marks g rs
marked_alike f g [] h = refl
marked_alike f g (r ∷ rs) h = λ j. (r, h r (inl refl) j) ∷ marked_alike f g rs (λ x a. h x (inr a)) j

-- so what the sender lists is what the crossing has
pub listed_so : (app : Application) (x : Crossing) (journal : List Crossing) (m : View) (s : Party Ref MadeSymbol) (xs : List (Identity Ref MadeSymbol)) (rs : List Ref) → x.sender ≡ m.me → x.sent.marks ≡ own_marks (naming_of m.me) s xs
    → m.common ≡ app.shared.objects → s.objects ≡ m.objects → m.known ≡ foreign_of app journal → references_in xs ≡ rs → with_their_marks (marks_in m) rs ≡ with_their_marks (marks_at_crossing app x journal) (references_in xs)
listed_so app x journal m s xs rs me said common own known is =
    ap (with_their_marks (marks_in m)) (sym is) ∙ marked_alike (marks_in m) (marks_at_crossing app x journal) (references_in xs) (seen_so app x journal m s xs me said common own known)
