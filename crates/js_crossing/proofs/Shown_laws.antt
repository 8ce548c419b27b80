-- What is shown is what the journal has of it.
use Rattle.std.proofs.Common.{◌≡◌, ◌≢◌, ℕ, Bool, true, false, ◌&&◌, nat_eq, List, [], ◌∷◌, ◌++◌, Option, Some, None, is_some, refl, sym, ap, ◌∙◌, subst, ⊎_elim, if◌then◌else◌}
use Rattle.std.proofs.lemmas.Bool.Decides.{eqb_tells}
use Rattle.std.specs.Map.{lookup}
use Rattle.lava_base.specs.Ids.{same_ref}
use Rattle.lava_base.specs.declared.ids.MadeSymbol.{MadeSymbol}
use Rattle.lava_base.specs.declared.ids.Ref.{Ref}
use Rattle.lava_base.specs.declared.ids.Ref.TheVariants as reference
use Rattle.lava_base.specs.declared.marks.Marks.{Marks}
use Rattle.js_text.specs.Identities.{Identity, Of_object, Of_symbol, key_identities, symbol_identities, value_identities}
use Rattle.js_text.specs.Naming.{Origin, Own, Common, Foreign, naming_of}
use Rattle.js_text.specs.declared.value.Key.{Key}
use Rattle.js_text.specs.declared.value.Key.TheVariants as key
use Rattle.js_text.specs.declared.value.Symbol.{Symbol}
use Rattle.js_text.specs.declared.value.Symbol.TheVariants as symbol
use Rattle.js_text.specs.declared.value.Value.{Value}
use Rattle.js_text.specs.declared.value.Value.TheVariants as value
use Rattle.js_desc.specs.Identities.{all_identities, ask_identities, descriptor_identities, option_identities, partial_identities, ref_identities, reply_identities}
use Rattle.js_desc.specs.declared.ask.Ask.{Ask}
use Rattle.js_desc.specs.declared.ask.Ask.TheVariants as ask
use Rattle.js_desc.specs.declared.descriptor.Descriptor.{Descriptor}
use Rattle.js_desc.specs.declared.descriptor.Descriptor.TheVariants as desc
use Rattle.js_desc.specs.declared.descriptor.PartialDescriptor.{PartialDescriptor}
use Rattle.js_desc.specs.declared.reply.Reply.{Reply}
use Rattle.js_desc.specs.declared.reply.Reply.TheVariants as reply
use Rattle.js_store.specs.Foreign.{with_marks}
use Rattle.js_store.specs.Objects.{object_at}
use Rattle.js_machine.specs.js_run.Journal.{find_mark, or_added, with_mark, with_marks_of}
use Rattle.js_machine.specs.js_run.Local.{marks_of_place, own_marks}
use Rattle.js_machine.specs.js_run.Parties.{Party}
use Rattle.js_machine.specs.Shown.{all_known, shown, shown_at}
use Rattle.js_machine.specs.Views.{View}
use Rattle.js_crossing.specs.Shows.{makes_none, shows, shows_ask, shows_descriptor, shows_field, shows_maybe, shows_option, shows_partial, shows_property, shows_reply, shows_value, shows_values, with_table}

-- THE TABLE OF MARKS

-- a test of two numbers, both ways
pub choose : (p q : ℕ) (P : Bool → Type 0) → (p ≡ q → P true) → (p ≢ q → P false) → P (nat_eq p q)
choose p q P equal other = ⊎_elim (λ h. subst P (sym h.0) (equal h.1)) (λ h. subst P (sym h.0) (other h.1)) (eqb_tells p q)

same_back : (p q : ℕ) → nat_eq p q ≡ nat_eq q p
same_back p q = choose p q (λ b. b ≡ nat_eq q p) (λ e. choose q p (λ b. true ≡ b) (λ z. refl) (λ n. absurd (n (sym e)))) (λ n. choose q p (λ b. false ≡ b) (λ z. absurd (n (sym z))) (λ z. refl))

ref_back : (a b : Ref) → same_ref a b ≡ same_ref b a
ref_back (reference.Common x) (reference.Common y) = same_back x.0 y.0
ref_back (reference.Common x) (reference.Own q j) = refl
ref_back (reference.Own p i) (reference.Common y) = refl
ref_back (reference.Own p i) (reference.Own q j) = λ k. same_back p.0 q.0 k && same_back i.0 j.0 k

pub found : (r : Ref) (known : List (Ref × Marks)) → lookup (same_ref r) known ≡ find_mark r known
found r [] = refl
found r (e ∷ es) = λ k. if ref_back r e.0 k then Some e.1 else found r es k

added : (o : Option Marks) (e : Ref × Marks) (known : List (Ref × Marks)) → (if is_some o then known else known ++ (e.0, e.1) ∷ []) ≡ or_added o e known
added (Some m) e known = refl
added None e known = refl

added_mark : (e : Ref × Marks) (known : List (Ref × Marks)) → with_marks same_ref e.0 e.1 known ≡ with_mark e known
added_mark e known = added (lookup (same_ref e.0) known) e known ∙ ap (λ o. or_added o e known) (found e.0 known)

-- WHAT IS SHOWN

place_shown : (p : Party Ref MadeSymbol) (w : View) (r : Ref) (o : Origin) (more k : List (Ref × Marks)) → p.objects ≡ w.objects
    → with_marks_of more (all_known (shown_at w r o) k) ≡ with_marks_of (marks_of_place p r o more) k
place_shown p w r (Own i) more k e =
    ap (with_marks_of more) (added_mark (r, (object_at w.objects i).marks) k) ∙ (λ j. with_marks_of ((r, (object_at (sym e j) i).marks) ∷ more) k)
place_shown p w r (Common c) more k e = refl
place_shown p w r Foreign more k e = refl

-- what of a party's own objects is shown comes into the table as its marks do
pub shows_all : (p : Party Ref MadeSymbol) (w : View) (xs : List (Identity Ref MadeSymbol)) (k : List (Ref × Marks)) → p.objects ≡ w.objects
    → shows xs (with_table k w) ≡ with_table (with_marks_of (own_marks (naming_of w.me) p xs) k) w
shows_all p w [] k e = refl
shows_all p w (Of_object r ∷ xs) k e =
    shows_all p w xs (all_known (shown w r) k) e
    ∙ ap (λ t. with_table t w) (place_shown p w r ((naming_of w.me).origin r) (own_marks (naming_of w.me) p xs) k e)
shows_all p w (Of_symbol s ∷ xs) k e = shows_all p w xs k e

-- WHAT AN ASK AND A REPLY SHOW

both : (xs ys : List (Identity Ref MadeSymbol)) (w : View) → shows ys (shows xs w) ≡ shows (xs ++ ys) w
both [] ys w = refl
both (Of_object r ∷ xs) ys w = both xs ys (shows (Of_object r ∷ []) w)
both (Of_symbol s ∷ xs) ys w = both xs ys w

symbol_shows : (s : Symbol MadeSymbol) (w : View) → w ≡ shows (symbol_identities s) w
symbol_shows symbol.Iterator w = refl
symbol_shows (symbol.Registered t) w = refl
symbol_shows (symbol.Made s) w = refl

key_shows : (k : Key MadeSymbol) (xs : List (Identity Ref MadeSymbol)) (w : View) → shows xs w ≡ shows (key_identities k ++ xs) w
key_shows (key.Index n) xs w = refl
key_shows (key.Text t) xs w = refl
key_shows (key.Symbol s) xs w = ap (shows xs) (symbol_shows s w) ∙ both (symbol_identities s) xs w

keys_show : (ks : List (Key MadeSymbol)) (w : View) → w ≡ shows (all_identities key_identities ks) w
keys_show [] w = refl
keys_show (k ∷ ks) w = keys_show ks w ∙ key_shows k (all_identities key_identities ks) w

key_alone : (k : Key MadeSymbol) (w : View) → w ≡ shows (key_identities k) w
key_alone (key.Index n) w = refl
key_alone (key.Text t) w = refl
key_alone (key.Symbol s) w = symbol_shows s w

value_shows : (v : Value Ref MadeSymbol) (w : View) → shows_value v w ≡ shows (value_identities v) w
value_shows value.Undefined w = refl
value_shows value.Null w = refl
value_shows (value.Bool b) w = refl
value_shows (value.Int n) w = refl
value_shows (value.Text t) w = refl
value_shows (value.Symbol s) w = symbol_shows s w
value_shows (value.Ref r) w = refl

values_show : (vs : List (Value Ref MadeSymbol)) (w : View) → shows_values vs w ≡ shows (all_identities value_identities vs) w
values_show [] w = refl
values_show (v ∷ vs) w =
    values_show vs (shows_value v w) ∙ ap (shows (all_identities value_identities vs)) (value_shows v w) ∙ both (value_identities v) (all_identities value_identities vs) w

option_shows : (o : Option Ref) (w : View) → shows_option o w ≡ shows (option_identities ref_identities o) w
option_shows None w = refl
option_shows (Some r) w = refl

field_shows : (o : Option (Option Ref)) (w : View) → shows_field o w ≡ shows (option_identities (option_identities ref_identities) o) w
field_shows None w = refl
field_shows (Some o) w = option_shows o w

maybe_shows : (o : Option (Value Ref MadeSymbol)) (w : View) → shows_maybe o w ≡ shows (option_identities value_identities o) w
maybe_shows None w = refl
maybe_shows (Some v) w = value_shows v w

descriptor_shows : (d : Descriptor Ref MadeSymbol) (w : View) → shows_descriptor d w ≡ shows (descriptor_identities d) w
descriptor_shows (desc.Data v a b c) w = value_shows v w
descriptor_shows (desc.Accessor g s b c) w =
    option_shows s (shows_option g w) ∙ ap (shows (option_identities ref_identities s)) (option_shows g w) ∙ both (option_identities ref_identities g) (option_identities ref_identities s) w

property_shows : (o : Option (Descriptor Ref MadeSymbol)) (w : View) → shows_property o w ≡ shows (option_identities descriptor_identities o) w
property_shows None w = refl
property_shows (Some d) w = descriptor_shows d w

partial_shows : (d : PartialDescriptor Ref MadeSymbol) (w : View) → shows_partial d w ≡ shows (partial_identities d) w
partial_shows d w =
    let vs : List (Identity Ref MadeSymbol) = option_identities value_identities d.value in
    let gs : List (Identity Ref MadeSymbol) = option_identities (option_identities ref_identities) d.get in
    let ss : List (Identity Ref MadeSymbol) = option_identities (option_identities ref_identities) d.set in
    field_shows d.set (shows_field d.get (shows_maybe d.value w))
    ∙ ap (shows ss) (field_shows d.get (shows_maybe d.value w) ∙ ap (shows gs) (maybe_shows d.value w))
    ∙ both gs ss (shows vs w) ∙ both vs (gs ++ ss) w

two_values : (v u : Value Ref MadeSymbol) (w : View) → shows_value u (shows_value v w) ≡ shows (value_identities v ++ value_identities u) w
two_values v u w = value_shows u (shows_value v w) ∙ ap (shows (value_identities u)) (value_shows v w) ∙ both (value_identities v) (value_identities u) w

with_arguments : (xs : List (Identity Ref MadeSymbol)) (vs : List (Value Ref MadeSymbol)) (w u : View) → u ≡ shows xs w → shows_values vs u ≡ shows (xs ++ all_identities value_identities vs) w
with_arguments xs vs w u e = values_show vs u ∙ ap (shows (all_identities value_identities vs)) e ∙ both xs (all_identities value_identities vs) w

pub ask_shows : (x : Ask Ref MadeSymbol) (w : View) → makes_none x ≡ true → shows_ask x w ≡ shows (ask_identities x) w
ask_shows ask.GetPrototypeOf w n = refl
ask_shows (ask.SetPrototypeOf p) w n = option_shows p w
ask_shows ask.IsExtensible w n = refl
ask_shows ask.PreventExtensions w n = refl
ask_shows (ask.GetOwnProperty k) w n = key_alone k w
ask_shows (ask.DefineOwnProperty k d) w n = partial_shows d w ∙ key_shows k (partial_identities d) w
ask_shows (ask.HasProperty k) w n = key_alone k w
ask_shows (ask.Get k v) w n = value_shows v w ∙ key_shows k (value_identities v) w
ask_shows (ask.Set k v u) w n = two_values v u w ∙ key_shows k (value_identities v ++ value_identities u) w
ask_shows (ask.Delete k) w n = key_alone k w
ask_shows ask.OwnPropertyKeys w n = refl
ask_shows (ask.Call this args) w n = with_arguments (value_identities this) args w (shows_value this w) (value_shows this w)
ask_shows (ask.Construct target args) w n = with_arguments (Of_object target ∷ []) args w (shows (Of_object target ∷ []) w) refl
ask_shows (ask.Import link path) w n = refl
ask_shows (ask.Slot which args) w n = values_show args w
ask_shows (ask.Make globals modules) w n = absurd (cc n)
ask_shows ask.Queue w n = refl
ask_shows ask.Turn w n = refl

pub reply_shows : (r : Reply Ref MadeSymbol) (w : View) → shows_reply r w ≡ shows (reply_identities r) w
reply_shows (reply.Value v) w = value_shows v w
reply_shows (reply.Proto p) w = option_shows p w
reply_shows (reply.Flag b) w = refl
reply_shows (reply.Desc d) w = property_shows d w
reply_shows (reply.Keys ks) w = keys_show ks w
reply_shows (reply.Throw v) w = value_shows v w
