-- Functions that are made.
use Rattle.std.proofs.Common.{◌≡◌, ℕ, ◌+◌, Bool, true, false, List, [], ◌∷◌, ◌++◌, length, map, None, refl, sym, ap, ◌∙◌, subst, Result, Ok, Err, IfOk, OnOk, if◌then◌else◌}
use Rattle.std.proofs.lemmas.List.{length-append, length-map, map-append}
use Rattle.lava_base.specs.Ids.{same_made_symbol}
use Rattle.lava_base.specs.declared.ids.MadeSymbol.{MadeSymbol}
use Rattle.lava_base.specs.declared.ids.Ref.{Ref}
use Rattle.js_text.specs.Naming.{naming_of}
use Rattle.js_text.specs.declared.value.Key.{Key}
use Rattle.js_text.specs.declared.value.Value.{Value}
use Rattle.js_text.specs.declared.value.Value.TheVariants as value
use Rattle.js_desc.specs.declared.descriptor.Change.{Change}
use Rattle.js_store.specs.Objects.{Object, at_place, with_change}
use Rattle.js_code.specs.Decoded.{template_at, term_at}
use Rattle.js_term.specs.declared.term.Template.{Template}
use Rattle.js_operation.specs.js_run.Acts.{give}
use Rattle.js_operation.specs.js_run.Functions.{function_made, is_plain, method_made, plain_function_made}
use Rattle.js_operation.specs.js_run.Completions.{Replied}
use Rattle.js_operation.specs.js_run.Runs.{Gives}
use Rattle.js_desc.specs.declared.reply.Reply.TheVariants as reply
use Rattle.js_machine.specs.Made.{function_of, function_prototype, instance_prototype, next_number, next_own, prototype_property, row_of, second_own, with_function_by}
use Rattle.js_machine.specs.Steps.{LeadsTo, settles}
use Rattle.js_machine.specs.Views.{Around, View, fitting, party_of}
use Rattle.js_machine.specs.declared.frame.Mode.{Mode}
use Rattle.js_machine.specs.declared.frame.Mode.TheVariants as mode
use Rattle.js_machine.proofs.Faulted.{last_changed}
use Rattle.js_machine.proofs.Leads.{led}

abbrev Objects : Type 0
Objects = List (Object Ref MadeSymbol)

-- the newest object has one more property
pub written_last : (os ns ms : Objects) (o : Object Ref MadeSymbol) (k l : Key MadeSymbol) (c d : Change Ref MadeSymbol) (i : ℕ) → ns ≡ os ++ o ∷ [] → i ≡ length os → k ≡ l → c ≡ d
    → ms ≡ at_place ns i (with_change same_made_symbol k c) → ms ≡ os ++ with_change same_made_symbol l d o ∷ []
written_last os ns ms o k l c d i n e s t m = m ∙ (λ j. at_place (n j) (e j) (with_change same_made_symbol (s j) (t j))) ∙ last_changed os o (with_change same_made_symbol l d)

-- templates that are read have as many numbers
as_many : {A B : Type 0} (f : A → B) (xs ys : List A) → length (xs ++ ys) ≡ length (map f xs ++ map f ys)
as_many f xs ys = length-append xs ys ∙ (λ j. sym (length-map xs f) j + sym (length-map ys f) j) ∙ sym (length-append (map f xs) (map f ys))

module _ (a : Around) (at : ℕ) (old : View) where
  abbrev read : ℕ → Template
  read = template_at old.code (term_at old.code)

  pub number : next_number old ≡ length (map read old.common_templates ++ map read old.templates)
  number = as_many read old.common_templates old.templates

  pub one_more : map read (old.templates ++ at ∷ []) ≡ map read old.templates ++ read at ∷ []
  one_more = map-append read old.templates (at ∷ [])

  abbrev Made : Bool → Bool → Type 0
  Made b x = party_of (fitting old a) (with_function_by b at old) ≡ (if x then plain_function_made (naming_of old.me) (fitting old a).shared (read at) (party_of (fitting old a) old) else method_made (naming_of old.me) (fitting old a).shared (read at) None (party_of (fitting old a) old))

  made_by : (b : Bool) → Made b b
  made_by true = λ i. record (party_of (fitting old a) old) {
    objects = (old.objects ++ function_of (number i) (row_of old at) (function_prototype old) None (prototype_property (second_own old) ∷ []) old ∷ []) ++ instance_prototype old.me (next_own old) ∷ [];
    templates = one_more i;
  }
  made_by false = λ i. record (party_of (fitting old a) old) {
    objects = old.objects ++ function_of (number i) (row_of old at) (function_prototype old) None [] old ∷ [];
    templates = one_more i;
  }

pub made_is : (at : ℕ) (b : Bool) (old : View) → b ≡ is_plain (row_of old at).kind → (a : Around)
    → party_of (fitting old a) (with_function_by b at old) ≡ function_made (naming_of old.me) (fitting old a).shared (template_at old.code (term_at old.code) at) (party_of (fitting old a) old)
made_is at b old e a = subst (λ x. Made a at old b x) e (made_by a at old b)

abbrev Gave : (at : ℕ) → (old new : View) → Mode → Type 0
Gave at old new m = LeadsTo (λ a. give (value.Ref (next_own old)) (function_made (naming_of old.me) a.shared (template_at old.code (term_at old.code) at) (party_of a old))) old new m

abbrev Pushed : (at : ℕ) → Bool → View → View
Pushed at b old = record (with_function_by b at old) { values = value.Ref (next_own old) ∷ (with_function_by b at old).values }

gave : (at : ℕ) (b : Bool) (old : View) → b ≡ is_plain (row_of old at).kind → Gave at old (Pushed at b old) mode.Value
gave at true old e = record { leads = λ a. ap (λ p. settles (fitting old a) old old.values (Gives (Replied (reply.Value (value.Ref (next_own old)))) p)) (made_is at true old e a); keeps = (refl, (refl, (refl, (refl, refl)))) }
gave at false old e = record { leads = λ a. ap (λ p. settles (fitting old a) old old.values (Gives (Replied (reply.Value (value.Ref (next_own old)))) p)) (made_is at false old e a); keeps = (refl, (refl, (refl, (refl, refl)))) }

pub gave_ok : {E : Type 0} (r : Result Mode E) (at : ℕ) (v : Value Ref MadeSymbol) (old mid new : View) → v ≡ value.Ref (next_own old) → mid ≡ with_function_by (is_plain (row_of old at).kind) at old
    → OnOk r (new ≡ record mid { values = v ∷ mid.values }) → IfOk r (λ m. m ≡ mode.Value) → IfOk r (Gave at old new)
gave_ok (Ok m) at v old mid new s e n d =
    let b = is_plain (row_of old at).kind in
    led _ old (Pushed at b old) new mode.Value m (gave at b old refl) (n ∙ (λ j. record (e j) { values = s j ∷ (e j).values })) d
gave_ok (Err x) at v old mid new s e n d = tt
