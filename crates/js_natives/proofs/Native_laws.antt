-- What each native does is what follows its decision.
use Rattle.std.proofs.Common.{◌≡◌, ℕ, true, false, List, [], ◌∷◌, Option, refl, sym, ap, ◌∙◌}
use Rattle.std.specs.Prelude.{ℤ}
use Rattle.lava_base.specs.declared.ids.MadeSymbol.{MadeSymbol}
use Rattle.lava_base.specs.declared.ids.Ref.{Ref}
use Rattle.lava_base.specs.declared.marks.Marks.{Marks}
use Rattle.js_text.specs.Naming.{naming_of, origin_of}
use Rattle.js_text.specs.declared.native.Native.{Native}
use Rattle.js_text.specs.declared.native.Native.TheVariants as native
use Rattle.js_text.specs.declared.value.Value.TheVariants as value
use Rattle.js_run_laws.specs.js_conversions.Conversions.{convert, convert_key, convert_text}
use Rattle.js_run_laws.specs.js_conversions.Primitives.{ReadsNumbers}
use Rattle.js_run_laws.specs.js_conversions.declared.next.Wanted.TheVariants as wanted
use Rattle.js_run_laws.specs.js_maker_natives.Kinds.{class_of, is_common, symbol_for}
use Rattle.js_run_laws.specs.js_maker_natives.Makers.{bind, make_array, make_map, make_object, make_proxy, make_symbol, revoke}
use Rattle.js_run_laws.specs.js_maker_natives.MakerDecisions.{MakerDecision}
use Rattle.js_run_laws.specs.js_maker_natives.Resumed.{make_error}
use Rattle.js_native.specs.TextNatives.{FindsFirst, ascii_text, concat_texts, index_in, slice_text, unit_at}
use Rattle.js_run_laws.specs.js_object_natives.CallNatives.{apply, construct, construct_by, constructor_of}
use Rattle.js_run_laws.specs.js_object_natives.ObjectNatives.{object_native}
use Rattle.js_run_laws.specs.js_operations.Lists.{list_items}
use Rattle.js_run_laws.specs.js_operations.Looks.{marks_seen}
use Rattle.js_store.specs.Frozen.{CommonObject}
use Rattle.js_run_laws.specs.js_run.Acts.{Of_maker}
use Rattle.js_run_laws.specs.js_run.Asking.{see_marks}
use Rattle.js_run_laws.specs.js_run.Following.{see_value}
use Rattle.js_run_laws.specs.js_run.NativeTurns.{follows_native_with}
use Rattle.js_run_laws.specs.js_run.Natives.{asks_object, makes, native_acts}
use Rattle.js_run_laws.specs.js_run.Parties.{Shared}
use Rattle.js_run_laws.specs.js_run.Runs.{Env, answered}
use Rattle.js_run_laws.specs.js_run.SlotNatives.{follows_kind}
use Rattle.js_natives.specs.Decided.{native_step}
use Rattle.js_natives.specs.Deeds.{Does, MachineAct, MachineParty, acts_with, asks_kind, having, knowing, sharing}
use Rattle.js_natives.specs.Items.{reads_items}
use Rattle.js_natives.specs.Seen.{all_are_there, is_there, value_is_there}
use Rattle.js_native_steps.specs.Steps.{MachineObjects, MachineValue, NativeStep, of_maker, waits_as}
use Rattle.js_native_steps.specs.declared.next.NativeNext.TheVariants as next
use Rattle.js_natives.proofs.Seen_laws.{left_true, right_true, seen, value_marks, value_seen}
use Rattle.js_natives.proofs.Step_laws.{Says, kind_step, same_step, text_step}

module _ (me : ℕ) (objects : MachineObjects) (common : List CommonObject) (known : List (Ref × Marks)) (shared : Shared) (env : Env Ref) (p : MachineParty) where
  abbrev Led : MachineAct → MachineAct → Type 0
  Led a b = answered (naming_of me) (knowing known env) a ≡ answered (naming_of me) (knowing known env) b

  abbrev items : MachineValue → Option (List MachineValue)
  items v = list_items (naming_of me) objects common v

  abbrev sees : Ref → Marks
  sees r = marks_seen (naming_of me) objects common known r

  abbrev Are_there : List MachineValue → Type 0
  Are_there vs = all_are_there (naming_of me) objects common vs ≡ true

  -- what follows the decision that a native takes
  abbrev step : Native → List MachineValue → NativeStep × MachineObjects
  step which vs = native_step (naming_of me) sees objects common shared.number_of shared.find which vs

  abbrev follows : Native → List MachineValue → MachineAct
  follows which vs = follows_native_with (naming_of me) which waits_as (step which vs) (having objects p)

  abbrev acts : Native → List MachineValue → MachineAct
  acts which vs = native_acts (naming_of me) (sharing common shared) which vs (having objects p)

  abbrev led : {a b : MachineAct} → a ≡ b → Led a b
  led e = ap (λ a. answered (naming_of me) (knowing known env) a) e

  abbrev s : Shared
  s = sharing common shared

  abbrev q : MachineParty
  q = having objects p

  -- an operand that is looked at
  first_seen : (r : Ref) (vs : List MachineValue) (go : Marks → MachineAct) → Are_there (value.Ref r ∷ vs) → Led (see_marks (naming_of me) s r q go) (go (sees r))
  first_seen r vs go h = seen me objects common known shared env p r go (left_true (is_there objects common (origin_of me r)) (all_are_there (naming_of me) objects common vs) h)

  -- THAT LOOK AT OPERANDS

  applies_so : (vs : List MachineValue) → Are_there vs → Led (acts native.Apply vs) (asks_object (naming_of me) s native.Apply (apply sees items vs) q)
  applies_so [] h = refl
  applies_so (value.Ref f ∷ this ∷ list ∷ []) h = first_seen f (this ∷ list ∷ []) (λ m. asks_object (naming_of me) s native.Apply (apply (λ r. m) items (value.Ref f ∷ this ∷ list ∷ [])) q) h
  applies_so (value.Ref f ∷ []) h = first_seen f [] (λ m. asks_object (naming_of me) s native.Apply (apply (λ r. m) items (value.Ref f ∷ [])) q) h
  applies_so (value.Ref f ∷ v ∷ []) h = first_seen f (v ∷ []) (λ m. asks_object (naming_of me) s native.Apply (apply (λ r. m) items (value.Ref f ∷ v ∷ [])) q) h
  applies_so (value.Ref f ∷ v ∷ w ∷ x ∷ vs) h = first_seen f (v ∷ w ∷ x ∷ vs) (λ m. asks_object (naming_of me) s native.Apply (apply (λ r. m) items (value.Ref f ∷ v ∷ w ∷ x ∷ vs)) q) h
  applies_so (f ∷ this ∷ list ∷ []) h = refl
  applies_so (f ∷ vs) h = refl

  binds_so : (vs : List MachineValue) → Are_there vs → Led (acts native.Bind vs) (makes (naming_of me) s native.Bind (bind (naming_of me) sees items objects vs) q)
  binds_so [] h = refl
  binds_so (value.Ref f ∷ this ∷ list ∷ []) h = first_seen f (this ∷ list ∷ []) (λ m. makes (naming_of me) s native.Bind (bind (naming_of me) (λ r. m) items objects (value.Ref f ∷ this ∷ list ∷ [])) q) h
  binds_so (value.Ref f ∷ []) h = first_seen f [] (λ m. makes (naming_of me) s native.Bind (bind (naming_of me) (λ r. m) items objects (value.Ref f ∷ [])) q) h
  binds_so (value.Ref f ∷ v ∷ []) h = first_seen f (v ∷ []) (λ m. makes (naming_of me) s native.Bind (bind (naming_of me) (λ r. m) items objects (value.Ref f ∷ v ∷ [])) q) h
  binds_so (value.Ref f ∷ v ∷ w ∷ x ∷ vs) h = first_seen f (v ∷ w ∷ x ∷ vs) (λ m. makes (naming_of me) s native.Bind (bind (naming_of me) (λ r. m) items objects (value.Ref f ∷ v ∷ w ∷ x ∷ vs)) q) h
  binds_so (f ∷ this ∷ list ∷ []) h = refl
  binds_so (f ∷ vs) h = refl

  proxy_so : (vs : List MachineValue) → Are_there vs → Led (acts native.MakeProxy vs) (makes (naming_of me) s native.MakeProxy (make_proxy (naming_of me) sees objects vs) q)
  proxy_so [] h = refl
  proxy_so (value.Ref t ∷ value.Ref k ∷ []) h = first_seen t (value.Ref k ∷ []) (λ m. makes (naming_of me) s native.MakeProxy (make_proxy (naming_of me) (λ r. m) objects (value.Ref t ∷ value.Ref k ∷ [])) q) h
  proxy_so (value.Ref t ∷ []) h = first_seen t [] (λ m. makes (naming_of me) s native.MakeProxy (make_proxy (naming_of me) (λ r. m) objects (value.Ref t ∷ [])) q) h
  proxy_so (value.Ref t ∷ v ∷ []) h = first_seen t (v ∷ []) (λ m. makes (naming_of me) s native.MakeProxy (make_proxy (naming_of me) (λ r. m) objects (value.Ref t ∷ v ∷ [])) q) h
  proxy_so (value.Ref t ∷ v ∷ w ∷ vs) h = first_seen t (v ∷ w ∷ vs) (λ m. makes (naming_of me) s native.MakeProxy (make_proxy (naming_of me) (λ r. m) objects (value.Ref t ∷ v ∷ w ∷ vs)) q) h
  proxy_so (t ∷ v ∷ []) h = refl
  proxy_so (t ∷ vs) h = refl

  kind_so : (vs : List MachineValue) → Are_there vs → Led (acts native.ClassOf vs) (follows_kind (naming_of me) s Of_maker (class_of sees vs) q)
  kind_so [] h = refl
  kind_so (value.Ref r ∷ []) h = first_seen r [] (λ m. follows_kind (naming_of me) s Of_maker (class_of (λ k. m) (value.Ref r ∷ [])) q) h
  kind_so (value.Ref r ∷ v ∷ vs) h = first_seen r (v ∷ vs) (λ m. follows_kind (naming_of me) s Of_maker (class_of (λ k. m) (value.Ref r ∷ v ∷ vs)) q) h
  kind_so (v ∷ []) h = refl
  kind_so (v ∷ vs) h = refl

  constructs_by : (v : MachineValue) → constructor_of (λ r. value_marks me objects common known shared env p v) v ≡ constructor_of sees v
  constructs_by (value.Ref r) = refl
  constructs_by v = refl

  constructs_so : (vs : List MachineValue) → Are_there vs → Led (acts native.Construct vs) (asks_object (naming_of me) s native.Construct (construct sees items vs) q)
  constructs_so (f ∷ list ∷ target ∷ []) h =
      let there = right_true (value_is_there (naming_of me) objects common list) (all_are_there (naming_of me) objects common (target ∷ [])) (right_true (value_is_there (naming_of me) objects common f) (all_are_there (naming_of me) objects common (list ∷ target ∷ [])) h) in
      value_seen me objects common known shared env p f (λ m. see_value (naming_of me) s target q (λ n. asks_object (naming_of me) s native.Construct (construct_by (constructor_of (λ r. m) f) (items list) (constructor_of (λ r. n) target)) q)) (left_true (value_is_there (naming_of me) objects common f) (all_are_there (naming_of me) objects common (list ∷ target ∷ [])) h)
      ∙ value_seen me objects common known shared env p target (λ n. asks_object (naming_of me) s native.Construct (construct_by (constructor_of (λ r. value_marks me objects common known shared env p f) f) (items list) (constructor_of (λ r. n) target)) q) (left_true (value_is_there (naming_of me) objects common target) true there)
      ∙ (λ i. answered (naming_of me) (knowing known env) (asks_object (naming_of me) s native.Construct (construct_by (constructs_by f i) (items list) (constructs_by target i)) q))
  constructs_so [] h = refl
  constructs_so (f ∷ []) h = refl
  constructs_so (f ∷ v ∷ []) h = refl
  constructs_so (f ∷ v ∷ w ∷ x ∷ vs) h = refl

  -- THAT CONVERT

  text_so : (vs : List MachineValue) → Led (acts native.ToText vs) (follows native.ToText vs)
  text_so [] = refl
  text_so (v ∷ []) = led (same_step (naming_of me) native.ToText objects p next.Conversion (convert_text v))
  text_so (v ∷ w ∷ vs) = refl

  number_so : (vs : List MachineValue) → Led (acts native.ToNumber vs) (follows native.ToNumber vs)
  number_so [] = refl
  number_so (v ∷ []) = led (same_step (naming_of me) native.ToNumber objects p next.Conversion (convert shared.number_of wanted.Number v))
  number_so (v ∷ w ∷ vs) = refl

  key_so : (vs : List MachineValue) → Led (acts native.ToKey vs) (follows native.ToKey vs)
  key_so [] = refl
  key_so (v ∷ []) = led (same_step (naming_of me) native.ToKey objects p next.Conversion (convert_key v))
  key_so (v ∷ w ∷ vs) = refl

  -- ALL

  made : (which : Native) (d : MakerDecision Ref MadeSymbol × MachineObjects) → makes (naming_of me) s which d q ≡ follows_native_with (naming_of me) which waits_as (of_maker d.0, d.1) q
  made which d = same_step (naming_of me) which d.1 p next.Maker d.0

  native_law : (which : Native) (vs : List MachineValue) → reads_items which ≡ false → Are_there vs → asks_kind (naming_of me) which (step which vs).0 ≡ false
      → Led (acts which vs) (follows which vs)
  native_law native.FromUnits vs l h k = cc
  native_law native.SortTexts vs l h k = cc
  native_law native.Apply vs l h k = applies_so vs h ∙ led (same_step (naming_of me) native.Apply objects p next.Object (apply sees items vs))
  native_law native.Construct vs l h k = constructs_so vs h ∙ led (same_step (naming_of me) native.Construct objects p next.Object (construct sees items vs))
  native_law native.MakeObject vs l h k = led (made native.MakeObject (make_object (naming_of me) objects vs))
  native_law native.MakeArray vs l h k = led (made native.MakeArray (make_array (naming_of me) objects vs))
  native_law native.ClassOf vs l h k = kind_so vs h ∙ led (kind_step (naming_of me) s objects p (class_of sees vs) k)
  native_law native.IsCommon vs l h k = led (same_step (naming_of me) native.IsCommon objects p next.Maker (is_common (naming_of me).origin vs))
  native_law native.Bind vs l h k = binds_so vs h ∙ led (made native.Bind (bind (naming_of me) sees items objects vs))
  native_law native.MakeProxy vs l h k = proxy_so vs h ∙ led (made native.MakeProxy (make_proxy (naming_of me) sees objects vs))
  native_law native.Revoke vs l h k = led (made native.Revoke (revoke (naming_of me) objects common vs))
  native_law native.UnitAt vs l h k = led (text_step (naming_of me) native.UnitAt objects p (unit_at vs))
  native_law native.Slice vs l h k = led (text_step (naming_of me) native.Slice objects p (slice_text vs))
  native_law native.IndexIn vs l h k = led (text_step (naming_of me) native.IndexIn objects p (index_in shared.find vs))
  native_law native.Concat vs l h k = led (text_step (naming_of me) native.Concat objects p (concat_texts vs))
  native_law native.Ascii vs l h k = led (text_step (naming_of me) native.Ascii objects p (ascii_text vs))
  native_law native.ToText vs l h k = text_so vs
  native_law native.ToNumber vs l h k = number_so vs
  native_law native.ToKey vs l h k = key_so vs
  native_law native.MakeSymbol vs l h k = led (made native.MakeSymbol (make_symbol (naming_of me) objects vs))
  native_law native.SymbolFor vs l h k = led (same_step (naming_of me) native.SymbolFor objects p next.Maker (symbol_for vs))
  native_law native.MakeError vs l h k = led (made native.MakeError (make_error (naming_of me) objects vs))
  native_law native.MakeMap vs l h k = led (made native.MakeMap (make_map (naming_of me) objects vs))
  native_law native.MakeCompartment vs l h k = refl
  native_law native.Evaluate vs l h k = refl
  native_law native.CompartmentGlobal vs l h k = refl
  native_law which vs l h k = led (same_step (naming_of me) which objects p next.Object (object_native which vs))

pub native_does : (me : ℕ) (objects : MachineObjects) (common : List CommonObject) (known : List (Ref × Marks)) (which : Native) (vs : List MachineValue) (d : NativeStep) (after : MachineObjects)
    → reads_items which ≡ false → all_are_there (naming_of me) objects common vs ≡ true
    → ((read : List ℕ → Option ℤ) → ReadsNumbers read → (find : List ℕ → List ℕ → ℕ → Option ℕ) → FindsFirst find → Says d after (native_step (naming_of me) (λ r. marks_seen (naming_of me) objects common known r) objects common read find which vs))
    → asks_kind (naming_of me) which d ≡ false
    → Does me objects common known which (acts_with which vs) d after
native_does me objects common known which vs d after l h e k =
    record {
      does = λ shared numbers finds env p. (let said = e shared.number_of numbers shared.find finds in
          native_law me objects common known shared env p which vs l h (sym (ap (λ (x : NativeStep × MachineObjects). asks_kind (naming_of me) which x.0) said) ∙ k)
          ∙ sym (ap (λ x. answered (naming_of me) (knowing known env) (follows_native_with (naming_of me) which waits_as x (having objects p))) said));
    }
