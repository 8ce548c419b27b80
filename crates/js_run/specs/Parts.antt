-- What is defined on a fresh object, and classes.
use Rattle.std.specs.Prelude.{ℕ, suc, ◌+◌, Bool, true, false, List, [], ◌∷◌, ◌++◌, length, pos, Option, Some, None, codes, if◌then◌else◌}
use Rattle.lava_base.specs.declared.marks.Class.{Class}
use Rattle.lava_base.specs.declared.marks.Class.TheVariants as class
use Rattle.lava_base.specs.declared.marks.Marks.{Marks}
use Rattle.js_text.specs.Naming.{Naming, Origin, Own, Common, Foreign}
use Rattle.js_text.specs.declared.native.Native.TheVariants as native
use Rattle.js_text.specs.declared.value.Key.{Key}
use Rattle.js_text.specs.declared.value.Key.TheVariants as key
use Rattle.js_text.specs.declared.value.Value.{Value}
use Rattle.js_text.specs.declared.value.Value.TheVariants as value
use Rattle.js_desc.specs.Validate.{validate_and_apply_property_descriptor}
use Rattle.js_desc.specs.declared.ask.Ask.TheVariants as ask
use Rattle.js_desc.specs.declared.descriptor.Change.{Change}
use Rattle.js_desc.specs.declared.descriptor.Descriptor.TheVariants.{Data}
use Rattle.js_desc.specs.declared.descriptor.PartialDescriptor.{PartialDescriptor}
use Rattle.js_desc.specs.declared.fault.FaultText.TheVariants as fault
use Rattle.js_store.specs.Objects.{Object, at_place, object_at, ordinary_get_own_property, with_change, written}
use Rattle.js_term.specs.Layers.{PartLayer}
use Rattle.js_term.specs.declared.term.Arguments.TheOpen.{Part-F}
use Rattle.js_term.specs.declared.term.Arguments.TheVariants as arguments
use Rattle.js_term.specs.declared.term.Literal.TheVariants as literal
use Rattle.js_term.specs.declared.term.Part.{Part, out-Part}
use Rattle.js_term.specs.declared.term.Part.TheVariants as part
use Rattle.js_term.specs.declared.term.Template.{Template, roll-Template}
use Rattle.js_term.specs.declared.term.TemplateKind.TheVariants as kind
use Rattle.js_term.specs.declared.term.Term.{Term}
use Rattle.js_term.specs.declared.term.Term.TheVariants as term
use Rattle.js_run.specs.Acts.{Act, Evaluate, Next, asks, give, with_value}
use Rattle.js_run.specs.Asking.{object_here, see_constructor}
use Rattle.js_run.specs.Faults.{faults, hidden_property}
use Rattle.js_run.specs.Functions.{array_length_entry, constructor_property, function_object, length_read, method_made, next_object, object_after, open_property, ordinary, own_data, prototype_key}
use Rattle.js_run.specs.Parties.{Party, Shared, made, with_template}
use Rattle.js_run.specs.Properties.{to_key}
use Rattle.js_run.specs.declared.intrinsics.TheConstants.{ARRAY_PROTOTYPE, FUNCTION_PROTOTYPE, OBJECT_PROTOTYPE, COPY, INTO}

-- the fields of a part: those of data, of a getter and of a setter
-- ECMA-262 DefineMethodProperty
abbrev pub data_part : {R S : Type 0} → (enumerable : Bool) → Value R S → PartialDescriptor R S
data_part e v = record { value = Some v; writable = Some true; get = None; set = None; enumerable = Some e; configurable = Some true }

abbrev pub getter_part : {R S : Type 0} → (enumerable : Bool) → R → PartialDescriptor R S
getter_part e f = record { value = None; writable = None; get = Some (Some f); set = None; enumerable = Some e; configurable = Some true }

abbrev pub setter_part : {R S : Type 0} → (enumerable : Bool) → R → PartialDescriptor R S
setter_part e f = record { value = None; writable = None; get = None; set = Some (Some f); enumerable = Some e; configurable = Some true }

abbrev pub is_array_class : Class → Bool
is_array_class class.Array = true
is_array_class _ = false

abbrev pub is_array : {R S : Type 0} → Object R S → Bool
is_array o = is_array_class o.marks.class

-- WHERE A PART STANDS

-- the object on which parts are defined, and a class's constructor, on which the static ones are
pub record Holders (R : Type 0) : Type 0 where
  pub instance : R
  pub static_part : R
  pub enumerable : Bool

abbrev pub holder : {R : Type 0} → (is_static : Bool) → Holders R → R
holder true h = h.static_part
holder false h = h.instance

module _ {R S : Type 0} (names : Naming R S) (shared : Shared) where
  -- an own object with a property changed
  abbrev pub with_property : Origin → Key S → Change R S → Party R S → Party R S
  with_property (Own i) k c p = record p { objects = at_place p.objects i (with_change names.same_symbol k c) }
  with_property (Common n) k c p = p
  with_property Foreign k c p = p

  abbrev pub defined : R → Key S → Option (Change R S) → Party R S → (Party R S → Act R S) → Act R S
  defined o k None p go = faults names fault.CannotDefine p
  defined o k (Some c) p go = go (with_property (names.origin o) k c p)

  -- a property is defined, at no cost
  -- ECMA-262 DefinePropertyOrThrow, at a fresh object
  abbrev pub defines : R → Key S → PartialDescriptor R S → Party R S → (Party R S → Act R S) → Act R S
  defines o k d p go =
      let old = object_here names shared o p in
      defined o k (validate_and_apply_property_descriptor names.same names.same_symbol (ordinary_get_own_property names.same_symbol k old.properties) old.extensible d) p go

  -- ITEMS OF AN ARRAY

  abbrev pub item_count : R → Party R S → ℕ
  item_count o p = length_read (own_data names (object_here names shared o p) (key.Text (codes "length")))

  -- an array with another length, and maybe an item more
  abbrev pub with_count : Origin → ℕ → Party R S → Party R S
  with_count (Own i) n p = record p { objects = at_place p.objects i (λ o. record o { properties = written names.same_symbol (array_length_entry {R = R} {S = S} n).0 (array_length_entry {R = R} {S = S} n).1 o.properties }) }
  with_count (Common c) n p = p
  with_count Foreign n p = p

  abbrev pub with_item : Origin → ℕ → Value R S → Party R S → Party R S
  with_item (Own i) n v p = record p { objects = at_place p.objects i (λ o. record o { properties = written names.same_symbol (key.Index n) (Data v true true true) o.properties }) }
  with_item (Common c) n v p = p
  with_item Foreign n v p = p

  -- ECMA-262 ArrayAccumulation, of an AssignmentExpression
  abbrev pub adds_item : R → Value R S → Party R S → Party R S
  adds_item o v p = let n = item_count o p in with_count (names.origin o) (suc n) (with_item (names.origin o) n v p)

  -- ECMA-262 ArrayAccumulation, of an Elision
  abbrev pub adds_hole : R → Party R S → Party R S
  adds_hole o p = with_count (names.origin o) (suc (item_count o p)) p

  -- PARTS

  -- ECMA-262 PropertyDefinitionEvaluation, of a spread
  -- ECMA-262 ArrayAccumulation, of a SpreadElement
  abbrev pub spreads : R → Value R S → Party R S → Next R S → Act R S
  spreads o v p k =
      let helper = names.common (if is_array (object_here names shared o p) then INTO else COPY) in
      asks names helper (ask.Call value.Undefined (value.Ref o ∷ v ∷ [])) p k

  -- a part with a function, which has the object as its home
  -- ECMA-262 MethodDefinitionEvaluation
  abbrev pub defines_function : R → (key : Term) → Template → (R → PartialDescriptor R S) → Party R S → (Party R S → Act R S) → Act R S
  defines_function o k t field p go =
      Evaluate k p (with_value (λ v q. to_key names shared v q (λ name m.
      defines o name (field (next_object names shared m)) (method_made names shared t (Some o) m) go)))

  abbrev pub defines_part : Holders R → PartLayer → Party R S → (Party R S → Act R S) → Act R S
  defines_part h (Part-F.Data k e) p go =
      Evaluate k p (with_value (λ v q. to_key names shared v q (λ name m.
      Evaluate e m (with_value (λ w n. defines h.instance name (data_part h.enumerable w) n go)))))
  defines_part h (Part-F.Method s k t) p go = defines_function (holder s h) k t (λ f. data_part h.enumerable (value.Ref f)) p go
  defines_part h (Part-F.Getter s k t) p go = defines_function (holder s h) k t (getter_part h.enumerable) p go
  defines_part h (Part-F.Setter s k t) p go = defines_function (holder s h) k t (setter_part h.enumerable) p go
  defines_part h (Part-F.Spread e) p go = Evaluate e p (with_value (λ v q. spreads h.instance v q (with_value (λ w m. go m))))
  defines_part h (Part-F.Item e) p go = Evaluate e p (with_value (λ v q. go (adds_item h.instance v q)))
  defines_part h Part-F.Hole p go = go (adds_hole h.instance p)

  abbrev pub defines_parts : Holders R → List Part → Party R S → (Party R S → Act R S) → Act R S
  defines_parts h [] p go = go p
  defines_parts h (x ∷ xs) p go = defines_part h (out-Part x) p (λ q. defines_parts h xs q go)

  -- ECMA-262 Object Initializer, Array Initializer
  abbrev pub define_on : List Part → Value R S → Party R S → Act R S
  define_on xs (value.Ref o) p = defines_parts (record { instance = o; static_part = o; enumerable = true }) xs p (λ q. give (value.Ref o) q)
  define_on xs v p = faults names fault.NotAnObject p

  -- CLASSES

  -- the constructor of a class that has none: `constructor() {}`, or `constructor(...a) { super(...a); }`
  -- ECMA-262 ClassDefinitionEvaluation, step 14
  abbrev pub base_template : List ℕ → Template
  base_template name = roll-Template (record { kind = kind.Base; name = name; length = 0; params = 0; rest = false; slots = 0; undefined = []; body = term.Seq [] })

  abbrev pub derived_template : List ℕ → Template
  derived_template name =
      roll-Template (record {
        kind = kind.Derived;
        name = name;
        length = 0;
        params = 1;
        rest = true;
        slots = 1;
        undefined = [];
        body = term.Seq (term.SuperNew (arguments.Of (term.Define
            (term.Native native.MakeArray (term.Lit (literal.Common (record { 0 = ARRAY_PROTOTYPE })) ∷ term.Lit (literal.Int (pos 0)) ∷ []))
            (part.Spread (term.Local 0 0) ∷ []))) ∷ []);
      })

  abbrev pub class_template : List ℕ → (derived : Bool) → Option Template → Template
  class_template name derived (Some t) = t
  class_template name true None = derived_template name
  class_template name false None = base_template name

  -- the object that instances inherit from, and then the constructor, which names it
  -- ECMA-262 MakeClassConstructor
  abbrev pub class_made : Template → (above : Option R) → (constructor_above : R) → Party R S → Party R S
  class_made t above over p =
      let instance = next_object names shared p in
      let q = made p (ordinary above (constructor_property (object_after names shared p) ∷ [])) in
      made (with_template q t) (function_object names shared t (Some over) (Some instance) ((prototype_key, Data (value.Ref instance) false false false) ∷ []) q)

  -- ECMA-262 ClassDefinitionEvaluation
  abbrev pub class_defined : List ℕ → (derived : Bool) → Option Template → List Part → (above : Option R) → (constructor_above : R) → Party R S → Act R S
  class_defined name derived t xs above over p =
      let f = object_after names shared p in
      let h : Holders R = record { instance = next_object names shared p; static_part = f; enumerable = false } in
      defines_parts h xs (class_made (class_template name derived t) above over p) (λ q. give (value.Ref f) q)

  -- the `prototype` of a parent is an object or null
  -- ECMA-262 ClassDefinitionEvaluation, step 8
  abbrev pub class_above : List ℕ → Option Template → List Part → (parent : R) → Value R S → Party R S → Act R S
  class_above name t xs parent (value.Ref r) p = class_defined name true t xs (Some r) parent p
  class_above name t xs parent value.Null p = class_defined name true t xs None parent p
  class_above name t xs parent v p = faults names fault.NotAnObject p

  abbrev pub class_below : List ℕ → Option Template → List Part → Value R S → Party R S → Act R S
  class_below name t xs value.Null p = class_defined name true t xs None (names.common FUNCTION_PROTOTYPE) p
  class_below name t xs (value.Ref r) p =
      see_constructor names shared (value.Ref r) p (λ c. if c
      then asks names r (ask.Get prototype_key (value.Ref r)) p (with_value (λ v q. class_above name t xs r v q))
      else faults names fault.NotAConstructor p)
  class_below name t xs v p = faults names fault.NotAConstructor p

  abbrev pub class_value : List ℕ → (parent : Option Term) → Option Template → List Part → Party R S → Act R S
  class_value name None t xs p = class_defined name false t xs (Some (names.common OBJECT_PROTOTYPE)) (names.common FUNCTION_PROTOTYPE) p
  class_value name (Some e) t xs p = Evaluate e p (with_value (λ v q. class_below name t xs v q))
