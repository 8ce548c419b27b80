-- The terms of patterns.
use Rattle.std.specs.Prelude.{ℕ, ◌+◌, nat_lt, Bool, if◌then◌else◌, List, [], ◌∷◌, ◌++◌, map, codes, length, Option, Some, None}
use Rattle.js_tree.specs.Layers.{PatternLayer, PropertyKeyLayer}
use Rattle.js_tree.specs.declared.tree.Argument.TheOpen.{Pattern-F, PropertyKey-F}
use Rattle.js_tree.specs.declared.tree.Expr.{Expr}
use Rattle.js_tree.specs.declared.tree.Pattern.{Pattern, out-Pattern}
use Rattle.js_tree.specs.declared.tree.PatternElement.{PatternElement, out-PatternElement}
use Rattle.js_tree.specs.declared.tree.PatternField.{PatternField, out-PatternField}
use Rattle.js_tree.specs.declared.tree.PropertyKey.{PropertyKey, out-PropertyKey}
use Rattle.js_term.specs.declared.term.Part.{Part}
use Rattle.js_term.specs.declared.term.Part.TheVariants as part
use Rattle.js_term.specs.declared.term.Term.{Term}
use Rattle.js_term.specs.declared.term.Term.TheVariants as term
use Rattle.js_frames.specs.Frames.{Env}
use Rattle.js_lower_table.specs.declared.held.Held.{Held}
use Rattle.js_lower_table.specs.declared.commons.TheConstants.{BASE, OMIT, OPEN}
use Rattle.js_lower_table.specs.Values.{Name, undefined, text, slot, next_held, call_name, call_common, array, to_key, set, init_here, scope_of, same_value, guard}
use Rattle.js_lower_table.specs.Entries.{Below, Origin, InSlot, Taken, Remaining, Current, Named, Keyed, Omitted, Valued, Defaulted, bound_name, plain_key}
use Rattle.js_lower_table.specs.Expressions.{expr, assign_to}

-- the computed keys of a pattern stand in the slots of one scope, in order
abbrev pub after_key_at : ℕ → PropertyKeyLayer → ℕ
after_key_at n (PropertyKey-F.Named i) = n
after_key_at n (PropertyKey-F.Numbered place v) = n
after_key_at n (PropertyKey-F.Computed place e) = n + 1

abbrev pub after_field : ℕ → PatternField → ℕ
after_field n f = after_key_at n (out-PropertyKey (out-PatternField f).key)

abbrev pub computed_from : ℕ → List PatternField → ℕ
computed_from n [] = n
computed_from n (f ∷ fs) = computed_from (after_field n f) fs

-- how many keys are computed
abbrev pub computed : List PatternField → ℕ
computed fs = computed_from 0 fs

abbrev pub key_slot : ℕ → ℕ → Held
key_slot keys n = record { level = keys; slot = n }

abbrev pub omitted_key_at : Env → ℕ → ℕ → PropertyKey → PropertyKeyLayer → Term
omitted_key_at env keys n k (PropertyKey-F.Named i) = plain_key k
omitted_key_at env keys n k (PropertyKey-F.Numbered place v) = plain_key k
omitted_key_at env keys n k (PropertyKey-F.Computed place e) = slot env (key_slot keys n)

-- a key that a rest leaves out
abbrev pub omitted_key : Env → ℕ → ℕ → PatternField → Part
omitted_key env keys n f = part.Item (omitted_key_at env keys n (out-PatternField f).key (out-PropertyKey (out-PatternField f).key))

abbrev pub omitted_keys : List PatternField → Env → ℕ → ℕ → List Part
omitted_keys [] env keys n = []
omitted_keys (f ∷ fs) env keys n = omitted_key env keys n f ∷ omitted_keys fs env keys (after_field n f)

-- the rest of an object
-- ECMA-262 CopyDataProperties
abbrev pub omitting : Env → Held → ℕ → List PatternField → Term
omitting env h keys fs = call_common OMIT (slot env h ∷ array (omitted_keys fs env keys 0) ∷ [])

abbrev pub take_next : Env → Held → Term
take_next env it = call_name (slot env it) (codes "take")

module _ (low : Below) where
  abbrev pub defaulted : Env → Held → Expr → Name → Term
  defaulted env h e name = term.If (same_value (slot env h) undefined) (low.expr env name e) (Some (slot env h))

  abbrev pub value : Env → Origin → Term
  value env (InSlot h) = slot env h
  value env (Taken h) = take_next env h
  value env (Remaining h) = call_name (slot env h) (codes "rest")
  value env (Current h) = term.Get (slot env h) (text (codes "value"))
  value env (Named h k) = term.Get (slot env h) (plain_key k)
  value env (Keyed h k) = term.Get (slot env h) (slot env k)
  value env (Omitted h keys fs) = omitting env h keys fs
  value env (Valued e) = expr low env e
  value env (Defaulted h e name) = defaulted env h e name

  abbrev pub with_default : Env → Bool → Origin → Pattern → Expr → Term
  with_default env assigned from p d =
      scope_of 1 (init_here 0 (value ([] ∷ env) from) ∷ low.bind ([] ∷ env) assigned (Defaulted (next_held env 0) d (bound_name p)) p ∷ [])

  abbrev pub element_as : Env → Bool → Origin → Pattern → Option Expr → Term
  element_as env assigned from p None = low.bind env assigned from p
  element_as env assigned from p (Some d) = with_default env assigned from p d

  -- ECMA-262 KeyedBindingInitialization and KeyedDestructuringAssignmentEvaluation
  abbrev pub pattern_element : Env → Bool → Origin → PatternElement → Term
  pattern_element env assigned from e = element_as env assigned from (out-PatternElement e).pattern (out-PatternElement e).default

  -- ARRAY PATTERNS

  abbrev pub array_element : Env → Bool → Held → Option PatternElement → Term
  array_element env assigned it None = take_next env it
  array_element env assigned it (Some e) = pattern_element env assigned (Taken it) e

  abbrev pub array_rest : Env → Bool → Held → Option Pattern → List Term
  array_rest env assigned it None = []
  array_rest env assigned it (Some p) = low.bind env assigned (Remaining it) p ∷ []

  abbrev pub array_list : Env → Bool → Held → List (Option PatternElement) → Option Pattern → List Term
  array_list env assigned it es rest = map (array_element env assigned it) es ++ array_rest env assigned it rest

  -- ECMA-262 IteratorBindingInitialization and IteratorDestructuringAssignmentEvaluation
  abbrev pub array_pattern : Env → Bool → Origin → List (Option PatternElement) → Option Pattern → Term
  array_pattern env assigned from es rest =
      scope_of 1 (init_here 0 (call_common OPEN (value ([] ∷ env) from ∷ []))
      ∷ guard (length env + 1) (next_held env 0) (term.Seq (array_list ([] ∷ env) assigned (next_held env 0) es rest)) ∷ [])

  -- OBJECT PATTERNS

  abbrev pub field_at : Env → Bool → Held → ℕ → ℕ → PatternField → PropertyKeyLayer → List Term
  field_at env assigned h keys n f (PropertyKey-F.Named i) = pattern_element env assigned (Named h (out-PatternField f).key) (out-PatternField f).element ∷ []
  field_at env assigned h keys n f (PropertyKey-F.Numbered place v) = pattern_element env assigned (Named h (out-PatternField f).key) (out-PatternField f).element ∷ []
  field_at env assigned h keys n f (PropertyKey-F.Computed place e) =
      init_here n (to_key (expr low env e)) ∷ pattern_element env assigned (Keyed h (key_slot keys n)) (out-PatternField f).element ∷ []

  abbrev pub field : Env → Bool → Held → ℕ → ℕ → PatternField → List Term
  field env assigned h keys n f = field_at env assigned h keys n f (out-PropertyKey (out-PatternField f).key)

  abbrev pub fields : List PatternField → Env → Bool → Held → ℕ → ℕ → List Term
  fields [] env assigned h keys n = []
  fields (f ∷ fs) env assigned h keys n = field env assigned h keys n f ++ fields fs env assigned h keys (after_field n f)

  abbrev pub object_rest : Env → Bool → Held → ℕ → List PatternField → Option Pattern → List Term
  object_rest env assigned h keys fs None = []
  object_rest env assigned h keys fs (Some p) = low.bind env assigned (Omitted h keys fs) p ∷ []

  abbrev pub object_list : Env → Bool → Held → ℕ → List PatternField → Option Pattern → List Term
  object_list env assigned h keys fs rest =
      (call_common BASE (slot env h ∷ []) ∷ []) ++ (fields fs env assigned h keys 0 ++ object_rest env assigned h keys fs rest)

  abbrev pub object_pattern : Env → Bool → Held → List PatternField → Option Pattern → Term
  object_pattern env assigned h fs rest =
      if nat_lt 0 (computed fs)
      then scope_of (computed fs) (object_list ([] ∷ env) assigned h (length env) fs rest)
      else term.Seq (object_list env assigned h (length env) fs rest)

  abbrev pub object_held : Env → Bool → Origin → List PatternField → Option Pattern → Term
  object_held env assigned from fs rest =
      scope_of 1 (init_here 0 (value ([] ∷ env) from) ∷ object_pattern ([] ∷ env) assigned (next_held env 0) fs rest ∷ [])

  -- a value that stands in a slot stays there
  -- ECMA-262 BindingInitialization and DestructuringAssignmentEvaluation, of an object pattern
  abbrev pub object_from : Env → Bool → Origin → List PatternField → Option Pattern → Term
  object_from env assigned (InSlot h) fs rest = object_pattern env assigned h fs rest
  object_from env assigned from fs rest = object_held env assigned from fs rest

  abbrev pub bind_at : Env → Bool → Origin → PatternLayer → Term
  bind_at env assigned from (Pattern-F.Bound i) = set env assigned i.name (value env from)
  bind_at env assigned from (Pattern-F.Target e) = assign_to low env (value env from) e
  bind_at env assigned from (Pattern-F.ObjectPattern place fs rest) = object_from env assigned from fs rest
  bind_at env assigned from (Pattern-F.ArrayPattern place es rest) = array_pattern env assigned from es rest

  -- ECMA-262 BindingInitialization and DestructuringAssignmentEvaluation
  abbrev pub bind_row : Env → Bool → Origin → Pattern → Term
  bind_row env assigned from p = bind_at env assigned from (out-Pattern p)
