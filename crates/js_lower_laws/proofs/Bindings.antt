-- The terms of patterns fit.
use Rattle.std.proofs.Common.{◌≡◌, ℕ, ◌+◌, ◌<◌, ◌≤◌, Bool, true, false, cond, nat_lt, List, [], ◌∷◌, ◌++◌, map, length, codes, Option, Some, None, refl, sym, arith}
use Rattle.std.proofs.lemmas.Bool.{lt-ltb, ltb-false}
use Rattle.js_tree.specs.Layers.{PatternLayer, PropertyKeyLayer}
use Rattle.js_tree.specs.declared.tree.Argument.TheOpen.{Pattern-F, PropertyKey-F}
use Rattle.js_tree.specs.declared.tree.Expr.{Expr}
use Rattle.js_tree.specs.declared.tree.Pattern.{Pattern, out-Pattern}
use Rattle.js_tree.specs.declared.tree.PatternElement.{PatternElement, out-PatternElement}
use Rattle.js_tree.specs.declared.tree.PatternField.{PatternField, out-PatternField}
use Rattle.js_tree.specs.declared.tree.PropertyKey.{PropertyKey, out-PropertyKey}
use Rattle.js_term.specs.declared.term.Term.TheVariants as form
use Rattle.js_names.specs.Lists.{flat, from_option}
use Rattle.js_frames.specs.Frames.{Env}
use Rattle.js_walk.specs.Parts as walk
use Rattle.js_walk.specs.Parts.{TreePart, PatternPart}
use Rattle.js_lower_table.specs.Entries.{Below, Current, Defaulted, InSlot, Keyed, Named, Omitted, Origin, Remaining, Taken, Valued, bound_name, plain_key, plain_key_at}
use Rattle.js_lower_table.specs.Patterns as patterns
use Rattle.js_lower_table.specs.Patterns.{after_field, after_key_at, computed, computed_from, key_slot}
use Rattle.js_lower_table.specs.Values as values
use Rattle.js_lower_table.specs.declared.commons.TheConstants.{BASE, OMIT, OPEN}
use Rattle.js_lower_table.specs.declared.held.Held.{Held}
use Rattle.js_early.specs.declared.context.EarlyContext.{EarlyContext}
use Rattle.js_early.specs.declared.context.EarlyLabel.{EarlyLabel}
use Rattle.js_valid.specs.Surroundings.{Place, InScope, is_slot, open_scopes}
use Rattle.js_valid.specs.Valid.{nowhere}
use Rattle.js_lower_laws.specs.Sound.{AreSound, whole_pattern_at}
use Rattle.js_lower_laws.proofs.Forms.{Fit, FitAll, FitParts, also, also_part, fit_get, fit_if, fit_item, fit_seq, joined, two}
use Rattle.js_lower_laws.proofs.Linked.{L, behind, below, first, left, right}
use Rattle.js_lower_laws.proofs.Lowering.{IsFrom, Lowers, fit_map, from_current, from_default, from_keyed, from_named, from_older, from_omitted, from_remaining, from_slot, from_taken, from_value}
use Rattle.js_lower_laws.proofs.Literals.{fit_expr}
use Rattle.js_lower_laws.proofs.Operators.{fit_assign_to}
use Rattle.js_lower_laws.proofs.Names.{base_fits, fit_array, fit_call_common, fit_call_name, fit_guard, fit_init_here, fit_number_key, fit_same_value, fit_scope_of, fit_set, fit_slot, fit_text, fit_to_key, fit_undefined, omit_fits, open_fits}
use Rattle.js_lower_laws.proofs.Scopes.{At, IsHeld, as_many, hidden, newest, older}

-- KEYS

fit_plain_key_at : (p : Place) (k : PropertyKeyLayer) → Fit p (plain_key_at k)
fit_plain_key_at p (PropertyKey-F.Named i) = fit_text p i.name
fit_plain_key_at p (PropertyKey-F.Numbered place n) = fit_number_key p n
fit_plain_key_at p (PropertyKey-F.Computed place e) = fit_undefined p

fit_plain_key : (p : Place) (k : PropertyKey) → Fit p (plain_key k)
fit_plain_key p k = fit_plain_key_at p (out-PropertyKey k)

key_grows : (n : ℕ) (k : PropertyKeyLayer) → n ≤ after_key_at n k
key_grows n (PropertyKey-F.Named i) = omega arith
key_grows n (PropertyKey-F.Numbered place v) = omega arith
key_grows n (PropertyKey-F.Computed place e) = omega arith

computed_grows : (n : ℕ) (fs : List PatternField) → n ≤ computed_from n fs
computed_grows n [] = omega arith
computed_grows n (f ∷ fs) =
    let a : n ≤ after_field n f = key_grows n (out-PropertyKey (out-PatternField f).key) in
    let c : after_field n f ≤ computed_from (after_field n f) fs = computed_grows (after_field n f) fs in
    omega (arith, a, c)

-- the slots of computed keys are those of the innermost scope
abbrev pub AreKeys : Place → ℕ → ℕ → Type 0
AreKeys p keys total = (k : ℕ) → k < total → IsHeld (open_scopes p) (key_slot keys k) × (is_slot p 0 k ≡ true)

abbrev AreKeptKeys : Place → ℕ → ℕ → Type 0
AreKeptKeys p keys total = (k : ℕ) → k < total → IsHeld (open_scopes p) (key_slot keys k)

omitted_by : {ctx : EarlyContext} (env : Env) (p : Place) (keys n total : ℕ) (k : PropertyKey) (l : PropertyKeyLayer) (fs : List PatternField) → At ctx env p → AreKeptKeys p keys total
    → computed_from (after_key_at n l) fs ≤ total → Fit p (patterns.omitted_key_at env keys n k l)
omitted_by env p keys n total k (PropertyKey-F.Named i) fs at held w = fit_plain_key p k
omitted_by env p keys n total k (PropertyKey-F.Numbered place v) fs at held w = fit_plain_key p k
omitted_by env p keys n total k (PropertyKey-F.Computed place e) fs at held w =
    let g : n + 1 ≤ computed_from (n + 1) fs = computed_grows (n + 1) fs in
    fit_slot env p (key_slot keys n) at (held n (omega (arith, g, w)))

fit_omitted : {ctx : EarlyContext} (fs : List PatternField) (env : Env) (p : Place) (keys n total : ℕ) → At ctx env p → AreKeptKeys p keys total → computed_from n fs ≤ total
    → FitParts p (patterns.omitted_keys fs env keys n)
fit_omitted [] env p keys n total at held w = nowhere p
fit_omitted (f ∷ fs) env p keys n total at held w =
    also_part p _ _ (fit_item p _ (omitted_by env p keys n total (out-PatternField f).key (out-PropertyKey (out-PatternField f).key) fs at held w))
    (fit_omitted fs env p keys (after_field n f) total at held w)

fit_omitting : {ctx : EarlyContext} (env : Env) (p : Place) (h : Held) (keys : ℕ) (fs : List PatternField) → At ctx env p → IsHeld (open_scopes p) h → AreKeptKeys p keys (computed fs)
    → Fit p (patterns.omitting env h keys fs)
fit_omitting env p h keys fs at x held =
    fit_call_common p OMIT _ omit_fits (two p _ _ (fit_slot env p h at x) (fit_array p _ (fit_omitted fs env p keys 0 (computed fs) at held (omega arith))))

fit_take : {ctx : EarlyContext} (env : Env) (p : Place) (it : Held) → At ctx env p → IsHeld (open_scopes p) it → Fit p (patterns.take_next env it)
fit_take env p it at x = fit_call_name p _ (codes "take") (fit_slot env p it at x)

-- the slot of a scope of one that is opened at a place
pub next_of : {ctx : EarlyContext} (env : Env) (p : Place) (n : ℕ) → 0 < n → At ctx env p → IsHeld (n ∷ open_scopes p) (values.next_held env 0)
next_of env p n some at = newest n (open_scopes p) (values.next_held env 0) (sym (as_many env (open_scopes p) at.0)) some

pub one_more : {ctx : EarlyContext} (env : Env) (p : Place) (n : ℕ) → At ctx env p → length (open_scopes (InScope n ∷ p)) ≡ length env + 1
one_more env p n at = let many : length (open_scopes p) ≡ length env = as_many env (open_scopes p) at.0 in omega (arith, many)

module _ (b : Below) (h : Lowers b) where
  pub fit_value : {ctx : EarlyContext} {kl : List EarlyLabel} (env : Env) (p : Place) (o : Origin) → At ctx env p → IsFrom ctx kl (open_scopes p) o → Fit p (patterns.value b env o)
  fit_value env p (InSlot s) at (from_slot _ x) = fit_slot env p s at x
  fit_value env p (Taken s) at (from_taken _ x) = fit_take env p s at x
  fit_value env p (Remaining s) at (from_remaining _ x) = fit_call_name p _ (codes "rest") (fit_slot env p s at x)
  fit_value env p (Current s) at (from_current _ x) = fit_get p _ _ (fit_slot env p s at x) (fit_text p (codes "value"))
  fit_value env p (Named s k) at (from_named _ _ x) = fit_get p _ _ (fit_slot env p s at x) (fit_plain_key p k)
  fit_value env p (Keyed s k) at (from_keyed _ _ x y) = fit_get p _ _ (fit_slot env p s at x) (fit_slot env p k at y)
  fit_value env p (Omitted s keys fs) at (from_omitted _ _ _ x y) = fit_omitting env p s keys fs at x y
  fit_value env p (Valued e) at (from_value _ l) = fit_expr b h env p e at l
  fit_value env p (Defaulted s e name) at (from_default _ _ _ x l) =
      fit_if p _ _ (Some _) (fit_same_value p _ _ (fit_slot env p s at x) (fit_undefined p)) (h.expr env p name e at l) (fit_slot env p s at x)

  element_by : {ctx : EarlyContext} {kl : List EarlyLabel} (env : Env) (p : Place) (assigned : Bool) (from : Origin) (q : Bool) (t : Pattern) (o : Option Expr) → At ctx env p → IsFrom ctx kl (open_scopes p) from
      → AreSound ctx kl (PatternPart q t ∷ from_option walk.operand o) → Fit p (patterns.element_as b env assigned from t o)
  element_by env p assigned from q t None at x y = h.bind env p assigned from q t at x y
  element_by env p assigned from q t (Some d) at x y =
      let s = InScope 1 ∷ p in
      let further = hidden env p 1 at in
      fit_scope_of p 1 _
      (two s _ _ (fit_init_here s 0 _ refl (fit_value ([] ∷ env) s from further (from_older 1 (open_scopes p) from x)))
      (h.bind ([] ∷ env) s assigned _ q t further (from_default _ d (bound_name t) (next_of env p 1 (omega arith) at) (behind _ _ y)) (first _ _ y)))

  pub fit_element : {ctx : EarlyContext} {kl : List EarlyLabel} (env : Env) (p : Place) (assigned : Bool) (from : Origin) (q : Bool) (e : PatternElement) → At ctx env p → IsFrom ctx kl (open_scopes p) from
      → AreSound ctx kl (walk.element q e) → Fit p (patterns.pattern_element b env assigned from e)
  fit_element env p assigned from q e at x y = element_by env p assigned from q (out-PatternElement e).pattern (out-PatternElement e).default at x y

  -- ARRAY PATTERNS

  fit_array_element : {ctx : EarlyContext} {kl : List EarlyLabel} (env : Env) (p : Place) (assigned : Bool) (it : Held) (q : Bool) (o : Option PatternElement) → At ctx env p → IsHeld (open_scopes p) it
      → AreSound ctx kl (walk.maybe_element q o) → Fit p (patterns.array_element b env assigned it o)
  fit_array_element env p assigned it q None at x y = fit_take env p it at x
  fit_array_element env p assigned it q (Some e) at x y = fit_element env p assigned (Taken it) q e at (from_taken it x) y

  fit_array_rest : {ctx : EarlyContext} {kl : List EarlyLabel} (env : Env) (p : Place) (assigned : Bool) (it : Held) (q : Bool) (o : Option Pattern) → At ctx env p → IsHeld (open_scopes p) it
      → AreSound ctx kl (from_option (walk.pattern q) o) → FitAll p (patterns.array_rest b env assigned it o)
  fit_array_rest env p assigned it q None at x y = nowhere p
  fit_array_rest env p assigned it q (Some t) at x y = h.bind env p assigned (Remaining it) q t at (from_remaining it x) y

  fit_array_list : {ctx : EarlyContext} {kl : List EarlyLabel} (env : Env) (p : Place) (assigned : Bool) (it : Held) (q : Bool) (es : List (Option PatternElement)) (r : Option Pattern) → At ctx env p
      → IsHeld (open_scopes p) it → AreSound ctx kl (flat (walk.maybe_element q) es ++ from_option (walk.pattern q) r) → FitAll p (patterns.array_list b env assigned it es r)
  fit_array_list env p assigned it q es r at x y =
      joined p (map (patterns.array_element b env assigned it) es) (patterns.array_rest b env assigned it r)
      (fit_map p (patterns.array_element b env assigned it) (walk.maybe_element q) (λ o z. fit_array_element env p assigned it q o at x z) es
      (left (flat (walk.maybe_element q) es) (from_option (walk.pattern q) r) y))
      (fit_array_rest env p assigned it q r at x (right (flat (walk.maybe_element q) es) (from_option (walk.pattern q) r) y))

  fit_array_pattern : {ctx : EarlyContext} {kl : List EarlyLabel} (env : Env) (p : Place) (assigned : Bool) (from : Origin) (q : Bool) (es : List (Option PatternElement)) (r : Option Pattern) → At ctx env p
      → IsFrom ctx kl (open_scopes p) from → AreSound ctx kl (flat (walk.maybe_element q) es ++ from_option (walk.pattern q) r) → Fit p (patterns.array_pattern b env assigned from es r)
  fit_array_pattern env p assigned from q es r at x y =
      let s = InScope 1 ∷ p in
      let further = hidden env p 1 at in
      let it : IsHeld (open_scopes s) (values.next_held env 0) = next_of env p 1 (omega arith) at in
      fit_scope_of p 1 _
      (two s _ _
      (fit_init_here s 0 _ refl (fit_call_common s OPEN _ open_fits (fit_value ([] ∷ env) s from further (from_older 1 (open_scopes p) from x))))
      (fit_guard s (length env + 1) (values.next_held env 0) _ (one_more env p 1 at) it (older 1 (open_scopes s) (values.next_held env 0) it)
      (fit_seq s _ (fit_array_list ([] ∷ env) s assigned (values.next_held env 0) q es r further it y))))

  -- OBJECT PATTERNS

  field_by : {ctx : EarlyContext} {kl : List EarlyLabel} (env : Env) (p : Place) (assigned : Bool) (s : Held) (keys n total : ℕ) (f : PatternField) (q : Bool) (l : PropertyKeyLayer) (fs : List PatternField)
      → At ctx env p → IsHeld (open_scopes p) s → AreKeys p keys total → computed_from (after_key_at n l) fs ≤ total
      → AreSound ctx kl (walk.key_at l ++ walk.element q (out-PatternField f).element) → FitAll p (patterns.field_at b env assigned s keys n f l)
  field_by env p assigned s keys n total f q (PropertyKey-F.Named i) fs at x k w y =
      fit_element env p assigned (Named s (out-PatternField f).key) q (out-PatternField f).element at (from_named s _ x) y
  field_by env p assigned s keys n total f q (PropertyKey-F.Numbered place v) fs at x k w y =
      fit_element env p assigned (Named s (out-PatternField f).key) q (out-PatternField f).element at (from_named s _ x) y
  field_by env p assigned s keys n total f q (PropertyKey-F.Computed place e) fs at x k w y =
      let g : n + 1 ≤ computed_from (n + 1) fs = computed_grows (n + 1) fs in
      let lt : n < total = omega (arith, g, w) in
      two p _ _ (fit_init_here p n _ (k n lt).1 (fit_to_key p _ (fit_expr b h env p e at (first _ _ y))))
      (fit_element env p assigned (Keyed s (key_slot keys n)) q (out-PatternField f).element at (from_keyed s (key_slot keys n) x (k n lt).0) (behind _ _ y))

  fit_fields : {ctx : EarlyContext} {kl : List EarlyLabel} (fs : List PatternField) (env : Env) (p : Place) (assigned : Bool) (s : Held) (keys n total : ℕ) (q : Bool) → At ctx env p → IsHeld (open_scopes p) s
      → AreKeys p keys total → computed_from n fs ≤ total → AreSound ctx kl (flat (walk.field q) fs) → FitAll p (patterns.fields b fs env assigned s keys n)
  fit_fields [] env p assigned s keys n total q at x k w y = nowhere p
  fit_fields (f ∷ fs) env p assigned s keys n total q at x k w y =
      joined p (patterns.field b env assigned s keys n f) (patterns.fields b fs env assigned s keys (after_field n f))
      (field_by env p assigned s keys n total f q (out-PropertyKey (out-PatternField f).key) fs at x k w (left (walk.field q f) (flat (walk.field q) fs) y))
      (fit_fields fs env p assigned s keys (after_field n f) total q at x k w (right (walk.field q f) (flat (walk.field q) fs) y))

  fit_object_rest : {ctx : EarlyContext} {kl : List EarlyLabel} (env : Env) (p : Place) (assigned : Bool) (s : Held) (keys : ℕ) (fs : List PatternField) (q : Bool) (o : Option Pattern) → At ctx env p
      → IsHeld (open_scopes p) s → AreKeys p keys (computed fs) → AreSound ctx kl (from_option (walk.pattern q) o) → FitAll p (patterns.object_rest b env assigned s keys fs o)
  fit_object_rest env p assigned s keys fs q None at x k y = nowhere p
  fit_object_rest env p assigned s keys fs q (Some t) at x k y =
      h.bind env p assigned (Omitted s keys fs) q t at (from_omitted s keys fs x (λ n lt. (k n lt).0)) y

  fit_object_list : {ctx : EarlyContext} {kl : List EarlyLabel} (env : Env) (p : Place) (assigned : Bool) (s : Held) (keys : ℕ) (fs : List PatternField) (q : Bool) (o : Option Pattern) → At ctx env p
      → IsHeld (open_scopes p) s → AreKeys p keys (computed fs) → AreSound ctx kl (flat (walk.field q) fs ++ from_option (walk.pattern q) o)
      → FitAll p (patterns.object_list b env assigned s keys fs o)
  fit_object_list env p assigned s keys fs q o at x k y =
      also p _ _ (fit_call_common p BASE _ base_fits (fit_slot env p s at x))
      (joined p (patterns.fields b fs env assigned s keys 0) (patterns.object_rest b env assigned s keys fs o)
      (fit_fields fs env p assigned s keys 0 (computed fs) q at x k (omega arith) (left (flat (walk.field q) fs) (from_option (walk.pattern q) o) y))
      (fit_object_rest env p assigned s keys fs q o at x k (right (flat (walk.field q) fs) (from_option (walk.pattern q) o) y)))

  no_keys : (p : Place) (keys total : ℕ) → nat_lt 0 total ≡ false → AreKeys p keys total
  no_keys p keys total e k lt = let none : total ≤ 0 = ltb-false 0 total e in absurd (omega (arith, none, lt))

  own_keys : {ctx : EarlyContext} (env : Env) (p : Place) (total : ℕ) → At ctx env p → AreKeys (InScope total ∷ p) (length env) total
  own_keys env p total at k lt = (newest total (open_scopes p) (key_slot (length env) k) (sym (as_many env (open_scopes p) at.0)) lt, lt-ltb k total lt)

  object_by : {ctx : EarlyContext} {kl : List EarlyLabel} (env : Env) (p : Place) (assigned : Bool) (s : Held) (fs : List PatternField) (q : Bool) (o : Option Pattern) (some : Bool) → nat_lt 0 (computed fs) ≡ some
      → At ctx env p → IsHeld (open_scopes p) s → AreSound ctx kl (flat (walk.field q) fs ++ from_option (walk.pattern q) o)
      → Fit p (cond some (values.scope_of (computed fs) (patterns.object_list b ([] ∷ env) assigned s (length env) fs o))
      (form.Seq (patterns.object_list b env assigned s (length env) fs o)))
  object_by env p assigned s fs q o true e at x y =
      fit_scope_of p (computed fs) _
      (fit_object_list ([] ∷ env) (InScope (computed fs) ∷ p) assigned s (length env) fs q o (hidden env p (computed fs) at) (older (computed fs) (open_scopes p) s x)
      (own_keys env p (computed fs) at) y)
  object_by env p assigned s fs q o false e at x y =
      fit_seq p _ (fit_object_list env p assigned s (length env) fs q o at x (no_keys p (length env) (computed fs) e) y)

  fit_object_pattern : {ctx : EarlyContext} {kl : List EarlyLabel} (env : Env) (p : Place) (assigned : Bool) (s : Held) (fs : List PatternField) (q : Bool) (o : Option Pattern) → At ctx env p → IsHeld (open_scopes p) s
      → AreSound ctx kl (flat (walk.field q) fs ++ from_option (walk.pattern q) o) → Fit p (patterns.object_pattern b env assigned s fs o)
  fit_object_pattern env p assigned s fs q o at x y = object_by env p assigned s fs q o (nat_lt 0 (computed fs)) refl at x y

  fit_object_held : {ctx : EarlyContext} {kl : List EarlyLabel} (env : Env) (p : Place) (assigned : Bool) (from : Origin) (fs : List PatternField) (q : Bool) (o : Option Pattern) → At ctx env p
      → IsFrom ctx kl (open_scopes p) from → AreSound ctx kl (flat (walk.field q) fs ++ from_option (walk.pattern q) o) → Fit p (patterns.object_held b env assigned from fs o)
  fit_object_held env p assigned from fs q o at x y =
      let s = InScope 1 ∷ p in
      let further = hidden env p 1 at in
      fit_scope_of p 1 _
      (two s _ _ (fit_init_here s 0 _ refl (fit_value ([] ∷ env) s from further (from_older 1 (open_scopes p) from x)))
      (fit_object_pattern ([] ∷ env) s assigned (values.next_held env 0) fs q o further (next_of env p 1 (omega arith) at) y))

  fit_object_from : {ctx : EarlyContext} {kl : List EarlyLabel} (env : Env) (p : Place) (assigned : Bool) (from : Origin) (fs : List PatternField) (q : Bool) (o : Option Pattern) → At ctx env p
      → IsFrom ctx kl (open_scopes p) from → AreSound ctx kl (flat (walk.field q) fs ++ from_option (walk.pattern q) o) → Fit p (patterns.object_from b env assigned from fs o)
  fit_object_from env p assigned (InSlot s) fs q o at (from_slot _ x) y = fit_object_pattern env p assigned s fs q o at x y
  fit_object_from env p assigned (Taken s) fs q o at x y = fit_object_held env p assigned (Taken s) fs q o at x y
  fit_object_from env p assigned (Remaining s) fs q o at x y = fit_object_held env p assigned (Remaining s) fs q o at x y
  fit_object_from env p assigned (Current s) fs q o at x y = fit_object_held env p assigned (Current s) fs q o at x y
  fit_object_from env p assigned (Named s k) fs q o at x y = fit_object_held env p assigned (Named s k) fs q o at x y
  fit_object_from env p assigned (Keyed s k) fs q o at x y = fit_object_held env p assigned (Keyed s k) fs q o at x y
  fit_object_from env p assigned (Omitted s k gs) fs q o at x y = fit_object_held env p assigned (Omitted s k gs) fs q o at x y
  fit_object_from env p assigned (Valued e) fs q o at x y = fit_object_held env p assigned (Valued e) fs q o at x y
  fit_object_from env p assigned (Defaulted s e n) fs q o at x y = fit_object_held env p assigned (Defaulted s e n) fs q o at x y

  fit_bind_at : {ctx : EarlyContext} {kl : List EarlyLabel} (env : Env) (p : Place) (assigned : Bool) (from : Origin) (q : Bool) (l : PatternLayer) → At ctx env p → IsFrom ctx kl (open_scopes p) from
      → AreSound ctx kl (whole_pattern_at q l) → Fit p (patterns.bind_at b env assigned from l)
  fit_bind_at env p assigned from q (Pattern-F.Bound i) at x y = fit_set env p assigned i.name _ at (fit_value env p from at x)
  fit_bind_at env p assigned from q (Pattern-F.Target e) at x y = fit_assign_to b h env p _ e at (fit_value env p from at x) y
  fit_bind_at env p assigned from q (Pattern-F.ObjectPattern place fs r) at x y = fit_object_from env p assigned from fs q r at x y
  fit_bind_at env p assigned from q (Pattern-F.ArrayPattern place es r) at x y = fit_array_pattern env p assigned from q es r at x y

  pub fit_bind_row : {ctx : EarlyContext} {kl : List EarlyLabel} (env : Env) (p : Place) (assigned : Bool) (from : Origin) (q : Bool) (t : Pattern) → At ctx env p → IsFrom ctx kl (open_scopes p) from → L ctx kl (PatternPart q t)
      → Fit p (patterns.bind_row b env assigned from t)
  fit_bind_row env p assigned from q t at x y = fit_bind_at env p assigned from q (out-Pattern t) at x (below (PatternPart q t) y)
