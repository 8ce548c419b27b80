-- What covers become: patterns, one part deeper than the expressions that cover them, and the parameters of arrows.
use Rattle.std.proofs.Common.{ℕ, zero, suc, Bool, true, false, cond, List, [], ◌∷◌, ◌++◌, Option, Some, None, refl, sym, subst}
use Rattle.lava_base.specs.declared.place.Place.{Place}
use Rattle.js_tree.specs.Layers.{ArrayElementLayer, ExprLayer, PatternLayer, PropertyLayer}
use Rattle.js_tree.specs.declared.tree.Argument.TheOpen.{ArrayElement-F, Expr-F, Pattern-F, Property-F, PropertyKey-F}
use Rattle.js_tree.specs.declared.tree.ArrayElement.{ArrayElement, out-ArrayElement}
use Rattle.js_tree.specs.declared.tree.Expr.{Expr, out-Expr}
use Rattle.js_tree.specs.declared.tree.Pattern.{Pattern, out-Pattern}
use Rattle.js_tree.specs.declared.tree.Pattern.TheVariants as pattern
use Rattle.js_tree.specs.declared.tree.PatternElement.{PatternElement, out-PatternElement}
use Rattle.js_tree.specs.declared.tree.PatternField.{PatternField, out-PatternField, roll-PatternField, out-roll-PatternField}
use Rattle.js_tree.specs.declared.tree.Property.{Property, out-Property}
use Rattle.js_tree.specs.declared.tree.PropertyKey.{PropertyKey}
use Rattle.js_tree.specs.declared.tree.PropertyKey.TheVariants as key
use Rattle.js_names.specs.Lists.{flat, from_option}
use Rattle.js_phrase.specs.Lists as lists
use Rattle.js_phrase.specs.Phrases.{parenthesized}
use Rattle.js_phrase.specs.declared.phrase.Operands.{Operands}
use Rattle.js_phrase.specs.declared.phrase.Operands.TheVariants as operands
use Rattle.js_phrase.specs.declared.phrase.Phrase.{Phrase}
use Rattle.js_phrase.specs.declared.phrase.Phrase.TheVariants as phrase
use Rattle.js_cover.specs.Refined.{array_covered, covered_at, element, element_at, field, fields_at, fields_of, is_covered, object_covered, refined_to, simple, simple_at, slots_at, slots_of, target, with_default, with_rest_at, with_rest_element, with_rest_property, with_rest_property_at}
use Rattle.js_cover.specs.Targets.{all_parameters, arrow_parameters_of, parameter, parameter_list_of, parameters_in, target_of}
use Rattle.js_cover.specs.declared.refined.TheConstants.{MAX_LEVELS}
use Rattle.js_walk.specs.Parts as walk
use Rattle.js_walk.specs.Parts.{TreePart, ExpressionPart, PatternPart}
use Rattle.js_lower_laws.specs.Sound.{whole_parts_at, whole_pattern_at}
use Rattle.js_program_laws.specs.Formed.{All, Sits}
use Rattle.js_program_laws.proofs.Fits.{Fit, back, down, down2, each, front, gathered, join, made, pattern_by, spread}
use Rattle.js_program_laws.proofs.Phrases.{ExprGood, Good, OperandsGood, ParametersGood, bound_good, element_by, key_by}

-- WHAT IS BOUND AND WHAT IS ASSIGNED ARE EQUALLY DEEP

module _ (a b : Bool) where
  module _ (n : ℕ) (again : (p : Pattern) → Sits n (PatternPart a p) → Sits n (PatternPart b p)) where
    element_again : (x : PatternElement) → Fit n (walk.element a x) → Fit n (walk.element b x)
    element_again x h = (again (out-PatternElement x).pattern h.0, h.1)

    field_again : (f : PatternField) → Fit n (walk.field a f) → Fit n (walk.field b f)
    field_again f h =
        join n (walk.key (out-PatternField f).key) (walk.element b (out-PatternField f).element) (front (Sits n) (walk.key (out-PatternField f).key) (walk.element a (out-PatternField f).element) h)
        (element_again (out-PatternField f).element (back (Sits n) (walk.key (out-PatternField f).key) (walk.element a (out-PatternField f).element) h))

    slot_again : (o : Option PatternElement) → Fit n (walk.maybe_element a o) → Fit n (walk.maybe_element b o)
    slot_again None h = tt
    slot_again (Some x) h = element_again x h

    rest_again : (o : Option Pattern) → Fit n (from_option (walk.pattern a) o) → Fit n (from_option (walk.pattern b) o)
    rest_again None h = tt
    rest_again (Some p) h = (again p h.0, tt)

    list_again : {A : Type 0} (f g : A → List TreePart) (l : List A) → ((x : A) → Fit n (f x) → Fit n (g x)) → Fit n (flat f l) → Fit n (flat g l)
    list_again f g l k h = spread n g l (each (λ x. Fit n (f x)) (λ x. Fit n (g x)) l k (gathered n f l h))

    layer_again : (l : PatternLayer) → Fit n (whole_pattern_at a l) → Fit n (whole_pattern_at b l)
    layer_again (Pattern-F.Bound i) h = h
    layer_again (Pattern-F.Target e) h = h
    layer_again (Pattern-F.ObjectPattern place fs rest) h =
        join n (flat (walk.field b) fs) (from_option (walk.pattern b) rest) (list_again (walk.field a) (walk.field b) fs field_again (front (Sits n) (flat (walk.field a) fs) (from_option (walk.pattern a) rest) h))
        (rest_again rest (back (Sits n) (flat (walk.field a) fs) (from_option (walk.pattern a) rest) h))
    layer_again (Pattern-F.ArrayPattern place es rest) h =
        join n (flat (walk.maybe_element b) es) (from_option (walk.pattern b) rest) (list_again (walk.maybe_element a) (walk.maybe_element b) es slot_again (front (Sits n) (flat (walk.maybe_element a) es) (from_option (walk.pattern a) rest) h))
        (rest_again rest (back (Sits n) (flat (walk.maybe_element a) es) (from_option (walk.pattern a) rest) h))

  pub again : (n : ℕ) (p : Pattern) → Sits n (PatternPart a p) → Sits n (PatternPart b p)
  again zero p h = h
  again (suc n) p h = (refl, layer_again n (again n) (out-Pattern p) h.1)

-- FIELDS

pub field_by : (n : ℕ) (assigns : Bool) (k : PropertyKey) (x : PatternElement) → Fit n (walk.key k) → Fit n (walk.element assigns x)
    → Fit n (walk.field assigns (roll-PatternField (record { key = k; element = x })))
field_by n assigns k x y z =
    subst (λ r. Fit n (walk.key r.key ++ walk.element assigns r.element)) (sym (out-roll-PatternField (record { key = k; element = x }))) (join n (walk.key k) (walk.element assigns x) y z)

-- what an expression that may be a pattern becomes
target_good : (n : ℕ) (assigns : Bool) (e : Expr) → ExprGood n e → Sits (suc n) (PatternPart assigns (target e))
target_good n assigns e h = pattern_by n assigns _ (Pattern-F.Target e) (pattern.outs-Target e) (h, tt)

simple_layer : (n : ℕ) (assigns : Bool) (e : Expr) (l : ExprLayer) → ExprGood n e → Sits (suc n) (PatternPart assigns (simple_at e l))
simple_layer n assigns e (Expr-F.Name i) h = bound_good n assigns i
simple_layer n assigns e _ h = target_good n assigns e h

simple_good : (n : ℕ) (assigns : Bool) (e : Expr) → ExprGood n e → Sits (suc n) (PatternPart assigns (simple e))
simple_good n assigns e h = simple_layer n assigns e (out-Expr e) h

-- what stands in a list, taken one after the other
pub folded_good : {A : Type 0} (P : Option Pattern → Type 0) (Q : A → Type 0) (f : Option Pattern → A → Option Pattern) (o : Option Pattern) (l : List A)
    → ((o : Option Pattern) (x : A) → Q x → P o → P (f o x)) → All Q l → P o → P (lists.folded f o l)
folded_good P Q f o [] k h y = y
folded_good P Q f o (x ∷ l) k h y = folded_good P Q f (f o x) l k h.1 (k o x h.0 y)

module _ (assigns : Bool) (refined : Expr → Pattern) (good : (n : ℕ) (e : Expr) → ExprGood n e → Sits (suc n) (PatternPart assigns (refined e))) where
  element_layer : (n : ℕ) (e : Expr) (l : ExprLayer) → ExprGood (suc n) e → Fit n (whole_parts_at l) → Fit (suc (suc n)) (walk.element assigns (element_at refined e l))
  element_layer n e (Expr-F.Assign place t v) h under =
      element_by (suc (suc n)) assigns t (Some v) (again true assigns (suc (suc n)) t (down2 n (PatternPart true t ∷ []) (under.0, tt)).0) (down2 n (ExpressionPart v ∷ []) under.1)
  element_layer n e _ h under = element_by (suc (suc n)) assigns (refined e) None (good (suc n) e h) tt

  pub element_good : (n : ℕ) (e : Expr) → ExprGood n e → Fit (suc n) (walk.element assigns (element refined e))
  element_good zero e h = absurd h
  element_good (suc n) e h = element_layer n e (out-Expr e) h h.1

  fields_layer : (n : ℕ) (l : PropertyLayer) → Fit n (walk.property_at l) → All (λ f. Fit (suc n) (walk.field assigns f)) (fields_at refined l)
  fields_layer n (Property-F.Valued k e) h =
      (field_by (suc n) assigns k (element refined e) (down n (walk.key k) (front (Sits n) (walk.key k) (walk.operand e) h)) (element_good n e (back (Sits n) (walk.key k) (walk.operand e) h).0), tt)
  fields_layer n (Property-F.Initialized i e) h = (
    field_by (suc n) assigns (key.Named i) (with_default (pattern.Bound i) e) (key_by (suc n) _ (PropertyKey-F.Named i) (key.outs-Named i) tt)
        (element_by (suc n) assigns (pattern.Bound i) (Some e) (bound_good n assigns i) (down n (ExpressionPart e ∷ []) h)),
    tt,
  )
  fields_layer n _ h = tt

  rest_property_layer : (n : ℕ) (o : Option Pattern) (l : PropertyLayer) → Fit n (walk.property_at l) → Fit (suc n) (from_option (walk.pattern assigns) o) → Fit (suc n) (from_option (walk.pattern assigns) (with_rest_property_at o l))
  rest_property_layer n o (Property-F.SpreadProperty e) h y = (simple_good n assigns e h.0, tt)
  rest_property_layer n o _ h y = y

  slots_layer : (n : ℕ) (l : ArrayElementLayer) → Fit n (walk.array_element_at l) → All (λ o. Fit (suc n) (walk.maybe_element assigns o)) (slots_at refined l)
  slots_layer n ArrayElement-F.Hole h = (tt, tt)
  slots_layer n (ArrayElement-F.Element e) h = (element_good n e h.0, tt)
  slots_layer n (ArrayElement-F.SpreadElement e) h = tt

  rest_element_layer : (n : ℕ) (o : Option Pattern) (l : ArrayElementLayer) → Fit n (walk.array_element_at l) → Fit (suc n) (from_option (walk.pattern assigns) o) → Fit (suc n) (from_option (walk.pattern assigns) (with_rest_at refined o l))
  rest_element_layer n o (ArrayElement-F.SpreadElement e) h y = (good n e h.0, tt)
  rest_element_layer n o _ h y = y

  object_good : (n : ℕ) (place : Place) (l : List Property) → Fit n (flat walk.property l) → Sits (suc (suc n)) (PatternPart assigns (object_covered refined place l))
  object_good n place l h =
      let all : All (λ p. Fit n (walk.property p)) l = gathered n walk.property l h in
      pattern_by (suc n) assigns _ (Pattern-F.ObjectPattern place (lists.flat (fields_of refined) l) (lists.folded with_rest_property None l)) (pattern.outs-ObjectPattern _ _ _)
      (join (suc n) (flat (walk.field assigns) (lists.flat (fields_of refined) l)) (from_option (walk.pattern assigns) (lists.folded with_rest_property None l))
      (spread (suc n) (walk.field assigns) (lists.flat (fields_of refined) l) (made (λ p. Fit n (walk.property p)) (λ f. Fit (suc n) (walk.field assigns f)) (fields_of refined) l (λ p x. fields_layer n (out-Property p) x) all))
      (folded_good (λ o. Fit (suc n) (from_option (walk.pattern assigns) o)) (λ p. Fit n (walk.property p)) with_rest_property None l (λ o p x y. rest_property_layer n o (out-Property p) x y) all tt))

  array_good : (n : ℕ) (place : Place) (l : List ArrayElement) → Fit n (flat walk.array_element l) → Sits (suc (suc n)) (PatternPart assigns (array_covered refined place l))
  array_good n place l h =
      let all : All (λ x. Fit n (walk.array_element x)) l = gathered n walk.array_element l h in
      pattern_by (suc n) assigns _ (Pattern-F.ArrayPattern place (lists.flat (slots_of refined) l) (lists.folded (with_rest_element refined) None l)) (pattern.outs-ArrayPattern _ _ _)
      (join (suc n) (flat (walk.maybe_element assigns) (lists.flat (slots_of refined) l)) (from_option (walk.pattern assigns) (lists.folded (with_rest_element refined) None l))
      (spread (suc n) (walk.maybe_element assigns) (lists.flat (slots_of refined) l) (made (λ x. Fit n (walk.array_element x)) (λ o. Fit (suc n) (walk.maybe_element assigns o)) (slots_of refined) l (λ x y. slots_layer n (out-ArrayElement x) y) all))
      (folded_good (λ o. Fit (suc n) (from_option (walk.pattern assigns) o)) (λ x. Fit n (walk.array_element x)) (with_rest_element refined) None l (λ o x y z. rest_element_layer n o (out-ArrayElement x) y z) all tt))

  covered_layer : (n : ℕ) (e : Expr) (l : ExprLayer) → ExprGood (suc n) e → Fit n (whole_parts_at l) → Sits (suc (suc n)) (PatternPart assigns (covered_at refined e l))
  covered_layer n e (Expr-F.Name i) h under = bound_good (suc n) assigns i
  covered_layer n e (Expr-F.Object place l) h under = object_good n place l under
  covered_layer n e (Expr-F.Array place l) h under = array_good n place l under
  covered_layer n e _ h under = target_good (suc n) assigns e h

pattern_choice : (n : ℕ) (assigns c : Bool) (x y : Pattern) → Sits n (PatternPart assigns x) → Sits n (PatternPart assigns y) → Sits n (PatternPart assigns (cond c x y))
pattern_choice n assigns true x y h k = h
pattern_choice n assigns false x y h k = k

-- the pattern that an expression covers is one part deeper than the expression
pub refined_good : (assigns : Bool) (d : ℕ) (n : ℕ) (e : Expr) → ExprGood n e → Sits (suc n) (PatternPart assigns (refined_to d e))
unfolding refined_to
refined_good assigns zero n e h = target_good n assigns e h
refined_good assigns (suc d) zero e h = absurd h
refined_good assigns (suc d) (suc n) e h =
    pattern_choice (suc (suc n)) assigns (is_covered e) _ _ (covered_layer assigns (refined_to d) (refined_good assigns d) n e (out-Expr e) h h.1) (target_good (suc n) assigns e h)

pub target_of_good : (b : ℕ) (p : Phrase) → Good (suc b) p → Sits (suc (suc b)) (PatternPart true (target_of p))
target_of_good b (phrase.Expression e) h = refined_good true MAX_LEVELS (suc b) e h
target_of_good b (phrase.Covered c) h = target_good (suc b) true (parenthesized c) h.0
target_of_good b _ h = bound_good (suc b) true _

-- PARAMETERS

parameter_good : (n : ℕ) (e : Expr) → ExprGood n e → Fit (suc n) (walk.element false (parameter e))
parameter_good n e h = element_good false (refined_to MAX_LEVELS) (refined_good false MAX_LEVELS) n e h

parameter_list_good : (n : ℕ) (e : Expr) → ExprGood n e → All (λ x. Fit (suc n) (walk.element false x)) (parameter_list_of e)
parameter_list_good n e h = (parameter_good n e h, tt)

parameters_in_good : (n : ℕ) (o : Operands) → OperandsGood n o → Fit (suc n) (flat (walk.element false) (parameters_in o))
parameters_in_good n operands.NoOperand h = tt
parameters_in_good n (operands.Single e) h = spread (suc n) (walk.element false) (parameter_list_of e) (parameter_list_good n e h)
parameters_in_good n (operands.Several l) h =
    spread (suc n) (walk.element false) (all_parameters l) (made (ExprGood n) (λ x. Fit (suc n) (walk.element false x)) parameter_list_of l (parameter_list_good n) h)

pub arrow_parameters_good : (b : ℕ) (p : Phrase) → Good (suc b) p → ParametersGood (suc (suc b)) (arrow_parameters_of p)
arrow_parameters_good b (phrase.Expression e) h = (spread (suc (suc b)) (walk.element false) (parameter_list_of e) (parameter_list_good (suc b) e h), tt)
arrow_parameters_good b (phrase.Covered c) h = (parameters_in_good (suc b) c.operands h.1, down (suc b) (from_option (walk.pattern false) c.rest) h.2)
arrow_parameters_good b _ h = (tt, tt)
