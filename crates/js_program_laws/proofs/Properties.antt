-- What property names, properties, functions with a place of their own, and array and object literals become.
use Rattle.std.proofs.Common.{◌≡◌, ℕ, zero, suc, Bool, true, false, List, [], ◌∷◌, ◌++◌, Option, Some, None, refl, sym, subst}
use Rattle.lava_base.specs.declared.place.Place.{Place}
use Rattle.js_tree.specs.Layers.{ArrayElementLayer, PropertyLayer}
use Rattle.js_tree.specs.declared.tree.Argument.TheOpen.{ArrayElement-F, Expr-F, Property-F, PropertyKey-F}
use Rattle.js_tree.specs.declared.tree.ArrayElement.{ArrayElement, out-ArrayElement}
use Rattle.js_tree.specs.declared.tree.ArrayElement.TheVariants as array_element
use Rattle.js_tree.specs.declared.tree.Expr.{Expr}
use Rattle.js_tree.specs.declared.tree.Expr.TheVariants as expr
use Rattle.js_tree.specs.declared.tree.Function.{Function, out-Function, out-roll-Function}
use Rattle.js_tree.specs.declared.tree.Identifier.{Identifier}
use Rattle.js_tree.specs.declared.tree.Property.{Property, out-Property}
use Rattle.js_tree.specs.declared.tree.Property.TheVariants as property
use Rattle.js_tree.specs.declared.tree.PropertyKey.{PropertyKey}
use Rattle.js_tree.specs.declared.tree.PropertyKey.TheVariants as key
use Rattle.js_names.specs.Lists.{flat, from_option}
use Rattle.js_phrase.specs.Lasts.{front_of, last_of}
use Rattle.js_phrase.specs.Literals.{array_at, array_before_comma, array_with, ends_with_spread, later_slot, properties_of, property_of, sealed, slots_of}
use Rattle.js_phrase.specs.Phrases.{expression_of, key_of, next_of, parenthesized, slot_of}
use Rattle.js_phrase.specs.Queues.{rest_of}
use Rattle.js_phrase.specs.declared.phrase.Phrase.{Phrase}
use Rattle.js_phrase.specs.declared.phrase.Phrase.TheVariants as phrase
use Rattle.js_expr.specs.Arrays.{array_literal, comma_element}
use Rattle.js_expr.specs.Arrays as arrays
use Rattle.js_expr.specs.Names.{identifier}
use Rattle.js_expr.specs.Objects.{cover_initialized_name, key_place, keyed, keyed_property, moved_function, named, named_property, object_literal, property_value, shorthand}
use Rattle.js_expr.specs.Parts.{behind, part, token_at}
use Rattle.js_expr.specs.PropertyNames.{computed_property_name, numeric_name, string_name, word_name}
use Rattle.js_walk.specs.Parts as walk
use Rattle.js_walk.specs.Parts.{ExpressionPart, FunctionPart}
use Rattle.js_lower_laws.specs.Sound.{is_member_kind, property_kind_at, property_kinds}
use Rattle.js_program_laws.specs.Formed.{All}
use Rattle.js_program_laws.proofs.Fits.{Fit, append, deeper, down2, each, expression_by, join, made, spread}
use Rattle.js_program_laws.proofs.Phrases.{AllGood, ExprGood, FunctionFit, FunctionGood, Good, PropertyGood, behind_good, expression_good, key_by, key_good, part_good, rest_good}
use Rattle.js_program_laws.proofs.Expressions.{at, more}

-- NAMES

pub named_key : (n : ℕ) (i : Identifier) → Fit n (walk.key (key.Named i))
named_key n i = key_by n (key.Named i) (PropertyKey-F.Named i) (key.outs-Named i) tt

pub word_name_good : (source : List ℕ) (n : ℕ) (l : List Phrase) → Good n (word_name source l)
word_name_good source n l = named_key n _

pub string_name_good : (source : List ℕ) (n : ℕ) (l : List Phrase) → Good n (string_name source l)
string_name_good source n l = named_key n _

pub numeric_name_good : (source : List ℕ) (n : ℕ) (l : List Phrase) → Good n (numeric_name source l)
numeric_name_good source n l = key_by n _ _ (key.outs-Numbered _ _) tt

pub computed_name_good : (b : ℕ) (l : List Phrase) → AllGood (suc b) l → Good (suc b) (computed_property_name l)
computed_name_good b l h = key_by (suc b) _ _ (key.outs-Computed _ _) (at b 1 l h, tt)

-- FUNCTIONS

pub moved_fit : (n : ℕ) (f : Function) (place : Place) → FunctionFit n f → FunctionFit n (moved_function place f)
moved_fit zero f place h = absurd h.0
moved_fit (suc m) f place h =
    let same : Fit m (walk.function_parts (moved_function place f)) =
    subst (λ r. Fit m (flat (walk.element false) r.parameters ++ (from_option (walk.pattern false) r.rest ++ walk.body r.body))) (sym (out-roll-Function (record (out-Function f) { place = place }))) h.0.1 in
    ((refl, same), (refl, same))

pub moved_good : (n : ℕ) (f : Function) (place : Place) → FunctionGood n f → FunctionGood n (moved_function place f)
moved_good n f place h = (moved_fit n f place h.0, subst (λ r. is_member_kind r.kind ≡ true) (sym (out-roll-Function (record (out-Function f) { place = place }))) h.1)

-- PROPERTIES

pub property_by : (n : ℕ) (p : Property) (l : PropertyLayer) → out-Property p ≡ l → property_kind_at l ≡ true → Fit n (walk.property_at l) → PropertyGood n p
property_by n p l k f h = (subst (λ x. Fit n (walk.property_at x)) (sym k) h, subst (λ x. property_kind_at x ≡ true) (sym k) f)

defined_as : (n : ℕ) (k : PropertyKey) (f : Function) → Fit n (walk.key k) → FunctionGood n f → PropertyGood n (property.Defined k f)
defined_as n k f x h = property_by n _ (Property-F.Defined k f) (property.outs-Defined k f) h.1 (join n (walk.key k) (FunctionPart false f ∷ []) x (h.0.0, tt))

valued_good : (n : ℕ) (k : PropertyKey) (e : Expr) → Fit n (walk.key k) → ExprGood n e → PropertyGood n (property.Valued k e)
valued_good n k e x h = property_by n _ (Property-F.Valued k e) (property.outs-Valued k e) refl (join n (walk.key k) (walk.operand e) x (h, tt))

keyed_good : (b : ℕ) (k : PropertyKey) (p : Phrase) → Fit (suc b) (walk.key k) → Good (suc b) p → PropertyGood (suc b) (keyed k p)
keyed_good b k (phrase.Function f) x h = defined_as (suc b) k (moved_function (key_place k) f) x (moved_good (suc b) f (key_place k) h)
keyed_good b k p x h = valued_good (suc b) k (expression_of p) x (expression_good b p h)

shorthand_good : (b : ℕ) (i : Identifier) → PropertyGood (suc b) (shorthand i)
shorthand_good b i = valued_good (suc b) (key.Named i) (expr.Name i) (named_key (suc b) i) (expression_by b _ (Expr-F.Name i) (expr.outs-Name i) refl tt)

named_good : (b : ℕ) (i : Identifier) (p : Phrase) → Good (suc b) p → PropertyGood (suc b) (named i p)
named_good b i phrase.Absent h = shorthand_good b i
named_good b i (phrase.Initializer e) h = property_by (suc b) _ (Property-F.Initialized i e) (property.outs-Initialized i e) refl (h, tt)
named_good b i p h = keyed_good b (key.Named i) p (named_key (suc b) i) h

pub named_property_good : (source : List ℕ) (b : ℕ) (l : List Phrase) → AllGood (suc b) l → Good (suc b) (named_property source l)
named_property_good source b l h = named_good b (identifier source (token_at 0 l)) (part 1 l) (part_good (suc b) 1 l h)

pub keyed_property_good : (b : ℕ) (l : List Phrase) → AllGood (suc b) l → Good (suc b) (keyed_property l)
keyed_property_good b l h = keyed_good b (key_of (part 0 l)) (part 1 l) (key_good (suc b) (part 0 l) (part_good (suc b) 0 l h)) (part_good (suc b) 1 l h)

pub property_value_good : (b : ℕ) (l : List Phrase) → AllGood (suc b) l → Good (suc b) (property_value l)
property_value_good b l h = at b 1 l h

pub initialized_good : (b : ℕ) (l : List Phrase) → AllGood (suc b) l → Good (suc b) (cover_initialized_name l)
initialized_good b l h = at b 1 l h

-- OBJECTS

sealed_good : (n : ℕ) (s : Bool) (place : Place) (e : Expr) → ExprGood n e → ExprGood (suc n) (sealed s place e)
sealed_good n true place e h = expression_by n _ (Expr-F.Parenthesized place e) (expr.outs-Parenthesized place e) refl (h, tt)
sealed_good n false place e h = deeper n (ExpressionPart e) h

-- three parts more than what stands inside
widened : (b : ℕ) (e : Expr) → ExprGood (suc (suc (suc b))) e → ExprGood (more b) e
widened b e h = (down2 (suc (suc (suc b))) (ExpressionPart e ∷ []) (h, tt)).0

listed_property : (n : ℕ) (p : Phrase) → Good n p → All (PropertyGood n) (property_of p)
listed_property n (phrase.Property p) h = (h, tt)
listed_property n (phrase.Member m) h = (defined_as n _ _ h.0 h.1, tt)
listed_property n (phrase.Spread e) h = (property_by n _ (Property-F.SpreadProperty e) (property.outs-SpreadProperty e) refl (h, tt), tt)
listed_property n _ h = tt

kinds : (n : ℕ) (l : List Property) → All (PropertyGood n) l → property_kinds l ≡ true
kinds n [] h = refl
kinds n (p ∷ l) h = rw (h.0.1, kinds n l h.1) refl

pub object_good : (b : ℕ) (l : List Phrase) → AllGood (suc b) l → Good (more b) (object_literal l)
object_good b l h =
    let all : All (PropertyGood (suc b)) (properties_of (behind 1 l)) = made (Good (suc b)) (PropertyGood (suc b)) property_of (behind 1 l) (listed_property (suc b)) (behind_good (suc b) 1 l h) in
    let below : Fit (suc b) (flat walk.property (properties_of (behind 1 l))) = spread (suc b) walk.property (properties_of (behind 1 l)) (each (PropertyGood (suc b)) (λ p. Fit (suc b) (walk.property p)) (properties_of (behind 1 l)) (λ p x. x.0) all) in
    widened b _ (sealed_good (suc (suc b)) _ _ _ (expression_by (suc b) _ _ (expr.outs-Object _ (properties_of (behind 1 l))) (kinds (suc b) _ all) below))

-- ARRAYS

pub spread_good : (b : ℕ) (l : List Phrase) → AllGood (suc b) l → Good (suc b) (arrays.spread l)
spread_good b l h = at b 1 l h

abbrev SlotGood : ℕ → ArrayElement → Type 0
SlotGood n x = Fit n (walk.array_element x)

slot_by : (n : ℕ) (x : ArrayElement) (l : ArrayElementLayer) → out-ArrayElement x ≡ l → Fit n (walk.array_element_at l) → SlotGood n x
slot_by n x l k h = subst (λ y. Fit n (walk.array_element_at y)) (sym k) h

slot_good : (n : ℕ) (p : Phrase) → Good n p → SlotGood n (slot_of p)
slot_good n (phrase.Expression e) h = slot_by n _ _ (array_element.outs-Element e) (h, tt)
slot_good n (phrase.Covered c) h = slot_by n _ _ (array_element.outs-Element (parenthesized c)) (h.0, tt)
slot_good n (phrase.Spread e) h = slot_by n _ _ (array_element.outs-SpreadElement e) (h, tt)
slot_good n _ h = slot_by n _ ArrayElement-F.Hole array_element.outs-Hole tt

pub comma_element_good : (n : ℕ) (l : List Phrase) → AllGood n l → Good n (comma_element l)
comma_element_good n l h = slot_good n (part 1 l) (part_good n 1 l h)

later_slot_good : (n : ℕ) (p : Phrase) → Good n p → All (SlotGood n) (later_slot p)
later_slot_good n (phrase.Slot x) h = (h, tt)
later_slot_good n _ h = tt

slots_good : (n : ℕ) (l : List Phrase) → AllGood n l → All (SlotGood n) (slots_of l)
slots_good n l h = (slot_good n (next_of l) (part_good n 0 l h), made (Good n) (SlotGood n) later_slot (rest_of l) (later_slot_good n) (rest_good n l h))

pub front_all : {A : Type 0} (P : A → Type 0) (l : List A) → All P l → All P (front_of l)
front_all P [] h = tt
front_all P (x ∷ []) h = tt
front_all P (x ∷ y ∷ l) h = (h.0, front_all P (y ∷ l) h.1)

abbrev pub Of : {A : Type 0} → (A → Type 0) → Option A → Type 0
Of P None = Unit {0}
Of P (Some x) = P x

pub last_all : {A : Type 0} (P : A → Type 0) (l : List A) → All P l → Of P (last_of l)
last_all P [] h = tt
last_all P (x ∷ []) h = h.0
last_all P (x ∷ y ∷ l) h = last_all P (y ∷ l) h.1

array_expr : (n : ℕ) (place : Place) (l : List ArrayElement) → All (SlotGood n) l → ExprGood (suc n) (expr.Array place l)
array_expr n place l h = expression_by n _ _ (expr.outs-Array place l) refl (spread n walk.array_element l h)

before_comma : (n : ℕ) (place : Place) (l : List ArrayElement) → All (SlotGood n) l → ExprGood (suc (suc n)) (array_before_comma place l)
before_comma n place l h = sealed_good (suc n) (ends_with_spread l) place (expr.Array place l) (array_expr n place l h)

array_layer : (n : ℕ) (place : Place) (l : List ArrayElement) (x : ArrayElement) (y : ArrayElementLayer) → All (SlotGood n) l → SlotGood n x → ExprGood (suc (suc n)) (array_at place l x y)
array_layer n place l x ArrayElement-F.Hole h k = before_comma n place l h
array_layer n place l x _ h k = deeper (suc n) (ExpressionPart (expr.Array place (l ++ x ∷ []))) (array_expr n place (l ++ x ∷ []) (append (SlotGood n) l (x ∷ []) h (k, tt)))

array_last : (n : ℕ) (place : Place) (l : List ArrayElement) (o : Option ArrayElement) → All (SlotGood n) l → Of (SlotGood n) o → ExprGood (suc (suc n)) (array_with place l o)
array_last n place l None h k = deeper (suc n) (ExpressionPart (expr.Array place l)) (array_expr n place l h)
array_last n place l (Some x) h k = array_layer n place l x (out-ArrayElement x) h k

pub array_good : (b : ℕ) (l : List Phrase) → AllGood (suc b) l → Good (more b) (array_literal l)
array_good b l h =
    let slots : All (SlotGood (suc b)) (slots_of (behind 1 l)) = slots_good (suc b) (behind 1 l) (behind_good (suc b) 1 l h) in
    widened b _ (array_last (suc b) _ (front_of (slots_of (behind 1 l))) (last_of (slots_of (behind 1 l))) (front_all (SlotGood (suc b)) (slots_of (behind 1 l)) slots) (last_all (SlotGood (suc b)) (slots_of (behind 1 l)) slots))
