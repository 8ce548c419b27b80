-- What covers, assignments and bindings become.
use Rattle.std.proofs.Common.{◌≡◌, ℕ, suc, false, List, [], ◌∷◌, Option, Some, None, refl, sym, subst}
use Rattle.lava_base.specs.declared.place.Place.{Place}
use Rattle.js_tree.specs.declared.tree.Declaration.{out-roll-Declaration}
use Rattle.js_tree.specs.declared.tree.Expr.{Expr}
use Rattle.js_tree.specs.declared.tree.Expr.TheVariants as expr
use Rattle.js_tree.specs.declared.tree.Identifier.{Identifier}
use Rattle.js_tree.specs.declared.tree.Pattern.{Pattern, out-Pattern}
use Rattle.js_tree.specs.Layers.{PatternLayer}
use Rattle.js_tree.specs.declared.tree.Pattern.TheVariants as pattern
use Rattle.js_tree.specs.declared.tree.PatternElement.{PatternElement}
use Rattle.js_tree.specs.declared.tree.PropertyKey.TheVariants as key
use Rattle.js_tree.specs.declared.tree.Stmt.TheVariants as stmt
use Rattle.js_names.specs.Lists.{flat, from_option}
use Rattle.js_phrase.specs.BindingPatterns.{array_pattern_with, first_slot, later_slot, slots_of, slots_with, trimmed}
use Rattle.js_phrase.specs.Covers.{cover_of, operands_of, with_operand}
use Rattle.js_phrase.specs.Lasts.{front_of, last_of}
use Rattle.js_phrase.specs.Lists.{elements_of, field_of, fields_of, folded, rest_in, with_rest}
use Rattle.js_phrase.specs.Lists as lists
use Rattle.js_phrase.specs.Phrases.{comma, default_of, element_of, key_of, next_of, operand, parenthesized, pattern_of}
use Rattle.js_phrase.specs.Queues.{rest_of}
use Rattle.js_phrase.specs.declared.phrase.Cover.{Cover}
use Rattle.js_phrase.specs.declared.phrase.Operands.{Operands}
use Rattle.js_phrase.specs.declared.phrase.Operands.TheVariants as operands
use Rattle.js_phrase.specs.declared.phrase.Phrase.{Phrase}
use Rattle.js_phrase.specs.declared.phrase.Phrase.TheVariants as phrase
use Rattle.js_cover.specs.Targets.{target_of}
use Rattle.js_expr.specs.Assignments.{assignment}
use Rattle.js_expr.specs.Covers.{at_place, cover_comma, cover_parenthesized, cover_rest, extended}
use Rattle.js_expr.specs.Names.{identifier}
use Rattle.js_expr.specs.Parts.{behind, expression_at, part, token_at}
use Rattle.js_stmt.specs.Bindings.{array_binding_pattern, binding, binding_element, binding_rest, bound_field, comma_binding_element, element_or_hole, initializer, keyed_binding_property, named_binding_property, named_field, object_binding_pattern, second_part}
use Rattle.js_stmt.specs.Declarations.{declaration, declaration_kind, declaration_statement, for_declaration}
use Rattle.js_walk.specs.Parts as walk
use Rattle.js_walk.specs.Parts.{ExpressionPart, PatternPart}
use Rattle.js_lower_laws.specs.Sound.{whole_pattern_at}
use Rattle.js_program_laws.specs.Formed.{All, Sits}
use Rattle.js_program_laws.proofs.Fits.{Fit, append, deeper, down3, expression_by, join, made, pattern_by, spread}
use Rattle.js_program_laws.proofs.Phrases.{AllGood, ExprGood, Good, OperandsGood, RestGood, behind_good, bound_good, default_good, element_by, element_good, key_good, part_good, pattern_good, rest_good, this_good}
use Rattle.js_program_laws.proofs.Expressions.{at, deep2, more, operands_fit}
use Rattle.js_program_laws.proofs.Properties.{Of, front_all, last_all, named_key}
use Rattle.js_program_laws.proofs.Covered.{field_by, folded_good, target_of_good}
use Rattle.js_program_laws.proofs.Blocks.{deep_statement}
use Rattle.js_program_laws.proofs.Functions.{elements_good, rest_in_good, wide, with_rest_good}

-- COVERS

abbrev CoverGood : ℕ → Cover → Type 0
CoverGood n c = OperandsGood n c.operands × RestGood n c.rest

all_lift : (n : ℕ) (l : List Expr) → All (ExprGood n) l → All (ExprGood (suc n)) l
all_lift n [] h = tt
all_lift n (e ∷ l) h = (deeper n (ExpressionPart e) h.0, all_lift n l h.1)

operands_lift : (n : ℕ) (o : Operands) → OperandsGood n o → OperandsGood (suc n) o
operands_lift n operands.NoOperand h = tt
operands_lift n (operands.Single e) h = deeper n (ExpressionPart e) h
operands_lift n (operands.Several l) h = all_lift n l h

cover_wide : (b : ℕ) (c : Cover) → CoverGood (suc b) c → CoverGood (more b) c
cover_wide b c h =
    (operands_lift (suc (suc (suc (suc b)))) c.operands (operands_lift (suc (suc (suc b))) c.operands (operands_lift (suc (suc b)) c.operands (operands_lift (suc b) c.operands h.0))), wide b (from_option (walk.pattern false) c.rest) h.1)

operands_of_good : (n : ℕ) (p : Phrase) → Good n p → OperandsGood n (operands_of p)
operands_of_good n (phrase.Expression e) h = h
operands_of_good n (phrase.Covered c) h = h.0
operands_of_good n _ h = tt

cover_of_good : (n : ℕ) (p : Phrase) → Good n p → CoverGood n (cover_of p)
cover_of_good n (phrase.Operands c) h = h
cover_of_good n (phrase.Rest p) h = (tt, (h, tt))
cover_of_good n p h = (operands_of_good n p h, tt)

with_operand_good : (n : ℕ) (o : Operands) (e : Expr) → OperandsGood n o → ExprGood n e → OperandsGood n (with_operand o e)
with_operand_good n operands.NoOperand e h k = k
with_operand_good n (operands.Single a) e h k = (h, (k, tt))
with_operand_good n (operands.Several l) e h k = append (ExprGood n) l (e ∷ []) h (k, tt)

extended_good : (n : ℕ) (c : Cover) (p : Phrase) → CoverGood n c → Good n p → CoverGood n (extended c p)
extended_good n c (phrase.Expression e) h k = (with_operand_good n c.operands e h.0 k, h.1)
extended_good n c (phrase.Covered d) h k = (with_operand_good n c.operands (parenthesized d) h.0 k.0, h.1)
extended_good n c (phrase.Rest p) h k = (h.0, (k, tt))
extended_good n c _ h k = h

pub cover_comma_good : (b : ℕ) (l : List Phrase) → AllGood (suc b) l → Good (more b) (cover_comma l)
cover_comma_good b l h = cover_wide b (extended (cover_of (part 0 l)) (part 2 l)) (extended_good (suc b) (cover_of (part 0 l)) (part 2 l) (cover_of_good (suc b) (part 0 l) (part_good (suc b) 0 l h)) (part_good (suc b) 2 l h))

pub cover_rest_good : (b : ℕ) (l : List Phrase) → AllGood (suc b) l → Good (suc b) (cover_rest l)
cover_rest_good b l h = pattern_good b (part 1 l) (part_good (suc b) 1 l h)

commas_good : (n : ℕ) (l : List Expr) → All (ExprGood n) l → ExprGood (suc n) (comma l)
commas_good n [] h = expression_by n _ _ (expr.outs-Comma _ []) refl tt
commas_good n (e ∷ l) h = expression_by n _ _ (expr.outs-Comma _ (e ∷ l)) refl (operands_fit n (e ∷ l) h)

operand_good : (b : ℕ) (o : Operands) → OperandsGood (suc b) o → ExprGood (suc (suc b)) (operand o)
operand_good b operands.NoOperand h = this_good (suc b)
operand_good b (operands.Single e) h = deeper (suc b) (ExpressionPart e) h
operand_good b (operands.Several l) h = commas_good (suc b) l h

covered_good : (b : ℕ) (c : Cover) → CoverGood (suc b) c → Good (more b) (phrase.Covered c)
covered_good b c h =
    let w : CoverGood (more b) c = cover_wide b c h in
    (deep2 b _ _ (expr.outs-Parenthesized _ (operand c.operands)) refl (operand_good b c.operands h.0, tt), w.0, w.1)

pub parenthesized_good : (b : ℕ) (l : List Phrase) → AllGood (suc b) l → Good (more b) (cover_parenthesized l)
parenthesized_good b l h = covered_good b (at_place (token_at 0 l).start (cover_of (part 1 l))) (cover_of_good (suc b) (part 1 l) (part_good (suc b) 1 l h))

pub assignment_good : (b : ℕ) (l : List Phrase) → AllGood (suc b) l → Good (more b) (assignment l)
assignment_good b l h = deep2 b _ _ (expr.outs-Assign _ (target_of (part 0 l)) (expression_at 2 l)) refl
    (target_of_good b (part 0 l) (part_good (suc b) 0 l h), (deeper (suc b) (ExpressionPart (expression_at 2 l)) (at b 2 l h), tt))

-- BINDINGS

pub initializer_good : (b : ℕ) (l : List Phrase) → AllGood (suc b) l → Good (suc b) (initializer l)
initializer_good b l h = at b 1 l h

pub binding_element_good : (b : ℕ) (l : List Phrase) → AllGood (suc b) l → Good (suc b) (binding_element l)
binding_element_good b l h = element_by (suc b) false (pattern_of (part 0 l)) (default_of (part 1 l)) (pattern_good b (part 0 l) (part_good (suc b) 0 l h)) (default_good (suc b) (part 1 l) (part_good (suc b) 1 l h))

pub binding_rest_good : (b : ℕ) (l : List Phrase) → AllGood (suc b) l → Good (suc b) (binding_rest l)
binding_rest_good b l h = pattern_good b (part 1 l) (part_good (suc b) 1 l h)

bound_field_good : (b : ℕ) (i : Identifier) (d : Option Expr) → Fit (suc b) (from_option walk.operand d) → Fit (suc b) (walk.field false (bound_field i d))
bound_field_good b i d h = field_by (suc b) false (key.Named i) (binding (pattern.Bound i) d) (named_key (suc b) i) (element_by (suc b) false (pattern.Bound i) d (bound_good b false i) h)

named_field_good : (b : ℕ) (i : Identifier) (p : Phrase) → Good (suc b) p → Fit (suc b) (walk.field false (named_field i p))
named_field_good b i (phrase.Element x) h = field_by (suc b) false (key.Named i) x (named_key (suc b) i) h
named_field_good b i (phrase.Initializer e) h = bound_field_good b i (Some e) (h, tt)
named_field_good b i _ h = bound_field_good b i None tt

pub named_binding_good : (source : List ℕ) (b : ℕ) (l : List Phrase) → AllGood (suc b) l → Good (suc b) (named_binding_property source l)
named_binding_good source b l h = named_field_good b (identifier source (token_at 0 l)) (part 1 l) (part_good (suc b) 1 l h)

pub keyed_binding_good : (b : ℕ) (l : List Phrase) → AllGood (suc b) l → Good (suc b) (keyed_binding_property l)
keyed_binding_good b l h = field_by (suc b) false (key_of (part 0 l)) (element_of (part 1 l)) (key_good (suc b) (part 0 l) (part_good (suc b) 0 l h)) (element_good b (part 1 l) (part_good (suc b) 1 l h))

deep_pattern : (b : ℕ) (p : Pattern) (l : PatternLayer) → out-Pattern p ≡ l → Fit (suc b) (whole_pattern_at false l) → Sits (more b) (PatternPart false p)
deep_pattern b p l k h = pattern_by (suc (suc (suc (suc b)))) false p l k (down3 (suc b) (whole_pattern_at false l) h)

listed_field : (n : ℕ) (p : Phrase) → Good n p → All (λ f. Fit n (walk.field false f)) (field_of p)
listed_field n (phrase.Field f) h = (h, tt)
listed_field n _ h = tt

pub object_pattern_good : (b : ℕ) (l : List Phrase) → AllGood (suc b) l → Good (more b) (object_binding_pattern l)
object_pattern_good b l h =
    let all : AllGood (suc b) (behind 1 l) = behind_good (suc b) 1 l h in
    deep_pattern b _ _ (pattern.outs-ObjectPattern _ (fields_of (behind 1 l)) (rest_in (behind 1 l)))
    (join (suc b) (flat (walk.field false) (fields_of (behind 1 l))) (from_option (walk.pattern false) (rest_in (behind 1 l)))
    (spread (suc b) (walk.field false) (fields_of (behind 1 l)) (made (Good (suc b)) (λ f. Fit (suc b) (walk.field false f)) field_of (behind 1 l) (listed_field (suc b)) all)) (rest_in_good (suc b) (behind 1 l) all))

abbrev SlotGood : ℕ → Option PatternElement → Type 0
SlotGood n o = Fit n (walk.maybe_element false o)

later_slot_good : (n : ℕ) (p : Phrase) → Good n p → All (SlotGood n) (later_slot p)
later_slot_good n (phrase.Element x) h = (h, tt)
later_slot_good n phrase.Hole h = (tt, tt)
later_slot_good n _ h = tt

first_slot_good : (n : ℕ) (p : Phrase) → Good n p → All (SlotGood n) (first_slot p)
first_slot_good n phrase.Absent h = (tt, tt)
first_slot_good n p h = later_slot_good n p h

slots_good : (n : ℕ) (l : List Phrase) → AllGood n l → All (SlotGood n) (slots_of l)
slots_good n l h = append (SlotGood n) (first_slot (next_of l)) (lists.flat later_slot (rest_of l)) (first_slot_good n (next_of l) (part_good n 0 l h)) (made (Good n) (SlotGood n) later_slot (rest_of l) (later_slot_good n) (rest_good n l h))

slots_with_good : (n : ℕ) (l : List (Option PatternElement)) (o : Option (Option PatternElement)) → All (SlotGood n) l → Of (SlotGood n) o → All (SlotGood n) (slots_with l o)
slots_with_good n l None h k = h
slots_with_good n l (Some None) h k = h
slots_with_good n l (Some (Some x)) h k = append (SlotGood n) l (Some x ∷ []) h (k, tt)

trimmed_good : (n : ℕ) (l : List (Option PatternElement)) → All (SlotGood n) l → All (SlotGood n) (trimmed l)
trimmed_good n l h = slots_with_good n (front_of l) (last_of l) (front_all (SlotGood n) l h) (last_all (SlotGood n) l h)

array_with_good : (b : ℕ) (place : Place) (l : List (Option PatternElement)) (o : Option Pattern) → All (SlotGood (suc b)) l → RestGood (suc b) o → Sits (more b) (PatternPart false (array_pattern_with place l o))
array_with_good b place l None h k =
    deep_pattern b _ _ (pattern.outs-ArrayPattern place (trimmed l) None)
    (join (suc b) (flat (walk.maybe_element false) (trimmed l)) [] (spread (suc b) (walk.maybe_element false) (trimmed l) (trimmed_good (suc b) l h)) tt)
array_with_good b place l (Some p) h k =
    deep_pattern b _ _ (pattern.outs-ArrayPattern place l (Some p))
    (join (suc b) (flat (walk.maybe_element false) l) (PatternPart false p ∷ []) (spread (suc b) (walk.maybe_element false) l h) k)

pub array_pattern_good : (b : ℕ) (l : List Phrase) → AllGood (suc b) l → Good (more b) (array_binding_pattern l)
array_pattern_good b l h =
    let all : AllGood (suc b) (behind 1 l) = behind_good (suc b) 1 l h in
    array_with_good b (token_at 0 l).start (slots_of (behind 1 l)) (folded with_rest (with_rest None (next_of (behind 1 l))) (rest_of (behind 1 l))) (slots_good (suc b) (behind 1 l) all)
    (folded_good (RestGood (suc b)) (Good (suc b)) with_rest (with_rest None (next_of (behind 1 l))) (rest_of (behind 1 l)) (with_rest_good (suc b)) (rest_good (suc b) (behind 1 l) all)
    (with_rest_good (suc b) None (next_of (behind 1 l)) (part_good (suc b) 0 (behind 1 l) all) tt))

hole_good : (n : ℕ) (p : Phrase) → Good n p → Good n (element_or_hole p)
hole_good n (phrase.Element x) h = h
hole_good n _ h = tt

pub comma_binding_good : (n : ℕ) (l : List Phrase) → AllGood n l → Good n (comma_binding_element l)
comma_binding_good n l h = hole_good n (part 1 l) (part_good n 1 l h)

pub second_good : (n : ℕ) (l : List Phrase) → AllGood n l → Good n (second_part l)
second_good n l h = part_good n 1 l h

-- DECLARATIONS

declared : (n : ℕ) (l : List Phrase) → AllGood n l → Fit n (walk.declaration (declaration l))
declared n l h =
    subst (λ r. Fit n (flat (walk.element false) r.declarators)) (sym (out-roll-Declaration (record { place = (token_at 0 l).start; kind = declaration_kind (token_at 0 l).kind; declarators = elements_of (behind 1 l) })))
    (elements_good n (behind 1 l) (behind_good n 1 l h))

pub declaration_good : (b : ℕ) (l : List Phrase) → AllGood (suc b) l → Good (more b) (declaration_statement l)
declaration_good b l h = deep_statement b _ _ (stmt.outs-Declare (declaration l)) refl (declared (suc b) l h)

pub for_declaration_good : (n : ℕ) (l : List Phrase) → AllGood n l → Good n (for_declaration l)
for_declaration_good n l h = declared n l h
