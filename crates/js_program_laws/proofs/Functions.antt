-- What parameters, functions, methods and classes become.
use Rattle.std.proofs.Common.{◌≡◌, ◌&&◌, ℕ, suc, Bool, true, false, List, [], ◌∷◌, ◌++◌, Option, None, is_some, refl, sym, subst}
use Rattle.lava_base.specs.declared.place.Place.{Place}
use Rattle.js_tree.specs.Layers.{BodyLayer}
use Rattle.js_tree.specs.declared.tree.Body.{Body, out-Body}
use Rattle.js_tree.specs.declared.tree.Body.TheVariants as body
use Rattle.js_tree.specs.declared.tree.Class.{out-roll-Class}
use Rattle.js_tree.specs.declared.tree.ClassMember.{ClassMember, out-ClassMember, out-roll-ClassMember}
use Rattle.js_tree.specs.declared.tree.Expr.TheVariants as expr
use Rattle.js_tree.specs.declared.tree.Function.{Function, out-Function, roll-Function, out-roll-Function}
use Rattle.js_tree.specs.declared.tree.FunctionKind.{FunctionKind}
use Rattle.js_tree.specs.declared.tree.FunctionKind.TheVariants as kind
use Rattle.js_tree.specs.declared.tree.Identifier.{Identifier}
use Rattle.js_tree.specs.declared.tree.Pattern.{Pattern}
use Rattle.js_tree.specs.declared.tree.PatternElement.{PatternElement}
use Rattle.js_tree.specs.declared.tree.PropertyKey.{PropertyKey}
use Rattle.js_tree.specs.declared.tree.PropertyKey.TheVariants as key
use Rattle.js_tree.specs.declared.tree.Stmt.{Stmt}
use Rattle.js_tree.specs.declared.tree.Stmt.TheVariants as stmt
use Rattle.js_names.specs.Lists.{flat, from_option}
use Rattle.js_phrase.specs.Lists.{elements_of, listed_element, member_of, members_of, rest_in, with_rest}
use Rattle.js_phrase.specs.Phrases.{body_of, element_of, function_of, key_of, optional_expression_of, optional_name_of, parameters_of, parenthesized, statements_of}
use Rattle.js_phrase.specs.declared.places.TheConstants.{NO_PLACE}
use Rattle.js_phrase.specs.declared.phrase.Parameters.{Parameters}
use Rattle.js_phrase.specs.declared.phrase.Phrase.{Phrase}
use Rattle.js_phrase.specs.declared.phrase.Phrase.TheVariants as phrase
use Rattle.js_cover.specs.Targets.{arrow_parameters_of}
use Rattle.js_expr.specs.Arrows.{arrow, arrow_function, expression_body}
use Rattle.js_expr.specs.Names.{identifier}
use Rattle.js_expr.specs.Objects.{key_place, moved_function}
use Rattle.js_expr.specs.Parts.{behind, part, token_at}
use Rattle.js_stmt.specs.Classes.{class_declaration, class_definition, class_expression, class_heritage}
use Rattle.js_stmt.specs.Functions.{formal_parameters, function, function_body, function_declaration, function_expression, plain_function}
use Rattle.js_stmt.specs.Methods.{accessor, getter, member, method, method_member, method_tail, setter, static_element, static_named_method, static_phrase}
use Rattle.js_walk.specs.Parts as walk
use Rattle.js_walk.specs.Parts.{TreePart, ClassPart, FunctionPart}
use Rattle.js_lower_laws.specs.Sound.{is_declared_kind, is_member_kind, member_kinds}
use Rattle.js_program_laws.specs.Formed.{All, Sits}
use Rattle.js_program_laws.proofs.Fits.{Fit, deeper, down, down3, each, join, made, spread}
use Rattle.js_program_laws.proofs.Phrases.{AllGood, FunctionFit, FunctionGood, Good, MemberGood, ParametersGood, RestGood, behind_good, element_good, key_good, optional_good, parameters_good, part_good, statements_good}
use Rattle.js_program_laws.proofs.Expressions.{at, deep2, deep3, more}
use Rattle.js_program_laws.proofs.Properties.{moved_good, named_key}
use Rattle.js_program_laws.proofs.Covered.{arrow_parameters_good, folded_good}
use Rattle.js_program_laws.proofs.Blocks.{deep2_statement, statement_list_good}

-- four parts more
pub wide : (b : ℕ) (ps : List TreePart) → Fit (suc b) ps → Fit (more b) ps
wide b ps h = down3 (suc (suc b)) ps (down (suc b) ps h)

-- PARAMETERS

listed_element_good : (n : ℕ) (p : Phrase) → Good n p → All (λ x. Fit n (walk.element false x)) (listed_element p)
listed_element_good n (phrase.Element x) h = (h, tt)
listed_element_good n _ h = tt

pub elements_good : (n : ℕ) (l : List Phrase) → AllGood n l → Fit n (flat (walk.element false) (elements_of l))
elements_good n l h = spread n (walk.element false) (elements_of l) (made (Good n) (λ x. Fit n (walk.element false x)) listed_element l (listed_element_good n) h)

pub with_rest_good : (n : ℕ) (o : Option Pattern) (p : Phrase) → Good n p → RestGood n o → RestGood n (with_rest o p)
with_rest_good n o (phrase.Rest p) h y = (h, tt)
with_rest_good n o _ h y = y

pub rest_in_good : (n : ℕ) (l : List Phrase) → AllGood n l → RestGood n (rest_in l)
rest_in_good n l h = folded_good (RestGood n) (Good n) with_rest None l (with_rest_good n) h tt

pub formal_parameters_good : (n : ℕ) (l : List Phrase) → AllGood n l → Good n (formal_parameters l)
formal_parameters_good n l h = (elements_good n (behind 1 l) (behind_good n 1 l h), rest_in_good n (behind 1 l) (behind_good n 1 l h))

-- BODIES

body_by : (n : ℕ) (x : Body) (l : BodyLayer) → out-Body x ≡ l → Fit n (walk.body_at l) → Fit n (walk.body x)
body_by n x l k h = subst (λ y. Fit n (walk.body_at y)) (sym k) h

body_good : (n : ℕ) (p : Phrase) → Good n p → Fit n (walk.body (body_of p))
body_good n (phrase.Expression e) h = body_by n _ _ (body.outs-Concise e) (h, tt)
body_good n (phrase.Covered c) h = body_by n _ _ (body.outs-Concise (parenthesized c)) (h.0, tt)
body_good n (phrase.Statements l) h = body_by n _ _ (body.outs-Statements l) h
body_good n _ h = body_by n _ _ (body.outs-Statements []) tt

pub function_body_good : (n : ℕ) (l : List Phrase) → AllGood n l → Good n (function_body l)
function_body_good n l h = statement_list_good n l h

-- FUNCTIONS

module _ (n : ℕ) (place : Place) (k : FunctionKind) (name : Option Identifier) (ps : List PatternElement) (rest : Option Pattern) (b : Body) where
  function_by : Fit n (flat (walk.element false) ps) → RestGood n rest → Fit n (walk.body b)
      → FunctionFit (suc n) (roll-Function (record { place = place; kind = k; name = name; parameters = ps; rest = rest; body = b }))
  function_by x y z =
      let same : Fit n (walk.function_parts (roll-Function (record { place = place; kind = k; name = name; parameters = ps; rest = rest; body = b }))) =
      subst (λ r. Fit n (flat (walk.element false) r.parameters ++ (from_option (walk.pattern false) r.rest ++ walk.body r.body))) (sym (out-roll-Function (record { place = place; kind = k; name = name; parameters = ps; rest = rest; body = b })))
      (join n (flat (walk.element false) ps) (from_option (walk.pattern false) rest ++ walk.body b) x (join n (from_option (walk.pattern false) rest) (walk.body b) y z)) in
      ((refl, same), (refl, same))

module _ (place : Place) (k : FunctionKind) (name : Option Identifier) (ps : List PatternElement) (rest : Option Pattern) (l : List Stmt) where
  function_fits : (n : ℕ) → Fit n (flat (walk.element false) ps) → RestGood n rest → Fit n (flat walk.statement l) → FunctionFit (suc n) (function place k name ps rest l)
  function_fits n x y z = function_by n place k name ps rest (body.Statements l) x y (body_by n _ _ (body.outs-Statements l) z)

  function_kind : (is : FunctionKind → Bool) → is k ≡ true → is (out-Function (function place k name ps rest l)).kind ≡ true
  function_kind is h = subst (λ r. is r.kind ≡ true) (sym (out-roll-Function (record { place = place; kind = k; name = name; parameters = ps; rest = rest; body = body.Statements l }))) h

  function_good : (n : ℕ) → is_member_kind k ≡ true → Fit n (flat (walk.element false) ps) → RestGood n rest → Fit n (flat walk.statement l) → FunctionGood (suc n) (function place k name ps rest l)
  function_good n h x y z = (function_fits n x y z, function_kind is_member_kind h)

plain_fits : (n : ℕ) (l : List Phrase) → AllGood n l → FunctionFit (suc n) (plain_function l)
plain_fits n l h =
    let ps : ParametersGood n (parameters_of (part 2 l)) = parameters_good n (part 2 l) (part_good n 2 l h) in
    function_fits (token_at 0 l).start kind.Plain (optional_name_of (part 1 l)) (parameters_of (part 2 l)).elements (parameters_of (part 2 l)).rest (statements_of (part 3 l)) n
    ps.0 ps.1 (statements_good n (part 3 l) (part_good n 3 l h))

plain_kind : (is : FunctionKind → Bool) (l : List Phrase) → is kind.Plain ≡ true → is (out-Function (plain_function l)).kind ≡ true
plain_kind is l h = function_kind (token_at 0 l).start kind.Plain (optional_name_of (part 1 l)) (parameters_of (part 2 l)).elements (parameters_of (part 2 l)).rest (statements_of (part 3 l)) is h

pub function_expression_good : (b : ℕ) (l : List Phrase) → AllGood (suc b) l → Good (more b) (function_expression l)
function_expression_good b l h = deep2 b _ _ (expr.outs-Function (plain_function l)) refl ((plain_fits (suc b) l h).0, tt)

pub function_declaration_good : (b : ℕ) (l : List Phrase) → AllGood (suc b) l → Good (more b) (function_declaration l)
function_declaration_good b l h = deep2_statement b _ _ (stmt.outs-FunctionDeclaration (plain_function l)) (plain_kind is_declared_kind l refl) ((plain_fits (suc b) l h).0, tt)

-- ARROWS

arrow_fits : (n : ℕ) (p : Parameters) (x : Body) → ParametersGood n p → Fit n (walk.body x) → FunctionFit (suc n) (arrow p x)
arrow_fits n p x h z = function_by n p.place kind.Arrow None p.elements p.rest x h.0 h.1 z

pub arrow_good : (b : ℕ) (l : List Phrase) → AllGood (suc b) l → Good (more b) (arrow_function l)
arrow_good b l h =
    let fits : FunctionFit (suc (suc (suc b))) (arrow (arrow_parameters_of (part 0 l)) (body_of (part 2 l))) =
    arrow_fits (suc (suc b)) (arrow_parameters_of (part 0 l)) (body_of (part 2 l)) (arrow_parameters_good b (part 0 l) (part_good (suc b) 0 l h))
    (down (suc b) (walk.body (body_of (part 2 l))) (body_good (suc b) (part 2 l) (part_good (suc b) 2 l h))) in
    deep3 b _ _ (expr.outs-Function (arrow (arrow_parameters_of (part 0 l)) (body_of (part 2 l)))) refl (fits.0, tt)

pub expression_body_good : (b : ℕ) (l : List Phrase) → AllGood (suc b) l → Good (suc b) (expression_body l)
expression_body_good b l h = at b 0 l h

-- METHODS

lift_function : (n : ℕ) (f : Function) → FunctionFit n f → FunctionFit (suc n) f
lift_function n f h = (deeper n (FunctionPart false f) h.0, deeper n (FunctionPart true f) h.1)

lift3_function : (n : ℕ) (f : Function) → FunctionGood n f → FunctionGood (suc (suc (suc n))) f
lift3_function n f h = (lift_function (suc (suc n)) f (lift_function (suc n) f (lift_function n f h.0)), h.1)

pub method_tail_good : (b : ℕ) (l : List Phrase) → AllGood (suc b) l → Good (more b) (method_tail l)
method_tail_good b l h =
    let ps : ParametersGood (suc b) (parameters_of (part 0 l)) = parameters_good (suc b) (part 0 l) (part_good (suc b) 0 l h) in
    lift3_function (suc (suc b)) (function (parameters_of (part 0 l)).place kind.Method None (parameters_of (part 0 l)).elements (parameters_of (part 0 l)).rest (statements_of (part 1 l)))
    (function_good (parameters_of (part 0 l)).place kind.Method None (parameters_of (part 0 l)).elements (parameters_of (part 0 l)).rest (statements_of (part 1 l)) (suc b) refl
    ps.0 ps.1 (statements_good (suc b) (part 1 l) (part_good (suc b) 1 l h)))

function_of_good : (b : ℕ) (p : Phrase) → Good (suc b) p → FunctionGood (suc b) (function_of p)
function_of_good b (phrase.Function f) h = h
function_of_good b _ h = function_good NO_PLACE kind.Plain None [] None [] b refl tt tt tt

member_by : (n : ℕ) (place : Place) (is_static : Bool) (k : PropertyKey) (f : Function) → Fit n (walk.key k) → FunctionGood n f → MemberGood n (member place is_static k f)
member_by n place is_static k f x y =
    subst (λ r. Fit n (walk.key r.key) × FunctionGood n r.function) (sym (out-roll-ClassMember (record { place = place; is_static = is_static; key = k; function = f }))) (x, y)

method_member_good : (n : ℕ) (k : PropertyKey) (f : Function) → Fit n (walk.key k) → FunctionGood n f → MemberGood n (method_member k f)
method_member_good n k f x h = member_by n (key_place k) false k (moved_function (key_place k) f) x (moved_good n f (key_place k) h)

pub method_good : (b : ℕ) (l : List Phrase) → AllGood (suc b) l → Good (suc b) (method l)
method_good b l h = method_member_good (suc b) (key_of (part 0 l)) (function_of (part 1 l)) (key_good (suc b) (part 0 l) (part_good (suc b) 0 l h)) (function_of_good b (part 1 l) (part_good (suc b) 1 l h))

pub static_named_good : (source : List ℕ) (b : ℕ) (l : List Phrase) → AllGood (suc b) l → Good (suc b) (static_named_method source l)
static_named_good source b l h = method_member_good (suc b) (key.Named (identifier source (token_at 0 l))) (function_of (part 1 l)) (named_key (suc b) (identifier source (token_at 0 l))) (function_of_good b (part 1 l) (part_good (suc b) 1 l h))

accessor_good : (b : ℕ) (place : Place) (k : FunctionKind) (x : PropertyKey) (ps : List PatternElement) (l : List Phrase) → is_member_kind k ≡ true → Fit (suc b) (walk.key x) → Fit (suc b) (flat (walk.element false) ps) → AllGood (suc b) l → Good (more b) (accessor place k x ps l)
accessor_good b place k x ps l is z y h =
    member_by (more b) place false x (function place k None ps None (statements_of (part 1 l))) (wide b (walk.key x) z)
    (lift3_function (suc (suc b)) (function place k None ps None (statements_of (part 1 l))) (function_good place k None ps None (statements_of (part 1 l)) (suc b) is y tt (statements_good (suc b) (part 1 l) (part_good (suc b) 1 l h))))

pub getter_good : (b : ℕ) (l : List Phrase) → AllGood (suc b) l → Good (more b) (getter l)
getter_good b l h = accessor_good b (token_at 0 l).start kind.Getter (key_of (part 1 l)) [] (behind 3 l) refl (key_good (suc b) (part 1 l) (part_good (suc b) 1 l h)) tt (behind_good (suc b) 3 l h)

pub setter_good : (b : ℕ) (l : List Phrase) → AllGood (suc b) l → Good (more b) (setter l)
setter_good b l h =
    accessor_good b (token_at 0 l).start kind.Setter (key_of (part 1 l)) (element_of (part 3 l) ∷ []) (behind 4 l) refl (key_good (suc b) (part 1 l) (part_good (suc b) 1 l h))
    (spread (suc b) (walk.element false) (element_of (part 3 l) ∷ []) (element_good b (part 3 l) (part_good (suc b) 3 l h), tt)) (behind_good (suc b) 4 l h)

static_phrase_good : (n : ℕ) (place : Place) (p : Phrase) → Good n p → Good n (static_phrase place p)
static_phrase_good n place (phrase.Member m) h = member_by n place true (out-ClassMember m).key (moved_function place (out-ClassMember m).function) h.0 (moved_good n (out-ClassMember m).function place h.1)
static_phrase_good n place _ h = tt

pub static_element_good : (n : ℕ) (l : List Phrase) → AllGood n l → Good n (static_element l)
static_element_good n l h = static_phrase_good n (token_at 0 l).start (part 1 l) (part_good n 1 l h)

-- CLASSES

either_function : (n : ℕ) (c : Bool) (f : Function) → FunctionFit n f → Sits n (FunctionPart c f)
either_function n true f h = h.1
either_function n false f h = h.0

listed_member : (n : ℕ) (p : Phrase) → Good n p → All (MemberGood n) (member_of p)
listed_member n (phrase.Member m) h = (h, tt)
listed_member n _ h = tt

kinds : (n : ℕ) (l : List ClassMember) → All (MemberGood n) l → member_kinds l ≡ true
kinds n [] h = refl
kinds n (m ∷ l) h = rw (h.0.1.1, kinds n l h.1) refl

member_fits : (n : ℕ) (derived : Bool) (m : ClassMember) → MemberGood n m → Fit n (walk.member derived m)
member_fits n derived m h =
    join n (walk.key (out-ClassMember m).key) (FunctionPart (derived && walk.is_constructor m) (out-ClassMember m).function ∷ []) h.0
    (either_function n (derived && walk.is_constructor m) (out-ClassMember m).function h.1.0, tt)

class_sits : (n : ℕ) (l : List Phrase) → AllGood n l → Sits (suc n) (ClassPart (class_definition l))
class_sits n l h =
    let all : All (MemberGood n) (members_of (behind 3 l)) = made (Good n) (MemberGood n) member_of (behind 3 l) (listed_member n) (behind_good n 3 l h) in
    subst (λ r. (member_kinds r.members ≡ true) × Fit n (from_option walk.operand r.heritage ++ flat (walk.member (is_some r.heritage)) r.members))
    (sym (out-roll-Class (record { place = (token_at 0 l).start; name = optional_name_of (part 1 l); heritage = optional_expression_of (part 2 l); members = members_of (behind 3 l) }))) (
      kinds n (members_of (behind 3 l)) all,
      join n (from_option walk.operand (optional_expression_of (part 2 l))) (flat (walk.member (is_some (optional_expression_of (part 2 l)))) (members_of (behind 3 l)))
          (optional_good n (part 2 l) (part_good n 2 l h))
          (spread n (walk.member (is_some (optional_expression_of (part 2 l)))) (members_of (behind 3 l))
          (each (MemberGood n) (λ m. Fit n (walk.member (is_some (optional_expression_of (part 2 l))) m)) (members_of (behind 3 l)) (member_fits n (is_some (optional_expression_of (part 2 l)))) all)),
    )

pub class_expression_good : (b : ℕ) (l : List Phrase) → AllGood (suc b) l → Good (more b) (class_expression l)
class_expression_good b l h = deep2 b _ _ (expr.outs-Class (class_definition l)) refl (class_sits (suc b) l h, tt)

pub class_declaration_good : (b : ℕ) (l : List Phrase) → AllGood (suc b) l → Good (more b) (class_declaration l)
class_declaration_good b l h = deep2_statement b _ _ (stmt.outs-ClassDeclaration (class_definition l)) refl (class_sits (suc b) l h, tt)

pub class_heritage_good : (b : ℕ) (l : List Phrase) → AllGood (suc b) l → Good (suc b) (class_heritage l)
class_heritage_good b l h = at b 1 l h
