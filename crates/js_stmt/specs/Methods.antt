-- Methods, getters and setters, of object literals and of classes.
use Rattle.std.specs.Prelude.{ℕ, Bool, true, false, List, [], ◌∷◌, None}
use Rattle.lava_base.specs.declared.place.Place.{Place}
use Rattle.js_tree.specs.declared.tree.ClassMember.{ClassMember, roll-ClassMember, out-ClassMember}
use Rattle.js_tree.specs.declared.tree.Function.{Function}
use Rattle.js_tree.specs.declared.tree.FunctionKind.{FunctionKind}
use Rattle.js_tree.specs.declared.tree.FunctionKind.TheVariants as kind
use Rattle.js_tree.specs.declared.tree.PatternElement.{PatternElement}
use Rattle.js_tree.specs.declared.tree.PropertyKey.{PropertyKey}
use Rattle.js_tree.specs.declared.tree.PropertyKey.TheVariants as key
use Rattle.js_phrase.specs.declared.phrase.Phrase.{Phrase}
use Rattle.js_phrase.specs.declared.phrase.Phrase.TheVariants as phrase
use Rattle.js_phrase.specs.Phrases.{element_of, function_of, key_of, parameters_of, statements_of}
use Rattle.js_expr.specs.Names.{identifier}
use Rattle.js_expr.specs.Objects.{key_place, moved_function}
use Rattle.js_expr.specs.Parts.{part, behind, token_at}
use Rattle.js_stmt.specs.Functions.{function}

-- the parameters and the body of a method
-- ECMA-262 MethodDefinition
abbrev pub method_tail : List Phrase → Phrase
method_tail l = phrase.Function (function (parameters_of (part 0 l)).place kind.Method None
    (parameters_of (part 0 l)).elements (parameters_of (part 0 l)).rest (statements_of (part 1 l)))

abbrev pub member : Place → Bool → PropertyKey → Function → ClassMember
member place is_static k f =
    roll-ClassMember (record { place = place; is_static = is_static; key = k; function = f })

-- ECMA-262 MethodDefinition
abbrev pub method_member : PropertyKey → Function → ClassMember
method_member k f = member (key_place k) false k (moved_function (key_place k) f)

abbrev pub method : List Phrase → Phrase
method l = phrase.Member (method_member (key_of (part 0 l)) (function_of (part 1 l)))

-- a method that is called `static`
abbrev pub static_named_method : List ℕ → List Phrase → Phrase
static_named_method source l = phrase.Member
    (method_member (key.Named (identifier source (token_at 0 l))) (function_of (part 1 l)))

-- a getter or setter, of whose parts these are left: its `)` and its body
abbrev pub accessor : Place → FunctionKind → PropertyKey → List PatternElement → List Phrase → Phrase
accessor place kind k parameters l = phrase.Member
    (member place false k (function place kind None parameters None (statements_of (part 1 l))))

-- ECMA-262 MethodDefinition
abbrev pub getter : List Phrase → Phrase
getter l = accessor (token_at 0 l).start kind.Getter (key_of (part 1 l)) [] (behind 3 l)

-- ECMA-262 MethodDefinition
-- ECMA-262 PropertySetParameterList
abbrev pub setter : List Phrase → Phrase
setter l = accessor (token_at 0 l).start kind.Setter (key_of (part 1 l))
    (element_of (part 3 l) ∷ []) (behind 4 l)

-- the member, behind `static` at a place
abbrev pub static_member : Place → ClassMember → ClassMember
static_member place m =
    member place true (out-ClassMember m).key (moved_function place (out-ClassMember m).function)

abbrev pub static_phrase : Place → Phrase → Phrase
static_phrase place (phrase.Member m) = phrase.Member (static_member place m)
static_phrase place _ = phrase.Absent

-- `static` MethodDefinition
-- ECMA-262 ClassElement
abbrev pub static_element : List Phrase → Phrase
static_element l = static_phrase (token_at 0 l).start (part 1 l)
