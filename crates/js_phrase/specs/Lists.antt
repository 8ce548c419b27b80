-- What a form takes of the parts that are left: all that are of one kind, in order. What is of no such kind, as the commas between them, is
-- passed over.
use Rattle.std.specs.Prelude.{List, [], ◌∷◌, ◌++◌, Option, Some, None}
use Rattle.lava_base.specs.declared.place.Place.{Place}
use Rattle.js_lexer.specs.declared.token.Token.{Token}
use Rattle.js_text.specs.declared.text.Text.{Text}
use Rattle.js_tree.specs.declared.tree.Argument.{Argument}
use Rattle.js_tree.specs.declared.tree.Argument.TheVariants as argument
use Rattle.js_tree.specs.declared.tree.ClassMember.{ClassMember}
use Rattle.js_tree.specs.declared.tree.Clause.{Clause}
use Rattle.js_tree.specs.declared.tree.Expr.{Expr}
use Rattle.js_tree.specs.declared.tree.Pattern.{Pattern}
use Rattle.js_tree.specs.declared.tree.PatternElement.{PatternElement}
use Rattle.js_tree.specs.declared.tree.PatternField.{PatternField}
use Rattle.js_tree.specs.declared.tree.Stmt.{Stmt}
use Rattle.js_phrase.specs.declared.phrase.Parameters.{Parameters}
use Rattle.js_phrase.specs.declared.phrase.Phrase.{Phrase}
use Rattle.js_phrase.specs.declared.phrase.Phrase.TheVariants as phrase
use Rattle.js_phrase.specs.Phrases.{parenthesized}

-- what f gives for each item, in order
abbrev pub flat : {A B : Type 0} → (A → List B) → List A → List B
flat f [] = []
flat f (x ∷ l) = f x ++ flat f l

-- what f makes of a value, one item after the other
abbrev pub folded : {A B : Type 0} → (A → B → A) → A → List B → A
folded f a [] = a
folded f a (x ∷ l) = folded f (f a x) l

-- ECMA-262 ArgumentList
abbrev pub argument_of : Phrase → List Argument
argument_of (phrase.Expression e) = argument.Operand e ∷ []
argument_of (phrase.Covered c) = argument.Operand (parenthesized c) ∷ []
argument_of (phrase.Spread e) = argument.SpreadArgument e ∷ []
argument_of _ = []

abbrev pub arguments_of : List Phrase → List Argument
arguments_of l = flat argument_of l

-- ECMA-262 StatementList
abbrev pub listed_statement : Phrase → List Stmt
listed_statement (phrase.Statement s) = s ∷ []
listed_statement _ = []

abbrev pub statement_list : List Phrase → List Stmt
statement_list l = flat listed_statement l

-- ECMA-262 ClassElementList
abbrev pub member_of : Phrase → List ClassMember
member_of (phrase.Member m) = m ∷ []
member_of _ = []

abbrev pub members_of : List Phrase → List ClassMember
members_of l = flat member_of l

-- ECMA-262 CaseClauses
-- ECMA-262 DefaultClause
abbrev pub clause_of : Phrase → List Clause
clause_of (phrase.Clause c) = c ∷ []
clause_of (phrase.Clauses l) = l
clause_of _ = []

abbrev pub clauses_of : List Phrase → List Clause
clauses_of l = flat clause_of l

-- ECMA-262 VariableDeclarationList
-- ECMA-262 BindingList
abbrev pub listed_element : Phrase → List PatternElement
listed_element (phrase.Element x) = x ∷ []
listed_element _ = []

abbrev pub elements_of : List Phrase → List PatternElement
elements_of l = flat listed_element l

-- what stands behind `...`
abbrev pub with_rest : Option Pattern → Phrase → Option Pattern
with_rest old (phrase.Rest p) = Some p
with_rest old _ = old

abbrev pub rest_in : List Phrase → Option Pattern
rest_in l = folded with_rest None l

-- ECMA-262 FormalParameters
abbrev pub parameter_list : Place → List Phrase → Parameters
parameter_list place l = record { place = place; elements = elements_of l; rest = rest_in l }

-- ECMA-262 BindingPropertyList
abbrev pub field_of : Phrase → List PatternField
field_of (phrase.Field f) = f ∷ []
field_of _ = []

abbrev pub fields_of : List Phrase → List PatternField
fields_of l = flat field_of l

-- ECMA-262 TemplateMiddleList
abbrev pub string_of : Phrase → List Text
string_of (phrase.Substitution s) = s.string ∷ []
string_of _ = []

abbrev pub strings_of : List Phrase → List Text
strings_of l = flat string_of l

abbrev pub substitution_of : Phrase → List Expr
substitution_of (phrase.Substitution s) = s.value ∷ []
substitution_of _ = []

abbrev pub substitutions_of : List Phrase → List Expr
substitutions_of l = flat substitution_of l

abbrev pub later_token : Token → Phrase → Token
later_token old (phrase.Token t) = t
later_token old _ = old

-- the last token, or the one given
abbrev pub last_token : Token → List Phrase → Token
last_token t l = folded later_token t l
