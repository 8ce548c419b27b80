-- What is known of the phrases that are made, and of what a form takes of one.
use Rattle.std.proofs.Common.{◌≡◌, ℕ, zero, suc, Bool, true, false, List, [], ◌∷◌, Option, None, refl, sym, subst}
use Rattle.js_tree.specs.Layers.{ForTargetLayer, PropertyKeyLayer, StmtLayer}
use Rattle.js_tree.specs.declared.tree.Argument.TheOpen.{Expr-F, ForTarget-F, Pattern-F, PropertyKey-F, Stmt-F}
use Rattle.js_tree.specs.declared.tree.ClassMember.{ClassMember, out-ClassMember}
use Rattle.js_tree.specs.declared.tree.Expr.{Expr}
use Rattle.js_tree.specs.declared.tree.Expr.TheVariants.{outs-This}
use Rattle.js_tree.specs.declared.tree.ForTarget.{ForTarget, out-ForTarget}
use Rattle.js_tree.specs.declared.tree.Function.{Function, out-Function}
use Rattle.js_tree.specs.declared.tree.Identifier.{Identifier}
use Rattle.js_tree.specs.declared.tree.LinkStep.{out-LinkStep}
use Rattle.js_tree.specs.declared.tree.LinkStep.TheVariants.{outs-MemberLink}
use Rattle.js_tree.specs.declared.tree.Pattern.{Pattern}
use Rattle.js_tree.specs.declared.tree.Pattern.TheVariants as pattern
use Rattle.js_tree.specs.declared.tree.PatternElement.{roll-PatternElement, out-roll-PatternElement}
use Rattle.js_tree.specs.declared.tree.Property.{Property, out-Property}
use Rattle.js_tree.specs.declared.tree.PropertyKey.{PropertyKey, out-PropertyKey}
use Rattle.js_tree.specs.declared.tree.PropertyKey.TheVariants.{outs-Numbered}
use Rattle.js_tree.specs.declared.tree.Stmt.{out-Stmt}
use Rattle.js_tree.specs.declared.tree.Stmt.TheVariants.{outs-Empty}
use Rattle.js_names.specs.Lists.{flat, from_option}
use Rattle.js_phrase.specs.Phrases.{block_of, default_of, element_of, expression_of, key_of, no_expression, no_name, no_pattern, optional_expression_of, optional_pattern_of, parenthesized, parameters_of, pattern_of, statement_of, statements_in, statements_of, step_of, tail_of}
use Rattle.js_phrase.specs.Queues.{rest_of}
use Rattle.js_phrase.specs.declared.phrase.ForHead.{ForHead}
use Rattle.js_phrase.specs.declared.phrase.ForHead.TheVariants as head
use Rattle.js_phrase.specs.declared.phrase.Operands.{Operands}
use Rattle.js_phrase.specs.declared.phrase.Operands.TheVariants as operands
use Rattle.js_phrase.specs.declared.phrase.Parameters.{Parameters}
use Rattle.js_phrase.specs.declared.phrase.Phrase.{Phrase}
use Rattle.js_phrase.specs.declared.phrase.Phrase.TheVariants as phrase
use Rattle.js_phrase.specs.declared.phrase.TryTail.{TryTail}
use Rattle.js_phrase.specs.declared.places.TheConstants.{NO_PLACE}
use Rattle.js_expr.specs.Parts.{behind, part}
use Rattle.js_walk.specs.Parts as walk
use Rattle.js_walk.specs.Parts.{ExpressionPart, FunctionPart, PatternPart, StatementPart}
use Rattle.js_lower_laws.specs.Sound.{is_member_kind, property_kind_at}
use Rattle.js_program_laws.specs.Formed.{All, Sits}
use Rattle.js_program_laws.proofs.Fits.{Fit, down2, expression_by, pattern_by, statement_by}

abbrev pub RestGood : ℕ → Option Pattern → Type 0
RestGood n r = Fit n (from_option (walk.pattern false) r)

abbrev pub ExprGood : ℕ → Expr → Type 0
ExprGood n e = Sits n (ExpressionPart e)

abbrev pub OperandsGood : ℕ → Operands → Type 0
OperandsGood n operands.NoOperand = Unit {0}
OperandsGood n (operands.Single e) = ExprGood n e
OperandsGood n (operands.Several l) = All (ExprGood n) l

abbrev pub PropertyGood : ℕ → Property → Type 0
PropertyGood n p = Fit n (walk.property p) × (property_kind_at (out-Property p) ≡ true)

-- a function as the constructor of a class, or as any other
abbrev pub FunctionFit : ℕ → Function → Type 0
FunctionFit n f = Sits n (FunctionPart false f) × Sits n (FunctionPart true f)

abbrev pub FunctionGood : ℕ → Function → Type 0
FunctionGood n f = FunctionFit n f × (is_member_kind (out-Function f).kind ≡ true)

abbrev pub MemberGood : ℕ → ClassMember → Type 0
MemberGood n m = Fit n (walk.key (out-ClassMember m).key) × FunctionGood n (out-ClassMember m).function

abbrev pub ParametersGood : ℕ → Parameters → Type 0
ParametersGood n p = Fit n (flat (walk.element false) p.elements) × RestGood n p.rest

-- what a for-in or for-of statement assigns to is one part deeper than what it covers
abbrev pub TargetAt : ℕ → ForTargetLayer → Type 0
TargetAt n (ForTarget-F.ForBinding kind p) = Sits (suc n) (PatternPart false p)
TargetAt n (ForTarget-F.ForAssignment p) = Sits (suc n) (PatternPart true p)

abbrev pub TargetGood : ℕ → ForTarget → Type 0
TargetGood n t = TargetAt n (out-ForTarget t)

abbrev pub HeadGood : ℕ → ForHead → Type 0
HeadGood n (head.Loop init test update) = Fit n (walk.for_init init) × Fit n (from_option walk.operand test) × Fit n (from_option walk.operand update)
HeadGood n (head.Of target e) = TargetGood n target × ExprGood n e
HeadGood n (head.In target e) = TargetGood n target × ExprGood n e

abbrev pub TailGood : ℕ → TryTail → Type 0
TailGood n t = RestGood n t.parameter × Fit n (from_option (flat walk.statement) t.handler) × Fit n (from_option (flat walk.statement) t.finalizer)

-- what a phrase has become ends within a depth
abbrev pub Good : ℕ → Phrase → Type 0
Good n phrase.Absent = Unit {0}
Good n (phrase.Token t) = Unit {0}
Good n (phrase.Name i) = Unit {0}
Good n (phrase.Expression e) = ExprGood n e
Good n (phrase.Covered c) = ExprGood n (parenthesized c) × OperandsGood n c.operands × RestGood n c.rest
Good n (phrase.Operands c) = OperandsGood n c.operands × RestGood n c.rest
Good n (phrase.Spread e) = ExprGood n e
Good n (phrase.Initializer e) = ExprGood n e
Good n (phrase.Key k) = Fit n (walk.key k)
Good n (phrase.Property p) = PropertyGood n p
Good n (phrase.Member m) = MemberGood n m
Good n (phrase.Function f) = FunctionGood n f
Good n (phrase.Parameters p) = ParametersGood n p
Good n (phrase.Slot x) = Fit n (walk.array_element x)
Good n (phrase.Step s) = Fit n (walk.link_step_at (out-LinkStep s))
Good n (phrase.Substitution s) = ExprGood n s.value
Good n (phrase.Pattern p) = Sits n (PatternPart false p)
Good n (phrase.Rest p) = Sits n (PatternPart false p)
Good n (phrase.Element x) = Fit n (walk.element false x)
Good n phrase.Hole = Unit {0}
Good n (phrase.Field f) = Fit n (walk.field false f)
Good n (phrase.Statement s) = Sits n (StatementPart s)
Good n (phrase.Statements l) = Fit n (flat walk.statement l)
Good n (phrase.Declaration d) = Fit n (walk.declaration d)
Good n (phrase.Head h) = HeadGood n h
Good n (phrase.Clause c) = Fit n (walk.clause c)
Good n (phrase.Clauses l) = Fit n (flat walk.clause l)
Good n (phrase.Tail t) = TailGood n t

abbrev pub AllGood : ℕ → List Phrase → Type 0
AllGood n l = All (Good n) l

-- PARTS

pub rest_good : (n : ℕ) (l : List Phrase) → AllGood n l → AllGood n (rest_of l)
rest_good n [] h = tt
rest_good n (x ∷ l) h = h.1

pub part_good : (n : ℕ) (i : ℕ) (l : List Phrase) → AllGood n l → Good n (part i l)
part_good n zero [] h = tt
part_good n zero (x ∷ l) h = h.0
part_good n (suc i) l h = part_good n i (rest_of l) (rest_good n l h)

pub behind_good : (n : ℕ) (i : ℕ) (l : List Phrase) → AllGood n l → AllGood n (behind i l)
behind_good n zero l h = h
behind_good n (suc i) l h = behind_good n i (rest_of l) (rest_good n l h)

-- WHAT IS TAKEN OF A PHRASE

pub this_good : (b : ℕ) → ExprGood (suc b) no_expression
this_good b = expression_by b no_expression (Expr-F.This NO_PLACE) (outs-This NO_PLACE) refl tt

pub expression_good : (b : ℕ) (p : Phrase) → Good (suc b) p → ExprGood (suc b) (expression_of p)
expression_good b (phrase.Expression e) h = h
expression_good b (phrase.Covered c) h = h.0
expression_good b _ h = this_good b

pub optional_good : (n : ℕ) (p : Phrase) → Good n p → Fit n (from_option walk.operand (optional_expression_of p))
optional_good n (phrase.Expression e) h = (h, tt)
optional_good n (phrase.Covered c) h = (h.0, tt)
optional_good n _ h = tt

pub default_good : (n : ℕ) (p : Phrase) → Good n p → Fit n (from_option walk.operand (default_of p))
default_good n (phrase.Initializer e) h = (h, tt)
default_good n _ h = tt

pub bound_good : (n : ℕ) (assigns : Bool) (i : Identifier) → Sits (suc n) (PatternPart assigns (pattern.Bound i))
bound_good n assigns i = pattern_by n assigns (pattern.Bound i) (Pattern-F.Bound i) (pattern.outs-Bound i) tt

pub pattern_good : (b : ℕ) (p : Phrase) → Good (suc b) p → Sits (suc b) (PatternPart false (pattern_of p))
pattern_good b (phrase.Name i) h = bound_good b false i
pattern_good b (phrase.Pattern p) h = h
pattern_good b _ h = bound_good b false no_name

pub optional_pattern_good : (b : ℕ) (p : Phrase) → Good (suc b) p → RestGood (suc b) (optional_pattern_of p)
optional_pattern_good b (phrase.Name i) h = (bound_good b false i, tt)
optional_pattern_good b (phrase.Pattern p) h = (h, tt)
optional_pattern_good b _ h = tt

pub key_by : (n : ℕ) (k : PropertyKey) (l : PropertyKeyLayer) → out-PropertyKey k ≡ l → Fit n (walk.key_at l) → Fit n (walk.key k)
key_by n k l e h = subst (λ x. Fit n (walk.key_at x)) (sym e) h

pub key_good : (n : ℕ) (p : Phrase) → Good n p → Fit n (walk.key (key_of p))
key_good n (phrase.Key k) h = h
key_good n _ h = key_by n _ (PropertyKey-F.Numbered NO_PLACE None) (outs-Numbered NO_PLACE None) tt

pub step_good : (n : ℕ) (p : Phrase) → Good n p → Fit n (walk.link_step_at (out-LinkStep (step_of p)))
step_good n (phrase.Step s) h = h
step_good n _ h = subst (λ x. Fit n (walk.link_step_at x)) (sym (outs-MemberLink no_name)) tt

pub statement_good : (b : ℕ) (p : Phrase) → Good (suc b) p → Sits (suc b) (StatementPart (statement_of p))
statement_good b (phrase.Statement s) h = h
statement_good b _ h = statement_by b _ (Stmt-F.Empty NO_PLACE) (outs-Empty NO_PLACE) refl tt

pub statements_good : (n : ℕ) (p : Phrase) → Good n p → Fit n (flat walk.statement (statements_of p))
statements_good n (phrase.Statements l) h = h
statements_good n _ h = tt

pub parameters_good : (n : ℕ) (p : Phrase) → Good n p → ParametersGood n (parameters_of p)
parameters_good n (phrase.Parameters p) h = h
parameters_good n _ h = (tt, tt)

pub tail_good : (n : ℕ) (p : Phrase) → Good n p → TailGood n (tail_of p)
tail_good n (phrase.Tail t) h = h
tail_good n _ h = (tt, tt, tt)

pub block_in : (n : ℕ) (l : StmtLayer) → Fit n (walk.statement_parts_at l) → Fit (suc n) (flat walk.statement (statements_in l))
block_in zero (Stmt-F.Block place l) h = absurd h.0
block_in (suc n) (Stmt-F.Block place l) h = down2 n (flat walk.statement l) h.0.1
block_in n _ h = tt

pub block_good : (b : ℕ) (p : Phrase) → Good (suc b) p → Fit (suc b) (flat walk.statement (block_of p))
block_good b (phrase.Statement s) h = block_in b (out-Stmt s) h.1
block_good b _ h = tt

-- AN ELEMENT OF A PATTERN

pub element_by : (n : ℕ) (assigns : Bool) (p : Pattern) (d : Option Expr) → Sits n (PatternPart assigns p) → Fit n (from_option walk.operand d)
    → Fit n (walk.element assigns (roll-PatternElement (record { pattern = p; default = d })))
element_by n assigns p d x y = subst (λ e. Fit n (PatternPart assigns e.pattern ∷ from_option walk.operand e.default)) (sym (out-roll-PatternElement (record { pattern = p; default = d }))) (x, y)

pub element_good : (b : ℕ) (p : Phrase) → Good (suc b) p → Fit (suc b) (walk.element false (element_of p))
element_good b (phrase.Element x) h = h
element_good b _ h = element_by (suc b) false no_pattern None (bound_good b false no_name) tt
