-- What the grammar and its forms give each tree of a source: each chain has a `?.`, each function the kind of its place, and the parts of a
-- tree end within a depth.
use Rattle.std.specs.Prelude.{◌≡◌, ℕ, zero, suc, Bool, true, List, [], ◌∷◌}
use Rattle.js_tree.specs.Layers.{ExprLayer, StmtLayer}
use Rattle.js_tree.specs.declared.tree.Argument.TheOpen.{Expr-F, Stmt-F}
use Rattle.js_tree.specs.declared.tree.Class.{out-Class}
use Rattle.js_tree.specs.declared.tree.Expr.{out-Expr}
use Rattle.js_tree.specs.declared.tree.Function.{out-Function}
use Rattle.js_tree.specs.declared.tree.Module.{Module}
use Rattle.js_tree.specs.declared.tree.Stmt.{out-Stmt}
use Rattle.js_walk.specs.Parts.{TreePart, ClassPart, ExpressionPart, ModulePart, StatementPart}
use Rattle.js_lower_table.specs.Expressions.{has_optional}
use Rattle.js_lower_laws.specs.Sound.{is_declared_kind, member_kinds, property_kinds, whole_parts}
use Rattle.js_early.specs.declared.early.TheConstants.{WALK_DEPTH}

-- ECMA-262 OptionalExpression
abbrev pub expression_formed : ExprLayer → Bool
expression_formed (Expr-F.Chain place e l) = has_optional l
expression_formed (Expr-F.Object place l) = property_kinds l
expression_formed _ = true

abbrev pub statement_formed : StmtLayer → Bool
statement_formed (Stmt-F.FunctionDeclaration f) = is_declared_kind (out-Function f).kind
statement_formed _ = true

abbrev pub part_formed : TreePart → Bool
part_formed (ExpressionPart e) = expression_formed (out-Expr e)
part_formed (ClassPart k) = member_kinds (out-Class k).members
part_formed (StatementPart s) = statement_formed (out-Stmt s)
part_formed _ = true

-- a property holds of each item of a list
abbrev pub All : {A : Type 0} → (A → Type 0) → List A → Type 0
All P [] = Unit {0}
All P (x ∷ l) = P x × All P l

-- a part and all that stand below it are formed so, and end within so many parts below one another
abbrev pub Sits : ℕ → TreePart → Type 0
Sits zero p = ⊥
Sits (suc n) p = (part_formed p ≡ true) × All (Sits n) (whole_parts p)

unfoldable pub IsFormed_to : ℕ → Module → Type 0
IsFormed_to d m = Sits d (ModulePart m)

-- own: the tree of a source is formed so, and no deeper than the early rules are looked at
unfoldable pub IsFormed : Module → Type 0
IsFormed m = IsFormed_to WALK_DEPTH m
