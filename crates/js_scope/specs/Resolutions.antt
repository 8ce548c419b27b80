-- To which declaration each use of a name goes.
use Rattle.std.specs.Prelude.{◌==◌, ℕ, zero, suc, Bool, true, false, ◌&&◌, List, [], ◌∷◌, ◌++◌, codes, length, Option, Some, None, if◌then◌else◌}
use Rattle.js_text.specs.Texts.{same_units}
use Rattle.js_tree.specs.Layers.{ArgumentLayer, ExprLayer, LinkStepLayer, PatternLayer}
use Rattle.js_tree.specs.declared.tree.Argument.{Argument, out-Argument}
use Rattle.js_tree.specs.declared.tree.Argument.TheOpen.{Argument-F, Expr-F, LinkStep-F, Pattern-F}
use Rattle.js_tree.specs.declared.tree.Expr.{Expr, out-Expr}
use Rattle.js_tree.specs.declared.tree.Link.{Link, out-Link}
use Rattle.js_tree.specs.declared.tree.LinkStep.{out-LinkStep}
use Rattle.js_tree.specs.declared.tree.Module.{Module}
use Rattle.js_tree.specs.declared.tree.Pattern.{Pattern, out-Pattern}
use Rattle.lava_base.specs.declared.place.Place.{Place}
use Rattle.js_names.specs.Lists.{flat, from_option}
use Rattle.js_walk.specs.Parts.{TreePart, ExpressionPart, ModulePart, PatternPart, UpdatePart, parts_below}
use Rattle.js_names.specs.Scopes.{found_in, with_names}
use Rattle.js_names.specs.declared.declared.DeclaredName.{DeclaredName}
use Rattle.js_names.specs.declared.declared.FoundName.{FoundName}
use Rattle.js_scope.specs.Scopings.{names_of}
use Rattle.js_scope.specs.StaticPaths.{lone_name, path_of, used_path}
use Rattle.js_scope.specs.declared.finding.Binding.{Binding}
use Rattle.js_scope.specs.declared.finding.Finding.{Finding}
use Rattle.js_scope.specs.declared.finding.Finding.TheVariants.{Used, Requested}
use Rattle.js_scope.specs.declared.finding.ModuleRequest.{ModuleRequest}
use Rattle.js_scope.specs.declared.static_path.StaticPath.{StaticPath}
use Rattle.js_scope.specs.declared.resolve.Resolved.{Resolved}
use Rattle.js_scope.specs.declared.resolve.TheConstants.{SCOPE_DEPTH}
use Rattle.js_tree.specs.declared.tree.Identifier.{Identifier}

-- WHERE A NAME IS DECLARED

abbrev pub binding_at : ℕ → Option FoundName → Option Binding
binding_at level None = None
binding_at level (Some f) = Some (record { scope = level; at = f.at })

abbrev pub inner_or : Option Binding → Option Binding → Option Binding
inner_or (Some b) outer = Some b
inner_or None outer = outer

-- scopes stand from the outermost, which has this number
abbrev pub resolve_from : ℕ → List ℕ → List (List DeclaredName) → Option Binding
resolve_from level n [] = None
resolve_from level n (ds ∷ scopes) = inner_or (resolve_from (suc level) n scopes) (binding_at level (found_in n ds))

-- a name goes to the innermost scope that declares it, and is free where none does
-- ECMA-262 ResolveBinding
abbrev pub resolve_name : List ℕ → List (List DeclaredName) → Option Binding
resolve_name n scopes = resolve_from 0 n scopes

-- USES

abbrev pub use_of : List (List DeclaredName) → (writes : Bool) → StaticPath → Finding
use_of scopes writes p = Used (record { name = p.name; place = p.place; members = p.members; declaration = resolve_name p.name scopes; writes = writes })

abbrev pub use_path : List (List DeclaredName) → Bool → StaticPath → List Finding
use_path scopes writes p = use_of scopes writes p ∷ []

abbrev pub maybe_use : List (List DeclaredName) → Bool → Option StaticPath → List Finding
maybe_use scopes writes p = from_option (use_path scopes writes) p

abbrev pub written : List (List DeclaredName) → Expr → List Finding
written scopes e = maybe_use scopes true (path_of e)

abbrev pub bound : List (List DeclaredName) → Bool → Identifier → List Finding
bound scopes assigns i = if assigns then use_path scopes true (lone_name i) else []

abbrev pub pattern_use_at : List (List DeclaredName) → Bool → PatternLayer → List Finding
pattern_use_at scopes assigns (Pattern-F.Bound i) = bound scopes assigns i
pattern_use_at scopes assigns (Pattern-F.Target e) = written scopes e
pattern_use_at scopes assigns (Pattern-F.ObjectPattern place fs rest) = []
pattern_use_at scopes assigns (Pattern-F.ArrayPattern place es rest) = []

abbrev pub pattern_use : List (List DeclaredName) → Bool → Pattern → List Finding
pattern_use scopes assigns p = pattern_use_at scopes assigns (out-Pattern p)

-- REQUESTS

abbrev pub is_own_at : Option Binding → Bool
is_own_at None = false
is_own_at (Some b) = (b.scope == 0) && (b.at == 1)

-- the `require` that a module has before it begins, under this very name
abbrev pub is_own_require : List (List DeclaredName) → Option StaticPath → Bool
is_own_require scopes None = false
is_own_require scopes (Some p) = (length p.members == 0) && (same_units p.name (codes "require") && is_own_at (resolve_name p.name scopes))

abbrev pub requested : Place → List ℕ → List Finding
requested place text = Requested (record { text = text; place = place }) ∷ []

abbrev pub literal_at : Place → ExprLayer → List Finding
literal_at place (Expr-F.String _ text) = requested place text
literal_at place _ = []

abbrev pub literal : Place → Expr → List Finding
literal place e = literal_at place (out-Expr e)

abbrev pub argument_literal_at : Place → ArgumentLayer → List Finding
argument_literal_at place (Argument-F.Operand e) = literal place e
argument_literal_at place (Argument-F.SpreadArgument e) = []

abbrev pub argument_literal : Place → Argument → List Finding
argument_literal place a = argument_literal_at place (out-Argument a)

abbrev pub first_literal : Place → List Argument → List Finding
first_literal place [] = []
first_literal place (a ∷ rest) = argument_literal place a

abbrev pub request : List (List DeclaredName) → Place → Expr → List Argument → List Finding
request scopes place callee arguments = if is_own_require scopes (path_of callee) then first_literal place arguments else []

abbrev pub step_request_at : List (List DeclaredName) → Place → Expr → LinkStepLayer → List Finding
step_request_at scopes place base (LinkStep-F.CallLink l) = request scopes place base l
step_request_at scopes place base _ = []

abbrev pub link_request : List (List DeclaredName) → Place → Expr → Link → List Finding
link_request scopes place base l = step_request_at scopes place base (out-LinkStep (out-Link l).step)

abbrev pub chain_request : List (List DeclaredName) → Place → Expr → List Link → List Finding
chain_request scopes place base [] = []
chain_request scopes place base (l ∷ ls) = link_request scopes place base l

abbrev pub request_at : List (List DeclaredName) → ExprLayer → List Finding
request_at scopes (Expr-F.Call place callee l) = request scopes place callee l
request_at scopes (Expr-F.Chain place base ls) = chain_request scopes place base ls
request_at scopes _ = []

-- a call of the module's own `require` with a string first
-- own: the modules that are reached follow from these
abbrev pub expression_request : List (List DeclaredName) → Expr → List Finding
expression_request scopes e = request_at scopes (out-Expr e)

-- THE WALK

abbrev pub expression_findings : List (List DeclaredName) → Expr → List Finding
expression_findings scopes e = maybe_use scopes false (used_path e) ++ expression_request scopes e

abbrev pub part_findings : List (List DeclaredName) → TreePart → List Finding
part_findings scopes (ExpressionPart e) = expression_findings scopes e
part_findings scopes (UpdatePart place e) = written scopes e
part_findings scopes (PatternPart assigns p) = pattern_use scopes assigns p
part_findings scopes _ = []

abbrev pub with_scope : List (List DeclaredName) → List DeclaredName → List (List DeclaredName)
with_scope scopes ds = if length ds == 0 then scopes else scopes ++ with_names [] ds ∷ []

module _ (findings : List (List DeclaredName) → TreePart → List Finding) where
  abbrev pub all_findings : List (List DeclaredName) → List TreePart → List Finding
  all_findings scopes ps = flat (findings scopes) ps

  abbrev pub findings_row : List (List DeclaredName) → TreePart → List Finding
  findings_row scopes p = part_findings scopes p ++ all_findings (with_scope scopes (names_of p)) (parts_below p)

abbrev pub findings_to : ℕ → List (List DeclaredName) → TreePart → List Finding
findings_to zero scopes p = []
findings_to (suc d) scopes p = findings_row (findings_to d) scopes p

unfoldable pub findings_from : ℕ → Module → List Finding
findings_from d m = findings_to d [] (ModulePart m)

-- the uses of names and the requests of a source, in the order of the text; as deep as the parts of a tree of 256 levels stand
unfoldable pub findings_of : Module → List Finding
findings_of m = findings_from SCOPE_DEPTH m

abbrev pub resolved : Module → Resolved
resolved m = record { source = m; findings = findings_of m }

abbrev pub request_in : Finding → List ModuleRequest
request_in (Used u) = []
request_in (Requested r) = r ∷ []
