-- The faults of a tree: those of each part, in what stands round it.
use Rattle.std.specs.Prelude.{◌≡◌, ℕ, zero, suc, List, [], ◌++◌, Option, Some, if◌then◌else◌}
use Rattle.std.specs.Option.{option_map}
use Rattle.js_fault.specs.declared.fault.SyntaxFault.{SyntaxFault}
use Rattle.js_fault.specs.declared.fault.SyntaxFault.TheVariants.{At, OutOfMemory}
use Rattle.js_fault.specs.declared.fault.SyntaxWhat.TheVariants.{Early}
use Rattle.js_tree.specs.declared.tree.Module.{Module}
use Rattle.js_names.specs.Lists.{flat}
use Rattle.js_walk.specs.Parts.{TreePart, ModulePart, parts_below}
use Rattle.js_names.specs.declared.declared.DeclaredName.{DeclaredName}
use Rattle.js_early.specs.Contexts.{context_in, is_body, label_in, lexicals, source_context, with_label, with_scope}
use Rattle.js_early.specs.Faults.{least, rule_name}
use Rattle.js_early.specs.Rules.{part_faults, scope_faults}
use Rattle.js_early.specs.declared.context.EarlyContext.{EarlyContext}
use Rattle.js_early.specs.declared.context.EarlyLabel.{EarlyLabel}
use Rattle.js_early.specs.declared.early.TheConstants.{WALK_DEPTH}
use Rattle.js_early.specs.declared.fault.EarlyFault.{EarlyFault}

-- where `faults` gives those of a part, in a context, inside labels and scopes of its function, the outermost first
module _ (faults : EarlyContext → List EarlyLabel → List (List DeclaredName) → TreePart → List EarlyFault) where
  abbrev pub all_faults : EarlyContext → List EarlyLabel → List (List DeclaredName) → List TreePart → List EarlyFault
  all_faults c labels scopes ps = flat (faults c labels scopes) ps

  -- what stands below a part whose scope declares these names
  abbrev pub faults_below : EarlyContext → List EarlyLabel → List (List DeclaredName) → TreePart → List DeclaredName → List EarlyFault
  faults_below c labels scopes p ds =
      if is_body p then all_faults c [] (with_scope [] ds) (parts_below p) else all_faults c (with_label labels (label_in p)) (with_scope scopes ds) (parts_below p)

  abbrev pub faults_row : EarlyContext → List EarlyLabel → List (List DeclaredName) → TreePart → List EarlyFault
  faults_row c labels scopes p = part_faults c labels scopes p ++ (scope_faults p (lexicals p) ++ faults_below (context_in c p) labels scopes p (lexicals p))

abbrev pub faults_to : ℕ → EarlyContext → List EarlyLabel → List (List DeclaredName) → TreePart → List EarlyFault
faults_to zero c labels scopes p = []
faults_to (suc d) c labels scopes p = faults_row (faults_to d) c labels scopes p

unfoldable pub early_error_to : ℕ → Module → Option EarlyFault
early_error_to d m = least (faults_to d (source_context m.kind) [] [] (ModulePart m))

-- the early error of a source, if it has one; as deep as the parts of a tree of 256 levels stand
-- ECMA-262 "Static Semantics: Early Errors"
unfoldable pub early_error : Module → Option EarlyFault
early_error m = early_error_to WALK_DEPTH m

abbrev pub refusal : EarlyFault → SyntaxFault
refusal f = At f.place (Early (rule_name f.rule))

-- a refusal is that with the early error of a source, or one for want of memory
abbrev pub IsRefusal : Option EarlyFault → SyntaxFault → Type 0
IsRefusal early (At place what) = option_map refusal early ≡ Some (At place what)
IsRefusal early OutOfMemory = Unit {0}
