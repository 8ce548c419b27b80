-- What a program is: a source with a syntax tree that breaks no early rule; and what is wrong with a source that is none.
use Rattle.std.specs.Prelude.{◌≡◌, ℕ, List, ◌⊎◌, Some, None}
use Rattle.lava_base.specs.declared.place.Place.{Place}
use Rattle.js_early.specs.Faults.{rule_name}
use Rattle.js_early.specs.Walks.{early_error}
use Rattle.js_early.specs.declared.fault.EarlyFault.{EarlyFault}
use Rattle.js_fault.specs.declared.fault.SyntaxFault.{SyntaxFault}
use Rattle.js_fault.specs.declared.fault.SyntaxFault.TheVariants as fault
use Rattle.js_fault.specs.declared.fault.SyntaxWhat.{SyntaxWhat}
use Rattle.js_fault.specs.declared.fault.SyntaxWhat.TheVariants as what
use Rattle.js_parser.specs.Trees.{IsModuleOf}
use Rattle.js_reader.specs.Sources.{IsSyntaxFault}
use Rattle.js_tree.specs.declared.tree.Module.{Module}
use Rattle.js_tree.specs.declared.tree.SourceKind.{SourceKind}

-- the syntax tree of a source, which has no early error
-- ECMA-262 ParseText
abbrev pub IsProgram : SourceKind → List ℕ → Module → Type 0
IsProgram kind source m = IsModuleOf kind source m × (early_error m ≡ None)

abbrev pub HasProgram : SourceKind → List ℕ → Type 0
HasProgram kind source = (m : Module) × IsProgram kind source m

-- a source has a syntax tree, whose early error is this one, at this place
-- ECMA-262 "Static Semantics: Early Errors"
abbrev pub IsEarlyError : SourceKind → List ℕ → Place → SyntaxWhat → Type 0
IsEarlyError kind source place w =
    (m : Module) × (f : EarlyFault) × IsModuleOf kind source m × (early_error m ≡ Some f) × (place ≡ f.place) × (w ≡ what.Early (rule_name f.rule))

-- what is wrong with a source, and at which place: by the grammars, or by an early rule where it has a syntax tree
-- own: which of several faults is told, and where
abbrev pub IsProgramFault : SourceKind → List ℕ → Place → SyntaxWhat → Type 0
IsProgramFault kind source place w = IsSyntaxFault source place w ⊎ IsEarlyError kind source place w

-- a refusal has its cause; want of memory may come anywhere
abbrev pub HasProgramCause : SourceKind → List ℕ → SyntaxFault → Type 0
HasProgramCause kind source (fault.At place w) = IsProgramFault kind source place w
HasProgramCause kind source fault.OutOfMemory = Unit {0}
