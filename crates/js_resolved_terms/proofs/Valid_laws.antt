-- What is the template of a program is valid.
use Rattle.std.proofs.Common.{◌≡◌, ℕ, List, sym, subst, Result, Ok, Err, IfOk}
use Rattle.lava_base.specs.declared.memory.OutOfMemory.{OutOfMemory}
use Rattle.js_term.specs.declared.term.Template.{Template}
use Rattle.js_lower_table.specs.Table.{source_template_of}
use Rattle.js_program.specs.Programs.{IsProgram}
use Rattle.js_tree.specs.declared.tree.Module.{Module}
use Rattle.js_tree.specs.declared.tree.SourceKind.{SourceKind}
use Rattle.js_valid.specs.Valid.{IsValid}

pub valid_made : ((kind : SourceKind) (source : List ℕ) (m : Module) → IsProgram kind source m → IsValid (source_template_of m))
    → (m : Module) (result : Result Template OutOfMemory) → IfOk result (λ made. made ≡ source_template_of m)
    → (kind : SourceKind) (source : List ℕ) → IsProgram kind source m → IfOk result IsValid
valid_made law m (Ok made) same kind source is = subst IsValid (sym same) (law kind source m is)
valid_made law m (Err e) same kind source is = tt
