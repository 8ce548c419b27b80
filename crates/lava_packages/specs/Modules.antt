-- The modules of an application as the machine runs them.
use Rattle.std.specs.Prelude.{ℕ, List, [], ◌∷◌, nat_eq, if◌then◌else◌}
use Rattle.js_names.specs.Lists.{flat}
use Rattle.js_lower_table.specs.Table.{source_template_of}
use Rattle.ses_prelude.specs.js_lower.Helpers.{json_template}
use Rattle.js_term.specs.declared.term.Template.{Template}
use Rattle.js_text.specs.Utf8.{units_of}
use Rattle.lava_start.specs.declared.modules.SourceModule.{SourceModule}
use Rattle.pkg_load.specs.declared.module.LoadedModule.{LoadedModule}
use Rattle.pkg_source.specs.declared.code.ModuleCode.{ModuleCode}
use Rattle.pkg_source.specs.declared.code.ModuleCode.TheVariants as code

-- the template of a module: of a source that of its tree, of a text of JSON that of the text
-- own: modules are those of CommonJS
abbrev pub template_of : ModuleCode → (bytes : List ℕ) → Template
template_of (code.Source r) bytes = source_template_of r.source
template_of code.Json bytes = json_template (units_of bytes)

abbrev pub source_of : LoadedModule ModuleCode → SourceModule
source_of m = record { path = units_of m.path; template = template_of m.code m.text }

-- the modules of a package, in load order
abbrev pub sources_in : (owner : ℕ) → LoadedModule ModuleCode → List SourceModule
sources_in owner m = if nat_eq m.owner owner then source_of m ∷ [] else []

abbrev pub sources_of : (owner : ℕ) → List (LoadedModule ModuleCode) → List SourceModule
sources_of owner ms = flat (sources_in owner) ms
