-- The machine of all parties before a run of packages.
use Rattle.std.proofs.Common.{◌≡◌, ℕ, List, map, subst, Result, IfOk}
use Rattle.js_term.specs.declared.term.Template.{Template}
use Rattle.lava_start.specs.js_world.Worlds.{WorldView}
use Rattle.lava_start.specs.Firsts.{IsFirstWorld, parts_of, run_parts_of}
use Rattle.lava_start.specs.declared.packages.PackageSource.{PackageSource}
use Rattle.pkg_graph.specs.declared.graph.Package.{Package}
use Rattle.pkg_load.specs.declared.module.LoadedModule.{LoadedModule}
use Rattle.pkg_source.specs.declared.code.ModuleCode.{ModuleCode}
use Rattle.policy_row.specs.Rows.{Rows}
use Rattle.lava_packages.specs.Packages.{IsFirstOf, parts_from}
use Rattle.lava_packages.specs.declared.common.CommonPart.{CommonPart}

pub first_over : {E : Type 0} (r : Result WorldView E) (c : CommonPart) (packages : List Package) (ms : List (LoadedModule ModuleCode)) (policy : Rows) (budget : ℕ) (sources : List PackageSource) (templates : List Template) (slice : List PackageSource) → map parts_of sources ≡ parts_from packages ms policy 0 packages
    → templates ≡ c.templates → slice ≡ sources → IfOk r (IsFirstWorld (run_parts_of c.objects templates slice) budget) → IfOk r (IsFirstOf packages ms policy c budget)
first_over r c packages ms policy budget sources templates slice e t s h =
    let made : IfOk r (IsFirstWorld (run_parts_of c.objects c.templates sources) budget) =
    subst (λ xs. IfOk r (IsFirstWorld (run_parts_of c.objects c.templates xs) budget)) s (subst (λ ts. IfOk r (IsFirstWorld (run_parts_of c.objects ts slice) budget)) t h)
    in
    subst (λ ps. IfOk r (IsFirstWorld (record { common = c.objects; templates = c.templates; packages = ps }) budget)) e made
