-- How the party of a package stands, as a run begins.
use Rattle.std.proofs.Common.{◌≡◌, ◌<◌, ℕ, zero, suc, ◌+◌, false, List, [], ◌∷◌, length, get_or, Some, ap, ◌∙◌, sym, arith}
use Rattle.std.proofs.lemmas.Bool.{ne_eqb}
use Rattle.std.proofs.lemmas.Option.{slice_get-get_or}
use Rattle.std.specs.Prelude.{slice_get}
use Rattle.lava_packages.specs.Packages.{package_parts, parts_from, start_in}
use Rattle.lava_packages.specs.lava_start.Applications.{PartyStart, all_starts, no_start, package_start, package_starts, start_at}
use Rattle.lava_packages.specs.pkg_source.declared.code.ModuleCode.{ModuleCode}
use Rattle.pkg_graph.specs.declared.graph.Package.{Package}
use Rattle.pkg_load.specs.Applications.{Application as App}
use Rattle.pkg_load.specs.Requirements.{package_at, package_or}
use Rattle.pkg_load.specs.declared.module.LoadedModule.{LoadedModule}
use Rattle.policy_gen.specs.Generated.{generated}
use Rattle.policy_gen.specs.Laws.{IsOther}
use Rattle.policy_globals.specs.Starts.{start_for}
use Rattle.policy_row.specs.Rows.{Rows, at_name}

pub package_there : (packages : List Package) (k : ℕ) → k < length packages → slice_get packages k ≡ Some (package_at packages k)
package_there packages k lt =
    let there = slice_get-get_or packages k (package_at packages k) lt in
    there ∙ ap Some (sym (ap package_or there))

start_of_place : (all : List Package) (ms : List (LoadedModule ModuleCode)) (policy : Rows) (ps : List Package) (k o q n m : ℕ) (p : Package) → slice_get ps k ≡ Some p → n ≡ o + k → m ≡ q + k
    → get_or (package_starts q (parts_from all ms policy o ps)) k no_start ≡ package_start m (package_parts all ms policy n p)
start_of_place all ms policy [] k o q n m p e i j = absurd (cc)
start_of_place all ms policy (x ∷ ps) zero o q n m p e i j =
    let same : x ≡ p = cc in
    let place : o ≡ n = omega (arith, i) in
    let party : q ≡ m = omega (arith, j) in
    cc
start_of_place all ms policy (x ∷ ps) (suc k) o q n m p e i j = start_of_place all ms policy ps k (suc o) (suc q) n m p e (omega (arith, i)) (omega (arith, j))

-- the start of a package in a run under the policy that the sources show
abbrev pub start_in_run : App ModuleCode → (owner : ℕ) → PartyStart
start_in_run app owner = start_at (all_starts (parts_from app.packages app.modules (generated app) 0 app.packages)) (suc owner)

abbrev pub start_made : App ModuleCode → (owner : ℕ) → PartyStart
start_made app owner = package_start (suc owner) (package_parts app.packages app.modules (generated app) owner (package_at app.packages owner))

pub is_made : (app : App ModuleCode) (owner : ℕ) → IsOther app.packages owner → start_in_run app owner ≡ start_made app owner
is_made app owner other =
    start_of_place app.packages app.modules (generated app) app.packages owner 0 1 owner (suc owner) (package_at app.packages owner)
    (package_there app.packages owner other.there) (omega arith) (omega arith)

-- it is not trusted
pub start_by_row : (app : App ModuleCode) (owner : ℕ) (name : List ℕ) → IsOther app.packages owner → start_in (generated app) owner name ≡ start_for (at_name name (generated app)) false
start_by_row app owner name other =
    ap (start_for (at_name name (generated app))) (ne_eqb owner 0 (λ e. let some = other.other in absurd (omega (arith, e, some))))
