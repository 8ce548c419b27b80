-- Isolation holds of each run: the laws of isolation, over the application that a run has.
use Rattle.std.proofs.Common.{◌≡◌, ◌≢◌, ℕ, zero, suc, Bool, true, false, ◌&&◌, ◌||◌, not, List, [], ◌∷◌, ◌++◌, map, get_or, slice_get, nat_eq, Option, Some, None, IfOk, Result, Ok, Err, refl, sym, ap, ◌∙◌, subst, if◌then◌else◌}
use Rattle.std.specs.Cmp.{unsigned_Decides}
use Rattle.lava_base.specs.declared.ids.MadeSymbol.{MadeSymbol}
use Rattle.lava_base.specs.declared.ids.Ref.{Ref}
use Rattle.lava_driver.specs.js_run.Chain.{GoesRight, IsChain}
use Rattle.lava_driver.specs.js_run.Heap.{heap}
use Rattle.lava_driver.specs.js_run.Identities.{Message, Requests, Replies}
use Rattle.lava_driver.specs.js_run.Journal.{Application, Crossing, Ending, first_import}
use Rattle.lava_driver.specs.js_run.Laws as laws
use Rattle.lava_driver.specs.js_run.Laws.{Cut_off_is_its_own, Each_is_its_own, IsWellMade, Journal_is_lawful, Journal_is_net}
use Rattle.lava_driver.specs.js_run.Chain.{Journal_is_chain}
use Rattle.lava_driver.specs.js_run.Mine.{Each_shows_its_own, Same_things_same_views}
use Rattle.lava_driver.specs.js_run.Parties.{Shared}
use Rattle.lava_driver.specs.js_run.Runs.{Asks, Imports, Makes}
use Rattle.lava_driver.specs.js_run.View.{Each_has_its_view, Same_things_same_runs}
use Rattle.lava_driver.specs.js_world.Worlds.{ending_of}
use Rattle.lava_host.specs.Hosts.{HostWorld}
use Rattle.lava_packages.specs.Commons.{IsCommonPart}
use Rattle.lava_packages.specs.Packages.{link_of, may_link, parts_from, run_parts}
use Rattle.lava_packages.specs.declared.common.CommonPart.{CommonPart}
use Rattle.lava_packages.specs.lava_start.Applications.{PartyLink, allowed_links, all_starts, leads_there, may_cross, may_import, no_start, package_starts, start_at}
use Rattle.lava_packages.specs.lava_start.Laws.{Runs_are_well_made}
use Rattle.lava_packages.specs.pkg_source.declared.code.ModuleCode.{ModuleCode}
use Rattle.lava_packages.proofs.In_range.{parts_in_range}
use Rattle.lava_report.specs.declared.report.Mode.{Mode}
use Rattle.lava_report.specs.declared.report.Mode.TheVariants as mode
use Rattle.lava_report.specs.declared.report.Report.{Report}
use Rattle.lava_runner.specs.Isolated.{AreByRow, Each_run_isolates, IsAllowed, IsByRow, IsIsolated, IsIsolatedRun, Isolates, MayImport, ReadAlike, Runs_are_isolated, Same_packages_same_runs, Same_packages_same_views, common_in}
use Rattle.lava_runner.specs.Reports.{IsApplicationOf, IsRunOf}
use Rattle.pkg_graph.specs.declared.graph.Package.{Package}
use Rattle.pkg_graph.specs.declared.link.Link.{Link}
use Rattle.pkg_load.specs.Applications as loads
use Rattle.pkg_load.specs.declared.module.LoadedModule.{LoadedModule}
use Rattle.policy_row.specs.Rows.{Rows, may_reach}

-- IMPORTS ARE ALLOWED BY ROWS

first_true : (a b : Bool) → (a && b) ≡ true → a ≡ true
first_true true b h = refl
first_true false b h = absurd cc

module _ (packages : List Package) (policy : Rows) where
  -- the package of a number, which a row of this name allows
  abbrev Reached : (name : List ℕ) → ℕ → Type 0
  Reached name n = (y : Package) × (slice_get packages n ≡ Some y) × (may_reach policy name y.name ≡ true)

  -- what a link of a package of this name leads to
  abbrev LeadsTo : (name : List ℕ) → ℕ → Type 0
  LeadsTo name r = (j : ℕ) × (r ≡ suc j) × Reached name j

  allowed_there : (name : List ℕ) (o : Option Package) (b : Bool) → (may_link policy name o && b) ≡ true → (y : Package) × (o ≡ Some y) × (may_reach policy name y.name ≡ true)
  allowed_there name None b h = absurd cc
  allowed_there name (Some y) b h = (y, refl, first_true (may_reach policy name y.name) b h)

  link_leads : (name : List ℕ) (ls : List Link) (r : ℕ) → leads_there (allowed_links (map (link_of packages policy name) ls)) r ≡ true → LeadsTo name r
  link_leads name [] r h = absurd cc
  link_leads name (l ∷ ls) r h = by (may_cross k) refl h (link_leads name ls r)
    where
      k : PartyLink
      k = link_of packages policy name l

      rest : List PartyLink
      rest = allowed_links (map (link_of packages policy name) ls)

      here : may_cross k ≡ true → (b : Bool) → nat_eq k.party r ≡ b → (b || leads_there rest r) ≡ true → (leads_there rest r ≡ true → LeadsTo name r) → LeadsTo name r
      here may true same h next = (l.target, sym ((unsigned_Decides k.party r).0 same), allowed_there name (slice_get packages l.target) (not (nat_eq k.party 0)) may)
      here may false same h next = next h

      by : (b : Bool) → may_cross k ≡ b → leads_there (if b then k ∷ rest else rest) r ≡ true → (leads_there rest r ≡ true → LeadsTo name r) → LeadsTo name r
      by true may h next = here may (nat_eq k.party r) refl h next
      by false may h next = next h

  -- a package that may import is one of those that run, and its row allows the other one
  package_leads : (ms : List (LoadedModule ModuleCode)) (left : List Package) (p owner i r : ℕ) → leads_there (allowed_links (get_or (package_starts p (parts_from packages ms policy owner left)) i no_start).links) r ≡ true
      → (x : Package) × (slice_get left i ≡ Some x) × LeadsTo x.name r
  package_leads ms [] p owner i r h = absurd cc
  package_leads ms (x ∷ left) p owner zero r h = (x, refl, link_leads x.name x.links r h)
  package_leads ms (x ∷ left) p owner (suc i) r h = package_leads ms left (suc p) (suc owner) i r h

  host_leads : (r : ℕ) (b : Bool) → nat_eq 1 r ≡ b → (b || false) ≡ true → r ≡ 1
  host_leads r true same h = sym ((unsigned_Decides 1 r).0 same)
  host_leads r false same h = absurd cc

  may_import_by_row : (ms : List (LoadedModule ModuleCode)) (s r : ℕ) → may_import (start_at (all_starts (parts_from packages ms policy 0 packages)) s).links r ≡ true → MayImport packages policy s r
  may_import_by_row ms zero r h = host_leads r (nat_eq 1 r) refl h
  may_import_by_row ms (suc i) r h =
      let found = package_leads ms packages 1 0 i r h in
      let to = found.2 in
      subst (MayImport packages policy (suc i)) (sym to.1) (record { from = found.0; to = to.2.0; first = found.1; second = to.2.1; allowed = to.2.2 })

  module _ (app : Application) (allows : (s r : ℕ) → app.allows s r ≡ true → MayImport packages policy s r) where
    one_by_row : (m : Message Ref MadeSymbol) (s r : ℕ) (older : List Crossing) → GoesRight app m s r older → IsByRow packages policy m s r
    one_by_row (Requests (Imports link path)) s r older g = allows s r g.1
    one_by_row (Requests (Asks o x)) s r older g = tt
    one_by_row (Requests (Makes globals modules meter)) s r older g = tt
    one_by_row (Replies c) s r older g = tt

    are_by_row : (journal : List Crossing) → IsChain app journal → AreByRow packages policy journal
    are_by_row [] c = tt
    are_by_row (x ∷ []) c = (subst (λ (x : Crossing). IsByRow packages policy x.sent.body x.sender x.receiver) (sym c) refl, tt)
    are_by_row (x ∷ y ∷ older) c = (one_by_row x.sent.body x.sender x.receiver (y ∷ older) c.0.goes, are_by_row (y ∷ older) c.1)

-- THE APPLICATION OF A RUN

module _ (made : Runs_are_well_made) (c : CommonPart) (packages : List Package) (ms : List (LoadedModule ModuleCode)) (policy : Rows) (app : Application) (a : IsApplicationOf (run_parts c packages ms policy) app) where
  is_well_made : IsWellMade app
  is_well_made = subst IsWellMade (sym a.is) (made (run_parts c packages ms policy) a.surroundings (parts_in_range packages ms policy 0 packages))

  has_common : IsCommonPart c → IsCommonPart (common_in app)
  has_common part = subst IsCommonPart (sym (ap common_in a.is)) part

  allows_by_row : (s r : ℕ) → app.allows s r ≡ true → MayImport packages policy s r
  allows_by_row s r h = may_import_by_row packages policy ms s r (sym (ap (λ (x : Application). x.allows s r) a.is) ∙ h)

pub runs_are_isolated : Journal_is_net → Each_is_its_own → Cut_off_is_its_own → Journal_is_lawful → Journal_is_chain → Each_has_its_view → Each_shows_its_own → Runs_are_well_made → Runs_are_isolated
runs_are_isolated same own cut lawful chain views shows made c part packages ms policy app a budget crossings e is =
    let well = is_well_made made c packages ms policy app a in
    record {
      apart = same app well budget crossings;
      alone = λ p marks agree. own app well budget crossings e p is marks agree;
      fronts = λ n p marks none agree. cut app well budget n p none marks agree;
      lawful = lawful app well budget crossings;
      chain = chain app budget crossings;
      imports = are_by_row packages policy app (allows_by_row made c packages ms policy app a) (heap app budget crossings).journal (chain app budget crossings);
      views = λ p. views app budget crossings p;
      shows = λ p other. shows app well budget crossings e p other is;
      common = has_common made c packages ms policy app a part;
    }

-- EACH RUN

pub each_run_isolates : Runs_are_isolated → Each_run_isolates
each_run_isolates law mode.Emit dir app policy budget before after r run =
    λ a i g. law run.common run.part app.packages app.modules policy a i budget run.crossings (ending_of r.ending) (ap laws.ending_of (run.ends a i g).machine)
each_run_isolates law mode.Trace dir app policy budget before after r run =
    λ a i g. law run.common run.part app.packages app.modules policy a i budget run.crossings (ending_of r.ending) (ap laws.ending_of (run.ends a i g).ends.machine)

pub is_isolated : {E : Type 0} → Each_run_isolates → (k : Result Report E) (m : Mode) (dir : List ℕ) (app : loads.Application ModuleCode) (policy : Rows) (budget : ℕ) (before after : HostWorld)
    → IfOk k (IsRunOf m dir app policy budget before after) → IfOk k (IsIsolatedRun m dir app policy budget before after)
is_isolated law (Ok r) m dir app policy budget before after run = record { run = run; isolated = law m dir app policy budget before after r run }
is_isolated law (Err e) m dir app policy budget before after run = tt

-- TWO RUNS

one_shared : (made : Runs_are_well_made) (c : CommonPart) (xs ys : List Package) (ms ns : List (LoadedModule ModuleCode)) (policy rows : Rows) (app other : Application)
    → IsApplicationOf (run_parts c xs ms policy) app → IsApplicationOf (run_parts c ys ns rows) other → ReadAlike app other → app.shared ≡ other.shared
one_shared made c xs ys ms ns policy rows app other a b alike =
    let objects = ap (λ (x : Application). x.shared.objects) a.is ∙ sym (ap (λ (x : Application). x.shared.objects) b.is) in
    let templates = ap (λ (x : Application). x.shared.templates) a.is ∙ sym (ap (λ (x : Application). x.shared.templates) b.is) in
    λ j. record { objects = objects j; templates = templates j; number_of = alike.numbers j; find = alike.parts j; program = alike.programs j }

pub same_packages_same_runs : Same_things_same_runs → Runs_are_well_made → Same_packages_same_runs
same_packages_same_runs law made c xs ys ms ns policy rows app other i k alike budget limit m n d e p q np nq ends ends_too a b start allows marks newer came =
    law app other (is_well_made made c xs ms policy app i) (is_well_made made c ys ns rows other k) budget limit m n d e p q np nq ends ends_too a b (one_shared made c xs ys ms ns policy rows app other i k alike) start allows marks newer came

pub same_packages_same_views : Same_things_same_views → Runs_are_well_made → Same_packages_same_views
same_packages_same_views law made c xs ys ms ns policy rows app other i k alike budget limit m n d e p q np nq ends ends_too a b start left allows marks newer came =
    law app other (is_well_made made c xs ms policy app i) (is_well_made made c ys ns rows other k) budget limit m n d e p q np nq ends ends_too a b (one_shared made c xs ys ms ns policy rows app other i k alike) start left allows marks newer came
