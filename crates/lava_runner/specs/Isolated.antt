-- Isolation of a run: its journal is the one that its parties make each by itself, what crosses in it was given, and the common part is what lockdown gave.
use Rattle.std.specs.Prelude.{◌≡◌, ◌≢◌, ℕ, zero, suc, true, List, [], ◌∷◌, ◌++◌, ⊤, Option, Some, None, slice_get}
use Rattle.lava_base.specs.declared.ids.MadeSymbol.{MadeSymbol}
use Rattle.lava_base.specs.declared.ids.Ref.{Ref}
use Rattle.lava_base.specs.declared.marks.Marks.{Marks}
use Rattle.lava_driver.specs.js_run.Chain.{IsChain}
use Rattle.lava_driver.specs.js_run.Heap.{heap}
use Rattle.lava_driver.specs.js_run.Identities.{Message, Requests, Replies}
use Rattle.lava_driver.specs.js_run.Journal.{Application, Crossing, Ending, table_of}
use Rattle.lava_driver.specs.js_run.Laws as laws
use Rattle.lava_driver.specs.js_run.Laws.{AgreeFor, IsLawful, Is_cut_off, Is_its_own, Tells_the_same}
use Rattle.lava_driver.specs.js_run.Mine.{Shows_its_own, Two_views, view_in}
use Rattle.lava_driver.specs.js_run.Net.{net}
use Rattle.lava_driver.specs.js_run.Runs.{Asks, Imports, Makes}
use Rattle.lava_driver.specs.js_run.View.{Has_view, Inside, SameMarks, Two_runs, inner_received, inner_start}
use Rattle.lava_driver.specs.js_world.Worlds.{ending_of}
use Rattle.lava_driver.specs.Talks.{Agrees, Talk}
use Rattle.lava_host.specs.Hosts.{HostWorld}
use Rattle.lava_packages.specs.Commons.{IsCommonPart}
use Rattle.lava_packages.specs.Packages.{run_parts}
use Rattle.lava_packages.specs.declared.common.CommonPart.{CommonPart}
use Rattle.lava_packages.specs.pkg_source.declared.code.ModuleCode.{ModuleCode}
use Rattle.lava_report.specs.declared.report.Mode.{Mode}
use Rattle.lava_report.specs.declared.report.Mode.TheVariants as mode
use Rattle.lava_report.specs.declared.report.Report.{Report}
use Rattle.lava_runner.specs.Reports.{IsApplicationOf, IsRunOf}
use Rattle.pkg_graph.specs.declared.graph.Package.{Package}
use Rattle.pkg_load.specs.Applications as loads
use Rattle.pkg_load.specs.declared.module.LoadedModule.{LoadedModule}
use Rattle.policy_row.specs.Rows.{Rows, may_reach}

-- THE COMMON PART

-- what all parties share of objects and templates. It is the application's, and no moment of a run has another one
abbrev pub common_in : Application → CommonPart
common_in app = record { objects = app.shared.objects; templates = app.shared.templates }

-- IMPORTS

-- the row of the first package allows the second one, by their canonical names; packages are numbered from 0
-- LavaMoat policy, packages
pub record IsAllowed (packages : List Package) (policy : Rows) (importer imported : ℕ) : Type 0 where
  pub from : Package
  pub to : Package
  pub first : slice_get packages importer ≡ Some from
  pub second : slice_get packages imported ≡ Some to
  pub allowed : may_reach policy from.name to.name ≡ true

-- a party may import another one: the host the application's own package, and a package what its row allows
abbrev pub MayImport : List Package → Rows → (sender receiver : ℕ) → Type 0
MayImport packages policy zero r = r ≡ 1
MayImport packages policy (suc i) zero = ⊥
MayImport packages policy (suc i) (suc j) = IsAllowed packages policy i j

abbrev pub IsByRow : List Package → Rows → Message Ref MadeSymbol → (sender receiver : ℕ) → Type 0
IsByRow packages policy (Requests (Imports link path)) s r = MayImport packages policy s r
IsByRow packages policy (Requests (Asks o x)) s r = ⊤
IsByRow packages policy (Requests (Makes globals modules meter)) s r = ⊤
IsByRow packages policy (Replies c) s r = ⊤

-- each import of a journal is allowed by the merged row of the package that asks
abbrev pub AreByRow : List Package → Rows → List Crossing → Type 0
AreByRow packages policy [] = ⊤
AreByRow packages policy (x ∷ older) = IsByRow packages policy x.sent.body x.sender x.receiver × AreByRow packages policy older

-- ISOLATION

-- the run of an application of these packages by this policy, which is over with this ending after so many crossings
-- own: isolation
pub record IsIsolated (packages : List Package) (policy : Rows) (app : Application) (budget crossings : ℕ) (e : Ending) : Type 0 where
  -- the machine of all parties tells what the network tells, in which each party has its own things and what came to it, and nothing else
  pub apart : Tells_the_same (heap app budget crossings) (net app budget crossings)
  -- each party, run by itself on what came to it, sent what it sent, in its steps, and stands as the ending says, whatever the marks of what was not given to it are
  pub alone : (p : ℕ) (marks : Ref → Marks) → AgreeFor app (heap app budget crossings) p (table_of app (heap app budget crossings).journal) marks → Is_its_own app (heap app budget crossings) e p marks
  -- so it is at each earlier moment, but that the receiver of the last crossing may have one more
  pub fronts : (n p : ℕ) (marks : Ref → Marks) → laws.ending_of (heap app budget n).control ≡ None → AgreeFor app (heap app budget n) p (table_of app (heap app budget n).journal) marks → Is_cut_off app (heap app budget n) p marks
  -- each object and made symbol that a party sends or asks is its own, or of the common part, or was given to it by its start or by an earlier crossing
  pub lawful : IsLawful app (heap app budget crossings).journal
  -- control passes from hand to hand, an ask goes to the owner of its target, and a reply closes the latest open ask
  pub chain : IsChain app (heap app budget crossings).journal
  -- each import is allowed by the merged row of the package that asks
  pub imports : AreByRow packages policy (heap app budget crossings).journal
  -- what a party sends, seen from inside, depends on what came to it, seen from inside, alone
  pub views : (p : ℕ) → Has_view app (heap app budget crossings) p
  -- and on its view of what came a package's own machine shows what the package shows
  pub shows : (p : ℕ) → p ≢ 0 → Shows_its_own app (heap app budget crossings) p
  -- the common part is that of the prelude as lockdown leaves it, and stands locked
  pub common : IsCommonPart (common_in app)

-- it holds of each application of a run, whatever its outside answers
abbrev pub Runs_are_isolated : Type 0
Runs_are_isolated =
    (c : CommonPart) → IsCommonPart c → (packages : List Package) (ms : List (LoadedModule ModuleCode)) (policy : Rows) (app : Application) → IsApplicationOf (run_parts c packages ms policy) app
    → (budget crossings : ℕ) (e : Ending) → laws.ending_of (heap app budget crossings).control ≡ Some e → IsIsolated packages policy app budget crossings e

-- THE RUN OF A CALL

-- in each application of these packages whose outside answers so
abbrev pub AreIsolated : loads.Application ModuleCode → (policy : Rows) → (budget crossings : ℕ) → CommonPart → List Talk → Ending → Type 0
AreIsolated app policy budget crossings c talks e =
    (a : Application) → IsApplicationOf (run_parts c app.packages app.modules policy) a → Agrees a talks → IsIsolated app.packages policy a budget crossings e

-- the journal of a run, whose printed lines or whose text is what the output got
abbrev pub Isolates : (m : Mode) → (dir : List ℕ) → (app : loads.Application ModuleCode) → (policy : Rows) → (budget : ℕ) → (before after : HostWorld) → (r : Report) → IsRunOf m dir app policy budget before after r → Type 0
Isolates mode.Emit dir app policy budget before after r run = AreIsolated app policy budget run.crossings run.common run.talks (ending_of r.ending)
Isolates mode.Trace dir app policy budget before after r run = AreIsolated app policy budget run.crossings run.common run.talks (ending_of r.ending)

-- it is a run, and that is isolated
pub record IsIsolatedRun (m : Mode) (dir : List ℕ) (app : loads.Application ModuleCode) (policy : Rows) (budget : ℕ) (before after : HostWorld) (r : Report) : Type 0 where
  pub run : IsRunOf m dir app policy budget before after r
  pub isolated : Isolates m dir app policy budget before after r run

-- and each run is
abbrev pub Each_run_isolates : Type 0
Each_run_isolates =
    (m : Mode) (dir : List ℕ) (app : loads.Application ModuleCode) (policy : Rows) (budget : ℕ) (before after : HostWorld) (r : Report) (run : IsRunOf m dir app policy budget before after r)
    → Isolates m dir app policy budget before after r run

-- TWO RUNS

-- they read texts as numbers, for a part and as programs in one way
pub record ReadAlike (app other : Application) : Type 0 where
  pub numbers : app.shared.number_of ≡ other.shared.number_of
  pub parts : app.shared.find ≡ other.shared.find
  pub programs : app.shared.program ≡ other.shared.program

-- two runs over one common part, each of an application by its own policy, that have a package of the same things, each under its own number:
-- where from inside the second received what the first did and maybe more, it sent what the first did and maybe more
-- own: isolation
abbrev pub Same_packages_same_runs : Type 0
Same_packages_same_runs =
    (c : CommonPart) (xs ys : List Package) (ms ns : List (LoadedModule ModuleCode)) (policy rows : Rows) (app other : Application)
    → IsApplicationOf (run_parts c xs ms policy) app → IsApplicationOf (run_parts c ys ns rows) other → ReadAlike app other
    → (budget limit m n : ℕ) (d e : Ending) (p q : ℕ) → p ≢ 0 → q ≢ 0
    → laws.ending_of (heap app budget m).control ≡ Some d → laws.ending_of (heap other limit n).control ≡ Some e
    → (a : Inside app (heap app budget m) p) (b : Inside other (heap other limit n) q)
    → inner_start a ≡ inner_start b → ((l : List ℕ) → app.allows p (app.links p l) ≡ other.allows q (other.links q l)) → SameMarks a b
    → (newer : List (Message Ref MadeSymbol)) → inner_received b ≡ newer ++ inner_received a
    → Two_runs a b newer

-- the same in views, where own objects and symbols are numbered in the order of their leaving
abbrev pub Same_packages_same_views : Type 0
Same_packages_same_views =
    (c : CommonPart) (xs ys : List Package) (ms ns : List (LoadedModule ModuleCode)) (policy rows : Rows) (app other : Application)
    → IsApplicationOf (run_parts c xs ms policy) app → IsApplicationOf (run_parts c ys ns rows) other → ReadAlike app other
    → (budget limit m n : ℕ) (d e : Ending) (p q : ℕ) → p ≢ 0 → q ≢ 0
    → laws.ending_of (heap app budget m).control ≡ Some d → laws.ending_of (heap other limit n).control ≡ Some e
    → (a : Inside app (heap app budget m) p) (b : Inside other (heap other limit n) q)
    → inner_start a ≡ inner_start b → app.left p ≡ other.left q → ((l : List ℕ) → app.allows p (app.links p l) ≡ other.allows q (other.links q l)) → SameMarks a b
    → (newer : List (Message Ref MadeSymbol)) → view_in b ≡ newer ++ view_in a
    → Two_views a b newer
