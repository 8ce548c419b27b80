-- A run on the machine of all parties.
use Rattle.std.specs.Prelude.{◌≡◌, ℕ, suc, ◌+◌, Bool, List, [], ◌∷◌, length, Option}
use Rattle.js_world.specs.js_run.Completions as halt
use Rattle.js_world.specs.js_run.Heap.{Over_with, begins, heap}
use Rattle.js_world.specs.js_run.Journal.{Application, Fault, outside_of}
use Rattle.js_world.specs.js_run.Outside.{IsGone}
use Rattle.js_world.specs.Crossings.{Rests}
use Rattle.js_world.specs.js_machine.declared.stop.Stop.TheVariants as stop
use Rattle.js_world.specs.Worlds.{HasStopped, IsOver, Stands, WorldView}
use Rattle.js_world.specs.js_crossing.declared.ending.Ending.TheVariants as ending
use Rattle.js_world.specs.js_crossing.declared.ending.Turn.{Turn}
use Rattle.js_world.specs.js_crossing.declared.ending.Turn.TheVariants as turn
use Rattle.lava_host.specs.Hosts.{HostWorld}
use Rattle.lava_host.specs.declared.fault.Which.{Which}
use Rattle.lava_driver.specs.declared.run.Ran.{Ran}
use Rattle.lava_driver.specs.Talks.{Agrees, AreTalks, Talk, newest_failed}

-- where a run stands, after so many crossings
abbrev pub StandsAt : Application → (budget crossings : ℕ) → WorldView → Turn → Type 0
StandsAt app budget n v (turn.Runs m) = Stands app (heap app budget n) v m
StandsAt app budget n v (turn.Over e) = IsOver app (heap app budget (suc n)) v e
StandsAt app budget n v (turn.Asks p) = HasStopped app (heap app budget n) v (stop.Outside p) (heap app budget (suc n))

-- how many crossings have made the journal that a run has there
abbrev pub made_at : Turn → ℕ → ℕ
made_at (turn.Runs m) n = n
made_at (turn.Over e) n = suc n
made_at (turn.Asks p) n = n

-- how many crossings the journal has with the one by which a turn comes, if there is one
abbrev pub counted : Turn → ℕ → ℕ
counted (turn.Runs m) n = n + 1
counted (turn.Over ending.Done) n = n + 1
counted (turn.Over ending.Uncaught) n = n + 1
counted (turn.Over (ending.Budget p)) n = n
counted (turn.Over (ending.Fault p h)) n = n
counted (turn.Asks p) n = n

-- after so much was asked and answered the machine stands there, and the journal has so many crossings, in each application that begins as the first world rests and whose outside answers so
pub record IsUnderway (first : WorldView) (talks : List Talk) (now : WorldView) (t : Turn) (count : ℕ) : Type 0 where
  pub crossings : ℕ
  pub stands : (app : Application) → Rests app (begins app) first → Agrees app talks → StandsAt app first.budget crossings now t
  pub counts : (app : Application) → Rests app (begins app) first → Agrees app talks → count ≡ length (heap app first.budget (made_at t crossings)).journal
  pub budget : now.budget ≡ first.budget

-- in each application of these the outside that answers what was asked before, and has no answer here, ends the run here: so this is what the run asks next
abbrev pub IsAskedIn : (Application → Type 0) → (budget : ℕ) → Talk → (older : List Talk) → Type 0
IsAskedIn Begins budget t older =
    (app : Application) → Begins app → Agrees app older → outside_of app t.party t.calls ≡ IsGone → (crossings : ℕ) × ((heap app budget crossings).control ≡ Over_with (Fault t.party halt.Outside))

abbrev pub AreAskedIn : (Application → Type 0) → (budget : ℕ) → List Talk → Type 0
AreAskedIn Begins budget [] = Unit {0}
AreAskedIn Begins budget (t ∷ ts) = IsAskedIn Begins budget t ts × AreAskedIn Begins budget ts

-- an application begins as the first world rests
abbrev pub BeginsSo : WorldView → Application → Type 0
BeginsSo first app = Rests app (begins app) first

-- the same, with what was done to the outside meanwhile, and the object of it that has failed last
pub record HasComeTo (emit : Bool) (dir : List ℕ) (first : WorldView) (before : HostWorld) (now : WorldView) (t : Turn) (failed : Option Which) (count : ℕ) (after : HostWorld) : Type 0 where
  pub talks : List Talk
  pub outside : AreTalks emit dir talks before after
  pub asked : AreAskedIn (BeginsSo first) first.budget talks
  pub underway : IsUnderway first talks now t count
  pub newest : failed ≡ newest_failed talks

-- the run is over: the outside is as the host's answers have left it, and in each application that begins as the first world rests and whose outside answers so the machine of all parties ends so, with these steps, and its journal has so many crossings
pub record HasRun (emit : Bool) (dir : List ℕ) (first : WorldView) (before : HostWorld) (now : WorldView) (r : Ran) (after : HostWorld) : Type 0 where
  pub come : HasComeTo emit dir first before now (turn.Over r.ending) r.failed r.crossings after
