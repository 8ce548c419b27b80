-- That what the outside is asked is what the journal says: the host's calls are its crossings.
use Rattle.std.specs.Prelude.{◌≡◌, ℕ, List, [], ◌∷◌}
use Rattle.js_host_laws.specs.Calls.{host_calls_of}
use Rattle.lava_driver.specs.js_run.Completions as halt
use Rattle.lava_driver.specs.js_run.Heap.{Over_with, heap}
use Rattle.lava_driver.specs.js_run.Journal.{Application, Fault, outside_of}
use Rattle.lava_driver.specs.js_run.Outside.{OutsideCall, IsGone}
use Rattle.lava_driver.specs.Talks.{Agrees, Talk}

-- the outside has no answer to a party's calls, and to no others
pub record IsGoneAt (app : Application) (party : ℕ) (calls : List OutsideCall) : Type 0 where
  pub gone : outside_of app party calls ≡ IsGone
  pub alone : (cs : List OutsideCall) → app.outside cs ≡ IsGone → cs ≡ calls

-- the run ends there, and the calls of its journal at functions of the host are these, in their order and as they are printed
pub record EndsCalled (app : Application) (budget : ℕ) (t : Talk) : Type 0 where
  pub crossings : ℕ
  pub ends : (heap app budget crossings).control ≡ Over_with (Fault t.party halt.Outside)
  pub calls : host_calls_of app (heap app budget crossings).journal ≡ t.calls

-- in each application of these whose outside answers what was asked before, and has no answer here alone, the run comes to exactly these calls
abbrev pub IsCalledIn : (Application → Type 0) → (budget : ℕ) → Talk → (older : List Talk) → Type 0
IsCalledIn Begins budget t older = (app : Application) → Begins app → Agrees app older → IsGoneAt app t.party t.calls → EndsCalled app budget t

abbrev pub AreCalledIn : (Application → Type 0) → (budget : ℕ) → List Talk → Type 0
AreCalledIn Begins budget [] = Unit {0}
AreCalledIn Begins budget (t ∷ ts) = IsCalledIn Begins budget t ts × AreCalledIn Begins budget ts
