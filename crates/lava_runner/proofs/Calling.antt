-- The calls that are put to the outside are those of the journal.
use Rattle.std.proofs.Common.{◌≡◌, ℕ, zero, suc, List, [], ◌∷◌, ap}
use Rattle.js_host_laws.specs.Calls.{Gone_at_the_newest, HasHost, host_calls_of}
use Rattle.lava_driver.specs.js_run.Completions as halt
use Rattle.lava_driver.specs.js_run.Heap.{Over_with, heap}
use Rattle.lava_driver.specs.js_run.Journal.{Application, Fault}
use Rattle.lava_driver.specs.js_run.Laws.{ending_of}
use Rattle.lava_driver.specs.js_run.Outside.{OutsideCall}
use Rattle.lava_runner.specs.Called.{AreCalledIn, EndsCalled, IsCalledIn, IsGoneAt}
use Rattle.lava_driver.specs.Ran.{AreAskedIn, IsAskedIn}
use Rattle.lava_driver.specs.Talks.{Agrees, Talk}

-- another party than the host has an answer, whatever it asks
these : Gone_at_the_newest → (app : Application) → HasHost app → (budget crossings p : ℕ) (calls : List OutsideCall) → IsGoneAt app p calls → (heap app budget crossings).control ≡ Over_with (Fault p halt.Outside)
    → host_calls_of app (heap app budget crossings).journal ≡ calls
these law app has budget n zero calls g e = law app has budget n (ap ending_of e) calls g.alone
these law app has budget n (suc p) calls g e = let none = g.gone in absurd cc

called : Gone_at_the_newest → (Begins : Application → Type 0) → ((app : Application) → Begins app → HasHost app) → (budget : ℕ) (t : Talk) (older : List Talk) → IsAskedIn Begins budget t older → IsCalledIn Begins budget t older
called law Begins has budget t older asked app b a g =
    let e = asked app b a g.gone in
    record { crossings = e.0; ends = e.1; calls = these law app (has app b) budget e.0 t.party t.calls g e.1 }

pub are_called : Gone_at_the_newest → (Begins : Application → Type 0) → ((app : Application) → Begins app → HasHost app) → (budget : ℕ) (ts : List Talk) → AreAskedIn Begins budget ts → AreCalledIn Begins budget ts
are_called law Begins has budget [] a = tt
are_called law Begins has budget (t ∷ ts) a = (called law Begins has budget t ts a.0, are_called law Begins has budget ts a.1)
