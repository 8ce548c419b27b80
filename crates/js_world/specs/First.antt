-- How all parties stand before anything has run.
use Rattle.std.specs.Prelude.{◌≡◌, ◌<◌, ℕ, List, [], None, false, length, replicate}
use Rattle.js_crossing.specs.js_run.Heap.{begins}
use Rattle.js_crossing.specs.js_run.Journal.{Application, foreign_of}
use Rattle.js_crossing.specs.js_machine.Begun.{Own}
use Rattle.js_crossing.specs.js_machine.Views.{View}
use Rattle.js_world.specs.Crossings.{Rests}
use Rattle.js_crossing.specs.js_machine.declared.frame.Mode.{Mode}
use Rattle.js_world.specs.Worlds.{Stands, Suits, WorldView, own_here, party_with}
use Rattle.js_crossing.specs.declared.leads.Lead.{Lead}

-- a machine of all parties that has done nothing yet
abbrev pub as_new : View → List Own → List (List Lead) → (budget : ℕ) → WorldView
as_new machine others leads budget = record { machine = machine; others = others; leads = leads; steps = replicate (length others) 0; spent = 0; budget = budget; stack = []; last = None; tracing = false; newest = None; short = false }

-- each party has what the application has of it, and what is known is what the starts name
pub record IsFirst (app : Application) (v : WorldView) : Type 0 where
  pub suits : Suits app v
  pub own : (q : ℕ) → q < length v.others → app.own q ≡ party_with (app.own q) v.machine.code (own_here v q)
  pub known : v.machine.known ≡ foreign_of app []

-- it rests where a run begins
pub record RestsFirst (v : WorldView) : Type 0 where
  pub rests : (app : Application) → IsFirst app v → Rests app (begins app) v

-- where it rests where a run begins, it stands there afterwards
pub record IsBegun (old new : WorldView) (m : Mode) : Type 0 where
  pub begins : (app : Application) → Rests app (begins app) old → Stands app (begins app) new m
  pub budget : new.budget ≡ old.budget
