-- What the machine does with an answer of the outside.
use Rattle.std.specs.Prelude.{◌≡◌, None}
use Rattle.js_crossing.specs.js_run.Heap as heap
use Rattle.js_crossing.specs.js_run.Journal.{Application, outside_of}
use Rattle.js_crossing.specs.js_machine.Outsides.{IsAnswered, answer_of}
use Rattle.js_crossing.specs.js_machine.Stops.{RunsOn}
use Rattle.js_crossing.specs.js_machine.Views.{View}
use Rattle.js_crossing.specs.js_machine.declared.frame.Mode.{Mode}
use Rattle.js_crossing.specs.js_machine.declared.outside.HostAnswer.{HostAnswer}
use Rattle.js_crossing.specs.js_machine.declared.stop.Pause.{Pause}
use Rattle.js_crossing.specs.js_machine.declared.stop.Stop.{Stop}
use Rattle.js_crossing.specs.js_machine.declared.stop.Stop.TheVariants as stop
use Rattle.js_world.specs.Worlds.{After, HasStopped, WorldView}
use Rattle.js_crossing.specs.declared.ending.Turn.{Turn}

-- the machine has its answer, and has run on as far as this
pub record GoesOnAfter (p : Pause) (x : HostAnswer) (old new : View) (s : Stop) : Type 0 where
  pub mid : View
  pub mode : Mode
  pub answered : IsAnswered x old mid mode
  pub runs : RunsOn None p mode mid new s

-- in every application whose outside answers so, the machine comes to the end of the crossing that paused, or to another call before it
pub record Answers (p : Pause) (x : HostAnswer) (old new : WorldView) (t : Turn) : Type 0 where
  pub answers : (app : Application) (w after : heap.World) → HasStopped app w old (stop.Outside p) after → outside_of app old.machine.me old.machine.calls ≡ answer_of x → After app w after new t
  pub budget : new.budget ≡ old.budget
