-- A run of all parties, to its end or to a call of the outside.
use Rattle.std.specs.Prelude.{◌≡◌, ◌+◌, ℕ, zero, suc, Bool, true, false}
use Rattle.js_crossing.specs.js_run.Heap as heap
use Rattle.js_crossing.specs.js_run.Heap.{cross}
use Rattle.js_crossing.specs.js_run.Journal.{Application}
use Rattle.js_crossing.specs.js_machine.declared.frame.Mode.{Mode}
use Rattle.js_world.specs.Worlds.{After, Stands, WorldView}
use Rattle.js_crossing.specs.declared.ending.Turn.{Turn}
use Rattle.js_crossing.specs.declared.ending.Turn.TheVariants as turn

-- the world after so many crossings more
abbrev pub after_crossings : Application → (budget crossings : ℕ) → heap.World → heap.World
after_crossings app budget zero w = w
after_crossings app budget (suc n) w = let x = after_crossings app budget n w in cross app budget x x.control

abbrev pub runs_still : Turn → Bool
runs_still (turn.Runs m) = true
runs_still t = false

-- the machine is over at the end of the crossing after so many, wherever the world stands as it does, or the outside is asked on the way there; and so it is where the world is that of a run from its beginning
pub record Ends (old : WorldView) (m : Mode) (new : WorldView) (t : Turn) : Type 0 where
  pub crossings : ℕ
  pub ends : (app : Application) (w : heap.World) → Stands app w old m → After app (after_crossings app old.budget crossings w) (after_crossings app old.budget (suc crossings) w) new t
  pub heaps : (app : Application) (k : ℕ) → Stands app (heap.heap app old.budget k) old m → After app (heap.heap app old.budget (k + crossings)) (heap.heap app old.budget (k + suc crossings)) new t
  pub budget : new.budget ≡ old.budget

-- the machine has gone on for so many crossings
pub record IsOn (old : WorldView) (m : Mode) (i : ℕ) (now : WorldView) (after : Mode) : Type 0 where
  pub on : (app : Application) (w : heap.World) → Stands app w old m → Stands app (after_crossings app old.budget i w) now after
  pub budget : now.budget ≡ old.budget
