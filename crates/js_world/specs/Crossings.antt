-- What each part of a crossing comes to.
use Rattle.std.specs.Prelude.{◌≡◌, ◌<◌, ◌+◌, ◌-◌, ℕ, List, [], ◌∷◌, Option, None, Some, length}
use Rattle.lava_base.specs.declared.ids.MadeSymbol.{MadeSymbol}
use Rattle.lava_base.specs.declared.ids.Ref.{Ref}
use Rattle.js_text.specs.declared.value.Value.{Value}
use Rattle.js_desc.specs.declared.ask.Ask.{Ask}
use Rattle.js_desc.specs.declared.reply.Reply.{Reply}
use Rattle.js_crossing.specs.js_run.Acts.{Give}
use Rattle.js_crossing.specs.js_run.Completions.{Replied}
use Rattle.js_crossing.specs.js_run.Heap as heap
use Rattle.js_crossing.specs.js_run.Heap.{goes_on, hands}
use Rattle.js_crossing.specs.js_run.Journal.{Application, is_host, owner_of}
use Rattle.js_crossing.specs.js_run.Runs.{Asks, Request}
use Rattle.js_crossing.specs.js_machine.Begun.{Left, with_left}
use Rattle.js_crossing.specs.js_machine.Steps.{LeadsTo}
use Rattle.js_crossing.specs.js_machine.Stops.{IsRun}
use Rattle.js_crossing.specs.js_machine.Views.{View, party_of}
use Rattle.js_crossing.specs.js_machine.declared.asked.Answer.{Answer}
use Rattle.js_crossing.specs.js_machine.declared.frame.Mode.{Mode}
use Rattle.js_crossing.specs.js_machine.declared.stop.Stop.{Stop}
use Rattle.js_crossing.specs.js_machine.declared.stop.Stop.TheVariants as stop
use Rattle.js_crossing.specs.Shows.{shows_reply}
use Rattle.js_world.specs.Worlds.{After, Counts, HasNewest, HasOwn, HasStopped, Stands, Suits, WorldView, charged, steps_of, waits_of}
use Rattle.js_crossing.specs.declared.ending.Turn.{Turn}
use Rattle.js_world.specs.declared.waiting.Waiting.{Waiting}

-- no party runs, and each has its own things as the world has them
pub record Rests (app : Application) (w : heap.World) (v : WorldView) : Type 0 where
  pub suits : Suits app v
  pub own : (q : ℕ) → HasOwn app w v q
  pub counts : Counts app w v

-- the party in the machine has run as far as this
pub record RunsHere (m : Mode) (old new : WorldView) (s : Stop) : Type 0 where
  pub there : old.machine.me < length old.others
  pub paid : old.machine.me < length old.steps
  pub runs : let p = old.machine.me in IsRun (is_host p) None (steps_of old p + (old.budget - old.spent)) (steps_of old p) m old.machine new.machine s
  pub rest : new ≡ record old { machine = new.machine }

-- ASKS

-- what a party sends to another one is in the journal, and the receiver is to run
pub record HandsOver (app : Application) (w : heap.World) (v : WorldView) (q : ℕ) (o : Request Ref MadeSymbol) : Type 0 where
  pub rests : Rests app w v
  pub control : w.control ≡ hands app w.journal w.own q o

-- an ask leaves the party
pub record IsSent (r : Ref) (n : ℕ) (old new : WorldView) (x : Ask Ref MadeSymbol) : Type 0 where
  pub sends : (app : Application) (w after : heap.World) → HasStopped app w old (stop.Sent r n) after → HandsOver app after new (owner_of r) (Asks r x)
  pub empty : new.machine.frames ≡ []
  pub budget : new.budget ≡ old.budget

-- the receiver runs
pub record IsTaken (q : ℕ) (o : Request Ref MadeSymbol) (old new : WorldView) (m : Mode) : Type 0 where
  pub takes : (app : Application) (w : heap.World) → HandsOver app w old q o → HasNewest app w old → Stands app w new m
  pub budget : new.budget ≡ old.budget

-- REPLIES

abbrev pub newest : List Waiting → Option Waiting
newest [] = None
newest (b ∷ bs) = Some b

-- the machine after a reply is taken from it, with what others may know of it
pub record HasGiven (r : Reply Ref MadeSymbol) (n : ℕ) (old new : WorldView) : Type 0 where
  pub values : List (Value Ref MadeSymbol)
  pub answer : Answer
  pub given : new ≡ charged old.machine.me n (record old { machine = shows_reply r (record old.machine { values = values; answer = answer }) })

-- a body is to go on with a reply that is in the journal
pub record GoesOn (app : Application) (w : heap.World) (v : WorldView) (b : Waiting) (r : Reply Ref MadeSymbol) : Type 0 where
  pub rests : Rests app w v
  pub control : w.control ≡ (let k = waits_of app v.machine.code b in goes_on app w.journal w.own k.0 k.1 r)

-- the machine goes on with a body and a reply to it
pub record Replies (b : Left) (r : Reply Ref MadeSymbol) (old new : View) (m : Mode) : Type 0 where
  pub leads : let low = with_left b old in LeadsTo (λ a. Give (Replied r) (party_of a low)) low new m

-- it goes on
pub record IsResumed (b : Waiting) (r : Reply Ref MadeSymbol) (old new : WorldView) (m : Mode) : Type 0 where
  pub takes : (app : Application) (w : heap.World) → GoesOn app w old b r → HasNewest app w old → Stands app w new m
  pub budget : new.budget ≡ old.budget

-- A STOP

-- the world comes to its next crossing
pub record Follows (s : Stop) (old new : WorldView) (t : Turn) : Type 0 where
  pub follows : (app : Application) (w after : heap.World) → HasStopped app w old s after → After app w after new t
  pub budget : new.budget ≡ old.budget
