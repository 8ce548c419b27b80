-- How a run of a machine stops.
use Rattle.std.specs.Prelude.{◌≡◌, ℕ, Bool, Option, Some, None}
use Rattle.lava_base.specs.declared.ids.MadeSymbol.{MadeSymbol}
use Rattle.lava_base.specs.declared.ids.Ref.{Ref}
use Rattle.js_text.specs.Naming.{Naming, naming_of}
use Rattle.js_operation.specs.js_run.Completions as halt_kind
use Rattle.js_operation.specs.js_run.Parties.{Shared}
use Rattle.js_operation.specs.js_run.Runs as runs
use Rattle.js_operation.specs.js_run.Runs.{Asks, Imports, Charged, Due, Env, Gave, Lacks, Point, Sent, Short, Stopped, Stops, answered, at_steps, run, run_for, settle, work}
use Rattle.js_machine.specs.Halts.{halt_coded}
use Rattle.js_machine.specs.Looks.{foreign_in}
use Rattle.js_machine.specs.Steps.{Keeps, point_of}
use Rattle.js_machine.specs.Views.{Around, View, completion_of, fitting, halt_of, nexts_of, party_of}
use Rattle.js_machine.specs.declared.frame.Mode.{Mode}
use Rattle.js_machine.specs.declared.frame.Mode.TheVariants as mode
use Rattle.js_machine.specs.declared.stop.Charge as charge_type
use Rattle.js_machine.specs.declared.stop.Charge.TheVariants as charge
use Rattle.js_machine.specs.declared.stop.Pause.{Pause}
use Rattle.js_machine.specs.declared.stop.Stop as stop_type
use Rattle.js_machine.specs.declared.stop.Stop.TheVariants as stop

-- the steps that a run tells, where these are others than it takes
abbrev pub told_as : Option ℕ → runs.Stop Ref MadeSymbol → runs.Stop Ref MadeSymbol
told_as None s = s
told_as (Some n) s = at_steps n s

-- a run goes on after a pause
abbrev pub runs_on : Naming Ref MadeSymbol → Shared → Env Ref → Pause → Point Ref MadeSymbol → runs.Stop Ref MadeSymbol
runs_on names shared env p x = told_as p.told (run_for names shared env p.charges p.limit p.steps x)

-- a run that stops, with what the machine asks or its newest value. Where the outside is asked, it goes on once that has answered
abbrev pub stop_of : Around → View → stop_type.Stop → runs.Stop Ref MadeSymbol
stop_of a w (stop.Sent r n) = Sent (Asks r w.asked.ask) (party_of a w) (nexts_of (naming_of w.me) a.shared w.code w.frames w.values w.waits) n
stop_of a w (stop.Gave m n) = Gave (completion_of w m) (party_of a w) n
stop_of a w (stop.Stopped h n) = Stopped (halt_of h) n
stop_of a w (stop.Short n) = Short n
stop_of a w (stop.Imports n) = Sent (Imports w.imported.link w.imported.path) (party_of a w) (nexts_of (naming_of w.me) a.shared w.code w.frames w.values w.waits) n
stop_of a w (stop.Outside p) = runs_on (naming_of w.me) a.shared a.env p (point_of a w mode.Outside)

abbrev pub charge_of : charge_type.Charge → runs.Charge
charge_of charge.Charged = Charged
charge_of charge.Lacks = Lacks
charge_of charge.Stops = Stops halt_kind.Meter

-- an ask that is decided here is paid; one at a foreign object is sent
abbrev pub ask_cost : Option Ref → Option ℕ
ask_cost None = Some 0
ask_cost (Some r) = None

-- what is to be paid for what is next, without the one of each charge; nothing where nothing is due
abbrev pub cost_of : View → Mode → Option ℕ
cost_of w (mode.Eval at) = Some 0
cost_of w mode.Ask = ask_cost (foreign_in (naming_of w.me) w.asked.target)
cost_of w (mode.Pay n) = Some n
cost_of w (mode.Serve n) = Some n
cost_of w _ = None

abbrev pub ask_stop : Option Ref → ℕ → stop_type.Stop
ask_stop None n = stop.Short n
ask_stop (Some r) n = stop.Sent r n

-- how a run stops where nothing is charged for
abbrev pub stop_at : View → Mode → Pause → stop_type.Stop
stop_at w (mode.Eval at) p = stop.Short p.steps
stop_at w mode.Ask p = ask_stop (foreign_in (naming_of w.me) w.asked.target) p.steps
stop_at w (mode.End n) p = stop.Stopped (halt_coded n) p.steps
stop_at w (mode.Pay i) p = stop.Short p.steps
stop_at w (mode.Serve i) p = stop.Short p.steps
stop_at w mode.Import p = stop.Imports p.steps
stop_at w mode.Outside p = stop.Outside p
stop_at w m p = stop.Gave m p.steps

abbrev pub with_steps : ℕ → stop_type.Stop → stop_type.Stop
with_steps n (stop.Sent r k) = stop.Sent r n
with_steps n (stop.Gave m k) = stop.Gave m n
with_steps n (stop.Stopped h k) = stop.Stopped h n
with_steps n (stop.Short k) = stop.Short n
with_steps n (stop.Imports k) = stop.Imports n
with_steps n (stop.Outside p) = stop.Outside (record p { told = Some n })

abbrev pub told_stop : Option ℕ → stop_type.Stop → stop_type.Stop
told_stop None s = s
told_stop (Some n) s = with_steps n s

-- what a charge leads to
abbrev pub worked : Naming Ref MadeSymbol → Shared → Env Ref → Point Ref MadeSymbol → Point Ref MadeSymbol
worked names shared env (Due n j p ks) = settle names shared env ks (answered names env (work names shared j p))
worked names shared env x = x

-- the machine stands where it stood
pub record Stays (m : Mode) (old new : View) (after : Mode) : Type 0 where
  pub stands : (a : Around) → let b = fitting old a in point_of b new after ≡ point_of b old m
  pub keeps : Keeps old new

-- the machine stands where a charge leads
pub record IsWorked (m : Mode) (old new : View) (after : Mode) : Type 0 where
  pub stands : (a : Around) → let b = fitting old a in point_of b new after ≡ worked (naming_of old.me) b.shared b.env (point_of b old m)
  pub keeps : Keeps old new

-- at most so many charges, and steps up to the limit
pub record RunsFor (meter : Option ℕ) (charges limit steps : ℕ) (m : Mode) (old new : View) (s : stop_type.Stop) : Type 0 where
  pub stops : (a : Around) → a.rest.meter ≡ meter → let b = fitting old a in stop_of b new s ≡ run_for (naming_of old.me) b.shared b.env charges limit steps (point_of b old m)
  pub keeps : Keeps old new

-- a run of the party from where the machine stands
pub record IsRun (free : Bool) (meter : Option ℕ) (limit steps : ℕ) (m : Mode) (old new : View) (s : stop_type.Stop) : Type 0 where
  pub stops : (a : Around) → a.env.free ≡ free → a.rest.meter ≡ meter → let b = fitting old a in stop_of b new s ≡ run (naming_of old.me) b.shared b.env limit steps (point_of b old m)
  pub keeps : Keeps old new

-- a run of the party after a pause, from where the machine stands
pub record RunsOn (meter : Option ℕ) (p : Pause) (m : Mode) (old new : View) (s : stop_type.Stop) : Type 0 where
  pub stops : (a : Around) → a.rest.meter ≡ meter → let b = fitting old a in stop_of b new s ≡ runs_on (naming_of old.me) b.shared b.env p (point_of b old m)
  pub keeps : Keeps old new
