-- The machine of all parties as contracts see it, and that it stands where js_run's world stands.
use Rattle.std.specs.Prelude.{◌≡◌, ◌<◌, ◌+◌, ◌-◌, ℕ, Bool, true, List, [], ◌∷◌, Option, Some, None, if◌then◌else◌, get_or, slice_get, set, length, map, nat_eq}
use Rattle.lava_base.specs.declared.ids.MadeSymbol.{MadeSymbol}
use Rattle.lava_base.specs.declared.ids.Ref.{Ref}
use Rattle.js_text.specs.Naming.{naming_of}
use Rattle.js_desc.specs.declared.reply.Reply.{Reply}
use Rattle.js_crossing.specs.js_conversions.Primitives.{ReadsNumbers}
use Rattle.js_native.specs.TextNatives.{FindsFirst}
use Rattle.js_code.specs.Tables.{Tables}
use Rattle.js_crossing.specs.js_run.Acts.{Next}
use Rattle.js_crossing.specs.js_run.Heap as heap
use Rattle.js_crossing.specs.js_run.Heap.{Control, Over_with, Runs, cross, has_run}
use Rattle.js_crossing.specs.js_run.Identities.{Message, Requests, Replies}
use Rattle.js_crossing.specs.js_run.Journal as journal
use Rattle.js_crossing.specs.js_run.Journal.{Application, Crossing, env_of, foreign_of, table_of}
use Rattle.js_crossing.specs.js_run.Parties.{Party}
use Rattle.js_crossing.specs.js_run.Requests.{is_link}
use Rattle.js_crossing.specs.js_machine.Begun.{Own, left_of, nothing_left, own_of, with_left, with_own}
use Rattle.js_crossing.specs.js_machine.Packages.{Package, loaded_in}
use Rattle.js_crossing.specs.js_machine.Shown.{no_ask}
use Rattle.js_crossing.specs.js_machine.Steps.{point_of}
use Rattle.js_crossing.specs.js_machine.Stops.{stop_of}
use Rattle.js_crossing.specs.js_machine.Views.{Around, View, halt_of, nexts_of, templates_at}
use Rattle.js_crossing.specs.js_machine.declared.frame.Mode.{Mode}
use Rattle.js_crossing.specs.js_machine.declared.stop.Stop.{Stop}
use Rattle.js_crossing.specs.js_machine.declared.stop.Stop.TheVariants as stop
use Rattle.js_crossing.specs.Leads.{leads_among}
use Rattle.js_crossing.specs.Newest.{newest_crossing}
use Rattle.js_crossing.specs.Shows.{shows_ask, shows_ref}
use Rattle.js_crossing.specs.declared.ending.Ending.{Ending}
use Rattle.js_crossing.specs.declared.ending.Ending.TheVariants as ending
use Rattle.js_crossing.specs.declared.ending.Turn.{Turn}
use Rattle.js_crossing.specs.declared.ending.Turn.TheVariants as turn
use Rattle.js_crossing.specs.declared.leads.Lead.{Lead}
use Rattle.js_crossing.specs.declared.newest.TracedCrossing.{TracedCrossing}
use Rattle.js_world.specs.declared.waiting.Waiting.{Waiting}

-- the party that runs has its own things in the machine, and each other one has them in its place of the list. Where the links of each party lead stands in a list, too. What waits stands with the newest first. The answer to the host's import is kept, once there is one, and where crossings are traced the newest of them. After want of memory it is short of memory for good
pub record WorldView : Type 0 where
  pub machine : View
  pub others : List Own
  pub leads : List (List Lead)
  pub steps : List ℕ
  pub spent : ℕ
  pub budget : ℕ
  pub stack : List Waiting
  pub last : Option (Reply Ref MadeSymbol)
  pub tracing : Bool
  pub newest : Option TracedCrossing
  pub short : Bool

-- THE THINGS OF EACH PARTY

abbrev pub no_package : Package
no_package = record { name = []; main = []; modules = []; links = []; builtin = None; mapped = [] }

-- a party that is nowhere has nothing
abbrev pub no_own : Own
no_own = record { me = 0; objects = []; templates = []; scopes = []; bodies = []; depth = 0; own_package = no_package; allowed = []; calls = [] }

abbrev pub own_here : WorldView → ℕ → Own
own_here v q = if nat_eq v.machine.me q then own_of v.machine else get_or v.others q no_own

-- the party to which a link of a party leads
abbrev pub leads_to : WorldView → ℕ → List ℕ → Option ℕ
leads_to v q l = leads_among (slice_get v.leads q) l

abbrev pub steps_of : WorldView → ℕ → ℕ
steps_of v q = get_or v.steps q 0

-- a party that has these things
abbrev pub party_with : Party Ref MadeSymbol → Tables → Own → Party Ref MadeSymbol
party_with p c o = record p {
  name = o.own_package.name;
  main = o.own_package.main;
  modules = loaded_in c o.own_package;
  links = o.own_package.links;
  builtin = o.own_package.builtin;
  module_map = o.own_package.mapped;
  objects = o.objects;
  templates = templates_at c o.templates;
  scopes = o.scopes;
  bodies = o.bodies;
  depth = o.depth;
  calls = o.calls;
  frozen_errors = nat_eq o.me 0;
}

-- a body that waits, with what goes on there
abbrev pub waits_of : Application → Tables → Waiting → ℕ × List (Next Ref MadeSymbol)
waits_of app c b = (b.party, nexts_of (naming_of b.party) app.shared c b.left.frames b.left.values b.left.waits)

-- WHAT THE MACHINE DOES

-- the things of a place and those of the machine change places
abbrev pub exchanged : ℕ → WorldView → WorldView
exchanged at v = record v { machine = with_own (get_or v.others at no_own) v.machine; others = set v.others at (own_of v.machine) }

-- the machine has the things of a party
abbrev pub turned : ℕ → WorldView → WorldView
turned q v = exchanged q (exchanged v.machine.me v)

-- a party has taken so many steps in all
abbrev pub charged : ℕ → ℕ → WorldView → WorldView
charged p n v = record v { steps = set v.steps p n; spent = v.spent + (n - steps_of v p) }

-- the body that runs waits
abbrev pub aside : WorldView → WorldView
aside v = record v { machine = with_left nothing_left v.machine; stack = record { party = v.machine.me; left = left_of v.machine } ∷ v.stack }

-- what was asked is taken from the machine, with what others may know of it
abbrev pub asked_away : Ref → WorldView → WorldView
asked_away r v = record v { machine = shows_ask v.machine.asked.ask (shows_ref r (record v.machine { asked = no_ask })) }

-- an ask at an object leaves the machine, and the body that sent it waits
abbrev pub sent : Ref → ℕ → WorldView → WorldView
sent r n v = aside (charged v.machine.me n (asked_away r v))

-- an import leaves the machine, and the body that sent it waits
abbrev pub import_away : ℕ → WorldView → WorldView
import_away n v = aside (charged v.machine.me n v)

-- where crossings are traced, this is the newest one from now on
abbrev pub noted : TracedCrossing → WorldView → WorldView
noted x v = record v { newest = if v.tracing then Some x else v.newest }

-- THAT IT STANDS WHERE THE WORLD STANDS

-- texts are read as the numbers that they stand for, and a part is found where it stands first
pub record Reads (app : Application) : Type 0 where
  pub numbers : ReadsNumbers app.shared.number_of
  pub finds : FindsFirst app.shared.find

-- what stands around a party
abbrev pub around : (app : Application) → Reads app → List Crossing → ℕ → Around
around app r j q = record { shared = app.shared; env = env_of app (table_of app j) q; rest = app.own q; numbers = r.numbers; finds = r.finds }

-- the machine has the common part of the application, and each party has its number, its links and no meter. Links lead where the application says
pub record Suits (app : Application) (v : WorldView) : Type 0 where
  pub reads : Reads app
  pub objects : v.machine.common ≡ app.shared.objects
  pub templates : templates_at v.machine.code v.machine.common_templates ≡ app.shared.templates
  pub me : (q : ℕ) → q < length v.others → (own_here v q).me ≡ q
  pub links : (q : ℕ) → q < length v.others → (l : List ℕ) → is_link l (own_here v q).allowed ≡ app.allows q (app.links q l)
  pub meters : (q : ℕ) → q < length v.others → (app.own q).meter ≡ None
  pub leads : (q : ℕ) → (l : List ℕ) → (n : ℕ) → leads_to v q l ≡ Some n → app.links q l ≡ n

-- each party has its own things as the world has them
abbrev pub HasOwn : Application → heap.World → WorldView → ℕ → Type 0
HasOwn app w v q = q < length v.others → w.own q ≡ party_with (app.own q) v.machine.code (own_here v q)

-- what is paid, what waits and what is known are those of the world
pub record Counts (app : Application) (w : heap.World) (v : WorldView) : Type 0 where
  pub steps : (q : ℕ) → q < length v.steps → w.steps q ≡ steps_of v q
  pub spent : w.spent ≡ v.spent
  pub stack : w.stack ≡ map (waits_of app v.machine.code) v.stack
  pub known : v.machine.known ≡ foreign_of app w.journal

-- where crossings are traced, the newest one is that of the world's journal
abbrev pub HasNewest : Application → heap.World → WorldView → Type 0
HasNewest app w v = v.tracing ≡ true → v.newest ≡ newest_crossing app w.journal

-- a party runs
pub record Stands (app : Application) (w : heap.World) (v : WorldView) (m : Mode) : Type 0 where
  pub suits : Suits app v
  pub others : (q : ℕ) → (v.machine.me ≡ q → ⊥) → HasOwn app w v q
  pub counts : Counts app w v
  pub newest : HasNewest app w v
  pub control : w.control ≡ Runs v.machine.me (point_of (around app suits.reads w.journal v.machine.me) v.machine m)

abbrev pub ending_of : Ending → journal.Ending
ending_of ending.Done = journal.Done
ending_of ending.Uncaught = journal.Uncaught
ending_of (ending.Budget p) = journal.Budget p
ending_of (ending.Fault p h) = journal.Fault p (halt_of h)

-- a turn that is the end of a run
pub record IsTurnOf (t : Turn) (e : journal.Ending) : Type 0 where
  pub ending : Ending
  pub is : t ≡ turn.Over ending
  pub same : ending_of ending ≡ e

-- what the newest crossing replies, if it is a reply
abbrev pub reply_in : Message Ref MadeSymbol → Option (Reply Ref MadeSymbol)
reply_in (Requests o) = None
reply_in (Replies r) = Some r

abbrev pub last_reply : List Crossing → Option (Reply Ref MadeSymbol)
last_reply [] = None
last_reply (x ∷ older) = reply_in x.sent.body

-- the host's import is answered: no party runs, each has its own things as the world has them, and the answer that is kept is that of the newest crossing
pub record HasAnswered (app : Application) (w : heap.World) (v : WorldView) : Type 0 where
  pub suits : Suits app v
  pub own : (q : ℕ) → HasOwn app w v q
  pub counts : Counts app w v
  pub last : v.last ≡ last_reply w.journal

-- where a run ends by the answer to the host's import, that is kept
abbrev pub KeepsAnswer : Application → heap.World → WorldView → Ending → Type 0
KeepsAnswer app w v ending.Done = HasAnswered app w v
KeepsAnswer app w v ending.Uncaught = HasAnswered app w v
KeepsAnswer app w v (ending.Budget p) = Unit {0}
KeepsAnswer app w v (ending.Fault p h) = Unit {0}

-- a run is over
pub record IsOver (app : Application) (w : heap.World) (v : WorldView) (e : Ending) : Type 0 where
  pub answer : KeepsAnswer app w v e
  pub steps : (q : ℕ) → q < length v.steps → w.steps q ≡ steps_of v q
  pub spent : w.spent ≡ v.spent
  pub newest : HasNewest app w v
  pub control : w.control ≡ Over_with (ending_of e)

-- the party in the machine has stopped in a world, which comes to be another. Where the outside is asked, it comes to that once the party goes on with the answer
pub record HasStopped (app : Application) (w : heap.World) (v : WorldView) (s : Stop) (after : heap.World) : Type 0 where
  pub suits : Suits app v
  pub others : (q : ℕ) → (v.machine.me ≡ q → ⊥) → HasOwn app w v q
  pub counts : Counts app w v
  pub newest : HasNewest app w v
  pub comes : after ≡ has_run app v.machine.me w (stop_of (around app suits.reads w.journal v.machine.me) v.machine s)

-- where the machine is after a crossing from one world to another; where the outside is asked, it is on its way
abbrev pub After : Application → (w after : heap.World) → WorldView → Turn → Type 0
After app w after v (turn.Runs m) = Stands app after v m
After app w after v (turn.Over e) = IsOver app after v e
After app w after v (turn.Asks p) = HasStopped app w v (stop.Outside p) after

-- the machine comes to the next crossing, wherever the world stands as it does, or to a call of the outside before it
pub record Crosses (old : WorldView) (m : Mode) (new : WorldView) (t : Turn) : Type 0 where
  pub crosses : (app : Application) (w : heap.World) → Stands app w old m → After app w (cross app old.budget w w.control) new t
  pub budget : new.budget ≡ old.budget
