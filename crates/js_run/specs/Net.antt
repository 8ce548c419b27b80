-- The journal as a network of parties makes it, each party alone.
use Rattle.std.specs.Prelude.{ℕ, zero, suc, ◌+◌, ◌-◌, true, false, List, [], ◌∷◌, length, Option, Some, None, nat_eq, if◌then◌else◌}
use Rattle.lava_base.specs.declared.ids.MadeSymbol.{MadeSymbol}
use Rattle.lava_base.specs.declared.ids.Ref.{Ref}
use Rattle.lava_base.specs.declared.marks.Marks.{Marks}
use Rattle.js_text.specs.Naming.{naming_of}
use Rattle.js_desc.specs.declared.reply.Reply.{Reply}
use Rattle.js_run.specs.Identities.{Message, Requests, Replies, given}
use Rattle.js_run.specs.Journal.{Application, Crossing, Ending, Budget, Fault, Parties, asked_party, end_of, env_of, first_import, has_room, only, put, received, sent_by, table_of}
use Rattle.js_run.specs.Local.{Outgoing, Local, Standing, Waits, Is_short, Has_ended, local}

pub record Net : Type 0 where
  pub journal : List Crossing
  pub steps : ℕ → ℕ
  pub spent : ℕ
  pub ending : Option Ending

abbrev pub rest : {A : Type 0} → List A → List A
rest [] = []
rest (x ∷ xs) = xs

-- who sent the asks that are open, the last one first
abbrev pub opened : Message Ref MadeSymbol → ℕ → List ℕ → List ℕ
opened (Requests x) p asks = p ∷ asks
opened (Replies r) p asks = rest asks

abbrev pub open_asks : List Crossing → List ℕ
open_asks [] = []
open_asks (x ∷ older) = opened x.sent.body x.sender (open_asks older)

abbrev pub first_or_host : List ℕ → ℕ
first_or_host [] = 0
first_or_host (p ∷ ps) = p

-- whose turn it is
abbrev pub last_receiver : List Crossing → ℕ
last_receiver [] = 0
last_receiver (x ∷ older) = x.receiver

-- the reply to the host's import is the end
abbrev pub ended_by : Reply Ref MadeSymbol → List ℕ → Option Ending
ended_by r [] = Some (end_of r)
ended_by r (p ∷ []) = Some (end_of r)
ended_by r (p ∷ q ∷ asks) = None

-- an ask goes to the party that is asked, and a reply to the sender of the latest open ask. A party past the last one is not made
abbrev pub adds_body : Application → Net → ℕ → Outgoing Ref MadeSymbol → Message Ref MadeSymbol → Net
adds_body app net p o (Requests x) =
    elim (has_room app net.journal x) [
      | true ↦ record net { journal = record { sender = p; receiver = asked_party app net.journal p x; sent = o } ∷ net.journal }
      | false ↦ record net { ending = Some (Parties p) }
    ]
adds_body app net p o (Replies r) =
    record net { journal = record { sender = p; receiver = first_or_host (open_asks net.journal); sent = o } ∷ net.journal; ending = ended_by r (open_asks net.journal) }

abbrev pub adds : Application → Net → ℕ → Option (Outgoing Ref MadeSymbol) → Net
adds app net p None = net
adds app net p (Some o) = adds_body app net p o o.body

abbrev pub first : {A : Type 0} → List A → Option A
first [] = None
first (x ∷ xs) = Some x

-- the crossing that is not yet in the journal
abbrev pub one_more : {A : Type 0} → List A → List A → Option A
one_more sent old = if nat_eq (length sent) (suc (length old)) then first sent else None

abbrev pub stands : Application → Net → ℕ → List (Outgoing Ref MadeSymbol) → Standing Ref MadeSymbol → Net
stands app net p sent (Waits own asks) = adds app net p (one_more sent (sent_by p net.journal))
stands app net p sent Is_short = record net { ending = Some (Budget p) }
stands app net p sent (Has_ended e) = record net { ending = Some (Fault p e) }

abbrev pub tells : Application → Net → ℕ → Local Ref MadeSymbol → Net
tells app net p r =
    stands app (record net { steps = put p r.steps net.steps; spent = net.spent + (r.steps - net.steps p) }) p r.sent r.standing

-- the marks that came with what party p received, and with its start
abbrev pub marks_given : Application → ℕ → List Crossing → Ref → Marks
marks_given app p journal = only (given (app.own p) (received p journal)) (table_of app journal)

-- the receiver of the last crossing is asked for its own run, on what it received, with the budget less the others' steps
abbrev pub turn_of : Application → ℕ → Net → ℕ → Net
turn_of app budget net p =
    tells app net p (local (naming_of p) app.shared (env_of app (marks_given app p net.journal) p) (app.own p) (budget - (net.spent - net.steps p)) (received p net.journal))

abbrev pub next : Application → ℕ → Net → Option Ending → Net
next app budget net (Some e) = net
next app budget net None = turn_of app budget net (last_receiver net.journal)

abbrev pub net : Application → ℕ → ℕ → Net
net app budget zero = record { journal = first_import ∷ []; steps = λ p. 0; spent = 0; ending = None }
net app budget (suc m) = let before = net app budget m in next app budget before before.ending
