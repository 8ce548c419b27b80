-- The machine of all parties: one stack, and control that passes at once. The host is party 0, and its runs are free of charge.
use Rattle.std.specs.Prelude.{ℕ, zero, suc, ◌+◌, ◌-◌, Bool, true, false, List, [], ◌∷◌}
use Rattle.lava_base.specs.declared.ids.MadeSymbol.{MadeSymbol}
use Rattle.lava_base.specs.declared.ids.Ref.{Ref}
use Rattle.js_text.specs.Naming.{naming_of}
use Rattle.js_desc.specs.declared.reply.Reply.{Reply}
use Rattle.js_run.specs.Acts.{Next}
use Rattle.js_run.specs.Completions.{Replied, reply_of}
use Rattle.js_run.specs.Identities.{Requests, Replies}
use Rattle.js_run.specs.Journal.{Application, Crossing, Ending, Budget, Fault, Parties, asked_party, crossing, end_of, env_of, first_import, has_room, put, root_link, table_of}
use Rattle.js_run.specs.Local.{serves}
use Rattle.js_run.specs.Parties.{Party}
use Rattle.js_run.specs.Runs.{Request, Imports, Point, Gives, settle, Stop, Sent, Gave, Stopped, Short, run}

pub data Control : Type 0 where
  Runs : (party : ℕ) → Point Ref MadeSymbol → Control
  Over_with : Ending → Control

pub record World : Type 0 where
  pub own : ℕ → Party Ref MadeSymbol
  pub steps : ℕ → ℕ
  pub spent : ℕ
  pub stack : List (ℕ × List (Next Ref MadeSymbol))
  pub journal : List Crossing
  pub control : Control

-- the world where party p has taken n steps in all
abbrev pub charged : ℕ → ℕ → World → World
charged p n w = record w { steps = put p n w.steps; spent = w.spent + (n - w.steps p) }

-- party p has its own things so
abbrev pub with_own : ℕ → Party Ref MadeSymbol → World → World
with_own p own w = record w { own = put p own w.own }

-- the receiver runs at once; the marks that came with the crossing are in the table
abbrev pub hands : Application → List Crossing → (ℕ → Party Ref MadeSymbol) → ℕ → Request Ref MadeSymbol → Control
hands app journal own q o = Runs q (serves (naming_of q) app.shared (env_of app (table_of app journal) q) (own q) o)

-- an ask is put in the journal, and its receiver runs at once
abbrev pub asks_of : Application → Crossing → ℕ → Request Ref MadeSymbol → List (Next Ref MadeSymbol) → World → World
asks_of app x p o ks w = record w { stack = (p, ks) ∷ w.stack; journal = x ∷ w.journal; control = hands app (x ∷ w.journal) w.own x.receiver o }

abbrev pub goes_on : Application → List Crossing → (ℕ → Party Ref MadeSymbol) → ℕ → List (Next Ref MadeSymbol) → Reply Ref MadeSymbol → Control
goes_on app journal own q ks r = Runs q (settle (naming_of q) app.shared (env_of app (table_of app journal) q) ks (Gives (Replied r) (own q)))

-- a reply is put in the journal, and the topmost body on the stack goes on
abbrev pub replies_of : Application → (ℕ → Crossing) → Reply Ref MadeSymbol → List (ℕ × List (Next Ref MadeSymbol)) → World → World
replies_of app x r [] w = record w { journal = x 0 ∷ w.journal; control = Over_with (end_of r) }
replies_of app x r (b ∷ stack) w = record w { stack = stack; journal = x b.0 ∷ w.journal; control = goes_on app (x b.0 ∷ w.journal) w.own b.0 b.1 r }

abbrev pub has_asked : Application → ℕ → World → Request Ref MadeSymbol → Party Ref MadeSymbol → List (Next Ref MadeSymbol) → ℕ → Bool → World
has_asked app p w o own ks n true = asks_of app (crossing p (asked_party app w.journal p o) own n (Requests o)) p o ks (with_own p own (charged p n w))
has_asked app p w o own ks n false = record (charged p n w) { control = Over_with (Parties p) }

-- party p has run
abbrev pub has_run : Application → ℕ → World → Stop Ref MadeSymbol → World
has_run app p w (Sent o own ks n) = has_asked app p w o own ks n (has_room app w.journal o)
has_run app p w (Gave c own n) = replies_of app (λ q. crossing p q own n (Replies (reply_of c))) (reply_of c) w.stack (with_own p own (charged p n w))
has_run app p w (Stopped e n) = record (charged p n w) { control = Over_with (Fault p e) }
has_run app p w (Short n) = record (charged p n w) { control = Over_with (Budget p) }

-- to the next crossing
abbrev pub cross : Application → (budget : ℕ) → World → Control → World
cross app budget w (Runs p point) =
    has_run app p w (run (naming_of p) app.shared (env_of app (table_of app w.journal) p) (w.steps p + (budget - w.spent)) (w.steps p) point)
cross app budget w (Over_with e) = w

abbrev pub begins : Application → World
begins app =
    record { own = app.own; steps = λ p. 0; spent = 0; stack = []; journal = first_import ∷ []; control = hands app (first_import ∷ []) app.own 1 (Imports root_link []) }

-- after so many crossings
abbrev pub heap : Application → (budget crossings : ℕ) → World
heap app budget zero = begins app
heap app budget (suc m) = let w = heap app budget m in cross app budget w w.control
