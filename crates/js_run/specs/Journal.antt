-- The crossings of a run, the newest first, and what of them is a party's. The table of marks is a function of them.
use Rattle.std.specs.Prelude.{ℕ, zero, suc, ◌+◌, Bool, true, false, nat_eq, nat_lt, List, [], ◌∷◌, ◌++◌, Option, Some, None, codes, if◌then◌else◌}
use Rattle.std.specs.Option.{unwrap_or}
use Rattle.lava_base.specs.Ids.{same_ref}
use Rattle.lava_base.specs.declared.ids.MadeSymbol.{MadeSymbol}
use Rattle.lava_base.specs.declared.ids.Ref.{Ref}
use Rattle.lava_base.specs.declared.ids.Ref.TheVariants as reference
use Rattle.lava_base.specs.declared.marks.Marks.{Marks}
use Rattle.js_text.specs.Identities.{Identity, Of_object, Of_symbol}
use Rattle.js_text.specs.Naming.{naming_of}
use Rattle.js_desc.specs.declared.reply.Reply.{Reply}
use Rattle.js_desc.specs.declared.reply.Reply.TheVariants as reply
use Rattle.js_store.specs.Objects.{plain_marks}
use Rattle.js_run.specs.Completions.{Halt}
use Rattle.js_run.specs.Identities.{Message, Requests, Replies}
use Rattle.js_run.specs.Local.{Outgoing, outgoing}
use Rattle.js_run.specs.Outside.{OutsideCall, OutsideAnswer, Fails}
use Rattle.js_run.specs.Parties.{Party, Shared}
use Rattle.js_run.specs.Runs.{Env, Request, Asks, Imports, Makes}
use Rattle.js_run.specs.declared.TheConstants.{MAX_PARTIES}

pub record Crossing : Type 0 where
  pub sender : ℕ
  pub receiver : ℕ
  pub sent : Outgoing Ref MadeSymbol

-- what a party received, and what it sent
abbrev pub received : ℕ → List Crossing → List (Message Ref MadeSymbol)
received p [] = []
received p (x ∷ older) = if nat_eq x.receiver p then x.sent.body ∷ received p older else received p older

abbrev pub sent_by : ℕ → List Crossing → List (Outgoing Ref MadeSymbol)
sent_by p [] = []
sent_by p (x ∷ older) = if nat_eq x.sender p then x.sent ∷ sent_by p older else sent_by p older

-- an application: what all parties share, each party's own things, how many parties it has, where its links lead and which linked parties the rows allow,
-- the foreign names of each start in their order with the marks of the objects, the own objects of each that others have from the start (the first one last), and what the outside answers
pub record Application : Type 0 where
  pub shared : Shared
  pub own : ℕ → Party Ref MadeSymbol
  pub count : ℕ
  pub links : ℕ → List ℕ → ℕ
  pub allows : ℕ → ℕ → Bool
  pub starts : ℕ → List (Identity Ref MadeSymbol)
  pub left : ℕ → List ℕ
  pub marks : List (Ref × Marks)
  pub outside : List OutsideCall → OutsideAnswer

-- how a run ends
pub data Ending : Type 0 where
  Done : Ending
  Uncaught : Ending
  Budget : (party : ℕ) → Ending
  Fault : (party : ℕ) → Halt → Ending
  Parties : (party : ℕ) → Ending

-- the party of an object; the common part counts as the host's, who is never asked for it
abbrev pub owner_of : Ref → ℕ
owner_of (reference.Common c) = 0
owner_of (reference.Own p i) = p.0

-- THE TABLE OF MARKS: those of the starts and then those that came with each crossing; the first ones stay

abbrev pub find_mark : Ref → List (Ref × Marks) → Option Marks
find_mark r [] = None
find_mark r (e ∷ es) = if same_ref e.0 r then Some e.1 else find_mark r es

-- the list with a reference at its end, or as it is where the reference is there
abbrev pub or_added : Option Marks → Ref × Marks → List (Ref × Marks) → List (Ref × Marks)
or_added (Some m) e known = known
or_added None e known = known ++ e ∷ []

abbrev pub with_mark : Ref × Marks → List (Ref × Marks) → List (Ref × Marks)
with_mark e known = or_added (find_mark e.0 known) e known

abbrev pub with_marks_of : List (Ref × Marks) → List (Ref × Marks) → List (Ref × Marks)
with_marks_of [] known = known
with_marks_of (e ∷ es) known = with_marks_of es (with_mark e known)

-- the one list that the machine keeps
abbrev pub foreign_of : Application → List Crossing → List (Ref × Marks)
foreign_of app [] = with_marks_of app.marks []
foreign_of app (x ∷ older) = with_marks_of x.sent.marks (foreign_of app older)

abbrev pub table_of : Application → List Crossing → Ref → Marks
table_of app journal r = unwrap_or (find_mark r (foreign_of app journal)) plain_marks

-- the marks of these alone
abbrev pub only : List (Identity Ref MadeSymbol) → (Ref → Marks) → Ref → Marks
only [] marks r = plain_marks
only (Of_object x ∷ xs) marks r = if same_ref r x then marks r else only xs marks r
only (Of_symbol s ∷ xs) marks r = only xs marks r

-- THE SURROUNDINGS OF A PARTY

abbrev pub is_host : ℕ → Bool
is_host zero = true
is_host (suc p) = false

-- the link of the host to the application's own package
abbrev pub root_link : List ℕ
root_link = codes "$root$"

abbrev pub first_of : ℕ → Option (List ℕ)
first_of zero = Some root_link
first_of (suc p) = None

-- the outside is the host's alone: no other party's run depends on it
abbrev pub outside_of : Application → ℕ → List OutsideCall → OutsideAnswer
outside_of app zero calls = app.outside calls
outside_of app (suc p) calls = Fails []

abbrev pub env_of : Application → (Ref → Marks) → ℕ → Env Ref
env_of app marks p = record { marks = marks; allows = λ l. app.allows p (app.links p l); outside = outside_of app p; free = is_host p; first = first_of p }

-- WHERE A CROSSING GOES

abbrev pub one_made : Message Ref MadeSymbol → ℕ → ℕ
one_made (Requests (Asks r x)) n = n
one_made (Requests (Imports link path)) n = n
one_made (Requests (Makes globals modules meter)) n = suc n
one_made (Replies r) n = n

abbrev pub parties_made : List Crossing → ℕ
parties_made [] = 0
parties_made (x ∷ older) = one_made x.sent.body (parties_made older)

-- the receiver of an ask: the owner of its target, the linked party, or the next party
abbrev pub asked_party : Application → List Crossing → ℕ → Request Ref MadeSymbol → ℕ
asked_party app journal p (Asks r x) = owner_of r
asked_party app journal p (Imports link path) = app.links p link
asked_party app journal p (Makes globals modules meter) = app.count + parties_made journal

-- the number of parties is limited
abbrev pub has_room : Application → List Crossing → Request Ref MadeSymbol → Bool
has_room app journal (Asks r x) = true
has_room app journal (Imports link path) = true
has_room app journal (Makes globals modules meter) = nat_lt (app.count + parties_made journal) MAX_PARTIES

abbrev pub crossing : ℕ → ℕ → Party Ref MadeSymbol → ℕ → Message Ref MadeSymbol → Crossing
crossing p q own n x = record { sender = p; receiver = q; sent = outgoing (naming_of p) own n x }

-- the host imports party 1
abbrev pub first_import : Crossing
first_import = record { sender = 0; receiver = 1; sent = record { body = Requests (Imports root_link []); steps = 0; marks = [] } }

-- the reply to the host's import is the end
abbrev pub end_of : Reply Ref MadeSymbol → Ending
end_of (reply.Throw v) = Uncaught
end_of _ = Done

abbrev pub put : {A : Type 0} → ℕ → A → (ℕ → A) → ℕ → A
put p a f q = if nat_eq p q then a else f q
