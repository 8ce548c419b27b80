-- The laws of isolation: the machine of all parties tells what a network of parties by themselves tells.
use Rattle.std.specs.Prelude.{◌≡◌, ◌≢◌, ℕ, ◌+◌, Bool, true, false, not, nat_eq, List, [], ◌∷◌, ◌++◌, Option, ⊤, Some, None, ◌≤◌, ◌⊎◌}
use Rattle.lava_base.specs.declared.ids.MadeSymbol.{MadeSymbol}
use Rattle.lava_base.specs.declared.ids.Ref.{Ref}
use Rattle.lava_base.specs.declared.marks.Marks.{Marks}
use Rattle.js_text.specs.Identities.{Identity, Of_object, Of_symbol}
use Rattle.js_text.specs.Naming.{Naming, Origin, Own, Common, Foreign, naming_of, origin_of}
use Rattle.js_term.specs.declared.term.Term.{Term}
use Rattle.js_run.specs.Acts.{Next}
use Rattle.js_run.specs.Completions.{Halt}
use Rattle.js_run.specs.Heap.{World, Control, Runs, Over_with, heap}
use Rattle.js_run.specs.Identities.{Message, Requests, Replies, message_identities, party_identities, history_identities, given, IsAmong}
use Rattle.js_run.specs.Journal.{Application, Crossing, Ending, Done, Uncaught, Budget, Fault, Parties, env_of, find_mark, owner_of, received, sent_by, table_of}
use Rattle.js_run.specs.Local.{Outgoing, Local, Standing, Waits, Is_short, Has_ended, local}
use Rattle.js_run.specs.Net.{Net, net, last_receiver}
use Rattle.js_run.specs.Parties.{Party, Shared}
use Rattle.js_run.specs.Runs.{Env, Asks, Imports, Makes, Charged, Stops, charge, Due, Begins, Gives, Stop, Sent, Gave, Stopped, Short, settle, run}

-- WHOSE THEY ARE

-- an object is another party's
abbrev pub is_from_other : Origin → Bool
is_from_other (Own i) = false
is_from_other (Common c) = false
is_from_other Foreign = true

-- an object or a made symbol is another party's; a common object is no party's
abbrev pub is_foreign : ℕ → Identity Ref MadeSymbol → Bool
is_foreign p (Of_object r) = is_from_other (origin_of p r)
is_foreign p (Of_symbol s) = not (nat_eq s.party.0 p)

-- the party of an object or a made symbol
abbrev pub owner : Identity Ref MadeSymbol → ℕ
owner (Of_object r) = owner_of r
owner (Of_symbol s) = s.party.0

-- the objects of a party that others have from the start
abbrev pub left_first : ℕ → List ℕ → List (Identity Ref MadeSymbol)
left_first p [] = []
left_first p (i ∷ rest) = Of_object ((naming_of p).own i) ∷ left_first p rest

-- WHAT AN APPLICATION IS TO HAVE

abbrev pub HasMark : Option Marks → Type 0
HasMark o = (m : Marks) × (o ≡ Some m)

-- what of others a start names has marks, is listed, and counts as having left its owner
pub record IsWellMade (app : Application) : Type 0 where
  pub marked : (p : ℕ) (r : Ref) → origin_of p r ≡ Foreign → IsAmong (Of_object r) (party_identities (app.own p)) → HasMark (find_mark r app.marks)
  pub listed : (p : ℕ) (a : Identity Ref MadeSymbol) → is_foreign p a ≡ true → IsAmong a (party_identities (app.own p)) → IsAmong a (app.starts p)
  pub left : (p : ℕ) (a : Identity Ref MadeSymbol) → is_foreign p a ≡ true → IsAmong a (party_identities (app.own p)) → IsAmong a (left_first (owner a) (app.left (owner a)))

-- THE MACHINE AND THE NETWORK

abbrev pub ending_of : Control → Option Ending
ending_of (Runs p point) = None
ending_of (Over_with e) = Some e

-- the one-heap machine and the network tell the same
pub record Tells_the_same (w : World) (n : Net) : Type 0 where
  pub journal : w.journal ≡ n.journal
  pub steps : w.steps ≡ n.steps
  pub spent : w.spent ≡ n.spent
  pub ending : ending_of w.control ≡ n.ending

abbrev pub Journal_is_net : Type 0
Journal_is_net = (app : Application) → IsWellMade app → (budget crossings : ℕ) → Tells_the_same (heap app budget crossings) (net app budget crossings)

-- EACH PARTY BY ITSELF

abbrev pub IsWaiting : {R S : Type 0} → Standing R S → Type 0
IsWaiting (Waits own bodies) = Unit {0}
IsWaiting Is_short = ⊥
IsWaiting (Has_ended e) = ⊥

abbrev pub IsMake : Message Ref MadeSymbol → Type 0
IsMake (Requests (Asks r x)) = ⊥
IsMake (Requests (Imports link path)) = ⊥
IsMake (Requests (Makes globals modules meter)) = Unit {0}
IsMake (Replies r) = ⊥

-- how a party stands by itself where the run ended so
abbrev pub StandsAt : Ending → ℕ → Standing Ref MadeSymbol → Type 0
StandsAt Done p s = IsWaiting s
StandsAt Uncaught p s = IsWaiting s
StandsAt (Budget q) p s = (q ≡ p → s ≡ Is_short) × (q ≢ p → IsWaiting s)
StandsAt (Fault q k) p s = (q ≡ p → s ≡ Has_ended k) × (q ≢ p → IsWaiting s)
StandsAt (Parties q) p s = IsWaiting s

-- what it has sent that the journal has not: the making of the party that was not made
abbrev pub HasMore : Ending → ℕ → List (Outgoing Ref MadeSymbol) → Type 0
HasMore (Parties q) p more = (q ≡ p → (o : Outgoing Ref MadeSymbol) × (more ≡ o ∷ []) × IsMake o.body) × (q ≢ p → more ≡ [])
HasMore Done p more = more ≡ []
HasMore Uncaught p more = more ≡ []
HasMore (Budget q) p more = more ≡ []
HasMore (Fault q k) p more = more ≡ []

-- tables that agree on the foreign objects that were given to the party
abbrev pub AgreeFor : Application → World → ℕ → (marks other : Ref → Marks) → Type 0
AgreeFor app w p marks other = (r : Ref) → origin_of p r ≡ Foreign → IsAmong (Of_object r) (given (app.own p) (received p w.journal)) → marks r ≡ other r

-- the party's own run on what it received, with at most its steps
abbrev pub own_run : Application → World → (Ref → Marks) → ℕ → Local Ref MadeSymbol
own_run app w marks p = local (naming_of p) app.shared (env_of app marks p) (app.own p) (w.steps p) (received p w.journal)

-- the run of a party is its own: it depends on its own things, on what it received, and on the marks of what was given to it
pub record Is_its_own (app : Application) (w : World) (e : Ending) (p : ℕ) (marks : Ref → Marks) : Type 0 where
  pub more : List (Outgoing Ref MadeSymbol)
  pub has_more : HasMore e p more
  pub sent : (own_run app w marks p).sent ≡ more ++ sent_by p w.journal
  pub steps : (own_run app w marks p).steps ≡ w.steps p
  pub stands : StandsAt e p (own_run app w marks p).standing
  -- and where it waits a larger count changes nothing
  pub larger : IsWaiting (own_run app w marks p).standing → (n : ℕ) → w.steps p ≤ n → local (naming_of p) app.shared (env_of app marks p) (app.own p) n (received p w.journal) ≡ own_run app w marks p

abbrev pub Each_is_its_own : Type 0
Each_is_its_own =
    (app : Application) → IsWellMade app → (budget crossings : ℕ) (e : Ending) (p : ℕ) → ending_of (heap app budget crossings).control ≡ Some e
    → (marks : Ref → Marks) → AgreeFor app (heap app budget crossings) p (table_of app (heap app budget crossings).journal) marks
    → Is_its_own app (heap app budget crossings) e p marks

-- A LINE OF THE JOURNAL THAT COULD NOT BE WRITTEN: the run ends with a crossing that was added and not served

pub record Is_cut_off (app : Application) (w : World) (p : ℕ) (marks : Ref → Marks) : Type 0 where
  -- its receiver: at most one crossing more, in the same steps, wherever it stands
  pub steps : (own_run app w marks p).steps ≡ w.steps p
  pub more : List (Outgoing Ref MadeSymbol)
  pub sent : (own_run app w marks p).sent ≡ more ++ sent_by p w.journal
  pub few : (more ≡ []) ⊎ ((o : Outgoing Ref MadeSymbol) × (more ≡ o ∷ []))
  -- any other waits, with what the journal has
  pub others : p ≢ last_receiver w.journal → (more ≡ []) × IsWaiting (own_run app w marks p).standing
  pub larger : p ≢ last_receiver w.journal → (n : ℕ) → w.steps p ≤ n → local (naming_of p) app.shared (env_of app marks p) (app.own p) n (received p w.journal) ≡ own_run app w marks p

abbrev pub Cut_off_is_its_own : Type 0
Cut_off_is_its_own =
    (app : Application) → IsWellMade app → (budget crossings p : ℕ) → ending_of (heap app budget crossings).control ≡ None
    → (marks : Ref → Marks) → AgreeFor app (heap app budget crossings) p (table_of app (heap app budget crossings).journal) marks
    → Is_cut_off app (heap app budget crossings) p marks

-- WHAT A PARTY SENDS WAS GIVEN TO IT

-- what was given to a party: what its start names, and what came to it
abbrev pub known : Application → ℕ → List Crossing → List (Identity Ref MadeSymbol)
known app p journal = app.starts p ++ history_identities (received p journal)

-- each object and made symbol in the crossing is its sender's own, or of the common part, or was given to its sender. This holds of the host too
abbrev pub HasKnown : Application → Crossing → List Crossing → Type 0
HasKnown app x older =
    (a : Identity Ref MadeSymbol) → is_foreign x.sender a ≡ true → IsAmong a (message_identities x.sent.body) → IsAmong a (known app x.sender older)

abbrev pub IsLawful : Application → List Crossing → Type 0
IsLawful app [] = ⊤
IsLawful app (x ∷ older) = HasKnown app x older × IsLawful app older

abbrev pub Journal_is_lawful : Type 0
Journal_is_lawful = (app : Application) → IsWellMade app → (budget crossings : ℕ) → IsLawful app (heap app budget crossings).journal

-- the second list has the first at its end, which is its older part
abbrev pub IsEnd : {A : Type 0} → List A → List A → Type 0
IsEnd {A} older all = (newer : List A) × (newer ++ older ≡ all)

-- THE ROWS ARE A RECURSION OVER TERMS

-- what a term means to a party that has taken so many steps, with so many at most
abbrev pub meaning : {R S : Type 0} → Naming R S → Shared → Env R → Term → Party R S → (limit steps : ℕ) → Stop R S
meaning names shared env t p limit steps = run names shared env limit steps (Due 0 (Begins t) p [])

-- and then the rest, with what is left
abbrev pub and_then : {R S : Type 0} → Naming R S → Shared → Env R → List (Next R S) → (limit : ℕ) → Stop R S → Stop R S
and_then names shared env ks limit (Sent o p fs n) = Sent o p (fs ++ ks) n
and_then names shared env ks limit (Gave c p n) = run names shared env limit n (settle names shared env ks (Gives c p))
and_then names shared env ks limit (Stopped e n) = Stopped e n
and_then names shared env ks limit (Short n) = Short n

-- a term that is evaluated inside another means what it means by itself
abbrev pub Rows_compose : Type 0
Rows_compose =
    (names : Naming Ref MadeSymbol) (shared : Shared) (env : Env Ref) → env.free ≡ false → (t : Term) (p : Party Ref MadeSymbol) (ks : List (Next Ref MadeSymbol)) (limit steps : ℕ) → steps ≤ limit
    → run names shared env limit steps (Due 0 (Begins t) p ks) ≡ and_then names shared env ks limit (meaning names shared env t p limit steps)

-- THE TWO FACTS OF A CHARGE

-- what is charged is within the limit, and is charged under each that has it
abbrev pub Charges_within : Type 0
Charges_within = (meter : Option ℕ) (steps limit cost : ℕ) → charge meter steps limit cost ≡ Charged → (steps + cost ≤ limit) × ((other : ℕ) → steps + cost ≤ other → charge meter steps other cost ≡ Charged)

-- what ends under a limit ends so under each
abbrev pub Ends_under_each : Type 0
Ends_under_each = (meter : Option ℕ) (steps limit cost : ℕ) (e : Halt) → charge meter steps limit cost ≡ Stops e → (other : ℕ) → charge meter steps other cost ≡ Stops e
