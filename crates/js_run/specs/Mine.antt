-- A party's view: from inside, with its own numbered in the order of their leaving. Mine k is (1, k), Theirs k is (0, k).
use Rattle.std.specs.Prelude.{◌≡◌, ◌≢◌, ℕ, Bool, true, false, ◌&&◌, not, List, [], ◌∷◌, ◌++◌, length, map, nat_eq, ◌≤◌, ◌⊎◌, Some, if◌then◌else◌}
use Rattle.lava_base.specs.declared.ids.MadeSymbol.{MadeSymbol}
use Rattle.lava_base.specs.declared.ids.Ref.{Ref}
use Rattle.lava_base.specs.declared.ids.Ref.TheVariants as reference
use Rattle.lava_base.specs.declared.marks.Marks.{Marks}
use Rattle.js_text.specs.Identities.{Identity, Of_object, Of_symbol}
use Rattle.js_text.specs.Maps.{map_symbol}
use Rattle.js_text.specs.Naming.{Origin, Own, Common, Foreign, naming_of, origin_of}
use Rattle.js_run.specs.Heap.{World, heap}
use Rattle.js_run.specs.Identities.{Message, message_identities}
use Rattle.js_run.specs.Journal.{Application, Crossing, Ending, env_of, sent_by, table_of}
use Rattle.js_run.specs.Laws.{own_run, ending_of, left_first, IsWellMade, IsEnd}
use Rattle.js_run.specs.Local.{Outgoing, Local, takes, local}
use Rattle.js_run.specs.Maps.{map_message, map_outgoing, HasMarks, seen, map_seen}
use Rattle.js_run.specs.Parties.{Party, Shared}
use Rattle.js_run.specs.Runs.{Env}
use Rattle.js_run.specs.View.{is_in, same_identity, Inside, inner_start, SameMarks}

abbrev pub is_from_here : Origin → Bool
is_from_here (Own i) = true
is_from_here (Common c) = false
is_from_here Foreign = false

-- an object or a made symbol is the party's own
abbrev pub is_own : ℕ → Identity Ref MadeSymbol → Bool
is_own p (Of_object r) = is_from_here (origin_of p r)
is_own p (Of_symbol s) = nat_eq s.party.0 p

-- the own ones of the first list that are not yet in the second are put in front of it
abbrev pub add_mine : List (Identity Ref MadeSymbol) → List (Identity Ref MadeSymbol) → List (Identity Ref MadeSymbol)
add_mine [] known = known
add_mine (a ∷ rest) known = add_mine rest (if is_own 1 a && not (is_in a known) then a ∷ known else known)

-- the own ones that left, the newest in front: those that others have from the start, and then those that were sent
abbrev pub mine : List ℕ → List (Outgoing Ref MadeSymbol) → List (Identity Ref MadeSymbol)
mine left [] = left_first 1 left
mine left (o ∷ older) = add_mine (message_identities o.body) (mine left older)

-- the number of those before it
abbrev pub position : Identity Ref MadeSymbol → List (Identity Ref MadeSymbol) → ℕ
position a [] = 0
position a (x ∷ older) = if same_identity x a then length older else position a older

abbrev pub mine_object : List (Identity Ref MadeSymbol) → Ref → Ref
mine_object known r = if is_own 1 (Of_object r) then (naming_of 1).own (position (Of_object r) known) else r

abbrev pub mine_symbol : List (Identity Ref MadeSymbol) → MadeSymbol → MadeSymbol
mine_symbol known s = if is_own 1 (Of_symbol s) then (naming_of 1).own_symbol (position (Of_symbol s) known) else s

-- in a party's view each crossing has those of its time: an own one is numbered among those that left up to it
abbrev pub viewed_message : List ℕ → List (Outgoing Ref MadeSymbol) → Message Ref MadeSymbol → Message Ref MadeSymbol
viewed_message left sent x = map_message (mine_object (mine left sent)) (map_symbol (mine_symbol (mine left sent))) x

abbrev pub viewed_outgoing : List ℕ → List (Outgoing Ref MadeSymbol) → Outgoing Ref MadeSymbol → Outgoing Ref MadeSymbol
viewed_outgoing left sent o = map_outgoing (mine_object (mine left sent)) (map_symbol (mine_symbol (mine left sent))) o

module _ (p : ℕ) (left : List ℕ) (objects : Ref → Ref) (symbols : MadeSymbol → MadeSymbol) where
  -- what it has sent so far, from inside
  abbrev pub sent_so_far : List Crossing → List (Outgoing Ref MadeSymbol)
  sent_so_far journal = map (map_outgoing objects (map_symbol symbols)) (sent_by p journal)

  -- what came to the party, and what it sent, in its view
  abbrev pub journal_in : List Crossing → List (Message Ref MadeSymbol)
  journal_in [] = []
  journal_in (x ∷ older) =
      if nat_eq x.receiver p then viewed_message left (sent_so_far (x ∷ older)) (map_message objects (map_symbol symbols) x.sent.body) ∷ journal_in older else journal_in older

  abbrev pub journal_out : List Crossing → List (Outgoing Ref MadeSymbol)
  journal_out [] = []
  journal_out (x ∷ older) =
      if nat_eq x.sender p then viewed_outgoing left (sent_so_far (x ∷ older)) (map_outgoing objects (map_symbol symbols) x.sent) ∷ journal_out older else journal_out older

abbrev pub view_in : {app : Application} {w : World} {p : ℕ} → Inside app w p → List (Message Ref MadeSymbol)
view_in {app} {w} {p} i = journal_in p (app.left p) i.objects.0 i.symbols.0 w.journal

abbrev pub view_out : {app : Application} {w : World} {p : ℕ} → Inside app w p → List (Outgoing Ref MadeSymbol)
view_out {app} {w} {p} i = journal_out p (app.left p) i.objects.0 i.symbols.0 w.journal

-- two runs that have, each under its own number, a party with the same own things, where in their views the second received what the first did and maybe more
pub record Two_views {app other : Application} {w v : World} {p q : ℕ} (a : Inside app w p) (b : Inside other v q) (newer : List (Message Ref MadeSymbol)) : Type 0 where
  pub more : newer ≢ [] → IsEnd (view_out a) (view_out b) × (w.steps p ≤ v.steps q)
  pub equal : newer ≡ [] → IsEnd (view_out a) (view_out b) ⊎ IsEnd (view_out b) (view_out a)

abbrev pub Same_things_same_views : Type 0
Same_things_same_views =
    (app other : Application) → IsWellMade app → IsWellMade other → (budget limit m n : ℕ) (d e : Ending) (p q : ℕ) → p ≢ 0 → q ≢ 0
    → ending_of (heap app budget m).control ≡ Some d → ending_of (heap other limit n).control ≡ Some e
    → (a : Inside app (heap app budget m) p) (b : Inside other (heap other limit n) q)
    → app.shared ≡ other.shared → inner_start a ≡ inner_start b → app.left p ≡ other.left q → ((l : List ℕ) → app.allows p (app.links p l) ≡ other.allows q (other.links q l)) → SameMarks a b
    → (newer : List (Message Ref MadeSymbol)) → view_in b ≡ newer ++ view_in a
    → Two_views a b newer

-- A PARTY'S OWN MACHINE ON ITS VIEW: it knows its own by the order of their leaving

abbrev pub object_of_identity : Identity Ref MadeSymbol → Ref
object_of_identity (Of_object r) = r
object_of_identity (Of_symbol s) = (naming_of 1).own 0

abbrev pub symbol_of_identity : Identity Ref MadeSymbol → MadeSymbol
symbol_of_identity (Of_object r) = (naming_of 1).own_symbol 0
symbol_of_identity (Of_symbol s) = s

-- the one that left after so many
abbrev pub at_number : List (Identity Ref MadeSymbol) → ℕ → Identity Ref MadeSymbol
at_number [] k = Of_object ((naming_of 1).own 0)
at_number (x ∷ older) k = if nat_eq k (length older) then x else at_number older k

-- the number that a reference has in its party
abbrev pub number_of_ref : Ref → ℕ
number_of_ref (reference.Common c) = c.0
number_of_ref (reference.Own p i) = i.0

abbrev pub unviewed_object : List (Identity Ref MadeSymbol) → Ref → Ref
unviewed_object known r = if is_own 1 (Of_object r) then object_of_identity (at_number known (number_of_ref r)) else r

abbrev pub unviewed_symbol : List (Identity Ref MadeSymbol) → MadeSymbol → MadeSymbol
unviewed_symbol known s = if is_own 1 (Of_symbol s) then symbol_of_identity (at_number known s.id.0) else s

abbrev pub unviewed : List (Identity Ref MadeSymbol) → Message Ref MadeSymbol → Message Ref MadeSymbol
unviewed known x = map_message (unviewed_object known) (map_symbol (unviewed_symbol known)) x

abbrev pub local_view : Shared → List ℕ → Env Ref → Party Ref MadeSymbol → ℕ → List (Message Ref MadeSymbol) → Local Ref MadeSymbol
local_view shared left env start n [] = local (naming_of 1) shared env start n []
local_view shared left env start n (x ∷ older) =
    let r = local_view shared left env start n older in
    takes (naming_of 1) shared env n r r.standing (unviewed (mine left r.sent) x)

-- on the view of what came it shows what the party shows
pub record Shows_its_own (app : Application) (w : World) (p : ℕ) : Type 0 where
  pub inside : Inside app w p
  pub alone : (inner : Ref → Marks) → HasMarks (table_of app w.journal) inner inside.objects.0
      → seen (local_view app.shared (app.left p) (env_of app inner p) (inner_start inside) (w.steps p) (view_in inside)) ≡ map_seen inside.objects.0 (map_symbol inside.symbols.0) (seen (own_run app w (table_of app w.journal) p))

abbrev pub Each_shows_its_own : Type 0
Each_shows_its_own =
    (app : Application) → IsWellMade app → (budget crossings : ℕ) (e : Ending) (p : ℕ) → p ≢ 0 → ending_of (heap app budget crossings).control ≡ Some e
    → Shows_its_own app (heap app budget crossings) p
