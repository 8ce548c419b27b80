-- A party's view of a trace: what it sent and what came to it, in order, where its own are named by their leaving and those of others by their coming.
use Rattle.std.specs.Prelude.{ℕ, ◌+◌, ◌==◌, Bool, true, false, ◌||◌, if◌then◌else◌, List, [], ◌∷◌, ◌++◌, codes, decimal, map, None}
use Rattle.std.specs.List.{flat_map, list_any}
use Rattle.std.specs.Map.{lookup}
use Rattle.std.specs.Option.{option_map, unwrap_or}
use Rattle.lava_base.specs.Ids.{same_made_symbol, same_ref}
use Rattle.lava_base.specs.declared.ids.MadeSymbol.{MadeSymbol}
use Rattle.lava_base.specs.declared.ids.Ref.{Ref}
use Rattle.lava_base.specs.declared.ids.Ref.TheVariants.{Common, Own}
use Rattle.lava_base.specs.declared.marks.Marks.{Marks}
use Rattle.js_text.specs.Identities.{Identity, Of_object, Of_symbol}
use Rattle.js_desc.specs.declared.crossing.CrossBody.{CrossBody}
use Rattle.js_desc.specs.declared.start.Grant.{Grant}
use Rattle.js_desc.specs.declared.start.Grant.TheVariants as grant
use Rattle.js_desc.specs.declared.start.Start.{Start}
use Rattle.lava_journal.specs.Bodies.{Pieces, body_pieces}
use Rattle.lava_journal.specs.Quotes.{common_text, marks_text}
use Rattle.lava_journal.specs.Sheets.{An_object, A_symbol, Piece, Plain}
use Rattle.lava_trace.specs.declared.line.Trace.{Trace}
use Rattle.lava_trace.specs.declared.line.TraceLine.{TraceLine}
use Rattle.lava_view.specs.declared.view_line.ViewLine.{ViewLine}

-- NAMES

abbrev pub same_identity : Identity Ref MadeSymbol → Identity Ref MadeSymbol → Bool
same_identity (Of_object r) (Of_object s) = same_ref r s
same_identity (Of_symbol r) (Of_symbol s) = same_made_symbol r s
same_identity (Of_object r) (Of_symbol s) = false
same_identity (Of_symbol r) (Of_object s) = false

-- what a view has named, objects and made symbols together
pub record ViewNames : Type 0 where
  -- the party's own that left it, in that order
  pub mine : List (Identity Ref MadeSymbol)
  -- those of others that came to it, in that order
  pub theirs : List (Identity Ref MadeSymbol)
  -- the references that have stood in the view, and those of the start
  pub shown : List Ref

-- whose an object or a made symbol is, for a party
pub data Side : Type 0 where
  -- of the common part, by its place
  Of_all : ℕ → Side
  Mine : Side
  Theirs : Side

abbrev pub side_by : Bool → Side
side_by true = Mine
side_by false = Theirs

abbrev pub object_side : ℕ → Ref → Side
object_side p (Common c) = Of_all c.0
object_side p (Own q i) = side_by (q.0 == p)

abbrev pub symbol_side : ℕ → MadeSymbol → Side
symbol_side p s = side_by (s.party.0 == p)

-- the number of those before it
abbrev pub place_in : Identity Ref MadeSymbol → List (Identity Ref MadeSymbol) → ℕ
place_in a [] = 0
place_in a (x ∷ xs) = if same_identity a x then 0 else 1 + place_in a xs

-- one that is not there yet goes last
abbrev pub with_one : List (Identity Ref MadeSymbol) → Identity Ref MadeSymbol → List (Identity Ref MadeSymbol)
with_one xs a = if list_any (same_identity a) xs then xs else xs ++ a ∷ []

-- a common object by its path, an own one as `mine.K`, another as `their.K`
abbrev pub name_in : ViewNames → Side → Identity Ref MadeSymbol → List ℕ
name_in names (Of_all c) a = common_text c
name_in names Mine a = codes "mine." ++ decimal (place_in a names.mine)
name_in names Theirs a = codes "their." ++ decimal (place_in a names.theirs)

abbrev pub named_then : ViewNames → Side → Identity Ref MadeSymbol → ViewNames
named_then names (Of_all c) a = names
named_then names Mine a = record names { mine = with_one names.mine a }
named_then names Theirs a = record names { theirs = with_one names.theirs a }

abbrev pub is_shown : ViewNames → Ref → Bool
is_shown names r = list_any (same_ref r) names.shown

abbrev pub shown_then : Bool → ViewNames → Ref → ViewNames
shown_then true names r = names
shown_then false names r = record names { shown = names.shown ++ r ∷ [] }

-- the marks behind a name, where its reference stands for the first time
abbrev pub marks_then : Bool → List (Ref × Marks) → Ref → List ℕ
marks_then true listed r = []
marks_then false listed r = unwrap_or (option_map marks_text (lookup (same_ref r) listed)) []

-- BODIES

abbrev pub piece_text : ℕ → ViewNames → List (Ref × Marks) → Piece Ref MadeSymbol → List ℕ
piece_text p names listed (Plain bytes) = bytes
piece_text p names listed (An_object r) = name_in names (object_side p r) (Of_object r) ++ marks_then (is_shown names r) listed r
piece_text p names listed (A_symbol s) = 64 ∷ name_in names (symbol_side p s) (Of_symbol s)

abbrev pub piece_names : ℕ → ViewNames → Piece Ref MadeSymbol → ViewNames
piece_names p names (Plain bytes) = names
piece_names p names (An_object r) = shown_then (is_shown names r) (named_then names (object_side p r) (Of_object r)) r
piece_names p names (A_symbol s) = named_then names (symbol_side p s) (Of_symbol s)

abbrev pub viewed_text : ℕ → ViewNames → List (Ref × Marks) → Pieces Ref MadeSymbol → List ℕ
viewed_text p names listed [] = []
viewed_text p names listed (x ∷ xs) = piece_text p names listed x ++ viewed_text p (piece_names p names x) listed xs

abbrev pub viewed_names : ℕ → ViewNames → Pieces Ref MadeSymbol → ViewNames
viewed_names p names [] = names
viewed_names p names (x ∷ xs) = viewed_names p (piece_names p names x) xs

-- LINES

-- what a party takes part in: whether it sent it, what crossed, and the marks that the trace has given so far
pub record Seen : Type 0 where
  pub sent : Bool
  pub body : CrossBody Ref MadeSymbol
  pub marks : List (Ref × Marks)

abbrev pub takes_part : ℕ → TraceLine → Bool
takes_part p l = (l.crossing.from.0 == p) || (l.crossing.to.0 == p)

abbrev pub seen_by : ℕ → List (Ref × Marks) → List TraceLine → List Seen
seen_by p listed [] = []
seen_by p listed (l ∷ ls) =
    if takes_part p l
    then (record { sent = l.crossing.from.0 == p; body = l.crossing.body; marks = listed ++ l.marks }) ∷ seen_by p (listed ++ l.marks) ls
    else seen_by p (listed ++ l.marks) ls

abbrev pub view_lines : ℕ → ViewNames → List Seen → List ViewLine
view_lines p names [] = []
view_lines p names (s ∷ ss) =
    (record { sent = s.sent; steps = None; body = viewed_text p names s.marks (body_pieces s.body) }) ∷ view_lines p (viewed_names p names (body_pieces s.body)) ss

-- AT THE START

-- the host's objects count as left, and so does the global of the application's own package
abbrev pub left_at_start : ℕ → List (Identity Ref MadeSymbol)
left_at_start p =
    if p == 0 then map (λ i. Of_object (Own (record { 0 = 0 }) (record { 0 = i }))) (0 ∷ 1 ∷ 2 ∷ 3 ∷ 4 ∷ 5 ∷ 6 ∷ 7 ∷ 8 ∷ 9 ∷ 10 ∷ 11 ∷ [])
    else if p == 1 then Of_object (Own (record { 0 = 1 }) (record { 0 = 0 })) ∷ [] else []

-- the references of a start came, in their order
abbrev pub with_all : List (Identity Ref MadeSymbol) → List Ref → List (Identity Ref MadeSymbol)
with_all known [] = known
with_all known (r ∷ rs) = with_all (with_one known (Of_object r)) rs

abbrev pub names_at_start : ℕ → List Ref → ViewNames
names_at_start p start = record { mine = left_at_start p; theirs = with_all [] start; shown = start }

-- whether a grant gives an object of the host, by its number
abbrev pub gives_object : ℕ → Grant → Bool
gives_object n (grant.Whole m) = n == m
gives_object n (grant.Part members) = list_any (λ e. n == e.1) members
gives_object n (grant.Live write) = false
gives_object n (grant.LivePart members) = false

-- whether it reads a global of the application's own package
abbrev pub is_live : Grant → Bool
is_live (grant.Live write) = true
is_live (grant.LivePart members) = true
is_live _ = false

abbrev pub any_grant : (Grant → Bool) → Start → Bool
any_grant test s = list_any (λ e. test e.1) s.globals || list_any (λ e. test e.1) s.builtins

-- the references of a start: the host's objects that it gives, by number, and then the global of the application's own package, where it reads one
-- own: what a party has from the start
abbrev pub references_of : Start → List Ref
references_of s =
    flat_map (λ n. if any_grant (gives_object n) s then Own (record { 0 = 0 }) (record { 0 = n }) ∷ [] else []) (0 ∷ 1 ∷ 2 ∷ 3 ∷ 4 ∷ 5 ∷ 6 ∷ 7 ∷ 8 ∷ 9 ∷ 10 ∷ 11 ∷ [])
    ++ (if any_grant is_live s then Own (record { 0 = 1 }) (record { 0 = 0 }) ∷ [] else [])

-- a party's view of a trace, where it has these references from the start
-- own: a party's view
abbrev pub view_of : Trace → List Ref → ℕ → List ViewLine
view_of t start p = view_lines p (names_at_start p start) (seen_by p [] t.lines)
