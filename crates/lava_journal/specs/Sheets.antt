-- What a trace has named, and how its text goes on with each piece.
use Rattle.std.specs.Prelude.{ℕ, ◌+◌, ◌==◌, nat_lt, Bool, true, false, ◌&&◌, ◌||◌, if◌then◌else◌, List, [], ◌∷◌, ◌++◌, Option, Some, None}
use Rattle.std.specs.List.{count_by, list_any}
use Rattle.std.specs.Map.{lookup}
use Rattle.std.specs.Option.{option_map, option_or, unwrap_or}
use Rattle.lava_base.specs.Ids.{same_made_symbol, same_ref}
use Rattle.lava_base.specs.declared.ids.MadeSymbol.{MadeSymbol}
use Rattle.lava_base.specs.declared.ids.ObjId.{ObjId}
use Rattle.lava_base.specs.declared.ids.PartyId.{PartyId}
use Rattle.lava_base.specs.declared.ids.Ref.{Ref}
use Rattle.lava_base.specs.declared.ids.Ref.TheVariants.{Common, Own}
use Rattle.lava_base.specs.declared.marks.Marks.{Marks}
use Rattle.lava_journal.specs.Quotes.{common_text, marks_text, pair_text}
use Rattle.lava_journal.specs.declared.numbers.TheConstants.{HOST_OBJECTS}

-- NUMBERS

-- what a trace has named so far
pub record TraceNames : Type 0 where
  -- the objects that left their party, in that order, each with its number
  pub objects : List (Ref × ℕ)
  -- the symbols that left the party that made them, in that order, each with its number
  pub symbols : List (MadeSymbol × ℕ)
  -- the references that stood in some crossing, but for the host's fixed ones
  pub shown : List Ref

abbrev pub names_of : List (Ref × ℕ) → List (MadeSymbol × ℕ) → List Ref → TraceNames
names_of objects symbols shown = record { objects = objects; symbols = symbols; shown = shown }

abbrev pub no_names : TraceNames
no_names = names_of [] [] []

-- the host's fixed references
abbrev pub is_fixed : Ref → Bool
is_fixed (Common c) = false
is_fixed (Own p i) = p.0 == 0 && nat_lt i.0 HOST_OBJECTS

-- the numbers that are given at the start: those of the host's fixed references, and that of the global of `$root$`
abbrev pub number_at_start : (party id : ℕ) → Option ℕ
number_at_start p i = if p == 0 && nat_lt i HOST_OBJECTS then Some i else if p == 1 && i == 0 then Some 0 else None

-- how many numbers of a party are given at the start
abbrev pub count_at_start : ℕ → ℕ
count_at_start p = if p == 0 then HOST_OBJECTS else if p == 1 then 1 else 0

abbrev pub is_owned_by : ℕ → Ref → Bool
is_owned_by p (Common c) = false
is_owned_by p (Own q i) = q.0 == p

abbrev pub object_is_of : ℕ → Ref × ℕ → Bool
object_is_of p e = is_owned_by p e.0

abbrev pub symbol_is_of : ℕ → MadeSymbol × ℕ → Bool
symbol_is_of p e = e.0.party.0 == p

-- how many objects and made symbols have left a party
abbrev pub count_of : TraceNames → ℕ → ℕ
count_of names p = count_at_start p + (count_by (object_is_of p) names.objects + count_by (symbol_is_of p) names.symbols)

-- the number of an object that has left its party
abbrev pub known_object : TraceNames → PartyId → ObjId → Option ℕ
known_object names p i = option_or (number_at_start p.0 i.0) (lookup (same_ref (Own p i)) names.objects)

abbrev pub known_symbol : TraceNames → MadeSymbol → Option ℕ
known_symbol names s = lookup (same_made_symbol s) names.symbols

-- a number: the K-th, from 0, of the objects and made symbols that left a party has K, so a new one has as many as there are
-- own: names in a trace
abbrev pub number_of : TraceNames → ℕ → Option ℕ → ℕ
number_of names p known = unwrap_or known (count_of names p)

-- the names once an object has stood there
abbrev pub with_object : TraceNames → PartyId → ObjId → Option ℕ → TraceNames
with_object names p i (Some k) = names
with_object names p i None = record names { objects = names.objects ++ (Own p i, count_of names p.0) ∷ [] }

-- the names once a made symbol has stood there
abbrev pub with_symbol : TraceNames → MadeSymbol → Option ℕ → TraceNames
with_symbol names s (Some k) = names
with_symbol names s None = record names { symbols = names.symbols ++ (s, count_of names s.party.0) ∷ [] }

-- PIECES

-- a piece of a line: bytes as they stand, or an object or a made symbol, whose text depends on what has been named
pub data Piece (R S : Type 0) : Type 0 where
  Plain : List ℕ → Piece R S
  An_object : R → Piece R S
  A_symbol : S → Piece R S

-- a text that is written, what it has named, and the marks of the references that the crossing names
pub record Sheet : Type 0 where
  pub text : List ℕ
  pub names : TraceNames
  pub marks : List (Ref × Marks)

-- a sheet on which nothing is written
abbrev pub blank : TraceNames → List (Ref × Marks) → Sheet
blank names listed = record { text = []; names = names; marks = listed }

abbrev pub with_text : Sheet → List ℕ → Sheet
with_text s more = record s { text = s.text ++ more }

-- the name of an object: a common one by its path, another by `#`, its party and its number
abbrev pub with_name : Sheet → Ref → Sheet
with_name s (Common c) = with_text s (common_text c.0)
with_name s (Own p i) = record {
  text = s.text ++ 35 ∷ pair_text p.0 (number_of s.names p.0 (known_object s.names p i));
  names = with_object s.names p i (known_object s.names p i);
  marks = s.marks;
}

-- whether the marks of a reference are left out: it is one of the host's fixed ones, or has stood in a crossing
abbrev pub is_shown : TraceNames → Ref → Bool
is_shown names r = is_fixed r || list_any (same_ref r) names.shown

-- the names once a reference has stood in a crossing
abbrev pub with_shown : TraceNames → Ref → TraceNames
with_shown names r = record names { shown = names.shown ++ r ∷ [] }

-- the marks of a reference, at its first appearance
abbrev pub with_marks_of : Bool → Sheet → Ref → Sheet
with_marks_of true s r = s
with_marks_of false s r = record {
  text = s.text ++ unwrap_or (option_map marks_text (lookup (same_ref r) s.marks)) [];
  names = with_shown s.names r;
  marks = s.marks;
}

-- a made symbol by `@`, its party and its number
abbrev pub with_made_symbol : Sheet → MadeSymbol → Sheet
with_made_symbol s m = record {
  text = s.text ++ 64 ∷ pair_text m.party.0 (number_of s.names m.party.0 (known_symbol s.names m));
  names = with_symbol s.names m (known_symbol s.names m);
  marks = s.marks;
}

-- a sheet with one piece more
abbrev pub with_piece : Sheet → Piece Ref MadeSymbol → Sheet
with_piece s (Plain bytes) = with_text s bytes
with_piece s (An_object r) = with_marks_of (is_shown s.names r) (with_name s r) r
with_piece s (A_symbol m) = with_made_symbol s m

-- a sheet with some pieces more, from left to right
unfoldable pub with_pieces : Sheet → List (Piece Ref MadeSymbol) → Sheet
with_pieces s [] = s
with_pieces s (p ∷ ps) = with_pieces (with_piece s p) ps
