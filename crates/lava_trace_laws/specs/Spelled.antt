-- The bytes of pieces, piece by piece, and what is read of them.
use Rattle.std.specs.Prelude.{◌≡◌, ℕ, ◌<◌, ◌≤◌, ◌==◌, Bool, true, false, ◌||◌, is_some, List, [], ◌∷◌, ◌++◌, length, get_or, Option, Some, None, ⊤}
use Rattle.std.specs.Map.{lookup}
use Rattle.std.specs.Option.{option_map, unwrap_or}
use Rattle.lava_base.specs.Ids.{same_ref}
use Rattle.lava_base.specs.declared.ids.MadeSymbol.{MadeSymbol}
use Rattle.lava_base.specs.declared.ids.Ref.{Ref}
use Rattle.lava_base.specs.declared.ids.Ref.TheVariants.{Common, Own}
use Rattle.lava_base.specs.declared.marks.Marks.{Marks}
use Rattle.js_text.specs.CommonPaths.{common_paths}
use Rattle.lava_journal.specs.Bodies.{Pieces}
use Rattle.lava_journal.specs.Quotes.{common_text, marks_text, pair_text}
use Rattle.lava_journal.specs.Sheets.{An_object, A_symbol, Piece, Plain, TraceNames, is_shown, known_object, known_symbol, number_of, with_object, with_shown, with_symbol}
use Rattle.lava_trace.specs.Items.{ordinary}
use Rattle.lava_trace.specs.Left.{Got, Left}
use Rattle.lava_trace.specs.declared.left.TheConstants.{MAX_ID, MAX_PARTY}

-- WHAT IS WRITTEN

abbrev pub Listed : Type 0
Listed = List (Ref × Marks)

abbrev pub name_text : TraceNames → Ref → List ℕ
name_text names (Common c) = common_text c.0
name_text names (Own p i) = 35 ∷ pair_text p.0 (number_of names p.0 (known_object names p i))

-- the marks that stand behind a name: none where the reference has been shown
abbrev pub marks_shown : Bool → Listed → Ref → Option Marks
marks_shown true listed r = None
marks_shown false listed r = lookup (same_ref r) listed

abbrev pub mark_text : Option Marks → List ℕ
mark_text o = unwrap_or (option_map marks_text o) []

abbrev pub named_then : TraceNames → Ref → TraceNames
named_then names (Common c) = names
named_then names (Own p i) = with_object names p i (known_object names p i)

abbrev pub shown_then : Bool → TraceNames → Ref → TraceNames
shown_then true names r = names
shown_then false names r = with_shown names r

-- the bytes of a piece
abbrev pub piece_text : TraceNames → Listed → Piece Ref MadeSymbol → List ℕ
piece_text names listed (Plain bytes) = bytes
piece_text names listed (An_object r) = name_text names r ++ mark_text (marks_shown (is_shown names r) listed r)
piece_text names listed (A_symbol s) = 64 ∷ pair_text s.party.0 (number_of names s.party.0 (known_symbol names s))

-- what is named behind it
abbrev pub piece_names : TraceNames → Piece Ref MadeSymbol → TraceNames
piece_names names (Plain bytes) = names
piece_names names (An_object r) = shown_then (is_shown names r) (named_then names r) r
piece_names names (A_symbol s) = with_symbol names s (known_symbol names s)

-- the bytes of some pieces
abbrev pub spelled : TraceNames → Listed → Pieces Ref MadeSymbol → List ℕ
spelled names listed [] = []
spelled names listed (p ∷ ps) = piece_text names listed p ++ spelled (piece_names names p) listed ps

-- WHAT IS READ

-- what is named, and what was read so far
pub record Place : Type 0 where
  pub names : TraceNames
  pub marks : Listed
  pub named : Listed

-- the marks that stand behind a name, as an entry
abbrev pub entry : Ref → Option Marks → Listed
entry r None = []
entry r (Some m) = (r, m) ∷ []

-- a reference was read with these marks, or without
abbrev pub noted : Place → Ref → TraceNames → Option Marks → Place
noted c r names o = record { names = names; marks = c.marks ++ entry r o; named = c.named ++ (r, unwrap_or o ordinary) ∷ [] }

abbrev pub passed_piece : Listed → Place → Piece Ref MadeSymbol → Place
passed_piece listed c (Plain bytes) = c
passed_piece listed c (An_object r) = noted c r (piece_names c.names (An_object r)) (marks_shown (is_shown c.names r) listed r)
passed_piece listed c (A_symbol s) = record c { names = piece_names c.names (A_symbol s) }

abbrev pub passed : Listed → Place → Pieces Ref MadeSymbol → Place
passed listed c [] = c
passed listed c (p ∷ ps) = passed listed (passed_piece listed c p) ps

-- a line of which these pieces are left
abbrev pub at : Listed → Place → Pieces Ref MadeSymbol → Left
at listed c ps = record { bytes = spelled c.names listed ps; marks = c.marks; named = c.named }

-- WHAT CAN BE READ

-- an id is the number of its name, which an id and a party hold
abbrev pub HasNumber : (party number id : ℕ) → Type 0
HasNumber party number id = (number ≡ id) × (party ≤ MAX_PARTY) × (id ≤ MAX_ID)

abbrev pub HasName : TraceNames → Piece Ref MadeSymbol → Type 0
HasName names (Plain bytes) = ⊤
HasName names (An_object (Common c)) = c.0 < length common_paths
HasName names (An_object (Own p i)) = HasNumber p.0 (number_of names p.0 (known_object names p i)) i.0
HasName names (A_symbol s) = HasNumber s.party.0 (number_of names s.party.0 (known_symbol names s)) s.id.0

-- each object and made symbol has the number of its name as its id
abbrev pub HaveNames : TraceNames → Pieces Ref MadeSymbol → Type 0
HaveNames names [] = ⊤
HaveNames names (p ∷ ps) = HasName names p × HaveNames (piece_names names p) ps

-- nothing stands behind an item, or a space, a `]` or a `}`
abbrev pub closes : ℕ → Bool
closes b = (b == 0) || ((b == 32) || ((b == 93) || (b == 125)))

abbrev pub Closed : List ℕ → Type 0
Closed rest = closes (get_or rest 0 0) ≡ true

-- a reading gives a thing off its pieces, whatever closed pieces stand behind them
abbrev pub Reads : {X : Type 0} → (Left → Got X) → Pieces Ref MadeSymbol → X → Type 0
Reads f ps x = (listed : Listed) (c : Place) (q : Pieces Ref MadeSymbol) → HaveNames c.names (ps ++ q) → Closed (spelled (passed listed c ps).names listed q)
    → f (at listed c (ps ++ q)) ≡ (x, at listed (passed listed c ps) q)

-- at the start of a line nothing is read
abbrev pub start_of : TraceNames → Place
start_of names = record { names = names; marks = []; named = [] }

-- the marks that stand behind names, in that order
abbrev pub marks_in : TraceNames → Listed → Pieces Ref MadeSymbol → Listed
marks_in names listed ps = (passed listed (start_of names) ps).marks

-- a reference that has not been shown has marks
abbrev pub HasMarks : TraceNames → Listed → Piece Ref MadeSymbol → Type 0
HasMarks names listed (Plain bytes) = ⊤
HasMarks names listed (An_object r) = (is_shown names r || is_some (lookup (same_ref r) listed)) ≡ true
HasMarks names listed (A_symbol s) = ⊤

abbrev pub HaveMarks : TraceNames → Listed → Pieces Ref MadeSymbol → Type 0
HaveMarks names listed [] = ⊤
HaveMarks names listed (p ∷ ps) = HasMarks names listed p × HaveMarks (piece_names names p) listed ps
