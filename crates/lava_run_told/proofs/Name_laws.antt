-- Each name takes two bytes at least, so a text that is not too long has few.
use Rattle.std.proofs.Common.{◌≡◌, ℕ, ◌+◌, ◌*◌, ◌≤◌, ◌==◌, Bool, true, false, if◌then◌else◌, List, [], ◌∷◌, ◌++◌, length, decimal, Option, Some, None, refl, sym, subst, length-append, arith}
use Rattle.lava_base.specs.declared.ids.MadeSymbol.{MadeSymbol}
use Rattle.lava_base.specs.declared.ids.ObjId.{ObjId}
use Rattle.lava_base.specs.declared.ids.PartyId.{PartyId}
use Rattle.lava_base.specs.declared.ids.Ref.{Ref}
use Rattle.lava_base.specs.declared.ids.Ref.TheVariants.{Common, Own}
use Rattle.lava_journal.specs.Bodies.{Pieces}
use Rattle.lava_journal.specs.Lines.{end_text, line_pieces, start_text}
use Rattle.lava_journal.specs.Quotes.{pair_text}
use Rattle.lava_journal.specs.Sheets.{An_object, A_symbol, Piece, Plain, Sheet, TraceNames, blank, count_at_start, count_of, is_shown, known_object, known_symbol, no_names, number_of, with_object, with_symbol}
use Rattle.lava_run_told.specs.Laws.{Short_text_has_few_names}
use Rattle.lava_told.proofs.Known_laws.{object_counts, symbol_counts}
use Rattle.lava_told.specs.Told.{names_after}
use Rattle.lava_trace.specs.declared.line.TraceLine.{TraceLine}
use Rattle.lava_trace_laws.proofs.Line_laws.{names_behind, sheet_is}
use Rattle.lava_trace_laws.specs.Spelled.{Listed, mark_text, marks_shown, name_text, named_then, piece_names, piece_text, shown_then, spelled}
use Rattle.lava_trace_laws.specs.Written.{crossing_lines, line_of}

-- twice the count of a party grows by no more than so many bytes
abbrev Grows_by : (old new : TraceNames) → (p bytes : ℕ) → Type 0
Grows_by old new p bytes = 2 * count_of new p ≤ 2 * count_of old p + bytes

grows_on : (a b c : TraceNames) (p m n : ℕ) → Grows_by a b p m → Grows_by b c p n → Grows_by a c p (m + n)
grows_on a b c p m n g h = omega (arith, g, h)

one_at_most : (b : Bool) → (if b then 1 else 0) ≤ 1
one_at_most true = omega arith
one_at_most false = omega arith

object_grows : (names : TraceNames) (q : PartyId) (i : ObjId) (o : Option ℕ) (p bytes : ℕ) → 2 ≤ bytes → Grows_by names (with_object names q i o) p bytes
object_grows names q i (Some k) p bytes l = omega arith
object_grows names q i None p bytes l = let c = object_counts names q i p in let one = one_at_most (q.0 == p) in omega (arith, c, one, l)

symbol_grows : (names : TraceNames) (s : MadeSymbol) (o : Option ℕ) (p bytes : ℕ) → 2 ≤ bytes → Grows_by names (with_symbol names s o) p bytes
symbol_grows names s (Some k) p bytes l = omega arith
symbol_grows names s None p bytes l = let c = symbol_counts names s p in let one = one_at_most (s.party.0 == p) in omega (arith, c, one, l)

shown_grows : (b : Bool) (names new : TraceNames) (r : Ref) (p bytes : ℕ) → Grows_by names new p bytes → Grows_by names (shown_then b new r) p bytes
shown_grows true names new r p bytes g = g
shown_grows false names new r p bytes g = g

-- a name has a byte before its party, and one before its number
pair_is_long : (b p k : ℕ) (rest : List ℕ) → 2 ≤ length ((b ∷ pair_text p k) ++ rest)
pair_is_long b p k rest =
    let whole = length-append (b ∷ pair_text p k) rest in
    let pair = length-append (decimal p) (46 ∷ decimal k) in
    omega (arith, whole, pair)

named_grows : (names : TraceNames) (listed : Listed) (b : Bool) (r : Ref) (p : ℕ) → Grows_by names (named_then names r) p (length (name_text names r ++ mark_text (marks_shown b listed r)))
named_grows names listed b (Common c) p = omega arith
named_grows names listed b (Own q i) p =
    object_grows names q i (known_object names q i) p (length (name_text names (Own q i) ++ mark_text (marks_shown b listed (Own q i))))
    (pair_is_long 35 q.0 (number_of names q.0 (known_object names q i)) (mark_text (marks_shown b listed (Own q i))))

symbol_is_long : (names : TraceNames) (s : MadeSymbol) → 2 ≤ length (64 ∷ pair_text s.party.0 (number_of names s.party.0 (known_symbol names s)))
symbol_is_long names s =
    let pair = length-append (decimal s.party.0) (46 ∷ decimal (number_of names s.party.0 (known_symbol names s))) in
    omega (arith, pair)

piece_grows : (names : TraceNames) (listed : Listed) (x : Piece Ref MadeSymbol) (p : ℕ) → Grows_by names (piece_names names x) p (length (piece_text names listed x))
piece_grows names listed (Plain bytes) p = omega arith
piece_grows names listed (An_object r) p =
    shown_grows (is_shown names r) names (named_then names r) r p (length (name_text names r ++ mark_text (marks_shown (is_shown names r) listed r))) (named_grows names listed (is_shown names r) r p)
piece_grows names listed (A_symbol s) p =
    symbol_grows names s (known_symbol names s) p (length (64 ∷ pair_text s.party.0 (number_of names s.party.0 (known_symbol names s)))) (symbol_is_long names s)

pieces_grow : (names : TraceNames) (listed : Listed) (ps : Pieces Ref MadeSymbol) (p : ℕ) → Grows_by names (names_behind names ps) p (length (spelled names listed ps))
pieces_grow names listed [] p = omega arith
pieces_grow names listed (x ∷ ps) p =
    let next = piece_names names x in
    subst (Grows_by names (names_behind next ps) p) (sym (length-append (piece_text names listed x) (spelled next listed ps)))
    (grows_on names next (names_behind next ps) p (length (piece_text names listed x)) (length (spelled next listed ps)) (piece_grows names listed x p) (pieces_grow next listed ps p))

line_grows : (names : TraceNames) (number : ℕ) (l : TraceLine) (p : ℕ) → Grows_by names (line_of names number l).names p (length (line_of names number l).text)
line_grows names number l p =
    let ps = line_pieces number l.crossing in
    subst (λ (s : Sheet). Grows_by names s.names p (length s.text)) (sym (sheet_is (blank names l.marks) ps)) (pieces_grow names l.marks ps p)

lines_grow : (names : TraceNames) (number : ℕ) (ls : List TraceLine) (p : ℕ) → Grows_by names (names_after names number ls) p (length (crossing_lines names number ls))
lines_grow names number [] p = omega arith
lines_grow names number (l ∷ ls) p =
    let next = (line_of names number l).names in
    let line = (line_of names number l).text in
    let rest = crossing_lines next (number + 1) ls in
    subst (Grows_by names (names_after next (number + 1) ls) p) (sym (length-append line rest))
    (grows_on names next (names_after next (number + 1) ls) p (length line) (length rest) (line_grows names number l p) (lines_grow next (number + 1) ls p))

-- at the start there are twelve at most
start_has : (a b : Bool) → (if a then 12 else if b then 1 else 0) ≤ 12
start_has true b = omega arith
start_has false true = omega arith
start_has false false = omega arith

few_at_start : (p : ℕ) → count_of no_names p ≤ 12
few_at_start p = let few = start_has (p == 0) (p == 1) in let none : count_of no_names p ≡ count_at_start p + 0 = refl in omega (arith, few, none)

pub short_text_has_few_names : Short_text_has_few_names
short_text_has_few_names t p short =
    let lines = crossing_lines no_names 1 t.lines in
    let end = end_text t.steps t.ending in
    let whole = length-append (start_text t.parties) (lines ++ end) in
    let behind = length-append lines end in
    let grows = lines_grow no_names 1 t.lines p in
    let few = few_at_start p in
    omega (arith, whole, behind, grows, few, short)
