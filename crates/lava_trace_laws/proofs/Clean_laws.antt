-- No line has an LF but its last byte.
use Rattle.std.proofs.Common.{◌≡◌, ℕ, zero, suc, ◌+◌, ◌/◌, ◌%◌, ◌<◌, ◌≤◌, ◌^◌, ◌==◌, Bool, true, false, not, ◌&&◌, cond, List, [], ◌∷◌, ◌++◌, codes, decimal, nat_le, nat_lt, slice_get, Option, Some, None, refl, arith}
use Rattle.std.proofs.lemmas.Bool.{and_from, and_parts}
use Rattle.std.proofs.lemmas.Bool.Decides.{nat_tests}
use Rattle.std.proofs.lemmas.Fmt.{decimal_by_steps}
use Rattle.std.specs.List.{flat_map, list_all}
use Rattle.std.specs.Option.{unwrap_or}
use Rattle.lava_base.specs.declared.ids.MadeSymbol.{MadeSymbol}
use Rattle.lava_base.specs.declared.ids.Ref.{Ref}
use Rattle.lava_base.specs.declared.ids.Ref.TheVariants.{Common, Own}
use Rattle.lava_base.specs.declared.marks.Class.{Class}
use Rattle.lava_base.specs.declared.marks.Class.TheVariants as class
use Rattle.lava_base.specs.declared.marks.Marks.{Marks}
use Rattle.js_text.specs.CommonPaths.{common_paths}
use Rattle.lava_journal.specs.Bodies.{Pieces}
use Rattle.lava_journal.specs.Quotes.{class_name, common_text, hex_digit, hex_unit, pair_text, quoted, quoted_unit}
use Rattle.lava_journal.specs.Sheets.{An_object, A_symbol, Plain, TraceNames, is_shown, known_object, known_symbol, number_of}
use Rattle.lava_trace_laws.specs.Spelled.{HasName, HaveNames, Listed, Place, mark_text, marks_shown, name_text, passed, piece_text, spelled}
use Rattle.lava_trace_laws.proofs.Span_laws.{none_pass}

abbrev pub clean : List ℕ → Bool
clean bs = none_pass (λ b. b == 10) bs

pub clean_append : (a b : List ℕ) → clean a ≡ true → clean b ≡ true → clean (a ++ b) ≡ true
clean_append [] b h k = k
clean_append (x ∷ a) b h k =
    let parts = and_parts (not (x == 10)) (clean a) h in
    and_from (not (x == 10)) (clean (a ++ b)) parts.0 (clean_append a b parts.1 k)

-- NUMBERS AND TEXTS

no_lf : (b : ℕ) → 11 ≤ b → not (b == 10) ≡ true
no_lf b h = grind (arith, nat_tests)

pub number_clean : (n : ℕ) → n < 2 ^ 64 → clean (decimal n) ≡ true
number_clean n h = decimal_by_steps (λ m ds. clean ds ≡ true)
    (λ m l. and_from _ true (no_lf (48 + m) (omega arith)) refl)
    (λ m ds l e. clean_append ds ((48 + m % 10) ∷ []) e (and_from _ true (no_lf (48 + m % 10) (omega arith)) refl)) n h

hex_high : (n : ℕ) → 11 ≤ hex_digit n
hex_high n = grind (arith, nat_tests)

hex_clean : (u : ℕ) → clean (hex_unit u) ≡ true
hex_clean u =
    and_from _ _ (no_lf _ (hex_high (u / 4096 % 16))) (and_from _ _ (no_lf _ (hex_high (u / 256 % 16)))
    (and_from _ _ (no_lf _ (hex_high (u / 16 % 16))) (and_from _ true (no_lf _ (hex_high (u % 16))) refl)))

high_unit : (u : ℕ) → (nat_le 32 u && nat_lt u 127) ≡ true → 11 ≤ u
high_unit u h = grind (arith, nat_tests)

unit_clean_in : (u : ℕ) (a b e : Bool) → (nat_le 32 u && nat_lt u 127) ≡ e → clean (cond a (92 ∷ 34 ∷ []) (cond b (92 ∷ 92 ∷ []) (cond e (u ∷ []) (hex_unit u)))) ≡ true
unit_clean_in u true b e h = refl
unit_clean_in u false true e h = refl
unit_clean_in u false false true h = and_from _ true (no_lf u (high_unit u h)) refl
unit_clean_in u false false false h = hex_clean u

units_clean : (t : List ℕ) → clean (flat_map quoted_unit t) ≡ true
units_clean [] = refl
units_clean (u ∷ t) = clean_append (quoted_unit u) (flat_map quoted_unit t) (unit_clean_in u (u == 34) (u == 92) (nat_le 32 u && nat_lt u 127) refl) (units_clean t)

pub text_clean : (t : List ℕ) → clean (quoted t) ≡ true
text_clean t = clean_append (flat_map quoted_unit t) (34 ∷ []) (units_clean t) refl

-- NAMES AND MARKS

paths_clean : list_all clean common_paths ≡ true
unfolding common_paths
paths_clean = refl

path_clean : (ps : List (List ℕ)) (c : ℕ) → list_all clean ps ≡ true → clean (unwrap_or (slice_get ps c) []) ≡ true
path_clean [] c h = refl
path_clean (p ∷ ps) zero h = (and_parts (clean p) (list_all clean ps) h).0
path_clean (p ∷ ps) (suc c) h = path_clean ps c (and_parts (clean p) (list_all clean ps) h).1

common_clean : (c : ℕ) → clean (common_text c) ≡ true
common_clean c = clean_append (unwrap_or (slice_get common_paths c) []) (37 ∷ []) (path_clean common_paths c paths_clean) refl

class_clean : (k : Class) → clean (class_name k) ≡ true
class_clean class.Object = refl
class_clean class.Array = refl
class_clean class.Function = refl
class_clean class.Error = refl
class_clean class.Map = refl
class_clean class.Set = refl
class_clean class.WeakMap = refl
class_clean class.Compartment = refl
class_clean class.Global = refl
class_clean class.Proxy = refl
class_clean class.Promise = refl
class_clean class.Module = refl

flags_clean : (c n : Bool) → clean (cond c (codes "+call") [] ++ cond n (codes "+new") []) ≡ true
flags_clean true true = refl
flags_clean true false = refl
flags_clean false true = refl
flags_clean false false = refl

marks_clean : (o : Option Marks) → clean (mark_text o) ≡ true
marks_clean None = refl
marks_clean (Some m) = clean_append (class_name m.class) (cond m.callable (codes "+call") [] ++ cond m.constructor (codes "+new") []) (class_clean m.class) (flags_clean m.callable m.constructor)

pair_clean : (p k : ℕ) → p < 2 ^ 64 → k < 2 ^ 64 → clean (pair_text p k) ≡ true
pair_clean p k h l = clean_append (decimal p) (46 ∷ decimal k) (number_clean p h) (number_clean k l)

name_clean : (names : TraceNames) (r : Ref) → HasName names (An_object r) → clean (name_text names r) ≡ true
name_clean names (Common c) h = common_clean c.0
name_clean names (Own p i) h = pair_clean p.0 (number_of names p.0 (known_object names p i)) (omega (arith, h.1)) (omega (arith, h.0, h.2))

-- PIECES

-- the bytes that stand among these pieces
abbrev pub clean_pieces : Pieces Ref MadeSymbol → Bool
clean_pieces [] = true
clean_pieces (Plain bytes ∷ ps) = clean bytes && clean_pieces ps
clean_pieces (An_object r ∷ ps) = clean_pieces ps
clean_pieces (A_symbol s ∷ ps) = clean_pieces ps

pub spelled_clean : (listed : Listed) (c : Place) (ps : Pieces Ref MadeSymbol) → clean_pieces ps ≡ true → HaveNames c.names ps → clean (spelled c.names listed ps) ≡ true
spelled_clean listed c [] h n = refl
spelled_clean listed c (Plain bytes ∷ ps) h n =
    let parts = and_parts (clean bytes) (clean_pieces ps) h in
    clean_append bytes (spelled c.names listed ps) parts.0 (spelled_clean listed c ps parts.1 n.1)
spelled_clean listed c (An_object r ∷ ps) h n =
    let d = passed listed c (An_object r ∷ []) in
    clean_append (piece_text c.names listed (An_object r)) (spelled d.names listed ps)
    (clean_append (name_text c.names r) (mark_text (marks_shown (is_shown c.names r) listed r)) (name_clean c.names r n.0) (marks_clean (marks_shown (is_shown c.names r) listed r)))
    (spelled_clean listed d ps h n.1)
spelled_clean listed c (A_symbol s ∷ ps) h n =
    let d = passed listed c (A_symbol s ∷ []) in
    clean_append (piece_text c.names listed (A_symbol s)) (spelled d.names listed ps)
    (pair_clean s.party.0 (number_of c.names s.party.0 (known_symbol c.names s)) (omega (arith, n.0.1)) (omega (arith, n.0.0, n.0.2)))
    (spelled_clean listed d ps h n.1)

pub pieces_append : (a b : Pieces Ref MadeSymbol) → clean_pieces a ≡ true → clean_pieces b ≡ true → clean_pieces (a ++ b) ≡ true
pieces_append [] b h k = k
pieces_append (Plain bytes ∷ a) b h k =
    let parts = and_parts (clean bytes) (clean_pieces a) h in
    and_from (clean bytes) (clean_pieces (a ++ b)) parts.0 (pieces_append a b parts.1 k)
pieces_append (An_object r ∷ a) b h k = pieces_append a b h k
pieces_append (A_symbol s ∷ a) b h k = pieces_append a b h k
