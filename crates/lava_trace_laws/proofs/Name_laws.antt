-- Names of objects and made symbols, with their marks, are read back.
use Rattle.std.proofs.Common.{◌≡◌, ℕ, zero, suc, ◌+◌, ◌<◌, ◌≤◌, ◌^◌, ◌==◌, Bool, true, false, not, ◌&&◌, cond, List, [], ◌∷◌, ◌++◌, codes, decimal, length, get_or, nat_le, Option, Some, None, slice_get, refl, ap, ◌∙◌, sym, arith, le-leb}
use Rattle.std.proofs.lemmas.Bool.{and_left, and_parts, cond-true, eqb-true}
use Rattle.std.proofs.lemmas.Bool.Decides.{nat_tests}
use Rattle.std.proofs.lemmas.List.{append_assoc, drop_at, append-nil, length_push}
use Rattle.std.specs.Option.{unwrap_or}
use Rattle.js_text.specs.CommonPaths.{common_paths}
use Rattle.lava_base.specs.declared.ids.MadeSymbol.{MadeSymbol}
use Rattle.lava_base.specs.declared.ids.PartyId.{PartyId}
use Rattle.lava_base.specs.declared.ids.ObjId.{ObjId}
use Rattle.lava_base.specs.declared.ids.CommonId.{CommonId}
use Rattle.lava_base.specs.declared.ids.Ref.{Ref}
use Rattle.lava_base.specs.declared.ids.Ref.TheVariants.{Common, Own}
use Rattle.lava_base.specs.declared.marks.Class.{Class}
use Rattle.lava_base.specs.declared.marks.Class.TheVariants as class
use Rattle.lava_base.specs.declared.marks.Marks.{Marks}
use Rattle.lava_journal.specs.Quotes.{class_name, common_text, marks_text, pair_text}
use Rattle.lava_journal.specs.Sheets.{An_object, A_symbol, TraceNames, is_shown, known_object, known_symbol, number_of}
use Rattle.lava_trace.specs.Items.{behind_name, class_of, mark_at, marks_at, name_at, object_at, ordinary, pair_at, place_from, place_of, with_marks, without_marks}
use Rattle.lava_trace.specs.Left.{Got, Left, is_digit, is_letter, narrowed, number_at, party_at, path_at, skipped, word_at}
use Rattle.lava_trace.specs.declared.left.TheConstants.{MAX_ID, MAX_PARTY}
use Rattle.lava_trace_laws.specs.Spelled.{Closed, HasName, Listed, Reads, closes, entry, mark_text, marks_shown, name_text, piece_names, spelled}
use Rattle.lava_trace_laws.proofs.Number_laws.{number_of_decimal}
use Rattle.lava_trace_laws.proofs.Span_laws.{front_is, none_pass}

abbrev pub left : List ℕ → Listed → Listed → Left
left bs m d = record { bytes = bs; marks = m; named = d }

pub number_read : (n : ℕ) (rest : List ℕ) (m d : Listed) → n < 2 ^ 64 → is_digit (get_or rest 0 0) ≡ false → number_at (left (decimal n ++ rest) m d) ≡ (n, left rest m d)
unfolding number_at
number_read n rest m d h e = ap (λ (x : ℕ × List ℕ). (x.0, left x.1 m d)) (number_of_decimal n rest h e)

pub narrowed_small : (most n : ℕ) → n ≤ most → narrowed most n ≡ n
narrowed_small most n h = cond-true (nat_le n most) n 0 (le-leb n most h)

pub party_read : (p : PartyId) (rest : List ℕ) (m d : Listed) → p.0 ≤ MAX_PARTY → is_digit (get_or rest 0 0) ≡ false
    → party_at (left (decimal p.0 ++ rest) m d) ≡ (p, left rest m d)
unfolding party_at
party_read p rest m d h e =
    let read = number_read p.0 rest m d (omega (arith, h)) e in
    ap (λ (g : Got ℕ). (record { 0 = narrowed MAX_PARTY g.0 }, g.1)) read
    ∙ ap (λ (k : ℕ). (record { 0 = k }, left rest m d)) (narrowed_small MAX_PARTY p.0 h)

-- a party and a number
pub pair_read : (s : MadeSymbol) (rest : List ℕ) (m d : Listed) → s.party.0 ≤ MAX_PARTY → s.id.0 ≤ MAX_ID → is_digit (get_or rest 0 0) ≡ false
    → pair_at (left (pair_text s.party.0 s.id.0 ++ rest) m d) ≡ (s, left rest m d)
unfolding pair_at
pair_read s rest m d h k e =
    let behind : List ℕ = 46 ∷ (decimal s.id.0 ++ rest) in
    let first = party_read s.party behind m d h refl in
    let second = number_read s.id.0 rest m d (omega (arith, k)) e in
    ap (λ bs. pair_at (left bs m d)) (append_assoc (decimal s.party.0) (46 ∷ decimal s.id.0) rest)
    ∙ ap (λ (g : Got PartyId). (record { party = g.0; id = record { 0 = narrowed MAX_ID (number_at (skipped 1 g.1)).0 } }, (number_at (skipped 1 g.1)).1)) first
    ∙ ap (λ (g : Got ℕ). (record { party = s.party; id = record { 0 = narrowed MAX_ID g.0 } }, g.1)) second
    ∙ ap (λ (i : ℕ). (record { party = s.party; id = record { 0 = i } }, left rest m d)) (narrowed_small MAX_ID s.id.0 k)

-- MARKS

class_read : (k : Class) → class_of (class_name k) ≡ k
class_read class.Object = refl
class_read class.Array = refl
class_read class.Function = refl
class_read class.Error = refl
class_read class.Map = refl
class_read class.Set = refl
class_read class.WeakMap = refl
class_read class.Compartment = refl
class_read class.Global = refl
class_read class.Proxy = refl
class_read class.Promise = refl
class_read class.Module = refl

class_letters : (k : Class) → none_pass (λ b. not (is_letter b)) (class_name k) ≡ true
class_letters class.Object = refl
class_letters class.Array = refl
class_letters class.Function = refl
class_letters class.Error = refl
class_letters class.Map = refl
class_letters class.Set = refl
class_letters class.WeakMap = refl
class_letters class.Compartment = refl
class_letters class.Global = refl
class_letters class.Proxy = refl
class_letters class.Promise = refl
class_letters class.Module = refl

-- a word up to what is no letter
pub word_read : (w rest : List ℕ) (m d : Listed) → none_pass (λ b. not (is_letter b)) w ≡ true → not (is_letter (get_or rest 0 0)) ≡ true → word_at (left (w ++ rest) m d) ≡ w
unfolding word_at
word_read w rest m d h e = front_is (λ b. not (is_letter b)) w rest h e

pub closed_word : (b : ℕ) → closes b ≡ true → not (is_letter b) ≡ true
closed_word b h = grind (arith, nat_tests)

pub closed_digit : (b : ℕ) → closes b ≡ true → is_digit b ≡ false
closed_digit b h = grind (arith, nat_tests)

closed_plus : (b : ℕ) → closes b ≡ true → (43 == b) ≡ false
closed_plus b h = grind (arith, nat_tests)

-- what is closed begins with no mark
no_mark : (word rest : List ℕ) (m d : Listed) → Closed rest → mark_at (43 ∷ word) (left rest m d) ≡ (false, left rest m d)
unfolding mark_at
no_mark word [] m d h = refl
no_mark word (b ∷ bs) m d h =
    ap (λ t. cond t (true, skipped (length (43 ∷ word)) (left (b ∷ bs) m d)) (false, left (b ∷ bs) m d)) (and_left (43 == b) _ (closed_plus b h))

-- what stands behind the class
abbrev behind_class : Bool → Bool → List ℕ
behind_class c n = cond c (codes "+call") [] ++ cond n (codes "+new") []

begins_no_letter : (c n : Bool) (rest : List ℕ) → Closed rest → not (is_letter (get_or (behind_class c n ++ rest) 0 0)) ≡ true
begins_no_letter true n rest h = refl
begins_no_letter false true rest h = refl
begins_no_letter false false rest h = closed_word (get_or rest 0 0) h

call_read : (c n : Bool) (rest : List ℕ) (m d : Listed) → Closed rest → mark_at (codes "+call") (left (behind_class c n ++ rest) m d) ≡ (c, left (cond n (codes "+new") [] ++ rest) m d)
unfolding mark_at
call_read true n rest m d h = refl
call_read false true rest m d h = refl
call_read false false rest m d h = no_mark (codes "call") rest m d h

new_read : (n : Bool) (rest : List ℕ) (m d : Listed) → Closed rest → mark_at (codes "+new") (left (cond n (codes "+new") [] ++ rest) m d) ≡ (n, left rest m d)
unfolding mark_at
new_read true rest m d h = refl
new_read false rest m d h = no_mark (codes "new") rest m d h

marks_parts : (k : Class) (c n : Bool) (rest : List ℕ) → marks_text (record { class = k; callable = c; constructor = n }) ++ rest ≡ 47 ∷ (class_name k ++ (behind_class c n ++ rest))
marks_parts k c n rest = ap (λ l. 47 ∷ l) (append_assoc (class_name k) (behind_class c n) rest)

marks_read : (k : Marks) (rest : List ℕ) (m d : Listed) → Closed rest
    → marks_at (left (class_name k.class ++ (behind_class k.callable k.constructor ++ rest)) m d) ≡ (k, left rest m d)
unfolding marks_at
marks_read k rest m d h =
    let behind = behind_class k.callable k.constructor ++ rest in
    let l = left (class_name k.class ++ behind) m d in
    ap (λ (w : List ℕ). (
      record { class = class_of w; callable = (mark_at (codes "+call") (skipped (length w) l)).0; constructor = (mark_at (codes "+new") (mark_at (codes "+call") (skipped (length w) l)).1).0 },
      (mark_at (codes "+new") (mark_at (codes "+call") (skipped (length w) l)).1).1,
    ))
    (word_read (class_name k.class) behind m d (class_letters k.class) (begins_no_letter k.callable k.constructor rest h))
    ∙ ap (λ (bs : List ℕ). (
      record { class = class_of (class_name k.class); callable = (mark_at (codes "+call") (left bs m d)).0; constructor = (mark_at (codes "+new") (mark_at (codes "+call") (left bs m d)).1).0 },
      (mark_at (codes "+new") (mark_at (codes "+call") (left bs m d)).1).1,
    ))
    (drop_at (class_name k.class) behind (length (class_name k.class)) refl)
    ∙ ap (λ (g : Got Bool). (record { class = class_of (class_name k.class); callable = g.0; constructor = (mark_at (codes "+new") g.1).0 }, (mark_at (codes "+new") g.1).1))
    (call_read k.callable k.constructor rest m d h)
    ∙ ap (λ (g : Got Bool). (record { class = class_of (class_name k.class); callable = k.callable; constructor = g.0 }, g.1))
    (new_read k.constructor rest m d h)
    ∙ ap (λ (x : Class). (record { class = x; callable = k.callable; constructor = k.constructor }, left rest m d)) (class_read k.class)

-- COMMON OBJECTS

-- each path has its place, and no `%`
each_found : ℕ → List (List ℕ) → Bool
each_found n [] = true
each_found n (p ∷ ps) = (place_of p == n) && (none_pass (λ b. b == 37) p && each_found (n + 1) ps)

all_found : each_found 0 common_paths ≡ true
unfolding each_found place_of common_paths place_from
all_found = refl

found_at : (n c : ℕ) (ps : List (List ℕ)) → each_found n ps ≡ true → c < length ps
    → (place_of (unwrap_or (slice_get ps c) []) ≡ n + c) × (none_pass (λ b. b == 37) (unwrap_or (slice_get ps c) []) ≡ true)
unfolding each_found
found_at n c [] e h = absurd (omega (arith, h))
found_at n zero (p ∷ ps) e h =
    let parts = and_parts (place_of p == n) _ e in
    let place = eqb-true (place_of p) n parts.0 in
    (omega (arith, place), (and_parts (none_pass (λ b. b == 37) p) _ parts.1).0)
found_at n (suc c) (p ∷ ps) e h =
    let parts = and_parts (place_of p == n) _ e in
    let more = found_at (n + 1) c ps (and_parts (none_pass (λ b. b == 37) p) _ parts.1).1 (omega (arith, h)) in
    (omega (arith, more.0), more.1)

path_read : (path rest : List ℕ) (m d : Listed) → none_pass (λ b. b == 37) path ≡ true → path_at (left ((path ++ 37 ∷ []) ++ rest) m d) ≡ path
unfolding path_at
path_read path rest m d h = ap (λ bs. path_at (left bs m d)) (append_assoc path (37 ∷ []) rest) ∙ front_is (λ b. b == 37) path (37 ∷ rest) h refl

-- a common object by its path
pub common_read : (c : CommonId) (rest : List ℕ) (m d : Listed) → c.0 < length common_paths → name_at (left (common_text c.0 ++ rest) m d) ≡ (Common c, left rest m d)
unfolding name_at
common_read c rest m d h =
    let path = unwrap_or (slice_get common_paths c.0) [] in
    let found = found_at 0 c.0 common_paths all_found h in
    let l = left ((path ++ 37 ∷ []) ++ rest) m d in
    ap (λ (w : List ℕ). (Common (record { 0 = place_of w }), skipped (length w + 1) l)) (path_read path rest m d found.1)
    ∙ ap (λ (n : ℕ). (Common (record { 0 = n }), skipped (length path + 1) l)) (found.0 ∙ omega arith)
    ∙ ap (λ (bs : List ℕ). (Common c, left bs m d)) (drop_at (path ++ 37 ∷ []) rest (length path + 1) (length_push path 37))

-- an object of a party by its number
pub own_read : (p : PartyId) (i : ObjId) (rest : List ℕ) (m d : Listed) → p.0 ≤ MAX_PARTY → i.0 ≤ MAX_ID → is_digit (get_or rest 0 0) ≡ false
    → name_at (left (35 ∷ (pair_text p.0 i.0 ++ rest)) m d) ≡ (Own p i, left rest m d)
unfolding name_at
own_read p i rest m d h k e = ap (λ (g : Got MadeSymbol). (Own g.0.party g.0.id, g.1)) (pair_read (record { party = p; id = i }) rest m d h k e)

closed_slash : (b : ℕ) → closes b ≡ true → (b == 47) ≡ false
closed_slash b h = grind (arith, nat_tests)

-- the marks behind a name, or none
pub behind_read : (r : Ref) (o : Option Marks) (rest : List ℕ) (m d : Listed) → Closed rest
    → behind_name r (left (mark_text o ++ rest) m d) ≡ left rest (m ++ entry r o) (d ++ (r, unwrap_or o ordinary) ∷ [])
unfolding behind_name
behind_read r None rest m d h =
    ap (λ t. cond t (with_marks r (marks_at (skipped 1 (left rest m d))).0 (marks_at (skipped 1 (left rest m d))).1) (without_marks r (left rest m d))) (closed_slash (get_or rest 0 0) h)
    ∙ ap (λ l. left rest l (d ++ (r, ordinary) ∷ [])) (sym (append-nil m))
behind_read r (Some k) rest m d h =
    ap (λ bs. behind_name r (left bs m d)) (marks_parts k.class k.callable k.constructor rest)
    ∙ ap (λ (g : Got Marks). with_marks r g.0 g.1) (marks_read k rest m d h)

closed_marks : (o : Option Marks) (rest : List ℕ) → Closed rest → is_digit (get_or (mark_text o ++ rest) 0 0) ≡ false
closed_marks None rest h = closed_digit (get_or rest 0 0) h
closed_marks (Some k) rest h = refl

-- a reference by its name, and its marks if it is shown
pub name_and_marks : (names : TraceNames) (r : Ref) (o : Option Marks) (rest : List ℕ) (m d : Listed) → HasName names (An_object r) → Closed rest
    → name_at (left ((name_text names r ++ mark_text o) ++ rest) m d) ≡ (r, left (mark_text o ++ rest) m d)
name_and_marks names (Common c) o rest m d h e =
    ap (λ bs. name_at (left bs m d)) (append_assoc (common_text c.0) (mark_text o) rest) ∙ common_read c (mark_text o ++ rest) m d h
name_and_marks names (Own p i) o rest m d h e =
    let number = number_of names p.0 (known_object names p i) in
    ap (λ bs. name_at (left bs m d)) (append_assoc (name_text names (Own p i)) (mark_text o) rest)
    ∙ ap (λ (k : ℕ). name_at (left (35 ∷ (pair_text p.0 k ++ (mark_text o ++ rest))) m d)) h.0
    ∙ own_read p i (mark_text o ++ rest) m d h.1 h.2 (closed_marks o rest e)

pub object_reads : (r : Ref) → Reads object_at (An_object r ∷ []) r
unfolding object_at
object_reads r listed c q h e =
    let o = marks_shown (is_shown c.names r) listed r in
    let rest = spelled (piece_names c.names (An_object r)) listed q in
    ap (λ (g : Got Ref). (g.0, behind_name g.0 g.1)) (name_and_marks c.names r o rest c.marks c.named h.0 e)
    ∙ ap (λ l. (r, l)) (behind_read r o rest c.marks c.named e)

-- a made symbol by its name
pub made_reads : (s : MadeSymbol) → Reads (λ l. pair_at (skipped 1 l)) (A_symbol s ∷ []) s
made_reads s listed c q h e =
    let number = number_of c.names s.party.0 (known_symbol c.names s) in
    let rest = spelled (piece_names c.names (A_symbol s)) listed q in
    ap (λ (k : ℕ). pair_at (left (pair_text s.party.0 k ++ rest) c.marks c.named)) h.0.0
    ∙ pair_read s rest c.marks c.named h.0.1 h.0.2 (closed_digit (get_or rest 0 0) e)
