-- The lines of a journal, one by one: each has marks for what it names, and is owned by parties that are there.
use Rattle.std.proofs.Common.{◌≡◌, ◌≢◌, ℕ, ◌+◌, ◌<◌, ◌≤◌, Bool, true, false, ◌||◌, List, [], ◌∷◌, ◌++◌, map, is_some, Option, Some, None, refl, ap, ◌∙◌, sym, subst, ◌⊎◌, inl, inr, ⊎_elim, arith, if◌then◌else◌}
use Rattle.std.proofs.lemmas.Bool.{cases_Bool, or_right, true≢false}
use Rattle.std.specs.List.{AllByRecursion}
use Rattle.std.specs.Map.{lookup}
use Rattle.std.specs.Prelude.{⊤}
use Rattle.lava_base.specs.Ids.{same_ref}
use Rattle.lava_base.specs.SameRefs.{same_ref_decides}
use Rattle.lava_base.specs.declared.ids.MadeSymbol.{MadeSymbol}
use Rattle.lava_base.specs.declared.ids.Ref.{Ref}
use Rattle.lava_base.specs.declared.ids.Ref.TheVariants.{Common, Own}
use Rattle.lava_base.specs.declared.marks.Marks.{Marks}
use Rattle.js_text.specs.Identities.{Identity, Of_object, Of_symbol}
use Rattle.js_desc.specs.Identities.{body_identities}
use Rattle.js_crossing.specs.js_run.Identities.{IsAmong, Message, Replies, Requests, message_identities}
use Rattle.js_crossing.specs.js_run.Journal.{Application, Crossing}
use Rattle.js_crossing.specs.js_run.Laws.{owner}
use Rattle.js_crossing.specs.js_run.Runs.{Asks, Imports, Makes}
use Rattle.js_crossing.specs.Newest.{body_of, crossing_of, marks_at_crossing, references_in, with_their_marks}
use Rattle.lava_journal.specs.Bodies.{Pieces, body_pieces}
use Rattle.lava_journal.specs.Sheets.{An_object, A_symbol, Piece, Plain, TraceNames, is_shown}
use Rattle.lava_trace.specs.declared.left.TheConstants.{MAX_PARTY}
use Rattle.lava_trace.specs.declared.line.TraceLine.{TraceLine}
use Rattle.lava_trace_laws.specs.Spelled.{HaveMarks, Listed, piece_names}
use Rattle.lava_told.specs.Told.{HasOwner}
use Rattle.lava_ranges.specs.Ranges.{HavePaths, Has_path}
use Rattle.lava_course.specs.Lines.{journal_lines, line_of_traced}
use Rattle.lava_course.proofs.Piece_laws.{in_body, in_pieces}

-- LISTS

pub all_more : {X : Type 0} (P : X → Type 0) (xs : List X) (x : X) → AllByRecursion P xs → P x → AllByRecursion P (xs ++ x ∷ [])
all_more P [] x h k = (k, tt)
all_more P (y ∷ ys) x h k = (h.0, all_more P ys x h.1 k)

pub all_before : {X : Type 0} (P : X → Type 0) (xs : List X) (x : X) → AllByRecursion P (xs ++ x ∷ []) → AllByRecursion P xs × P x
all_before P [] x h = (tt, h.0)
all_before P (y ∷ ys) x h = let rest = all_before P ys x h.1 in ((h.0, rest.0), rest.1)

pub all_same : {X : Type 0} (P Q : X → Type 0) → ((x : X) → P x → Q x) → (xs : List X) → AllByRecursion P xs → AllByRecursion Q xs
all_same P Q f [] h = tt
all_same P Q f (x ∷ xs) h = (f x h.0, all_same P Q f xs h.1)

pub among_first : {A : Type 0} (a : A) (xs ys : List A) → IsAmong a xs → IsAmong a (xs ++ ys)
among_first a [] ys h = absurd h
among_first a (x ∷ xs) ys h = ⊎_elim inl (λ k. inr (among_first a xs ys k)) h

pub among_last : {A : Type 0} (a : A) (xs ys : List A) → IsAmong a ys → IsAmong a (xs ++ ys)
among_last a [] ys h = h
among_last a (x ∷ xs) ys h = inr (among_last a xs ys h)

pub among_either : {A : Type 0} (a : A) (xs ys : List A) → IsAmong a (xs ++ ys) → IsAmong a xs ⊎ IsAmong a ys
among_either a [] ys h = inr h
among_either a (x ∷ xs) ys h = ⊎_elim (λ e. inl (inl e)) (λ k. ⊎_elim (λ l. inl (inr l)) inr (among_either a xs ys k)) h

-- WHAT IS NAMED

-- what crosses names what its body names
pub named_in_body : (x : Message Ref MadeSymbol) → body_identities (body_of x) ≡ message_identities x
named_in_body (Requests (Asks r x)) = refl
named_in_body (Requests (Imports link path)) = refl
named_in_body (Requests (Makes globals modules meter)) = refl
named_in_body (Replies r) = refl

pub named_in_line : (x : Message Ref MadeSymbol) → in_pieces (body_pieces (body_of x)) ≡ message_identities x
named_in_line x = in_body (body_of x) ∙ named_in_body x

-- MARKS

-- each reference that is named has its marks
has_marks : (marks : Ref → Marks) (r : Ref) (xs : List (Identity Ref MadeSymbol)) → IsAmong (Of_object r) xs → is_some (lookup (same_ref r) (with_their_marks marks (references_in xs))) ≡ true
has_marks marks r [] h = absurd h
has_marks marks r (Of_object x ∷ xs) h =
    let found : Bool → Type 0 = λ t. is_some (if t then Some (marks x) else lookup (same_ref r) (with_their_marks marks (references_in xs))) ≡ true in
    ⊎_elim
    (λ k. subst found (sym k) refl)
    (λ k. subst found (sym k) (⊎_elim (λ e. absurd (true≢false (sym ((same_ref_decides r x).1 (cc e)) ∙ k))) (has_marks marks r xs) h))
    (cases_Bool (same_ref r x))
has_marks marks r (Of_symbol s ∷ xs) h = ⊎_elim (λ e. absurd (cc e)) (λ k. has_marks marks r xs k) h

pieces_marked : (listed : Listed) (ps : Pieces Ref MadeSymbol) → ((r : Ref) → IsAmong (Of_object r) (in_pieces ps) → is_some (lookup (same_ref r) listed) ≡ true) → (names : TraceNames) → HaveMarks names listed ps
pieces_marked listed [] h names = tt
pieces_marked listed (Plain bytes ∷ ps) h names = (tt, pieces_marked listed ps h names)
pieces_marked listed (An_object r ∷ ps) h names =
    (or_right (is_shown names r) _ (h r (inl refl)), pieces_marked listed ps (λ s k. h s (inr k)) (piece_names names (An_object r)))
pieces_marked listed (A_symbol s ∷ ps) h names = (tt, pieces_marked listed ps (λ r k. h r (inr k)) (piece_names names (A_symbol s)))

abbrev pub IsMarked : TraceLine → Type 0
IsMarked l = (names : TraceNames) → HaveMarks names l.marks (body_pieces l.crossing.body)

pub line_marked : (marks : Ref → Marks) (x : Message Ref MadeSymbol) (names : TraceNames) → HaveMarks names (with_their_marks marks (references_in (message_identities x))) (body_pieces (body_of x))
line_marked marks x =
    pieces_marked (with_their_marks marks (references_in (message_identities x))) (body_pieces (body_of x))
    (λ r h. has_marks marks r (message_identities x) (subst (IsAmong (Of_object r)) (named_in_line x) h))

pub journal_marked : (app : Application) (journal : List Crossing) → AllByRecursion IsMarked (journal_lines app journal)
journal_marked app [] = tt
journal_marked app (x ∷ older) =
    all_more IsMarked (journal_lines app older) _ (journal_marked app older) (line_marked (marks_at_crossing app x (x ∷ older)) x.sent.body)

-- OWNERS

-- each common object that is named has a path, where those have one whose marks are listed
named_paths : (marks : Ref → Marks) (xs : List (Identity Ref MadeSymbol)) → HavePaths (with_their_marks marks (references_in xs)) → (r : Ref) → IsAmong (Of_object r) xs → Has_path r
named_paths marks [] h r k = absurd k
named_paths marks (Of_object x ∷ xs) h r k = ⊎_elim (λ e. subst Has_path (sym (cc e)) h.0) (named_paths marks xs h.1 r) k
named_paths marks (Of_symbol s ∷ xs) h r k = ⊎_elim (λ e. absurd (cc e)) (named_paths marks xs h r) k

abbrev Named : ℕ → Identity Ref MadeSymbol → Type 0
Named parties (Of_object r) = Has_path r × (owner (Of_object r) < parties)
Named parties (Of_symbol s) = owner (Of_symbol s) < parties

object_owned : (parties : ℕ) → parties ≤ MAX_PARTY + 1 → (r : Ref) → Named parties (Of_object r) → HasOwner (An_object r)
object_owned parties few (Common c) h = h.0
object_owned parties few (Own p i) h = let b = h.1 in omega (arith, b, few)

pieces_owned : (parties : ℕ) → parties ≤ MAX_PARTY + 1 → (ps : Pieces Ref MadeSymbol) → ((a : Identity Ref MadeSymbol) → IsAmong a (in_pieces ps) → Named parties a) → AllByRecursion HasOwner ps
pieces_owned parties few [] h = tt
pieces_owned parties few (Plain bytes ∷ ps) h = (tt, pieces_owned parties few ps h)
pieces_owned parties few (An_object r ∷ ps) h = (object_owned parties few r (h (Of_object r) (inl refl)), pieces_owned parties few ps (λ a k. h a (inr k)))
pieces_owned parties few (A_symbol s ∷ ps) h = (let b = h (Of_symbol s) (inl refl) in omega (arith, b, few), pieces_owned parties few ps (λ a k. h a (inr k)))

named : (marks : Ref → Marks) (parties : ℕ) (xs : List (Identity Ref MadeSymbol)) → HavePaths (with_their_marks marks (references_in xs)) → ((a : Identity Ref MadeSymbol) → IsAmong a xs → owner a < parties)
    → (a : Identity Ref MadeSymbol) → IsAmong a xs → Named parties a
named marks parties xs h k (Of_object r) l = (named_paths marks xs h r l, k (Of_object r) l)
named marks parties xs h k (Of_symbol s) l = k (Of_symbol s) l

-- what stands in the line of a crossing is of parties that are there
pub line_owned : (parties : ℕ) → parties ≤ MAX_PARTY + 1 → (marks : Ref → Marks) (x : Message Ref MadeSymbol) → HavePaths (with_their_marks marks (references_in (message_identities x)))
    → ((a : Identity Ref MadeSymbol) → IsAmong a (message_identities x) → owner a < parties) → AllByRecursion HasOwner (body_pieces (body_of x))
line_owned parties few marks x h k =
    pieces_owned parties few (body_pieces (body_of x)) (λ a l. named marks parties (message_identities x) h k a (subst (IsAmong a) (named_in_line x) l))
