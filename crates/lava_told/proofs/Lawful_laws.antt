-- A lawful trace may be told: its ids are the numbers of its names, so that no count is beyond the last id.
use Rattle.std.proofs.Common.{◌≡◌, ℕ, ◌+◌, ◌≤◌, ◌==◌, Bool, true, false, if◌then◌else◌, List, [], ◌∷◌, length, Option, Some, None, refl, ap, sym, subst, arith, eqb-true}
use Rattle.std.specs.List.{AllByRecursion}
use Rattle.lava_base.specs.declared.ids.MadeSymbol.{MadeSymbol}
use Rattle.lava_base.specs.declared.ids.ObjId.{ObjId}
use Rattle.lava_base.specs.declared.ids.PartyId.{PartyId}
use Rattle.lava_base.specs.declared.ids.Ref.{Ref}
use Rattle.lava_base.specs.declared.ids.Ref.TheVariants.{Common, Own}
use Rattle.lava_journal.specs.Bodies.{Pieces, body_pieces}
use Rattle.lava_journal.specs.Sheets.{An_object, A_symbol, Piece, Plain, TraceNames, count_of, is_shown, known_object, known_symbol, no_names, number_of, with_object, with_symbol}
use Rattle.lava_journal.specs.declared.numbers.TheConstants.{HOST_OBJECTS}
use Rattle.lava_trace.specs.Courses.{opened, opens}
use Rattle.lava_trace.specs.declared.answers.AnswerKind.{AnswerKind}
use Rattle.lava_trace.specs.declared.left.TheConstants.{MAX_ID}
use Rattle.lava_trace.specs.declared.line.Trace.{Trace}
use Rattle.lava_trace.specs.declared.line.TraceLine.{TraceLine}
use Rattle.lava_trace_laws.specs.Spelled.{HasName, HaveNames, named_then, piece_names, shown_then}
use Rattle.lava_trace_laws.specs.Written.{IsLawful, MayGoOn, line_of, parties_then}
use Rattle.lava_trace_laws.proofs.Line_laws.{names_behind}
use Rattle.lava_told.specs.Told.{HasOwner, MayAllBeSaid, MayBeTold, names_after}
use Rattle.lava_told.proofs.Counted_laws.{one_if}
use Rattle.lava_told.proofs.Known_laws.{object_counts, symbol_counts}
use Rattle.lava_told.proofs.Told_laws.{names_are}

-- each count is one more than the last id at most
abbrev AtMost : TraceNames → Type 0
AtMost names = (p : ℕ) → count_of names p ≤ MAX_ID + 1

few_by : (a b : Bool) → (if a then HOST_OBJECTS else if b then 1 else 0) ≤ MAX_ID + 1
few_by true b = omega arith
few_by false true = omega arith
few_by false false = omega arith

few_first : AtMost no_names
few_first p = omega (arith, few_by (p == 0) (p == 1))

-- one more of a party whose count an id holds
one_more : (b : Bool) (old new : ℕ) → (b ≡ true → old ≤ MAX_ID) → old ≤ MAX_ID + 1 → new ≡ old + one_if b → new ≤ MAX_ID + 1
one_more true old new h a e = omega (arith, h refl, e)
one_more false old new h a e = omega (arith, a, e)

object_few : (names : TraceNames) (p : PartyId) (i : ObjId) (o : Option ℕ) → number_of names p.0 o ≡ i.0 → i.0 ≤ MAX_ID → AtMost names → AtMost (with_object names p i o)
object_few names p i (Some k) e h a q = a q
object_few names p i None e h a q =
    one_more (p.0 == q) (count_of names q) _ (λ s. omega (arith, e, h, ap (count_of names) (eqb-true p.0 q s))) (a q) (object_counts names p i q)

symbol_few : (names : TraceNames) (s : MadeSymbol) (o : Option ℕ) → number_of names s.party.0 o ≡ s.id.0 → s.id.0 ≤ MAX_ID → AtMost names → AtMost (with_symbol names s o)
symbol_few names s (Some k) e h a q = a q
symbol_few names s None e h a q =
    one_more (s.party.0 == q) (count_of names q) _ (λ t. omega (arith, e, h, ap (count_of names) (eqb-true s.party.0 q t))) (a q) (symbol_counts names s q)

named_few : (names : TraceNames) (r : Ref) → HasName names (An_object r) → AtMost names → AtMost (named_then names r)
named_few names (Common c) h a = a
named_few names (Own p i) h a = object_few names p i (known_object names p i) h.0 h.2 a

shown_few : (b : Bool) (names : TraceNames) (r : Ref) → AtMost names → AtMost (shown_then b names r)
shown_few true names r a = a
shown_few false names r a = a

piece_few : (names : TraceNames) (x : Piece Ref MadeSymbol) → HasName names x → AtMost names → AtMost (piece_names names x)
piece_few names (Plain bytes) h a = a
piece_few names (An_object r) h a = shown_few (is_shown names r) (named_then names r) r (named_few names r h a)
piece_few names (A_symbol s) h a = symbol_few names s (known_symbol names s) h.0 h.2 a

behind_few : (names : TraceNames) (ps : Pieces Ref MadeSymbol) → HaveNames names ps → AtMost names → AtMost (names_behind names ps)
behind_few names [] h a = a
behind_few names (x ∷ ps) h a = behind_few (piece_names names x) ps h.1 (piece_few names x h.0 a)

owner : (names : TraceNames) (x : Piece Ref MadeSymbol) → HasName names x → HasOwner x
owner names (Plain bytes) h = tt
owner names (An_object (Common c)) h = h
owner names (An_object (Own p i)) h = h.1
owner names (A_symbol s) h = h.1

owners : (names : TraceNames) (ps : Pieces Ref MadeSymbol) → HaveNames names ps → AllByRecursion HasOwner ps
owners names [] h = tt
owners names (x ∷ ps) h = (owner names x h.0, owners (piece_names names x) ps h.1)

lines_few : (ls : List TraceLine) (parties : ℕ) (asks : List AnswerKind) (names : TraceNames) (number : ℕ) → MayGoOn parties asks names number ls → AtMost names
    → MayAllBeSaid parties asks names number ls × AtMost (names_after names number ls)
lines_few [] parties asks names number h a = (tt, a)
lines_few (l ∷ ls) parties asks names number h a =
    let one = h.0 in
    let ps = body_pieces l.crossing.body in
    let next = (line_of names number l).names in
    let few : AtMost next = subst AtMost (sym (names_are names number l.crossing l.marks)) (behind_few names ps one.named a) in
    let rest = lines_few ls (parties_then parties l) (opened asks (opens l.crossing.body)) next (number + 1) h.2 few in
    ((record { sound = one.sound; between = one.between; owned = owners names ps one.named; marked = one.marked }, h.1, rest.0), rest.1)

pub lawful_may_be_told : (t : Trace) → IsLawful t → MayBeTold t
lawful_may_be_told t h =
    let lines = lines_few t.lines (length t.parties) [] no_names 1 h.lines few_first in
    record { two = h.two; parties = h.parties; lines = lines.0; numbers = lines.1; steps = h.steps; total = h.total; ending = h.ending }
