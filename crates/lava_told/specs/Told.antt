-- The trace that crossings tell. A run knows its objects and made symbols by ids of its own, and a trace by the numbers of their names: so the trace that is told has these numbers as its ids.
use Rattle.std.specs.Prelude.{◌≡◌, ℕ, ◌+◌, ◌<◌, ◌≤◌, ◌^◌, true, List, [], ◌∷◌, length, map, sum, ⊤}
use Rattle.std.specs.List.{AllByRecursion}
use Rattle.lava_base.specs.declared.ids.MadeSymbol.{MadeSymbol}
use Rattle.lava_base.specs.declared.ids.Ref.{Ref}
use Rattle.lava_base.specs.declared.ids.Ref.TheVariants.{Common, Own}
use Rattle.lava_base.specs.declared.marks.Marks.{Marks}
use Rattle.js_text.specs.CommonPaths.{common_paths}
use Rattle.js_text.specs.Maps.{map_symbol}
use Rattle.js_desc.specs.Maps.{map_crossing}
use Rattle.js_desc.specs.declared.crossing.Crossing.{Crossing}
use Rattle.js_desc.specs.declared.ending.Ending.{Ending}
use Rattle.lava_journal.specs.Bodies.{body_pieces}
use Rattle.lava_journal.specs.Lines.{HasSteps}
use Rattle.lava_journal.specs.Sheets.{An_object, A_symbol, Piece, Plain, TraceNames, count_of, known_object, known_symbol, no_names, number_of}
use Rattle.lava_trace.specs.Courses.{may_cross, opened, opens, wanted}
use Rattle.lava_trace.specs.declared.answers.AnswerKind.{AnswerKind}
use Rattle.lava_trace.specs.declared.left.TheConstants.{MAX_ID, MAX_PARTY}
use Rattle.lava_trace.specs.declared.line.Trace.{Trace}
use Rattle.lava_trace.specs.declared.line.TraceLine.{TraceLine}
use Rattle.lava_trace_laws.specs.Sound.{Sound_crossing}
use Rattle.lava_trace_laws.specs.Spelled.{HaveMarks, marks_in}
use Rattle.lava_trace_laws.specs.Written.{MayBegin, line_of, parties_behind, parties_then}

-- WHAT IS TOLD

-- what is named once some lines are written, from a number on
abbrev pub names_after : TraceNames → ℕ → List TraceLine → TraceNames
names_after names number [] = names
names_after names number (l ∷ ls) = names_after (line_of names number l).names (number + 1) ls

-- the number of its name in the place of an object's id, by what is named at the end
-- own: ids in a trace
abbrev pub renumbered : TraceNames → Ref → Ref
renumbered named (Common c) = Common c
renumbered named (Own p i) = Own p (record { 0 = number_of named p.0 (known_object named p i) })

abbrev pub renumbered_symbol : TraceNames → MadeSymbol → MadeSymbol
renumbered_symbol named s = record { party = s.party; id = record { 0 = number_of named s.party.0 (known_symbol named s) } }

abbrev pub renumbered_marks : TraceNames → Ref × Marks → Ref × Marks
renumbered_marks named e = (renumbered named e.0, e.1)

abbrev pub renumbered_crossing : TraceNames → Crossing Ref MadeSymbol → Crossing Ref MadeSymbol
renumbered_crossing named x = map_crossing (renumbered named) (map_symbol (renumbered_symbol named)) x

-- a crossing as it is told, with the marks that stand in its line
abbrev pub told_line : (named names : TraceNames) → TraceLine → TraceLine
told_line named names l = record {
  crossing = renumbered_crossing named l.crossing;
  marks = map (renumbered_marks named) (marks_in names l.marks (body_pieces l.crossing.body));
}

abbrev pub told_lines : (named names : TraceNames) → ℕ → List TraceLine → List TraceLine
told_lines named names number [] = []
told_lines named names number (l ∷ ls) = told_line named names l ∷ told_lines named (line_of names number l).names (number + 1) ls

-- the trace that a run tells: of its parties, its crossings with marks for what they name, its steps and its ending
-- own: the trace that is told
abbrev pub told : Trace → Trace
told t = record t { lines = told_lines (names_after no_names 1 t.lines) no_names 1 t.lines }

abbrev pub told_trace : (parties : List (List ℕ)) → (lines : List TraceLine) → (steps : List ℕ) → Ending → Trace
told_trace parties lines steps ending = told (record { parties = parties; lines = lines; steps = steps; ending = ending })

-- WHAT MAY BE TOLD

-- an object or a made symbol is of a party whose number a line can have, and a common one has a path
abbrev pub HasOwner : Piece Ref MadeSymbol → Type 0
HasOwner (Plain bytes) = ⊤
HasOwner (An_object (Common c)) = c.0 < length common_paths
HasOwner (An_object (Own p i)) = p.0 ≤ MAX_PARTY
HasOwner (A_symbol s) = s.party.0 ≤ MAX_PARTY

-- a crossing with marks, where there are so many parties, these asks are open, and this is named
pub record MayBeSaid (parties : ℕ) (asks : List AnswerKind) (names : TraceNames) (l : TraceLine) : Type 0 where
  -- its texts, integers and keys can be written, and an answer is of the kind that the latest open ask wants
  pub sound : Sound_crossing (wanted asks) l.crossing
  -- it goes from one party to another, a Make to the next
  pub between : may_cross parties l.crossing ≡ true
  pub owned : AllByRecursion HasOwner (body_pieces l.crossing.body)
  -- each reference that stands there for the first time has marks
  pub marked : HaveMarks names l.marks (body_pieces l.crossing.body)

-- crossings, one after the other
abbrev pub MayAllBeSaid : ℕ → List AnswerKind → TraceNames → ℕ → List TraceLine → Type 0
MayAllBeSaid parties asks names number [] = ⊤
MayAllBeSaid parties asks names number (l ∷ ls) =
    MayBeSaid parties asks names l × (number < 2 ^ 64) × MayAllBeSaid (parties_then parties l) (opened asks (opens l.crossing.body)) (line_of names number l).names (number + 1) ls

-- own: what a run may tell
pub record MayBeTold (t : Trace) : Type 0 where
  pub two : 2 ≤ length t.parties
  pub parties : MayBegin [] t.parties
  pub lines : MayAllBeSaid (length t.parties) [] no_names 1 t.lines
  -- an id holds the number of each name
  pub numbers : (p : ℕ) → count_of (names_after no_names 1 t.lines) p ≤ MAX_ID + 1
  -- each party has its steps, which 64 bits hold together
  pub steps : length t.steps ≡ parties_behind (length t.parties) t.lines
  pub total : sum t.steps < 2 ^ 64
  -- the party that the ending names has steps
  pub ending : HasSteps t.steps t.ending
