-- A trace that is written, and when what it says may stand there.
use Rattle.std.specs.Prelude.{◌≡◌, ℕ, ◌+◌, ◌<◌, ◌≤◌, ◌^◌, true, List, [], ◌∷◌, ◌++◌, length, map, sum, if◌then◌else◌, ⊤}
use Rattle.js_text.specs.Texts.{utf8_of}
use Rattle.js_text.specs.Utf8.{units_of}
use Rattle.lava_journal.specs.Bodies.{body_pieces}
use Rattle.lava_journal.specs.Lines.{HasSteps, crossing_line, end_text, start_text}
use Rattle.lava_journal.specs.Sheets.{Sheet, TraceNames, no_names}
use Rattle.lava_trace.specs.Courses.{is_make, may_cross, may_follow, opened, opens, wanted}
use Rattle.lava_trace.specs.declared.answers.AnswerKind.{AnswerKind}
use Rattle.lava_trace.specs.declared.left.TheConstants.{MAX_PARTY}
use Rattle.lava_trace.specs.declared.line.Trace.{Trace}
use Rattle.lava_trace.specs.declared.line.TraceLine.{TraceLine}
use Rattle.lava_trace_laws.specs.Sound.{IsText, Sound_crossing}
use Rattle.lava_trace_laws.specs.Spelled.{HaveMarks, HaveNames, Listed, marks_in}

-- THE TEXT

-- the line of a crossing with this number, with the marks of its line, and what is named then
abbrev pub line_of : TraceNames → ℕ → TraceLine → Sheet
line_of names number l = crossing_line names number l.crossing l.marks

-- the lines of crossings, from a number on
abbrev pub crossing_lines : TraceNames → ℕ → List TraceLine → List ℕ
crossing_lines names number [] = []
crossing_lines names number (l ∷ ls) = (line_of names number l).text ++ crossing_lines (line_of names number l).names (number + 1) ls

-- own: the text of a trace
abbrev pub text_of : Trace → List ℕ
text_of t = start_text t.parties ++ (crossing_lines no_names 1 t.lines ++ end_text t.steps t.ending)

-- WHAT MAY STAND THERE

-- a name in UTF-8 that is a text
abbrev pub IsName : List ℕ → Type 0
IsName name = IsText (units_of name) × (utf8_of (units_of name) ≡ name)

-- the names of the parties of the start, behind others
abbrev pub MayBegin : List (List ℕ) → List (List ℕ) → Type 0
MayBegin before [] = ⊤
MayBegin before (name ∷ names) = IsName name × (may_follow before name ≡ true) × (length before ≤ MAX_PARTY) × MayBegin (before ++ name ∷ []) names

-- a crossing with its marks, where there are so many parties, these asks are open, and this is named
pub record MayStand (parties : ℕ) (asks : List AnswerKind) (names : TraceNames) (l : TraceLine) : Type 0 where
  -- its texts, integers and keys can be written, and an answer is of the kind that the latest open ask wants
  pub sound : Sound_crossing (wanted asks) l.crossing
  -- it goes from one party to another, a Make to the next
  pub between : may_cross parties l.crossing ≡ true
  -- each object and made symbol has the number of its name as its id
  pub named : HaveNames names (body_pieces l.crossing.body)
  -- each reference that stands there for the first time has marks
  pub marked : HaveMarks names l.marks (body_pieces l.crossing.body)
  -- and the marks are those that stand in the line
  pub marks : marks_in names l.marks (body_pieces l.crossing.body) ≡ l.marks

-- how many parties there are behind a crossing
abbrev pub parties_then : ℕ → TraceLine → ℕ
parties_then n l = if is_make l.crossing.body then n + 1 else n

abbrev pub parties_behind : ℕ → List TraceLine → ℕ
parties_behind n [] = n
parties_behind n (l ∷ ls) = parties_behind (parties_then n l) ls

-- crossings, one after the other
abbrev pub MayGoOn : ℕ → List AnswerKind → TraceNames → ℕ → List TraceLine → Type 0
MayGoOn parties asks names number [] = ⊤
MayGoOn parties asks names number (l ∷ ls) =
    MayStand parties asks names l × (number < 2 ^ 64) × MayGoOn (parties_then parties l) (opened asks (opens l.crossing.body)) (line_of names number l).names (number + 1) ls

-- own: what a trace may say
pub record IsLawful (t : Trace) : Type 0 where
  pub two : 2 ≤ length t.parties
  pub parties : MayBegin [] t.parties
  pub lines : MayGoOn (length t.parties) [] no_names 1 t.lines
  -- each party has its steps, which 64 bits hold together
  pub steps : length t.steps ≡ parties_behind (length t.parties) t.lines
  pub total : sum t.steps < 2 ^ 64
  -- the party that the ending names has steps
  pub ending : HasSteps t.steps t.ending

-- WHAT WAS READ

-- the lines of crossings from a number on, each with the marks under which it is written
abbrev pub marked_lines : TraceNames → ℕ → List (TraceLine × Listed) → List ℕ
marked_lines names number [] = []
marked_lines names number (e ∷ es) =
    (crossing_line names number e.0.crossing e.1).text ++ marked_lines (crossing_line names number e.0.crossing e.1).names (number + 1) es

-- bytes are the lines of a trace, put together: its start, its crossings from 1 on, each under some marks, and its end
pub record IsPutTogether (t : Trace) (bytes : List ℕ) : Type 0 where
  pub told : List (TraceLine × Listed)
  pub lines : map (λ e. e.0) told ≡ t.lines
  pub text : bytes ≡ start_text t.parties ++ (marked_lines no_names 1 told ++ end_text t.steps t.ending)
