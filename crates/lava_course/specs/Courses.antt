-- What the course of a journal keeps to: who sends to whom, and of which kind an answer is.
use Rattle.std.specs.Prelude.{◌≡◌, ◌≢◌, ℕ, ◌+◌, ◌<◌, ◌≤◌, true, List, [], ◌∷◌, ⊤}
use Rattle.lava_base.specs.declared.ids.MadeSymbol.{MadeSymbol}
use Rattle.lava_base.specs.declared.ids.Ref.{Ref}
use Rattle.js_text.specs.Identities.{Identity}
use Rattle.js_crossing.specs.js_run.Identities.{IsAmong}
use Rattle.js_crossing.specs.js_run.Journal.{Application}
use Rattle.js_crossing.specs.js_run.Laws.{owner}
use Rattle.lava_journal.specs.Bodies.{body_pieces}
use Rattle.lava_journal.specs.Sheets.{TraceNames}
use Rattle.lava_ranges.specs.Kinds.{OfKind}
use Rattle.lava_ranges.specs.Ranges.{HavePaths, IsInRange}
use Rattle.lava_trace.specs.Courses.{may_cross, opened, opens}
use Rattle.lava_trace.specs.declared.answers.AnswerKind.{AnswerKind}
use Rattle.lava_trace.specs.declared.line.TraceLine.{TraceLine}
use Rattle.lava_trace_laws.specs.Spelled.{HaveMarks}
use Rattle.lava_trace_laws.specs.Written.{line_of, parties_then}

-- WHO TAKES PART

-- the host and the application's own package are there, what starts name is of parties that are there, and a link that may be imported over leads to another party that is there
-- own: the parties of a run
pub record IsConnected (app : Application) : Type 0 where
  pub two : 2 ≤ app.count
  pub starts : (p : ℕ) (a : Identity Ref MadeSymbol) → IsAmong a (app.starts p) → owner a < app.count
  pub linked : (p : ℕ) (link : List ℕ) → app.allows p (app.links p link) ≡ true → app.links p link < app.count
  pub apart : (p : ℕ) (link : List ℕ) → app.allows p (app.links p link) ≡ true → app.links p link ≢ p

-- LINES

-- a line that can be written: it is in range, and each common object in it has a path
pub record MayBeWritten (l : TraceLine) : Type 0 where
  pub ranged : IsInRange l.crossing
  pub paths : HavePaths l.marks

-- lines of parties that are there, so many at first
abbrev pub AllMayCross : ℕ → List TraceLine → Type 0
AllMayCross parties [] = ⊤
AllMayCross parties (l ∷ ls) = (may_cross parties l.crossing ≡ true) × AllMayCross (parties_then parties l) ls

-- lines that have marks for what stands there for the first time, where this is named before them
abbrev pub AllHaveMarks : TraceNames → ℕ → List TraceLine → Type 0
AllHaveMarks names number [] = ⊤
AllHaveMarks names number (l ∷ ls) = HaveMarks names l.marks (body_pieces l.crossing.body) × AllHaveMarks (line_of names number l).names (number + 1) ls

-- the kinds that are open behind some lines
abbrev pub asks_behind : List AnswerKind → List TraceLine → List AnswerKind
asks_behind asks [] = asks
asks_behind asks (l ∷ ls) = asks_behind (opened asks (opens l.crossing.body)) ls

-- lines whose answers are of the kinds that were asked, where these asks are open before them
-- own: answers in a trace
abbrev pub AllOfKind : List AnswerKind → List TraceLine → Type 0
AllOfKind asks [] = ⊤
AllOfKind asks (l ∷ ls) = OfKind asks l.crossing.body × AllOfKind (opened asks (opens l.crossing.body)) ls
