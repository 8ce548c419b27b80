-- The laws of what is written and what is read.
use Rattle.std.specs.Prelude.{◌≡◌, ℕ, ◌<◌, ◌^◌, false, List, [], ◌++◌, decimal, get_or}
use Rattle.lava_base.specs.declared.ids.MadeSymbol.{MadeSymbol}
use Rattle.lava_base.specs.declared.ids.Ref.{Ref}
use Rattle.js_text.specs.declared.value.Value.{Value}
use Rattle.js_desc.specs.declared.crossing.Crossing.{Crossing}
use Rattle.lava_journal.specs.Bodies.{body_pieces, value_pieces}
use Rattle.lava_journal.specs.Lines.{crossing_line}
use Rattle.lava_journal.specs.Sheets.{TraceNames}
use Rattle.lava_trace.specs.Asks.{crossing_at}
use Rattle.lava_trace.specs.Courses.{front}
use Rattle.lava_trace.specs.Items.{value_at}
use Rattle.lava_trace.specs.Left.{is_digit, number_from, whole}
use Rattle.lava_trace.specs.Traces.{A_trace, reading_of}
use Rattle.lava_trace.specs.declared.answers.AnswerKind.{AnswerKind}
use Rattle.lava_trace.specs.declared.line.Trace.{Trace}
use Rattle.lava_trace_laws.specs.Sound.{Sound_crossing, Sound_value}
use Rattle.lava_trace_laws.specs.Spelled.{HaveNames, Listed, Reads, at, passed, start_of}
use Rattle.lava_trace_laws.specs.Written.{IsLawful, IsPutTogether, text_of}

-- a number is read as it was written
abbrev pub Numbers_are_read : Type 0
Numbers_are_read = (n : ℕ) (rest : List ℕ) → n < 2 ^ 64 → is_digit (get_or rest 0 0) ≡ false → number_from 0 (decimal n ++ rest) ≡ (n, rest)

-- so is a value, whatever stands behind it that no value goes on with
abbrev pub Values_are_read : Type 0
Values_are_read = (v : Value Ref MadeSymbol) → Sound_value v → Reads value_at (value_pieces v) v

-- the line of a crossing without its LF is read as this crossing, with the marks that stand in it, and nothing is left
abbrev pub Crossings_are_read : Type 0
Crossings_are_read =
    (kind : AnswerKind) (names : TraceNames) (number : ℕ) (x : Crossing Ref MadeSymbol) (marks : Listed)
    → number < 2 ^ 64 → Sound_crossing kind x → HaveNames names (body_pieces x.body)
    → crossing_at kind (whole (front (crossing_line names number x marks).text)) ≡ (x, at marks (passed marks (start_of names) (body_pieces x.body)) [])

-- the round trip: the text of a trace that may be told is read as this trace, parties, crossings with their marks, steps and ending
-- own: the text of a trace tells it
abbrev pub Written_is_read : Type 0
Written_is_read = (t : Trace) → IsLawful t → reading_of (text_of t) ≡ A_trace t

-- so two traces that may be told and have one text are one
abbrev pub One_text_one_trace : Type 0
One_text_one_trace = (t u : Trace) → IsLawful t → IsLawful u → text_of t ≡ text_of u → t ≡ u

-- the other way round: a text that is read as a trace is the lines of this trace, put together, where each crossing is written under some marks
abbrev pub Read_was_written : Type 0
Read_was_written = (bytes : List ℕ) (t : Trace) → reading_of bytes ≡ A_trace t → IsPutTogether t bytes
