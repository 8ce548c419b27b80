-- The laws of the trace that is told.
use Rattle.std.specs.Prelude.{◌≡◌, ℕ, ◌+◌, List, [], ◌∷◌, ◌++◌, length}
use Rattle.js_desc.specs.declared.ending.Ending.{Ending}
use Rattle.lava_journal.specs.Lines.{end_text, start_text}
use Rattle.lava_journal.specs.Sheets.{TraceNames, no_names}
use Rattle.lava_trace.specs.Traces.{A_trace, reading_of}
use Rattle.lava_trace.specs.declared.line.Trace.{Trace}
use Rattle.lava_trace.specs.declared.line.TraceLine.{TraceLine}
use Rattle.lava_trace_laws.specs.Written.{IsLawful, crossing_lines, line_of, text_of}
use Rattle.lava_told.specs.Told.{MayBeTold, names_after, told}

-- what a run writes of its own ids is the text of the trace that it tells, whatever crossed
-- own: a run's text is that of its trace
abbrev pub Told_has_the_text : Type 0
Told_has_the_text = (t : Trace) → text_of (told t) ≡ text_of t

-- a text so far: the first lines, and those of some crossings, which have named this, and are so many
pub record IsSoFar (parties : List (List ℕ)) (ls : List TraceLine) (text : List ℕ) (names : TraceNames) (count : ℕ) : Type 0 where
  pub text_is : text ≡ start_text parties ++ crossing_lines no_names 1 ls
  pub names_is : names ≡ names_after no_names 1 ls
  pub count_is : count ≡ length ls

-- a line more goes on with it, as it is written by what has been named and the next number
abbrev pub One_line_more : Type 0
One_line_more =
    (parties : List (List ℕ)) (ls : List TraceLine) (text : List ℕ) (names : TraceNames) (count : ℕ) (l : TraceLine) → IsSoFar parties ls text names count
    → IsSoFar parties (ls ++ l ∷ []) (text ++ (line_of names (count + 1) l).text) (line_of names (count + 1) l).names (count + 1)

-- and with its last lines it is the text of these crossings
abbrev pub End_goes_last : Type 0
End_goes_last =
    (parties : List (List ℕ)) (ls : List TraceLine) (text : List ℕ) (names : TraceNames) (count : ℕ) (steps : List ℕ) (ending : Ending) → IsSoFar parties ls text names count
    → text ++ end_text steps ending ≡ text_of (record { parties = parties; lines = ls; steps = steps; ending = ending })

-- where what crossed may be said, the trace that is told may be: its ids are the numbers of their names, and its marks those that stand in its lines
abbrev pub Told_is_lawful : Type 0
Told_is_lawful = (t : Trace) → MayBeTold t → IsLawful (told t)

-- so what a run writes is read as the trace that it tells
-- own: a run's text tells its trace
abbrev pub Told_is_read : Type 0
Told_is_read = (t : Trace) → MayBeTold t → reading_of (text_of t) ≡ A_trace (told t)

-- a trace that may be told tells itself: its ids are the numbers of its names already
abbrev pub Lawful_tells_itself : Type 0
Lawful_tells_itself = (t : Trace) → IsLawful t → told t ≡ t
