-- A whole text that is read as a trace.
use Rattle.std.specs.Prelude.{◌≡◌, ℕ, ◌+◌, ◌==◌, Bool, true, false, if◌then◌else◌, List, [], ◌∷◌, length, Option, Some, None, ⊤}
use Rattle.lava_trace.specs.Courses.{Course, nothing_said, trace_of, with_line_more}
use Rattle.lava_trace.specs.declared.line.Trace.{Trace}
use Rattle.lava_trace.specs.declared.line.TraceFault.{TraceFault}
use Rattle.lava_trace.specs.declared.line.TraceFault.TheVariants as fault

-- LINES

-- the lines of a text, each with its LF, and what stands behind the last one
pub record Cut : Type 0 where
  pub lines : List (List ℕ)
  pub rest : List ℕ

-- a byte in front of the first line
abbrev pub in_front : ℕ → List (List ℕ) → List ℕ → Cut
in_front b [] rest = record { lines = []; rest = b ∷ rest }
in_front b (line ∷ lines) rest = record { lines = (b ∷ line) ∷ lines; rest = rest }

unfoldable pub cut : List ℕ → Cut
cut [] = record { lines = []; rest = [] }
cut (b ∷ bs) = if b == 10 then record { lines = (b ∷ []) ∷ (cut bs).lines; rest = (cut bs).rest } else in_front b (cut bs).lines (cut bs).rest

-- THE TEXT

-- what a text is read as
pub data Reading : Type 0 where
  A_trace : Trace → Reading
  -- the first line that is not of a trace's form
  A_bad_line : ℕ → Reading

abbrev pub read_as : ℕ → Option Trace → Reading
read_as n None = A_bad_line n
read_as n (Some t) = A_trace t

abbrev pub gone_on : ℕ → Option Course → (Course → Reading) → Reading
gone_on n None more = A_bad_line n
gone_on n (Some c) more = more c

-- at the end of the lines: whether nothing stands behind the last LF
abbrev pub end_reading : Course → ℕ → Bool → Reading
end_reading c n true = read_as n (trace_of c)
end_reading c n false = A_bad_line n

-- the lines from the n-th on, one after the other. A text that ends before its last line, or with a line without LF, is refused at the line behind its last whole one
unfoldable pub reading_from : Course → ℕ → List (List ℕ) → List ℕ → Reading
reading_from c n [] rest = end_reading c n (length rest == 0)
reading_from c n (line ∷ lines) rest = gone_on n (with_line_more c line) (λ d. reading_from d (n + 1) lines rest)

-- a text is a trace, or has a first line that is not of a trace's form
-- own: the form of a trace
abbrev pub reading_of : List ℕ → Reading
reading_of bytes = reading_from nothing_said 1 (cut bytes).lines (cut bytes).rest

-- a fault tells of that line; want of memory may always come
abbrev pub Tells : Reading → TraceFault → Type 0
Tells r (fault.BadTrace n) = r ≡ A_bad_line n
Tells r fault.OutOfMemory = ⊤
