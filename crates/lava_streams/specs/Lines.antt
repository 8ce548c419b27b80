-- The lines of an input. LF is 10.
use Rattle.std.specs.Prelude.{◌≡◌, ◌≢◌, ℕ, ◌+◌, ◌≤◌, ◌==◌, List, [], ◌∷◌, length, drop, All, Option, Some, nat_lt, if◌then◌else◌}
use Rattle.std.specs.List.{before_first}
use Rattle.lava_streams.specs.declared.source.TheConstants.{LINE_LIMIT}
use Rattle.lava_streams.specs.declared.source.Line.{Line}
use Rattle.lava_streams.specs.declared.source.Line.TheVariants.{Bytes, End, TooLong}

-- The line that stands before these bytes, and what is left of them when it is taken, where there are any.
abbrev pub line_before : List ℕ → List ℕ → Line × List ℕ
line_before line bytes =
    if nat_lt LINE_LIMIT (length line) then (TooLong, drop LINE_LIMIT bytes) else (Bytes line, drop (length line + 1) bytes)

-- The first line of the bytes that are left, without its LF, and what is left after it: at the end nothing; of a line that is too long its first `LINE_LIMIT` bytes alone are taken.
abbrev pub line_of : List ℕ → Line × List ℕ
line_of [] = (End, [])
line_of (byte ∷ bytes) = line_before (before_first (λ b. b == 10) (byte ∷ bytes)) (byte ∷ bytes)

-- The call gave the first line of the bytes that were left, and this is left now.
abbrev pub GivesLine : List ℕ → Line → Option (List ℕ) → Type 0
GivesLine left line now = (line ≡ (line_of left).0) × (now ≡ Some (line_of left).1)

-- The bytes of a line are at most `LINE_LIMIT`, and none of them is LF.
abbrev pub IsWithinLine : Line → Type 0
IsWithinLine (Bytes bytes) = (length bytes ≤ LINE_LIMIT) × All (λ b. b ≢ 10) bytes
IsWithinLine End = Unit {0}
IsWithinLine TooLong = Unit {0}
