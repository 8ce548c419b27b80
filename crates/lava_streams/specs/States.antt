-- What the memory forms hold, and what their calls leave.
use Rattle.std.specs.Prelude.{ℕ, ◌+◌, ◌-◌, List, [], ◌∷◌, ◌++◌, length, take, Bool, not, ◌&&◌, nat_le, if◌then◌else◌}
use Rattle.lava_streams.specs.Files.{Files}
use Rattle.lava_streams.specs.Failures.{Failures, fails_next, after_call, after_fault}

-- Every added file by its path, in the order in which they were added.
pub record FolderState : Type 0 where
  pub files : Files
  pub failing : Failures

-- The bytes that are not yet taken.
pub record SourceState : Type 0 where
  pub bytes : List ℕ
  pub failing : Failures

-- The bytes that were appended, and how many bytes there is room for in all.
pub record SinkState : Type 0 where
  pub bytes : List ℕ
  pub room : ℕ
  pub failing : Failures

-- The moments that are not yet taken.
pub record ClockState : Type 0 where
  pub moments : List ℕ
  pub failing : Failures

-- Whether a sink takes the whole piece: its call is not to fail, and the piece fits.
abbrev pub takes_piece : SinkState → List ℕ → Bool
takes_piece s piece = not (fails_next s.failing) && nat_le (length s.bytes + length piece) s.room

-- A sink after a piece whose call was not to fail: as much as fits is appended, and it is a fault where that is not all.
abbrev pub after_piece : SinkState → List ℕ → SinkState
after_piece s piece =
    record { bytes = s.bytes ++ take (s.room - length s.bytes) piece; room = s.room; failing = (if nat_le (length s.bytes + length piece) s.room then after_call s.failing else after_fault (after_call s.failing)) }

-- A sink after a `put`: a call that was to fail takes nothing.
abbrev pub after_put : SinkState → List ℕ → SinkState
after_put s piece = if fails_next s.failing then record s { failing = after_call s.failing } else after_piece s piece

-- Whether a clock gives a moment: its call is not to fail, and one is left.
abbrev pub gives_moment : ClockState → Bool
gives_moment s = not (fails_next s.failing) && nat_le 1 (length s.moments)

-- A clock after a `now` whose call was not to fail: its first moment is taken, and it is a fault where there is none.
abbrev pub after_moment : List ℕ → Failures → ClockState
after_moment [] failing = record { moments = []; failing = after_fault failing }
after_moment (first ∷ rest) failing = record { moments = rest; failing = failing }

-- A clock after a `now`: a call that was to fail takes nothing.
abbrev pub after_now : ClockState → ClockState
after_now s = if fails_next s.failing then record s { failing = after_call s.failing } else after_moment s.moments (after_call s.failing)
