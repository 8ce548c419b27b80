-- What the real adapters make of what the system answers.
use Rattle.std.specs.Prelude.{◌≡◌, ◌≢◌, ℕ, ◌≤◌, ◌⊎◌, List, [], ◌++◌, length, drop, All, Option, None, Some}
use Rattle.std.specs.declared.io.ErrorKind.{ErrorKind}
use Rattle.std.specs.declared.io.ErrorKind.TheVariants.{NotFound, NotADirectory, InvalidFilename, InvalidInput}
use Rattle.lava_streams.specs.Lines.{line_of}
use Rattle.lava_streams.specs.declared.source.TheConstants.{LINE_LIMIT}
use Rattle.lava_streams.specs.declared.source.Line.{Line}

-- A path that the system refuses so leads to nothing: nothing is there, a part before the last is no directory, or no file can have such a name.
abbrev pub LeadsNowhere : ErrorKind → Type 0
LeadsNowhere kind = (kind ≡ NotFound) ⊎ (kind ≡ NotADirectory) ⊎ (kind ≡ InvalidFilename) ⊎ (kind ≡ InvalidInput)

-- Bytes that a line may begin with: none of them is LF, and they are not too many.
abbrev pub IsBegun : List ℕ → Type 0
IsBegun bytes = (length bytes ≤ LINE_LIMIT) × All (λ b. b ≢ 10) bytes

-- The bytes that a line has begun with, and the next bytes of the input, of which there are none at its end, make this line, for which so many of the next bytes are taken. Where they don't make a line yet, all of them are taken, and the line has begun with them too.
abbrev pub Takes : List ℕ → List ℕ → ℕ → Option Line → List ℕ → Type 0
Takes begun next count None now = (count ≡ length next) × (now ≡ begun ++ next)
Takes begun next count (Some line) now = ((line, drop count next) ≡ line_of (begun ++ next)) × (now ≡ [])
