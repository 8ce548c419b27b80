-- What a folder that holds files answers.
use Rattle.std.specs.Prelude.{ℕ, ◌≤◌, List, [], ◌∷◌, length, Option, Some, None, nat_lt, if◌then◌else◌}
use Rattle.lava_streams.specs.Files.{Files, file_at, names_in, in_order}
use Rattle.lava_streams.specs.declared.folder.Listing.{Listing}
use Rattle.lava_streams.specs.declared.folder.Listing.TheVariants.{Names, Absent as NoDirectory}
use Rattle.lava_streams.specs.declared.folder.FileRead.{FileRead}
use Rattle.lava_streams.specs.declared.folder.FileRead.TheVariants.{Bytes, Absent as NoFile, Longer}

-- What a reading of a file's bytes gives: more than the limit are not given.
abbrev pub read_of : Option (List ℕ) → ℕ → FileRead
read_of None limit = NoFile
read_of (Some bytes) limit = if nat_lt limit (length bytes) then Longer else Bytes bytes

-- What `read` gives of these files.
abbrev pub file_read : Files → List ℕ → ℕ → FileRead
file_read files path limit = read_of (file_at files path) limit

-- A directory is one exactly where a name stands in it.
abbrev pub listing : List (List ℕ) → Listing
listing [] = NoDirectory
listing (name ∷ names) = Names (name ∷ names)

-- What `list` gives of these files.
abbrev pub listing_of : Files → List ℕ → Listing
listing_of files dir = listing (in_order (names_in files dir))

-- Bytes that are given are at most as many as the limit.
abbrev pub IsWithin : ℕ → FileRead → Type 0
IsWithin limit (Bytes bytes) = length bytes ≤ limit
IsWithin limit NoFile = Unit {0}
IsWithin limit Longer = Unit {0}
