-- What is left of a line that is read from left to right. A reading is total: what it gives of bytes that nobody wrote does not matter, since a line counts only where its crossing is written just so.
use Rattle.std.specs.Prelude.{ℕ, ◌+◌, ◌-◌, ◌*◌, ◌%◌, ◌^◌, ◌==◌, Bool, ◌&&◌, ◌||◌, not, nat_lt, nat_le, if◌then◌else◌, List, [], ◌∷◌, length, drop, take, get_or, position, Option}
use Rattle.std.specs.Option.{unwrap_or}
use Rattle.lava_base.specs.declared.ids.PartyId.{PartyId}
use Rattle.lava_base.specs.declared.ids.Ref.{Ref}
use Rattle.lava_base.specs.declared.marks.Marks.{Marks}
use Rattle.lava_trace.specs.declared.left.TheConstants.{MAX_PARTY}

pub record Left : Type 0 where
  -- the bytes that are not read yet
  pub bytes : List ℕ
  -- the marks that were read, each with its reference
  pub marks : List (Ref × Marks)
  -- each reference that was read, with its marks, or with those of an ordinary object where none stood behind it
  pub named : List (Ref × Marks)

-- a line of which nothing is read yet
abbrev pub whole : List ℕ → Left
whole line = record { bytes = line; marks = []; named = [] }

-- what is read, and what is left behind it
abbrev pub Got : Type 0 → Type 0
Got X = X × Left

abbrev pub at_end : Left → Bool
at_end l = length l.bytes == 0

-- the byte at a place, and 0 behind the last one
abbrev pub byte_at : Left → ℕ → ℕ
byte_at l k = get_or l.bytes k 0

abbrev pub skipped : ℕ → Left → Left
skipped n l = record { bytes = drop n l.bytes; marks = l.marks; named = l.named }

-- NUMBERS

abbrev pub is_digit : ℕ → Bool
is_digit b = nat_le 48 b && nat_lt b 58

-- the digits go on a number, modulo 2^64
unfoldable pub number_from : ℕ → List ℕ → ℕ × List ℕ
number_from v [] = (v, [])
number_from v (b ∷ bs) = if is_digit b then number_from (((v * 10) % 2 ^ 64 + (b - 48)) % 2 ^ 64) bs else (v, b ∷ bs)

-- a number by its decimal digits
unfoldable pub number_at : Left → Got ℕ
number_at l = ((number_from 0 l.bytes).0, record { bytes = (number_from 0 l.bytes).1; marks = l.marks; named = l.named })

-- a number, or 0 where it is more than it may be
abbrev pub narrowed : ℕ → ℕ → ℕ
narrowed most n = if nat_le n most then n else 0

-- a party: its number is at most 4,095
unfoldable pub party_at : Left → Got PartyId
party_at l = (record { 0 = narrowed MAX_PARTY (number_at l).0 }, (number_at l).1)

-- WORDS

abbrev pub is_letter : ℕ → Bool
is_letter b = (nat_le 65 b && nat_lt b 91) || (nat_le 97 b && nat_lt b 123)

-- the letters up to the first byte that is none
abbrev pub first_other : List ℕ → Option ℕ
first_other bytes = position (λ b. not (is_letter b)) bytes

unfoldable pub word_at : Left → List ℕ
word_at l = take (unwrap_or (first_other l.bytes) (length l.bytes)) l.bytes

-- the bytes up to the first `%`
abbrev pub first_percent : List ℕ → Option ℕ
first_percent bytes = position (λ b. b == 37) bytes

unfoldable pub path_at : Left → List ℕ
path_at l = take (unwrap_or (first_percent l.bytes) (length l.bytes)) l.bytes
