-- What bytes are answered that are not taken.
use Rattle.std.specs.Prelude.{ℕ, ◌^◌, ◌<◌, ◌≤◌, List, length, ◌⊎◌}
use Rattle.std.specs.Str.{IsUtf8, chars}
use Rattle.js_text.specs.Utf8.{IsFault}
use Rattle.js_text.specs.declared.text.TheConstants.{MAX_UNITS}

-- the characters of the bytes are worth more units than a text may have;
-- or the bytes are not UTF-8, but the place of that is past what 32 bits count
-- own: texts have a limit, and places 32 bits
abbrev pub IsTooLongBy : (List ℕ → List ℕ) → List ℕ → Type 0
IsTooLongBy value bytes =
    (IsUtf8 bytes × (MAX_UNITS < length (value (chars bytes))))
    ⊎ ((at : ℕ) × (2 ^ 32 ≤ at) × IsFault bytes at)
