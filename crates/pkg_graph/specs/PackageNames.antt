-- Names of packages, as dependencies name them. A name is the list of its bytes; `/` is 47 and `@` is 64.
use Rattle.std.specs.Prelude.{ℕ, ◌+◌, ◌==◌, ◌&&◌, ◌||◌, not, Bool, false, List, length, drop, position, slice_index, slice_range, Option, Some, None, if◌then◌else◌}
use Rattle.std.specs.List.{list_all}
use Rattle.std.specs.Char.{is_ascii_alphanumeric}

-- an ASCII letter, a digit, `-`, `_`, `.` or `~`
-- own: which bytes a part of a name has
abbrev pub is_name_byte : ℕ → Bool
is_name_byte b = is_ascii_alphanumeric b || b == 45 || b == 95 || b == 46 || b == 126

-- some bytes, of which the first is no `.`
abbrev pub is_name_part : List ℕ → Bool
is_name_part text = not (length text == 0) && not (slice_index text 0 == 46) && list_all is_name_byte text

-- a part behind the `@`, and one behind the first `/`
abbrev pub is_scoped_name : Option ℕ → List ℕ → Bool
is_scoped_name None text = false
is_scoped_name (Some at) text = is_name_part (slice_range text 1 at) && is_name_part (drop (at + 1) text)

-- A name is a part, or `@`, a part, `/` and a part.
-- own: what a package's name is
abbrev pub is_package_name : List ℕ → Bool
is_package_name text =
    if not (length text == 0) && slice_index text 0 == 64 then is_scoped_name (position (λ b. b == 47) text) text else is_name_part text
