-- How far a source is read, as lines, units and bytes.
use Rattle.std.specs.Prelude.{ℕ, ◌+◌, ◌≤◌, ◌==◌, ◌&&◌, ◌||◌, if◌then◌else◌, List, [], ◌∷◌, length}
use Rattle.std.specs.Str.{encode_utf8_all}
use Rattle.std.specs.Char.{encode_utf8}
use Rattle.std.specs.Char.Escape.{encode_utf16}
use Rattle.lava_base.specs.declared.place.Place.{Place}
use Rattle.js_lexer.specs.declared.spot.Spot.{Spot}
use Rattle.js_lexer.specs.Characters.{is_line_terminator}

abbrev pub place_at : ℕ → ℕ → Place
place_at line unit = record { line = line; unit = unit }

-- the place behind a character: lines end with line terminators, of which CR and LF are one,
-- and units are those of UTF-16
-- ECMA-262 Line Terminators, LineTerminatorSequence
-- ECMA-262 UTF16EncodeCodePoint
abbrev pub place_over : Spot → ℕ → Place
place_over s c =
    if c == 10 && s.after_return then s.place
    else if is_line_terminator c then place_at (s.place.line + 1) 1
    else place_at s.place.line (s.place.unit + length (encode_utf16 c))

-- the spot behind a character
abbrev pub over : Spot → ℕ → Spot
over s c = record {
  place = place_over s c;
  offset = s.offset + length (encode_utf8 c);
  after_return = c == 13;
  after_line = s.after_line || is_line_terminator c;
}

-- the spot behind several
abbrev pub over_all : Spot → List ℕ → Spot
over_all s [] = s
over_all s (c ∷ cs) = over_all (over s c) cs

-- how many bytes a source has that is read up to the spot, with this left
abbrev pub size_of : Spot → List ℕ → ℕ
size_of s rest = s.offset + length (encode_utf8_all rest)

-- lines and units are no more than the bytes, and one
abbrev pub IsSound : Spot → Type 0
IsSound s = (s.place.line ≤ s.offset + 1) × (s.place.unit ≤ s.offset + 1)
