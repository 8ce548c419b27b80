-- What is written is the first part of the text's bytes, and the others are those of the units from here on.
use Rattle.std.proofs.Common.{◌≡◌, ℕ, ◌-◌, ◌++◌, List, length, drop}
use Rattle.std.specs.Char.Utf16.{utf16_lossy_chars}
use Rattle.std.specs.Str.{encode_utf8_all}
use Rattle.js_text.specs.Texts.{utf8_of}
use Rattle.js_text.proofs.text.Text.push_utf8.Given as goal

abbrev pub invariant-loop-at : goal.invariant-loop-at
invariant-loop-at l = (done : List ℕ) × (l.out ≡ l.fn.out ++ done) × (utf8_of l.self ≡ done ++ encode_utf8_all (utf16_lossy_chars (drop l.at l.self)))

abbrev pub decreases-loop-at : goal.decreases-loop-at
decreases-loop-at l = length l.self - l.at
