-- The units are those of the characters so far.
use Rattle.std.proofs.Common.{◌≡◌}
use Rattle.js_text.specs.Utf8.{utf16_of}
use Rattle.js_text.proofs.utf8.text_of_str.Given as goal

abbrev pub invariant-loop-character : goal.invariant-loop-character
invariant-loop-character l = l.units.items ≡ utf16_of l.yielded
