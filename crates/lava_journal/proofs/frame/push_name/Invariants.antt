-- The units of the characters so far are written.
use Rattle.std.proofs.Common.{◌≡◌, ◌++◌}
use Rattle.std.specs.List.{flat_map}
use Rattle.js_text.specs.Utf8.{utf16_of}
use Rattle.lava_journal.specs.Quotes.{quoted_unit}
use Rattle.lava_journal.proofs.frame.push_name.Given as goal

abbrev pub invariant-loop-character : goal.invariant-loop-character
invariant-loop-character l = l.out ≡ l.initial.out ++ flat_map quoted_unit (utf16_of l.yielded)
