-- The length is that of the characters so far.
use Rattle.std.proofs.Common.{◌≡◌, length, min}
use Rattle.js_text.specs.Utf8.{utf16_of}
use Rattle.js_text.proofs.utf8.capped_len.Given as goal

abbrev pub invariant-loop-character : goal.invariant-loop-character
invariant-loop-character l = l.len ≡ min (length (utf16_of l.yielded)) 1048577
