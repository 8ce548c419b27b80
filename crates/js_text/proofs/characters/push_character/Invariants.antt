-- The bytes before the index are written.
use Rattle.std.proofs.Common.{◌≡◌, ◌++◌, take}
use Rattle.js_text.proofs.characters.push_character.Given as goal

abbrev pub invariant-loop-byte : goal.invariant-loop-byte
invariant-loop-byte l = l.out ≡ l.fn.out ++ take l.byte-index l.bytes
