-- The bytes before the place are units.
use Rattle.std.proofs.Common.{◌≡◌, take}
use Rattle.lava_host.proofs.replies.ascii_text.Given as goal

abbrev pub invariant-loop-byte : goal.invariant-loop-byte
invariant-loop-byte l = l.units.items ≡ take l.byte-index l.byte-items
