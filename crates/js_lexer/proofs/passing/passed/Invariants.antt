use Rattle.std.proofs.Common.{◌≡◌, ◌+◌, ℕ, List, ◌++◌, length}
use Rattle.std.specs.Str.{encode_utf8_all}
use Rattle.js_lexer.specs.Spots.{IsSound, over_all}
use Rattle.js_lexer.proofs.passing.passed.Given as goal

-- the cursor is between the two, and what stands before the second leads on to where all of it leads
abbrev pub invariant-loop-rest : goal.invariant-loop-rest
invariant-loop-rest l = record {
  behind : (w : List ℕ) × (l.rest ≡ w ++ l.to);
  over : (v w : List ℕ) → l.from ≡ v ++ l.to → l.rest ≡ w ++ l.to → over_all l.spot w ≡ over_all l.fn.spot v;
  sound : IsSound l.spot;
  room : l.spot.offset + length (encode_utf8_all l.rest) ≡ l.fn.spot.offset + length (encode_utf8_all l.from);
}

abbrev pub decreases-loop-rest : goal.decreases-loop-rest
decreases-loop-rest l = length l.rest
