-- What a writer holds after a part of a piece.
use Rattle.std.proofs.Common.{ℕ, ◌+◌, ◌-◌, List, length, take, drop, Option, None, Some, ap}
use Rattle.std.specs.Prelude.{IfSome}
use Rattle.std.specs.Io.KnownBytes.{Appends, Keeps}
use Rattle.std.proofs.KnownBytes.{Appends-trans, Appends-kept}
use Rattle.std.proofs.Math.Seq.{take-add, take-length}
use Rattle.std.proofs.lemmas.List.{take_rest}
use Rattle.lava_streams.specs.Pieces.{AppendsPrefix}

-- a part of the piece is a prefix of it
pub prefix_of : (old new : Option (List ℕ)) (piece : List ℕ) (n : ℕ) → Appends old new (take n piece) → IfSome old (λ held. AppendsPrefix held piece new)
prefix_of None new piece n part = tt
prefix_of (Some held) None piece n part = absurd part
prefix_of (Some held) (Some now) piece n part = (n, ap Some part)

-- the whole piece is a prefix of it
pub whole_of : (old mid new : Option (List ℕ)) (piece : List ℕ) → Appends old mid piece → Keeps mid new → IfSome old (λ held. AppendsPrefix held piece new)
whole_of old mid new piece all kept =
    prefix_of old new piece (length piece) (rw (take-length piece) (Appends-kept old mid new piece all kept))

-- a part of the piece, and the next part of it
pub parts_of : (old mid new : Option (List ℕ)) (piece : List ℕ) (done count : ℕ) → Appends old mid (take done piece) → Appends mid new (take count (take (length piece - done) (drop done piece))) → Appends old new (take (done + count) piece)
parts_of old mid new piece done count first second =
    let next = rw (take_rest piece done) at second in
    rw (take-add done count piece) (Appends-trans old mid new (take done piece) (take count (drop done piece)) first next)
