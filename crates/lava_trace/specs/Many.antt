-- Things that stand one behind the other.
use Rattle.std.specs.Prelude.{ℕ, zero, suc, Bool, if◌then◌else◌, List, [], ◌∷◌}
use Rattle.lava_trace.specs.Left.{Got, Left}

-- things as long as one more begins, at most so many
unfoldable pub many : {X : Type 0} → (Left → Bool) → (Left → Got X) → ℕ → Left → Got (List X)
many begins thing zero l = ([], l)
many begins thing (suc n) l =
    if begins l then ((thing l).0 ∷ (many begins thing n (thing l).1).0, (many begins thing n (thing l).1).1) else ([], l)
