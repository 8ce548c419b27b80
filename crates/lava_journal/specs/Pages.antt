-- Pieces that are written one after the other, on whatever goes on with each in its own way.
use Rattle.std.specs.Prelude.{List, [], ◌∷◌}
use Rattle.lava_base.specs.declared.ids.MadeSymbol.{MadeSymbol}
use Rattle.lava_base.specs.declared.ids.Ref.{Ref}
use Rattle.lava_journal.specs.Sheets.{Piece}

unfoldable pub with_each : {S : Type 0} → (S → Piece Ref MadeSymbol → S) → S → List (Piece Ref MadeSymbol) → S
with_each w s [] = s
with_each w s (p ∷ ps) = with_each w (w s p) ps
