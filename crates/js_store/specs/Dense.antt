-- Properties at the first indices, one place each, where there need not be one at each place.
use Rattle.std.specs.Prelude.{ℕ, suc, List, [], ◌∷◌, Option, Some, None}
use Rattle.std.specs.Option.{unwrap_or}
use Rattle.lava_base.specs.declared.ids.MadeSymbol.{MadeSymbol}
use Rattle.lava_base.specs.declared.ids.Ref.{Ref}
use Rattle.js_desc.specs.declared.descriptor.Descriptor.{Descriptor}

-- those that are there, with their indices, which are counted from n
abbrev pub present : ℕ → List (Option (Descriptor Ref MadeSymbol)) → List (ℕ × Descriptor Ref MadeSymbol)
present n [] = []
present n (None ∷ os) = present (suc n) os
present n (Some d ∷ os) = (n, d) ∷ present (suc n) os

-- the index of the last entry, if there is one
abbrev pub last_of : {X : Type 0} → List (ℕ × X) → Option ℕ
last_of [] = None
last_of (e ∷ es) = Some (unwrap_or (last_of es) e.0)
