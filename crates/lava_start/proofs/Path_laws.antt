-- What a path shows of itself.
use Rattle.std.proofs.Common.{◌≡◌, ℕ, List, [], ◌∷◌, ◌||◌, refl, ap}
use Rattle.std.specs.List.{list_any}
use Rattle.js_world.specs.js_run.Globals.{has_part, is_part}

-- a path has a part where one of its units shows it
pub any_part : (path : List ℕ) → list_any is_part path ≡ has_part path
any_part [] = refl
any_part (u ∷ us) = ap (λ b. is_part u || b) (any_part us)
