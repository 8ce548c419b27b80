-- What a party has from the start.
use Rattle.std.proofs.Common.{◌≡◌, [], ◌∷◌, map, refl}
use Rattle.lava_view.specs.Starts.{host_numbers, host_object, root_global}
use Rattle.lava_view.specs.Views.{left_at_start, with_all}

-- the host's objects, and the global of the application's own package
pub host_left : with_all [] (map host_object host_numbers) ≡ left_at_start 0
host_left = refl

pub root_left : with_all [] (root_global ∷ []) ≡ left_at_start 1
root_left = refl
