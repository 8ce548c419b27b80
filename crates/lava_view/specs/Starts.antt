-- What a party has from the start, as the code finds it.
use Rattle.std.specs.Prelude.{ℕ, List, [], ◌∷◌, if◌then◌else◌}
use Rattle.std.specs.List.{flat_map}
use Rattle.lava_base.specs.declared.ids.Ref.{Ref}
use Rattle.lava_base.specs.declared.ids.Ref.TheVariants.{Own}
use Rattle.js_desc.specs.declared.start.Start.{Start}
use Rattle.lava_view.specs.Views.{any_grant, gives_object}

abbrev pub host_numbers : List ℕ
host_numbers = 0 ∷ 1 ∷ 2 ∷ 3 ∷ 4 ∷ 5 ∷ 6 ∷ 7 ∷ 8 ∷ 9 ∷ 10 ∷ 11 ∷ []

abbrev pub host_object : ℕ → Ref
host_object n = Own (record { 0 = 0 }) (record { 0 = n })

abbrev pub root_global : Ref
root_global = Own (record { 0 = 1 }) (record { 0 = 0 })

-- the objects of the host that a start gives, of these numbers
abbrev pub given_by : Start → List ℕ → List Ref
given_by s ns = flat_map (λ n. if any_grant (gives_object n) s then host_object n ∷ [] else []) ns
