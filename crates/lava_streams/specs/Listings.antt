-- What a listing of a directory is, by its properties.
use Rattle.std.specs.Prelude.{◌≡◌, ◌↔◌, ℕ, List, [], AllPairs, Contains}
use Rattle.std.specs.Cmp.Lexicographic.{slice_cmp}
use Rattle.std.specs.Ordering.{nat_cmp}
use Rattle.std.specs.declared.cmp.Ordering.TheVariants.{Less}
use Rattle.lava_streams.specs.declared.folder.Listing.{Listing}
use Rattle.lava_streams.specs.declared.folder.Listing.TheVariants.{Names, Absent}

-- A listing of these names: each name comes before every later one in byte order, so none stands twice, and the names are these and no others. There is none where there is no name.
abbrev pub Lists : List (List ℕ) → Listing → Type 0
Lists names (Names listed) =
    AllPairs (λ a b. slice_cmp nat_cmp a b ≡ Less) listed × ((name : List ℕ) → Contains listed name ↔ Contains names name)
Lists names Absent = names ≡ []
