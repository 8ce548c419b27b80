-- Names that are gathered in a set.
use Rattle.std.specs.Prelude.{◌≡◌, ℕ, Bool, true, false, List, Option, Some, None, map, fold, String, string_bytes}
use Rattle.std.specs.declared.alloc.Global.{Global}
use Rattle.std.specs.BTreeSet.{BTreeSet}
use Rattle.lava_streams.specs.Files.{with_name}

-- the texts of a set, in order
abbrev pub texts_of : BTreeSet (String Global) → List (List ℕ)
texts_of s = map string_bytes s.keys

-- where there are names, all of them were added and the answer is yes; else it is no
abbrev pub Gathers : Option (List (List ℕ)) → (before after : List (List ℕ)) → Bool → Type 0
Gathers None before after all = all ≡ false
Gathers (Some names) before after all = (all ≡ true) × (after ≡ fold with_name before names)
