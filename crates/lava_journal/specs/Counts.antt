-- How many of each party have left, as the code keeps it.
use Rattle.std.specs.Prelude.{◌≡◌, ℕ, nat_eq, List, []}
use Rattle.std.specs.Map.{lookup}
use Rattle.std.specs.Option.{unwrap_or}
use Rattle.lava_base.specs.declared.ids.MadeSymbol.{MadeSymbol}
use Rattle.lava_base.specs.declared.ids.Ref.{Ref}
use Rattle.lava_journal.specs.Sheets.{count_at_start, count_of, names_of}

-- how many of a party are counted
abbrev pub counted : List (ℕ × ℕ) → ℕ → ℕ
counted counts p = unwrap_or (lookup (nat_eq p) counts) (count_at_start p)

-- each party has its count
pub record Counts (counts : List (ℕ × ℕ)) (objects : List (Ref × ℕ)) (symbols : List (MadeSymbol × ℕ)) : Type 0 where
  pub right : (p : ℕ) → counted counts p ≡ count_of (names_of objects symbols []) p
