-- Which keys a row keeps: a prefix that is used itself stands for the longer keys.
use Rattle.std.specs.Prelude.{ℕ, List, [], fold, is_some, if◌then◌else◌}
use Rattle.policy_globals.specs.Keys.{first_name}
use Rattle.policy_row.specs.Rows.{Entries, at_name, raised}
use Rattle.policy_row.specs.declared.grade.Grade.{Grade}

-- the first name of a key, where that is a key itself, else the key
-- LavaMoat policy generation
abbrev pub kept_key : Entries → (key : List ℕ) → List ℕ
kept_key keys key = if is_some (at_name (first_name key) keys) then first_name key else key

abbrev pub with_kept : Entries → Entries → List ℕ × Grade → Entries
with_kept keys es e = raised es (kept_key keys e.0) e.1

-- the keys of which no proper prefix is one, each with the greatest grade of those that it stands for
-- LavaMoat policy generation
abbrev pub kept_keys : Entries → Entries
kept_keys keys = fold (with_kept keys) [] keys
