-- What the keys of a row say together: a key counts as its first two names.
use Rattle.std.specs.Prelude.{ℕ, ◌==◌, Bool, List, [], length, nat_lt, Option, Some, None, bytes_eq, fold, if◌then◌else◌}
use Rattle.std.specs.List.{before_first, after_first, position_or_len}
use Rattle.policy_row.specs.Rows.{Entries, raised}
use Rattle.policy_row.specs.declared.grade.Grade.{Grade}
use Rattle.policy_row.specs.declared.grade.Grade.TheVariants.{No}

abbrev pub is_point : ℕ → Bool
is_point b = b == 46

-- what stands before the first point, or all
-- own: keys are cut at their points
abbrev pub first_name : List ℕ → List ℕ
first_name key = before_first is_point key

abbrev pub has_point : List ℕ → Bool
has_point key = nat_lt (position_or_len is_point key) (length key)

-- what stands between the first point and the next one or the end, if there is a point
-- own: keys are cut at their points
abbrev pub second_name : List ℕ → Option (List ℕ)
second_name key = if has_point key then Some (before_first is_point (after_first is_point key)) else None

-- the grade of a key for its first name alone: that of a key with more names is false
abbrev pub whole_grade : Option (List ℕ) → Grade → Grade
whole_grade None grade = grade
whole_grade (Some second) grade = No

abbrev pub with_first : Entries → List ℕ × Grade → Entries
with_first es e = raised es (first_name e.0) (whole_grade (second_name e.0) e.1)

-- the first names in byte order, each with the greatest grade of a key that is this name alone
-- own: of keys that are cut to one path the greatest grade counts
abbrev pub firsts : Entries → Entries
firsts keys = fold with_first [] keys

abbrev pub with_second_name : Entries → Option (List ℕ) → Grade → Entries
with_second_name es None grade = es
with_second_name es (Some second) grade = raised es second grade

abbrev pub with_second : List ℕ → Entries → List ℕ × Grade → Entries
with_second name es e = if bytes_eq (first_name e.0) name then with_second_name es (second_name e.0) e.1 else es

-- the second names under a first one in byte order, each with its greatest grade
-- own: of keys that are cut to one path the greatest grade counts
abbrev pub seconds : List ℕ → Entries → Entries
seconds name keys = fold (with_second name) [] keys
