-- Rows by package, and what keeps them in order.
use Rattle.std.specs.Prelude.{ℕ, Bool, true, false, not, ◌&&◌, ◌||◌, List, [], ◌∷◌, Option, Some, None, codes, bytes_eq, if◌then◌else◌}
use Rattle.std.specs.BTreeMap.{insert_entry, is_at}
use Rattle.std.specs.Cmp.Lexicographic.{slice_cmp}
use Rattle.std.specs.List.{list_all}
use Rattle.std.specs.Map.{keys_of, lookup}
use Rattle.std.specs.Ordering.{nat_cmp, is_lt}
use Rattle.std.specs.declared.cmp.Ordering.{Ordering}
use Rattle.policy_row.specs.declared.grade.Grade.{Grade}
use Rattle.policy_row.specs.declared.grade.Grade.TheVariants.{No, Yes, Write}
use Rattle.policy_row.specs.declared.grade.Kind.{Kind}
use Rattle.policy_row.specs.declared.grade.Kind.TheVariants.{Builtin, Globals, Packages}
use Rattle.policy_row.specs.declared.row.Row.{Row}

-- the entries of one kind by name
abbrev pub Entries : Type 0
Entries = List (List ℕ × Grade)

-- the rows by the canonical names of their packages
abbrev pub Rows : Type 0
Rows = List (List ℕ × Row)

-- byte order
abbrev pub order_of_names : List ℕ → List ℕ → Ordering
order_of_names = slice_cmp nat_cmp

-- what stands at a name
abbrev pub at_name : {X : Type 0} → List ℕ → List (List ℕ × X) → Option X
at_name name es = lookup (is_at (order_of_names name)) es

-- the same entries with this one at its name: an entry that stands there goes
abbrev pub with_entry : {X : Type 0} → List (List ℕ × X) → List ℕ → X → List (List ℕ × X)
with_entry es name x = insert_entry order_of_names es name x

-- true and "write" grant
-- LavaMoat policy
abbrev pub is_granting : Grade → Bool
is_granting No = false
is_granting Yes = true
is_granting Write = true

abbrev pub is_write : Grade → Bool
is_write No = false
is_write Yes = false
is_write Write = true

-- own: the order of grades is false, true, "write"
abbrev pub greater : Grade → Grade → Grade
greater No other = other
greater Yes other = if is_write other then Write else Yes
greater Write other = Write

abbrev pub raised_grade : Option Grade → Grade → Grade
raised_grade None grade = grade
raised_grade (Some old) grade = greater old grade

-- the grade at a name is raised to this one where it is less
abbrev pub raised : Entries → List ℕ → Grade → Entries
raised es name grade = with_entry es name (raised_grade (at_name name es) grade)

-- own: an entry that is absent denies
abbrev pub is_granted : Option Grade → Bool
is_granted None = false
is_granted (Some grade) = is_granting grade

-- own: byte order without repeats
abbrev pub are_in_order : List (List ℕ) → Bool
are_in_order [] = true
are_in_order (name ∷ names) = list_all (λ other. is_lt (order_of_names name other)) names && are_in_order names

abbrev pub is_in_order : {X : Type 0} → List (List ℕ × X) → Bool
is_in_order es = are_in_order (keys_of es)

-- writing is granted of globals alone
-- LavaMoat policy
abbrev pub may_stand : Kind → Grade → Bool
may_stand Builtin grade = not (is_write grade)
may_stand Globals grade = true
may_stand Packages grade = not (is_write grade)

-- own: what is kept of the entries of a kind
abbrev pub are_kept : Kind → Entries → Bool
are_kept kind es = is_in_order es && list_all (λ e. may_stand kind e.1) es

-- own: what is kept of each row
abbrev pub is_kept : Row → Bool
is_kept row = are_kept Builtin row.builtin && (are_kept Globals row.globals && are_kept Packages row.packages)

-- the name of the application's own package
-- LavaMoat policy
abbrev pub root_name : List ℕ
root_name = codes "$root$"

-- whether a row grants a package
abbrev pub row_grants : List ℕ → Option Row → Bool
row_grants linked None = false
row_grants linked (Some row) = is_granted (at_name linked row.packages)

-- the application's own package has everything; another what its row grants
-- LavaMoat policy
abbrev pub may_reach : Rows → List ℕ → List ℕ → Bool
may_reach rows name linked = bytes_eq name root_name || row_grants linked (at_name name rows)
