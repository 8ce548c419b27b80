-- What a merge grants, in the words of policies.
use Rattle.std.specs.Prelude.{◌≡◌, ◌⊎◌, ℕ, Bool, true, false, ◌&&◌, List, Option, Some, None, bytes_eq}
use Rattle.std.specs.List.{list_all}
use Rattle.policy_row.specs.Merging.{merged_rows}
use Rattle.policy_row.specs.Rows.{Entries, Rows, at_name, is_granted, is_in_order, is_kept, may_reach, root_name}
use Rattle.policy_row.specs.declared.grade.Grade.{Grade}
use Rattle.policy_row.specs.declared.grade.Grade.TheVariants.{No}
use Rattle.policy_row.specs.declared.grade.Kind.{Kind}
use Rattle.policy_row.specs.declared.grade.Kind.TheVariants.{Builtin, Globals, Packages}
use Rattle.policy_row.specs.declared.row.Row.{Row}

-- what each policy keeps: rows in byte order without repeats, and so the entries of each
abbrev pub is_policy : Rows → Bool
is_policy rows = is_in_order rows && list_all (λ r. is_kept r.1) rows

abbrev pub entries_of_kind : Kind → Row → Entries
entries_of_kind Builtin row = row.builtin
entries_of_kind Globals row = row.globals
entries_of_kind Packages row = row.packages

abbrev pub entry_of_row : Kind → (key : List ℕ) → Option Row → Option Grade
entry_of_row kind key None = None
entry_of_row kind key (Some row) = at_name key (entries_of_kind kind row)

-- what a policy says of a package at a key of a kind, if it says anything
abbrev pub entry_at : Rows → (name : List ℕ) → Kind → (key : List ℕ) → Option Grade
entry_at rows name kind key = entry_of_row kind key (at_name name rows)

-- what the override says, and where it says nothing what the policy says
-- LavaMoat policy
abbrev pub prevailing : (under over : Option Grade) → Option Grade
prevailing under None = under
prevailing under (Some grade) = Some grade

-- The override prevails, entry by entry.
abbrev pub The_override_prevails : Type 0
The_override_prevails =
    (under over : Rows) (name : List ℕ) (kind : Kind) (key : List ℕ) → is_policy under ≡ true → is_policy over ≡ true
    → entry_at (merged_rows under over) name kind key ≡ prevailing (entry_at under name kind key) (entry_at over name kind key)

-- A false in the override denies, whatever the policy says.
abbrev pub A_false_denies : Type 0
A_false_denies =
    (under over : Rows) (name : List ℕ) (kind : Kind) (key : List ℕ) → is_policy under ≡ true → is_policy over ≡ true
    → entry_at over name kind key ≡ Some No → is_granted (entry_at (merged_rows under over) name kind key) ≡ false

-- So a package whose row in the override has a false for another one may not import it. The application's own package has no row.
abbrev pub A_false_denies_an_import : Type 0
A_false_denies_an_import =
    (under over : Rows) (name linked : List ℕ) → is_policy under ≡ true → is_policy over ≡ true → bytes_eq name root_name ≡ false
    → entry_at over name Packages linked ≡ Some No → may_reach (merged_rows under over) name linked ≡ false

-- What is granted, one of both files grants.
abbrev pub Nothing_is_added : Type 0
Nothing_is_added =
    (under over : Rows) (name : List ℕ) (kind : Kind) (key : List ℕ) → is_policy under ≡ true → is_policy over ≡ true
    → is_granted (entry_at (merged_rows under over) name kind key) ≡ true
    → (is_granted (entry_at over name kind key) ≡ true) ⊎ (is_granted (entry_at under name kind key) ≡ true)
