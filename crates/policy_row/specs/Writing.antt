-- The JSON value that a policy is written as.
use Rattle.std.specs.Prelude.{◌≡◌, ℕ, Ok, List, [], ◌∷◌, true, false, fold}
use Rattle.serde_json.specs.Data.{Data, boolean, string, object, Members, no_members, member, put}
use Rattle.policy_row.specs.Names.{kind_name, resources_name, write_name}
use Rattle.policy_row.specs.Reading.{IsJson, policy_of}
use Rattle.policy_row.specs.Rows.{Entries, Rows}
use Rattle.policy_row.specs.declared.fault.PolicyFile.{PolicyFile}
use Rattle.policy_row.specs.declared.grade.Grade.{Grade}
use Rattle.policy_row.specs.declared.grade.Grade.TheVariants.{No, Yes, Write}
use Rattle.policy_row.specs.declared.grade.Kind.{Kind}
use Rattle.policy_row.specs.declared.grade.Kind.TheVariants.{Builtin, Globals, Packages}
use Rattle.policy_row.specs.declared.row.Row.{Row}

-- LavaMoat policy
abbrev pub grade_data : Grade → Data
grade_data No = boolean false
grade_data Yes = boolean true
grade_data Write = string write_name

-- a member for each of these, in their order
abbrev pub written : {X : Type 0} → (X → Data) → List (List ℕ × X) → Members
written data_of [] = no_members
written data_of (e ∷ es) = member e.0 (data_of e.1) (written data_of es)

-- the members, with one more for each of these, one after the other
abbrev pub put_each : {X : Type 0} → (X → Data) → Members → List (List ℕ × X) → Members
put_each data_of ms es = fold (λ ms e. put e.0 (data_of e.1) ms) ms es

abbrev pub entries_data : Entries → Data
entries_data es = object (written grade_data es)

-- a kind without an entry is left out
abbrev pub with_kind : Kind → Entries → Members → Members
with_kind kind [] ms = ms
with_kind kind (e ∷ es) ms = member (kind_name kind) (entries_data (e ∷ es)) ms

-- the same where the kind's name is put among the members
abbrev pub put_kind : Kind → Entries → Members → Members
put_kind kind [] ms = ms
put_kind kind (e ∷ es) ms = put (kind_name kind) (entries_data (e ∷ es)) ms

-- LavaMoat policy
abbrev pub row_data : Row → Data
row_data row = object (with_kind Builtin row.builtin (with_kind Globals row.globals (with_kind Packages row.packages no_members)))

-- The value of a policy: under `resources` a row for each package, and in it the kinds that have entries, all in byte order.
-- LavaMoat policy
abbrev pub policy_data : Rows → Data
policy_data rows = object (member resources_name (object (written row_data rows)) no_members)

-- a file of these bytes is this policy
abbrev pub IsPolicy : PolicyFile → (bytes : List ℕ) → Rows → Type 0
IsPolicy file bytes rows = (d : Data) × IsJson bytes d × (policy_of file d ≡ Ok rows)
