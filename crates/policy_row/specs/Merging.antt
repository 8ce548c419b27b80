-- An override's rows over those of a policy.
use Rattle.std.specs.Prelude.{[], fold, Option, Some, None}
use Rattle.policy_row.specs.Rows.{Entries, Rows, at_name, with_entry}
use Rattle.policy_row.specs.declared.row.Row.{Row}

-- for each name the override's entry, and where it has none the policy's
-- LavaMoat policy
abbrev pub merged_entries : Entries → Entries → Entries
merged_entries under over = fold (λ es e. with_entry es e.0 e.1) under over

-- the same for each kind
-- LavaMoat policy
abbrev pub merged_row : Row → Row → Row
merged_row under over =
    record { globals = merged_entries under.globals over.globals; builtin = merged_entries under.builtin over.builtin; packages = merged_entries under.packages over.packages }

-- the override's row over the policy's, if it has one
abbrev pub over_row : Option Row → Row → Row
over_row None over = over
over_row (Some under) over = merged_row under over

-- rows over those that stand there, one after the other
abbrev pub rows_over : Rows → Rows → Rows
rows_over under over = fold (λ rows r. with_entry rows r.0 (over_row (at_name r.0 rows) r.1)) under over

-- for each package the override's row over the policy's, in byte order
-- LavaMoat policy
abbrev pub merged_rows : Rows → Rows → Rows
merged_rows under over = rows_over (rows_over [] under) over
