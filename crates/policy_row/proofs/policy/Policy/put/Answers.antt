-- A row goes in at its name's bytes, and is kept as the others are.
use Rattle.std.proofs.Common.{ap, ◌∙◌, string_bytes, string_cmp}
use Rattle.std.specs.List.{list_all}
use Rattle.policy_row.specs.Rows.{is_kept, with_entry}
use Rattle.policy_row.specs.Texts.{by_bytes}
use Rattle.policy_row.proofs.Entries_laws.{bytes_inserted, all_inserted}
use Rattle.policy_row.proofs.policy.Policy.put.Goals as goal

pub invariant_of-self-2 : goal.invariant_of-self-2
invariant_of-self-2 c =
    ap (λ es. list_all (λ e. is_kept e.1) es) c.in_ok-insert.ensures.entries ∙ all_inserted is_kept string_cmp c.self.inside.rows.entries c.in_ok-from_str.field-0 c.args.row c.self.invariant c.requires

pub returns-clause-ok : goal.returns-clause-ok
returns-clause-ok c =
    ap by_bytes c.in_ok-insert.ensures.entries ∙ bytes_inserted c.self.inside.rows.entries c.in_ok-from_str.field-0 c.args.row
    ∙ ap (λ rows. with_entry rows (string_bytes c.in_ok-from_str.field-0) c.args.row) c.self.view_is ∙ ap (λ name. with_entry c.args.self.now name c.args.row) c.in_ok-from_str.ensures.ok
