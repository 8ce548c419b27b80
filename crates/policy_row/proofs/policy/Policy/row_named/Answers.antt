-- A row is found by its name's bytes, and is kept as each is.
use Rattle.std.proofs.Common.{◌≡◌, true, string_bytes, ap, sym, subst, ◌∙◌}
use Rattle.std.specs.BTreeMap.{is_at}
use Rattle.std.specs.Cmp.Lexicographic.{slice_cmp}
use Rattle.std.specs.Option.{IfSome}
use Rattle.std.specs.Ordering.{nat_cmp}
use Rattle.policy_row.specs.Rows.{at_name, is_kept}
use Rattle.policy_row.proofs.Entries_laws.{bytes_found, all_found, kept_found}
use Rattle.policy_row.proofs.policy.Policy.row_named.Goals as goal

pub returns-clause-found : goal.returns-clause-found
returns-clause-found c =
    c.get.ensures.value ∙ bytes_found c.args.name.now c.self.inside.rows.entries ∙ ap (λ rows. at_name c.args.name.now rows) c.self.view_is

pub returns-clause-kept : goal.returns-clause-kept
returns-clause-kept c =
    let found = all_found is_kept (is_at (λ k. slice_cmp nat_cmp c.args.name.now (string_bytes k))) c.self.inside.rows.entries c.self.invariant in
    kept_found is_kept c.get.result (subst (λ o. IfSome o (λ row. is_kept row ≡ true)) (sym c.get.ensures.value) found)
