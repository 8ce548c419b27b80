-- A list in order that is put into an empty map stays as it is.
use Rattle.std.proofs.Common.{◌≡◌, true, ap, ◌∙◌}
use Rattle.std.specs.Cmp.{first_so, second_so}
use Rattle.std.specs.List.{list_all}
use Rattle.policy_row.specs.Merging.{merged_entries}
use Rattle.policy_row.specs.Rows.{Entries, is_in_order, are_kept, may_stand}
use Rattle.policy_row.specs.Texts.{by_bytes}
use Rattle.policy_row.specs.declared.grade.Kind.{Kind}
use Rattle.policy_row.proofs.Entries_laws.{put_in_order, all_merged}
use Rattle.policy_row.proofs.Reading_laws.{both}
use Rattle.policy_row.proofs.entries.merge_entries.Goals as goal

merged_kept : (kind : Kind) (under over es : Entries) → are_kept kind under ≡ true → are_kept kind over ≡ true → is_in_order es ≡ true → es ≡ merged_entries under over → are_kept kind es ≡ true
merged_kept kind under over es h more order same =
    both _ _ order (ap (λ es. list_all (λ e. may_stand kind e.1) es) same ∙ all_merged (may_stand kind) under over (second_so (is_in_order under) _ h) (second_so (is_in_order over) _ more))

pub returns-clause-merged : goal.returns-clause-merged
returns-clause-merged c =
    let under = c.args.under.now in
    let over = c.args.over.now in
    let empty : by_bytes c.put_entries.new.map.entries ≡ under = c.in_ok-put_entries.ensures ∙ ap (λ es. merged_entries (by_bytes es) under) c.new-map.ensures.empty ∙ put_in_order under (first_so (is_in_order under) _ c.requires.under) in
    c.in_ok-merged.ensures.same ∙ c.in_ok-put_entries-2.ensures ∙ ap (λ es. merged_entries es over) empty

pub returns-clause-kept : goal.returns-clause-kept
returns-clause-kept c = merged_kept c.args.kind c.args.under.now c.args.over.now c.in_ok-merged.merged c.requires.under c.requires.over c.in_ok-merged.ensures.in_order (returns-clause-merged c)
