-- An entry goes behind those before it.
use Rattle.std.proofs.Common.{◌≡◌, [], ◌∷◌, ◌++◌, string_bytes, Some, rules, append-nil, ap, sym, ◌∙◌}
use Rattle.std.specs.List.{list_all}
use Rattle.std.specs.Map.{keys_of}
use Rattle.serde_json.specs.View.{view, members_view}
use Rattle.policy_row.specs.Reading.{grade_of, entries_in}
use Rattle.policy_row.specs.Rows.{are_in_order, is_in_order, may_stand}
use Rattle.policy_row.specs.Texts.{by_bytes}
use Rattle.policy_row.proofs.Entries_laws.{bytes_in_order}
use Rattle.policy_row.proofs.Reading_laws.{both, behind, entry_read, names_step, all_pushed, graded_may_stand}
use Rattle.policy_row.proofs.reading.entries_of_members.Goals as goal

pub loop-key-preserved : goal.loop-key-preserved
loop-key-preserved c =
    let l = c.loop-key in
    let file = c.args.file in
    let row = c.args.row.now in
    let kind = c.args.kind in
    let key = string_bytes c.in-Some.key.now in
    let d = view c.in-Some.value.now in
    let grade = c.in-Some-grade_of_value.grade in
    let left = c.next.new.self in
    let names = keys_of (by_bytes left) in
    let steps : l.key-iterator ≡ (c.in-Some.key.now, c.in-Some.value.now) ∷ left = c.in-Some.ensures.steps in
    let before : keys_of l.entries ++ key ∷ names ≡ keys_of (by_bytes c.into_iter-key-iterator.result) =
    sym (ap (λ es. keys_of l.entries ++ keys_of (by_bytes es)) steps) ∙ l.invariant.1 in
    let text : c.in_ok-of-in-Some-grade_of_value.field-0 ≡ key = c.in_ok-of-in-Some-grade_of_value.ensures ∙ c.as_str-in-Some-grade_of_value.ensures.value in
    let pushed : c.push.new.self ≡ l.entries ++ (key, grade) ∷ [] =
    c.in_ok-push-in-Some-grade_of_value.ensures.ok ∙ ap (λ n. l.entries ++ (n, grade) ∷ []) text in
    let read : grade_of kind d ≡ Some grade = sym c.in-Some-grade_of_value.ensures in (
      ap (λ es. behind es (entries_in file row kind (members_view left))) pushed ∙ entry_read file row kind l.entries key d (members_view left) grade (entries_in file row kind (members_view c.into_iter-key-iterator.result)) read (sym (ap (λ es. behind l.entries (entries_in file row kind (members_view es))) steps) ∙ l.invariant.0),
      ap (λ es. keys_of es ++ names) pushed ∙ names_step l.entries key grade names (keys_of (by_bytes c.into_iter-key-iterator.result)) before,
      ap (λ es. list_all (λ e. may_stand kind e.1) es) pushed ∙ all_pushed (may_stand kind) l.entries key grade l.invariant.2 (graded_may_stand kind d grade read),
    )

pub returns-clause-kept : goal.returns-clause-kept
returns-clause-kept c =
    let l = c.loop-key in
    let entries = c.args.members.now.entries in
    let same : keys_of l.entries ≡ keys_of (by_bytes entries) = search (rules, append-nil, append-nil) in
    both (is_in_order l.entries) (list_all (λ e. may_stand c.args.kind e.1) l.entries) (ap are_in_order same ∙ bytes_in_order entries c.iter-key-items.ensures.ordered) l.invariant.2
