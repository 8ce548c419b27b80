-- A row goes behind those before it.
use Rattle.std.proofs.Common.{◌≡◌, [], ◌∷◌, ◌++◌, true, string_bytes, Ok, rules, ap, sym, ◌∙◌}
use Rattle.std.specs.Map.{keys_of}
use Rattle.serde_json.specs.View.{view, members_view}
use Rattle.policy_row.specs.Reading.{row_of, rows_in}
use Rattle.policy_row.specs.Rows.{are_in_order, with_entry}
use Rattle.policy_row.specs.Texts.{by_bytes}
use Rattle.policy_row.proofs.Entries_laws.{bytes_in_order, put_last}
use Rattle.policy_row.proofs.Reading_laws.{behind, row_read, names_step}
use Rattle.policy_row.proofs.reading.rows_of_members.Goals as goal

pub loop-name-preserved : goal.loop-name-preserved
loop-name-preserved c =
    let l = c.loop-name in
    let file = c.args.file in
    let name = string_bytes c.in-Some.name.now in
    let d = view c.in-Some.value.now in
    let row = c.in_ok-row.row in
    let left = c.next.new.self in
    let names = keys_of (by_bytes left) in
    let whole : c.into_iter-name-iterator.result ≡ c.args.members.now.entries = search rules in
    let steps : l.name-iterator ≡ (c.in-Some.name.now, c.in-Some.value.now) ∷ left = c.in-Some.ensures.steps in
    let before : keys_of l.policy ++ name ∷ names ≡ keys_of (by_bytes c.into_iter-name-iterator.result) =
    sym (ap (λ es. keys_of l.policy ++ keys_of (by_bytes es)) steps) ∙ l.invariant.1 in
    let order : are_in_order (keys_of l.policy ++ name ∷ names) ≡ true =
    ap are_in_order (before ∙ ap (λ es. keys_of (by_bytes es)) whole) ∙ bytes_in_order c.args.members.now.entries c.iter-name-items.ensures.ordered in
    let put : c.put.new.self ≡ l.policy ++ (name, row) ∷ [] =
    c.in_ok-put.ensures.ok ∙ ap (λ n. with_entry l.policy n row) c.as_str-in-loop-name.ensures.value ∙ put_last l.policy name row names order in
    let read : row_of file name d ≡ Ok row = ap (λ n. row_of file n d) (sym c.as_str.ensures.value) ∙ c.in_ok-row.ensures.row in (
      ap (λ rows. behind rows (rows_in file (members_view left))) put ∙ row_read file l.policy name d (members_view left) row (rows_in file (members_view c.into_iter-name-iterator.result)) read (sym (ap (λ es. behind l.policy (rows_in file (members_view es))) steps) ∙ l.invariant.0),
      ap (λ rows. keys_of rows ++ names) put ∙ names_step l.policy name row names (keys_of (by_bytes c.into_iter-name-iterator.result)) before,
    )
