-- The value, and then the attributes.
use Rattle.std.proofs.Common.{◌≡◌, ◌++◌, true, false, Some, codes, OnOk, subst, ap, sym, ◌∙◌}
use Rattle.lava_journal.specs.Bodies.{field, flag_fields, parted, value_pieces}
use Rattle.lava_journal.specs.Sheets.{Plain}
use Rattle.lava_journal.specs.Pages.{with_each}
use Rattle.lava_journal.proofs.Piece_laws.{between, parted_field}
use Rattle.lava_journal.proofs.fields.write_data_fields.Goals as goal

pub returns : goal.returns
returns g c =
    let flags = flag_fields (Some c.args.writable) (Some c.args.enumerable) (Some c.args.configurable) in
    let first = field (codes "value=") value_pieces (Some c.args.value.now) in
    subst (λ t. OnOk c.write_word-2.result (c.write_word-2.new.page ≡ t))
    (between g.P.Page.with_piece c.args.page.now c.write_word.new.page c.write_flag_fields.new.page (Plain (codes "{")) (Plain (codes "}")) (parted false (first ++ flags)) c.in_ok-write_word.ensures
    (c.in_ok-write_flag_fields.ensures
    ∙ ap (λ t. with_each g.P.Page.with_piece t (parted true flags)) c.in_ok-write_value_field.ensures
    ∙ sym (parted_field g.P.Page.with_piece c.write_word.new.page false (codes "value=") value_pieces (Some c.args.value.now) flags)))
    c.write_word-2.ensures
