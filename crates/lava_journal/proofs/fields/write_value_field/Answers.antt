-- The field's name, and then the value.
use Rattle.std.proofs.Common.{◌≡◌, false, codes, OnOk, subst, ap, sym, ◌∙◌}
use Rattle.lava_journal.specs.Bodies.{value_pieces}
use Rattle.lava_journal.specs.Pages.{with_each}
use Rattle.lava_journal.proofs.Piece_laws.{one_field}
use Rattle.lava_journal.proofs.fields.write_value_field.Goals as goal

pub returns : goal.returns
returns g c =
    subst (λ t. OnOk c.write_value.result (c.write_value.new.page ≡ t))
    (ap (λ s. with_each g.P.Page.with_piece s (value_pieces c.args.value.now)) c.in_ok-write_word.ensures
    ∙ sym (one_field g.P.Page.with_piece c.args.page.now false (codes "value=") value_pieces c.args.value.now))
    c.write_value.ensures
