-- One function, and then the other.
use Rattle.std.proofs.Common.{◌≡◌, codes, OnOk, subst, ap, sym, ◌∙◌}
use Rattle.lava_journal.specs.Bodies.{field, object_or_undefined, parted}
use Rattle.lava_journal.specs.Pages.{with_each}
use Rattle.lava_journal.proofs.Piece_laws.{parted_field}
use Rattle.lava_journal.proofs.fields.write_function_fields.Goals as goal

pub returns-clause-pieces : goal.returns-clause-pieces
returns-clause-pieces g c =
    let setter = field (codes "set=") object_or_undefined c.args.set in
    subst (λ t. OnOk c.write_function_field-2.result (c.write_function_field-2.new.page ≡ t))
    (ap (λ t. with_each g.P.Page.with_piece t (parted c.in_ok-any.any setter)) c.in_ok-any.ensures.pieces
    ∙ ap (λ b. with_each g.P.Page.with_piece (with_each g.P.Page.with_piece c.args.page.now (parted c.args.any (field (codes "get=") object_or_undefined c.args.get))) (parted b setter)) c.in_ok-any.ensures.any
    ∙ sym (parted_field g.P.Page.with_piece c.args.page.now c.args.any (codes "get=") object_or_undefined c.args.get setter))
    c.write_function_field-2.ensures.pieces
