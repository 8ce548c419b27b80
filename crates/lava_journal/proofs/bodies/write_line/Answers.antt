-- The head, the body, and the end of the line.
use Rattle.std.proofs.Common.{◌≡◌, ◌++◌, codes, OnOk, subst, ap, sym, ◌∙◌}
use Rattle.lava_journal.specs.Bodies.{body_pieces, plain}
use Rattle.lava_journal.specs.Lines.{head_pieces}
use Rattle.lava_journal.specs.Pages.{with_each}
use Rattle.lava_journal.proofs.Piece_laws.{some_pieces}
use Rattle.lava_journal.proofs.bodies.write_line.Goals as goal

pub returns : goal.returns
returns g c =
    let x = c.args.crossing.now in
    let head = head_pieces c.args.number x.from.0 x.to.0 in
    subst (λ t. OnOk c.write_word.result (c.write_word.new.page ≡ t))
    (ap (λ t. with_each g.P.Page.with_piece t (plain (codes "\n"))) (c.in_ok-write_body.ensures ∙ ap (λ t. with_each g.P.Page.with_piece t (body_pieces x.body)) c.in_ok-write_head.ensures)
    ∙ sym (some_pieces g.P.Page.with_piece (with_each g.P.Page.with_piece c.args.page.now head) (body_pieces x.body) (plain (codes "\n")))
    ∙ sym (some_pieces g.P.Page.with_piece c.args.page.now head (body_pieces x.body ++ plain (codes "\n"))))
    c.write_word.ensures
