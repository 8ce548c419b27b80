-- The functions, and then the attributes.
use Rattle.std.proofs.Common.{◌≡◌, ◌++◌, false, None, Some, codes, OnOk, subst, ap, sym, ◌∙◌}
use Rattle.lava_journal.specs.Bodies.{flag_fields, function_fields, parted}
use Rattle.lava_journal.specs.Sheets.{Plain}
use Rattle.lava_journal.specs.Pages.{with_each}
use Rattle.lava_journal.proofs.Piece_laws.{between, parted_functions}
use Rattle.lava_journal.proofs.fields.write_accessor_fields.Goals as goal

pub returns : goal.returns
returns g c =
    let flags = flag_fields None (Some c.args.enumerable) (Some c.args.configurable) in
    let functions = function_fields (Some c.args.get) (Some c.args.set) in
    subst (λ t. OnOk c.write_word-2.result (c.write_word-2.new.page ≡ t))
    (between g.P.Page.with_piece c.args.page.now c.write_word.new.page c.write_flag_fields.new.page (Plain (codes "{")) (Plain (codes "}")) (parted false (functions ++ flags)) c.in_ok-write_word.ensures
    (c.in_ok-write_flag_fields.ensures
    ∙ ap (λ t. with_each g.P.Page.with_piece t (parted c.in_ok-any.any flags)) c.in_ok-any.ensures.pieces
    ∙ ap (λ b. with_each g.P.Page.with_piece (with_each g.P.Page.with_piece c.write_word.new.page (parted false functions)) (parted b flags)) c.in_ok-any.ensures.any
    ∙ sym (parted_functions g.P.Page.with_piece c.write_word.new.page false (Some c.args.get) (Some c.args.set) flags)))
    c.write_word-2.ensures
