-- The keys stand between the brackets.
use Rattle.std.proofs.Common.{◌≡◌, false, codes, map, OnOk, subst}
use Rattle.lava_journal.specs.Bodies.{key_pieces, parted}
use Rattle.lava_journal.specs.Sheets.{Plain}
use Rattle.lava_journal.proofs.Piece_laws.{between}
use Rattle.lava_journal.proofs.answers.write_keys.Goals as goal

pub returns : goal.returns
returns g c =
    subst (λ t. OnOk c.write_word-2.result (c.write_word-2.new.page ≡ t))
    (between g.P.Page.with_piece c.args.page.now c.write_word.new.page c.write_parted_keys.new.page (Plain (codes "[")) (Plain (codes "]")) (parted false (map key_pieces c.args.keys.now))
    c.in_ok-write_word.ensures c.in_ok-write_parted_keys.ensures)
    c.write_word-2.ensures
