-- One attribute after the other.
use Rattle.std.proofs.Common.{◌||◌, ◌++◌, is_some, codes}
use Rattle.lava_journal.specs.Bodies.{field, parted, truth_pieces}
use Rattle.lava_journal.specs.Pages.{with_each}
use Rattle.lava_journal.proofs.Piece_laws.{parted_field}
use Rattle.lava_journal.proofs.fields.write_flag_fields.Goals as goal

pub returns : goal.returns
returns g c =
    let e = field (codes "enumerable=") truth_pieces c.args.enumerable in
    let f = field (codes "configurable=") truth_pieces c.args.configurable in
    let one = parted_field g.P.Page.with_piece c.args.page.now c.args.any (codes "writable=") truth_pieces c.args.writable (e ++ f) in
    let two = parted_field g.P.Page.with_piece (with_each g.P.Page.with_piece c.args.page.now (parted c.args.any (field (codes "writable=") truth_pieces c.args.writable)))
    (c.args.any || is_some c.args.writable) (codes "enumerable=") truth_pieces c.args.enumerable f in
    cc (one, two, c.in_ok-any.ensures.pieces, c.in_ok-any.ensures.any, c.in_ok-any-2.ensures.pieces, c.in_ok-any-2.ensures.any, c.in_ok-write_flag_field.ensures.pieces)
