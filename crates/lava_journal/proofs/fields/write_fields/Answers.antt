-- The value, the functions, and then the attributes.
use Rattle.std.proofs.Common.{◌≡◌, ◌++◌, is_some, false, codes, OnOk, subst}
use Rattle.lava_journal.specs.Bodies.{all_fields, field, flag_fields, function_fields, parted, value_pieces}
use Rattle.lava_journal.specs.Sheets.{Plain}
use Rattle.lava_journal.specs.Pages.{with_each}
use Rattle.lava_journal.proofs.Piece_laws.{between, parted_field, parted_functions}
use Rattle.lava_journal.proofs.fields.write_fields.Goals as goal

pub returns : goal.returns
returns g c =
    let d = c.args.fields.now in
    let s = c.write_word.new.page in
    let flags = flag_fields d.writable d.enumerable d.configurable in
    let functions = function_fields d.get d.set in
    let first = field (codes "value=") value_pieces d.value in
    let one = parted_field g.P.Page.with_piece s false (codes "value=") value_pieces d.value (functions ++ flags) in
    let two = parted_functions g.P.Page.with_piece (with_each g.P.Page.with_piece s (parted false first)) (is_some d.value) d.get d.set flags in
    let inside : c.write_flag_fields.new.page ≡ with_each g.P.Page.with_piece s (parted false (first ++ (functions ++ flags))) =
    cc (one, two, c.in_ok-any.ensures.pieces, c.in_ok-any.ensures.any, c.in_ok-any-2.ensures.pieces, c.in_ok-any-2.ensures.any, c.in_ok-write_flag_fields.ensures) in
    subst (λ t. OnOk c.write_word-2.result (c.write_word-2.new.page ≡ t))
    (between g.P.Page.with_piece c.args.page.now s c.write_flag_fields.new.page (Plain (codes "{")) (Plain (codes "}")) (parted false (all_fields d)) c.in_ok-write_word.ensures inside)
    c.write_word-2.ensures
