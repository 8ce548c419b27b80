-- The field's name, and then what it has; or nothing at all.
use Rattle.lava_journal.specs.Bodies.{truth_pieces}
use Rattle.lava_journal.proofs.Piece_laws.{absent_field, present_field}
use Rattle.lava_journal.proofs.fields.write_flag_field.Goals as goal

pub returns-in-None-clause-pieces : goal.returns-in-None-clause-pieces
returns-in-None-clause-pieces g c = absent_field g.P.Page.with_piece c.args.page.now c.args.any c.args.name.now truth_pieces c.args.flag c.in-None.is

pub returns-in_ok-write_truth-in-Some-clause-pieces : goal.returns-in_ok-write_truth-in-Some-clause-pieces
returns-in_ok-write_truth-in-Some-clause-pieces g c =
    present_field g.P.Page.with_piece c.args.page.now c.write_field_name.new.page c.write_truth.new.page c.args.any c.args.name.now truth_pieces c.args.flag c.in-Some.flag c.in-Some.is
    c.in_ok-write_field_name-in-Some.ensures c.in_ok-write_truth-in-Some.ensures
