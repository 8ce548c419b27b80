-- The field's name, and then what it has; or nothing at all.
use Rattle.lava_journal.specs.Bodies.{object_or_undefined}
use Rattle.lava_journal.proofs.Piece_laws.{absent_field, present_field}
use Rattle.lava_journal.proofs.fields.write_function_field.Goals as goal

pub returns-in-None-clause-pieces : goal.returns-in-None-clause-pieces
returns-in-None-clause-pieces g c = absent_field g.P.Page.with_piece c.args.page.now c.args.any c.args.name.now object_or_undefined c.args.function c.in-None.is

pub returns-in_ok-write_object_or_undefined-in-Some-clause-pieces : goal.returns-in_ok-write_object_or_undefined-in-Some-clause-pieces
returns-in_ok-write_object_or_undefined-in-Some-clause-pieces g c =
    present_field g.P.Page.with_piece c.args.page.now c.write_field_name.new.page c.write_object_or_undefined.new.page c.args.any c.args.name.now object_or_undefined c.args.function c.in-Some.function c.in-Some.is
    c.in_ok-write_field_name-in-Some.ensures c.in_ok-write_object_or_undefined-in-Some.ensures
