use Rattle.pkg_source.proofs.Source_laws.{good_read, bad_read}
use Rattle.pkg_source.proofs.source.read_source.Goals as goal

pub returns-in-Ok : goal.returns-in-Ok
returns-in-Ok c =
    good_read c.args.bytes.now c.in-Ok.tree c.module_of_tree.result c.in-Ok.ensures.program c.in-Ok.ensures.refused c.module_of_tree.ensures

pub returns-in-Err : goal.returns-in-Err
returns-in-Err c =
    bad_read c.args.bytes.now c.in-Err.fault c.refused_by.result c.in-Err.ensures.cause c.in-Err.ensures.only c.in-Err.ensures.refused c.refused_by.ensures
