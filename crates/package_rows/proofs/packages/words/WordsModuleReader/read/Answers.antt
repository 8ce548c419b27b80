use Rattle.std.proofs.Common.{◌∙◌}
use Rattle.package_rows.proofs.WordLemmas.{read_good, read_bad}
use Rattle.package_rows.proofs.packages.words.WordsModuleReader.read.Goals as goal

pub returns-in-Ok : goal.returns-in-Ok
returns-in-Ok c =
    read_good c.args.bytes.now c.in-Ok.text.now c.text_read.result c.in-Ok.ensures.cases.0 c.in-Ok.ensures.cases.1 c.text_read.ensures

pub returns-in-Err : goal.returns-in-Err
returns-in-Err c = c.refused_as.ensures ∙ read_bad c.args.bytes.now c.in-Err.ensures.cases.0
