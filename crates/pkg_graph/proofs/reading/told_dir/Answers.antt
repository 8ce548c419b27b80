use Rattle.std.proofs.Common.{sym, lit<}
use Rattle.std.proofs.lemmas.Str.Pattern.{strip_prefix_char}
use Rattle.std.proofs.Common.{None}
use Rattle.pkg_graph.proofs.ReadingLemmas.{told_dir_none}
use Rattle.pkg_graph.proofs.reading.told_dir.Goals as goal

pub returns-in-None : goal.returns-in-None
returns-in-None c =
    sym (told_dir_none c.args.dir.now (strip_prefix_char 47 c.args.dir.now None c.in-None.ensures.cases (lit< tt)))
