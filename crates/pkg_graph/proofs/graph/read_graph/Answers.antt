use Rattle.pkg_graph.proofs.LawfulLemmas.{answered}
use Rattle.pkg_graph.proofs.graph.read_graph.Goals as goal

pub returns-clause-says : goal.returns-clause-says
returns-clause-says g c = λ files told. answered files c.args.dir.now c.read_packages.result (c.read_packages.ensures.gives files told)
