use Rattle.pkg_load.specs.Sources.{sources_of}
use Rattle.pkg_load.specs.Applications.{IsLoaded, IsLoadAnswer}
use Rattle.pkg_load.proofs.LawLemmas.{answers_so, loaded_is}
use Rattle.pkg_load.specs.Reasons.{Explained}
use Rattle.pkg_load.proofs.ReasonLemmas.{explained_so}
use Rattle.pkg_load.proofs.load.load.Goals as goal

pub returns-clause-says : goal.returns-clause-says
returns-clause-says g c = λ files told meaning means.
    let w = sources_of files c.args.root.now c.args.graph meaning in
    let reads = g.R.ModuleReader.Reads c.args.reader.now in
    answers_so (Explained reads w (IsLoaded w)) (Explained reads w (IsLoadAnswer w)) (explained_so reads w (IsLoaded w) (IsLoadAnswer w) (loaded_is w)) c.load_application.result (c.load_application.ensures.gives files told meaning means)
