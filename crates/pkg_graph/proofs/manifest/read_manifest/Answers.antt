use Rattle.std.proofs.Common.{refl, rules}
use Rattle.serde_json.specs.View.{view}
use Rattle.pkg_graph.proofs.ManifestLemmas.{document_is, document_is_none}
use Rattle.pkg_graph.proofs.manifest.read_manifest.Goals as goal

pub returns-in-Ok : goal.returns-in-Ok
returns-in-Ok c =
    let is = document_is c.args.bytes.now (view c.in-Ok.value) c.in-Ok.ensures.ok.0 c.in-Ok.ensures.ok.1 in
    rw is c.judge_document.ensures

pub returns-else-is_memory : goal.returns-else-is_memory
returns-else-is_memory c =
    let is = document_is_none c.args.bytes.now (c.in-Err.ensures.err (search rules)) in
    rw is refl
