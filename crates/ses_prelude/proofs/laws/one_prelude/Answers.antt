use Rattle.std.proofs.Common.{◌≡◌, ap, ◌∙◌, sym}
use Rattle.std.proofs.lemmas.Option.{same_Some}
use Rattle.js_tree.specs.declared.tree.Module.{Module as Tree}
use Rattle.js_tree.specs.declared.tree.SourceKind.TheVariants.{Module as AsModule}
use Rattle.ses_prelude.specs.Functions.{intrinsics_of}
use Rattle.ses_prelude.proofs.laws.one_prelude.Goals as goal

pub returns : goal.returns
returns c = λ source a b p q.
    let same : p.0 ≡ q.0 = c.one_tree.ensures AsModule source p.0 q.0 p.1.0 q.1.0 in
    same_Some a b (sym p.2 ∙ ap (λ (t : Tree). intrinsics_of t.body) same ∙ q.2)
