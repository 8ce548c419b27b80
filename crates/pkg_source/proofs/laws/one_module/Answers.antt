use Rattle.js_tree.specs.declared.tree.SourceKind.TheVariants.{Module as AsModule}
use Rattle.pkg_source.proofs.Module_laws as laws
use Rattle.pkg_source.proofs.laws.one_module.Goals as goal

pub returns : goal.returns
returns c = laws.one_module (λ bytes a b p q. c.one_tree.ensures AsModule bytes a b (p.0) (q.0))
