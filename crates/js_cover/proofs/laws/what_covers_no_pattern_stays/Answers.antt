use Rattle.std.proofs.Common.{refl}
use Rattle.js_tree.specs.declared.tree.Expr.{out-Expr}
use Rattle.js_cover.specs.Refined.{refined_to}
use Rattle.js_cover.proofs.Refined_laws.{refined_whole}
use Rattle.js_cover.proofs.laws.what_covers_no_pattern_stays.Goals as goal

pub returns-clause-name : goal.returns-clause-name
unfolding refined_to out-Expr denote.Hole.Carrier.out
returns-clause-name c = λ n i. refl

pub returns-clause-others : goal.returns-clause-others
returns-clause-others c = refined_whole
