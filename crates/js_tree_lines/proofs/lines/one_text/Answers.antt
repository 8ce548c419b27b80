use Rattle.js_tree_lines.specs.Lines.{OneTerm}
use Rattle.js_tree_lines.proofs.Lines_laws.{one_text_of}
use Rattle.js_tree_lines.proofs.lines.one_text.Goals as goal

pub returns : goal.returns
returns c = λ t a b x y. one_text_of 0 _ a b x y
