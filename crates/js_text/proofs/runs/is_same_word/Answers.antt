-- Four units are told by their number.
use Rattle.std.proofs.Common.{sym, ◌∙◌}
use Rattle.std.specs.Cmp.{unsigned_Decides}
use Rattle.js_text.proofs.Words.{same_by_word}
use Rattle.js_text.proofs.runs.is_same_word.Goals as goal

pub returns : goal.returns
returns c = λ same before.
    let e = sym c.word_of-word.ensures ∙ (unsigned_Decides c.word_of-word.result c.word_of.result).0 same ∙ c.word_of.ensures in
    same_by_word c.args.units.now c.args.others.now c.args.at c.type_inv.units c.type_inv.others c.requires.0 c.requires.1 e before
