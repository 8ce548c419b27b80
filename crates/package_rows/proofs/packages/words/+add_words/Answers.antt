use Rattle.std.proofs.Common.{◌∙◌, arith}
use Rattle.package_rows.proofs.WordLemmas.{added_one, added_more}
use Rattle.package_rows.proofs.packages.words.+add_words.Goals as goal

pub returns-then-not-has_space : goal.returns-then-not-has_space
returns-then-not-has_space t c =
    added_one c.args.words.now c.push.new.self c.args.text.now c.in_ok-of.field-0 (grind (arith, c.has_space.ensures, c.if-not-has_space.true)) c.in_ok-of.ensures c.in_ok-push.ensures.ok

pub returns : goal.returns
returns t c =
    added_more c.args.words.now c.push-2.new.self c.add_words.new.words c.args.text.now c.in_ok-of-2.field-0 c.other_words.result.now c.add_words.result (grind (arith, c.has_space.ensures, c.if-not-has_space.false)) (c.in_ok-of-2.ensures ∙ c.first_word.ensures) c.other_words.ensures c.in_ok-push-2.ensures.ok c.add_words.ensures
