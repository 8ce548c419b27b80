use Rattle.std.proofs.Common.{ℕ, List, ◌++◌, sym, ◌∙◌, ap, lit<}
use Rattle.std.proofs.lemmas.Str.Pattern.{strip_prefix_char}
use Rattle.lava_streams.proofs.NameLemmas.{stands_below}
use Rattle.lava_streams.proofs.names.below.Goals as goal

pub returns-in-Some : goal.returns-in-Some
returns-in-Some c =
    stands_below c.args.dir.now c.args.path.now c.in-Some.rest.now c.strip_prefix-in-Some.result
    (c.in-Some.ensures.cases.1.1 ∙ ap (λ (t : List ℕ). c.args.dir.now ++ t) (sym c.in-Some.ensures.cases.2))
    (strip_prefix_char 47 c.in-Some.rest.now c.strip_prefix-in-Some.result c.strip_prefix-in-Some.ensures.cases (lit< tt))
