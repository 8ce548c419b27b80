-- The key that stands in the relation is the function's.
use Rattle.std.proofs.Common.{refl}
use Rattle.lava_base.specs.declared.ids.MadeSymbol.{MadeSymbol}
use Rattle.js_text.specs.declared.value.Key.TheVariants as key
use Rattle.js_text.proofs.Keys.{key_is}
use Rattle.js_text.proofs.index.key_of_text.Goals as goal

pub returns-in-Some-clause-exact : goal.returns-in-Some-clause-exact
returns-in-Some-clause-exact c = key_is {S = MadeSymbol} c.args.text (key.Index c.in-Some.index) c.in-Some.ensures.index

pub returns-in-None-clause-exact : goal.returns-in-None-clause-exact
returns-in-None-clause-exact c = key_is {S = MadeSymbol} c.args.text (key.Text c.args.text) (refl, c.in-None.ensures.none)
