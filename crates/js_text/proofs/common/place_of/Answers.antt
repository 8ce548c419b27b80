-- The search gives the one place of the text.
use Rattle.js_text.proofs.Rising.{found_place, every_place}
use Rattle.js_text.proofs.common.place_of.Goals as goal

pub returns-clause-place : goal.returns-clause-place
returns-clause-place c = rw c.ok.ensures.value (found_place c.args.texts.now c.args.text.now c.binary_search.result c.binary_search.ensures.bound c.binary_search.ensures.position)

pub returns-clause-each : goal.returns-clause-each
returns-clause-each c = rw c.ok.ensures.value (every_place c.args.texts.now c.args.text.now c.requires c.binary_search.result c.binary_search.ensures.bound c.binary_search.ensures.position)
