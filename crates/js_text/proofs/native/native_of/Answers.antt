-- One native has the name, and it stands in the list.
use Rattle.js_text.proofs.NativeNames.{only_one}
use Rattle.js_text.proofs.native.native_of.Goals as goal

pub returns-clause-each : goal.returns-clause-each
returns-clause-each c = only_one c.args.name.now c.first_named.result c.first_named.ensures.named c.first_named.ensures.none
