use Rattle.lava_base.specs.Ids.{same_made_symbol}
use Rattle.std.proofs.Common.{length}
use Rattle.js_operations.proofs.Made_laws as made
use Rattle.js_operations.proofs.made_objects.put_values.Goals as goal
use Rattle.js_operations.specs.MadeObjects as m

pub returns-clause-ok : goal.returns-clause-ok
returns-clause-ok g c = made.put_twice _ _ _ _ _ (m.with_length same_made_symbol (length c.args.values.now)) (m.with_elements same_made_symbol 0 c.args.values.now) c.requires.within c.in_ok-put_length.ensures.ok c.put_elements.ensures.ok
