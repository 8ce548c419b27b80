use Rattle.lava_base.specs.Ids.{same_made_symbol}
use Rattle.js_operations.proofs.Made_laws as made
use Rattle.js_operations.proofs.made_objects.make_description.Goals as goal
use Rattle.js_operations.specs.MadeObjects as m

pub returns-clause-ok : goal.returns-clause-ok
returns-clause-ok g c = made.made_and_put _ _ _ _ _ (m.with_fields same_made_symbol c.args.fields.now) c.in_ok-id.ensures.id c.in_ok-id.ensures.ok c.in_ok-put_fields.ensures.ok
