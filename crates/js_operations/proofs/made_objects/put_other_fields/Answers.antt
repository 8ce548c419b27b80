use Rattle.lava_base.specs.Ids.{same_made_symbol}
use Rattle.js_operations.proofs.Made_laws as made
use Rattle.js_operations.proofs.made_objects.put_other_fields.Goals as goal
use Rattle.js_operations.specs.MadeObjects as m

pub returns-clause-ok : goal.returns-clause-ok
returns-clause-ok g c = made.put_twice _ _ _ _ _ (m.with_accessor_fields same_made_symbol c.args.fields.now.get c.args.fields.now.set) (m.with_shared_fields same_made_symbol c.args.fields.now.enumerable c.args.fields.now.configurable) c.requires c.in_ok-put_accessor_fields.ensures.ok c.put_shared_fields.ensures.ok
