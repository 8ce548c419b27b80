use Rattle.std.proofs.Common.{ap, ◌∙◌}
use Rattle.lava_base.specs.Ids.{same_made_symbol}
use Rattle.js_store.specs.Objects.{at_place}
use Rattle.js_operations.proofs.Made_laws as made
use Rattle.js_operations.proofs.made_objects.put_fields.Goals as goal
use Rattle.js_operations.specs.MadeObjects as m

pub returns-clause-ok : goal.returns-clause-ok
returns-clause-ok g c =
    let first = c.in_ok-put_data_fields.ensures.ok
    ∙ ap (λ v. at_place (g.S.Store.objects c.args.store.now) c.args.id.0 (m.with_data_fields same_made_symbol v c.args.fields.now.writable)) c.in_ok-value.ensures in
    made.put_twice _ _ _ _ _ (m.with_data_fields same_made_symbol c.args.fields.now.value c.args.fields.now.writable) (m.with_other_fields same_made_symbol c.args.fields.now) c.requires first c.put_other_fields.ensures.ok
