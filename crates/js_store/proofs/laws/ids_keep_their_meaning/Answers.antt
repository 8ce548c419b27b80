use Rattle.js_store.proofs.Ids_laws.{one_changed, one_more}
use Rattle.js_store.proofs.laws.ids_keep_their_meaning.Goals as goal

pub returns : goal.returns
returns g c = record { changes = one_changed; makes = one_more }
