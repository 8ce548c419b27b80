use Rattle.js_store.proofs.Order_laws.{old_keys_keep_their_places, new_names_go_last}
use Rattle.js_store.proofs.laws.written_keeps_places.Goals as goal

pub returns-clause-old : goal.returns-clause-old
returns-clause-old g c = old_keys_keep_their_places _ _

pub returns-clause-new : goal.returns-clause-new
returns-clause-new g c = new_names_go_last _ _
