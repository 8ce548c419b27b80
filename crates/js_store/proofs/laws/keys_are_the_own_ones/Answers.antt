use Rattle.js_store.proofs.Keys_laws as keys
use Rattle.js_store.proofs.laws.keys_are_the_own_ones.Goals as goal

pub returns : goal.returns
returns g c = keys.keys_are_the_own_ones _ _
