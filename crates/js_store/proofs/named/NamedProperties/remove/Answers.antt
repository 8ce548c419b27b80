use Rattle.lava_base.specs.Ids.{same_made_symbol}
use Rattle.js_text.specs.Values.{same_key}
use Rattle.js_store.proofs.Few_laws.{distinct_less}
use Rattle.js_store.proofs.named.NamedProperties.remove.Goals as goal

pub invariant_of-self : goal.invariant_of-self
invariant_of-self c = distinct_less (same_key same_made_symbol) (same_key same_made_symbol c.args.key.now) _ _ c.remove_first.ensures c.self.invariant
