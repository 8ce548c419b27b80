use Rattle.lava_base.specs.Ids.{same_made_symbol}
use Rattle.js_text.specs.Values.{same_key}
use Rattle.js_store.proofs.Few_laws.{distinct_replaced}
use Rattle.js_store.proofs.named.NamedProperties.replace.Goals as goal

pub invariant_of-self : goal.invariant_of-self
invariant_of-self c = distinct_replaced (same_key same_made_symbol) (same_key same_made_symbol c.args.key) c.args.property _ _ c.replace_first.ensures.properties c.self.invariant
