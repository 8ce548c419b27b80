use Rattle.std.specs.BTreeMap.{is_at}
use Rattle.std.specs.Ordering.{nat_cmp}
use Rattle.js_store.proofs.Dense_laws.{past_taken}
use Rattle.js_store.proofs.elements.Elements.remove.Goals as goal

pub invariant_of-self-else-index-len : goal.invariant_of-self-else-index-len
invariant_of-self-else-index-len c = (c.self.invariant.0, past_taken _ (is_at (nat_cmp c.args.index)) _ _ c.take_out.ensures c.self.invariant.1)
