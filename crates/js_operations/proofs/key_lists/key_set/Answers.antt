use Rattle.std.proofs.Common.{arith}
use Rattle.std.specs.HashSet.{contains}
use Rattle.lava_base.specs.Ids.{same_made_symbol}
use Rattle.js_text.specs.Values.{same_key}
use Rattle.js_operations.proofs.Sets_of_keys as sets
use Rattle.js_operations.proofs.key_lists.key_set.Goals as goal

pub loop-at-preserved : goal.loop-at-preserved
loop-at-preserved c = record {
  within = let w = c.loop-at.invariant.within in omega (arith, w);
  known = sets.known_after c.loop-at.at c.args.keys.now c.item.result.now c.loop-at-test.true c.loop-at.invariant.within c.item.ensures (contains (same_key same_made_symbol) c.loop-at.set) (contains (same_key same_made_symbol) c.insert_key.new.set) c.in_ok-insert_key.ensures.keys.0 c.loop-at.invariant.known;
}
