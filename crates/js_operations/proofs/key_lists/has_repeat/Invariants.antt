-- The keys from the place on are in the set, and none of them stands twice.
use Rattle.std.proofs.Common.{◌≡◌, ◌≤◌, false, drop, length}
use Rattle.std.specs.HashSet.{contains}
use Rattle.lava_base.specs.Ids.{same_made_symbol}
use Rattle.lava_base.specs.declared.ids.MadeSymbol.{MadeSymbol}
use Rattle.js_text.specs.Values.{same_key}
use Rattle.js_text.specs.declared.value.Key.{Key}
use Rattle.js_operations.proofs.key_lists.has_repeat.Given as goal
use Rattle.js_operations.specs.KeyLists.{has_repeat, is_among}

abbrev pub invariant-loop-at : goal.invariant-loop-at
invariant-loop-at l = record {
  within : l.at ≤ length l.keys;
  known : (k : Key MadeSymbol) → contains (same_key same_made_symbol) l.set k ≡ is_among same_made_symbol (drop l.at l.keys) k;
  once : has_repeat same_made_symbol (drop l.at l.keys) ≡ false;
}

abbrev pub decreases-loop-at : goal.decreases-loop-at
decreases-loop-at l = l.at
