-- The keys from the place on are in the set.
use Rattle.std.proofs.Common.{◌≡◌, ◌≤◌, drop, length}
use Rattle.std.specs.HashSet.{contains}
use Rattle.lava_base.specs.Ids.{same_made_symbol}
use Rattle.lava_base.specs.declared.ids.MadeSymbol.{MadeSymbol}
use Rattle.js_text.specs.Values.{same_key}
use Rattle.js_text.specs.declared.value.Key.{Key}
use Rattle.js_operations.proofs.key_lists.key_set.Given as goal
use Rattle.js_operations.specs.KeyLists.{is_among}

abbrev pub invariant-loop-at : goal.invariant-loop-at
invariant-loop-at l = record {
  within : l.at ≤ length l.keys;
  known : (k : Key MadeSymbol) → contains (same_key same_made_symbol) l.set k ≡ is_among same_made_symbol (drop l.at l.keys) k;
}

abbrev pub decreases-loop-at : goal.decreases-loop-at
decreases-loop-at l = l.at
