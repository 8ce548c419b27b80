use Rattle.std.proofs.Common.{◌≡◌, ◌++◌, filter, drop}
use Rattle.std.specs.Map.{keys_of}
use Rattle.js_store.specs.Few.{chosen}
use Rattle.js_store.proofs.named.push_few.Given as goal

abbrev pub invariant-loop-entry : goal.invariant-loop-entry
invariant-loop-entry l = l.keys ++ filter (chosen l.symbols) (keys_of (drop l.entry-index l.few)) ≡ l.initial.keys ++ filter (chosen l.symbols) (keys_of l.few)
