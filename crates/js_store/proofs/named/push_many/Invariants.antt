use Rattle.std.proofs.Common.{◌≡◌, ◌++◌, filter}
use Rattle.js_store.specs.Few.{chosen}
use Rattle.js_store.proofs.named.push_many.Given as goal

abbrev pub invariant-loop-key : goal.invariant-loop-key
invariant-loop-key l = l.keys ++ filter (chosen l.symbols) l.key-iterator ≡ l.initial.keys ++ filter (chosen l.symbols) l.initial.key-iterator
