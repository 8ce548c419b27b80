use Rattle.std.proofs.Common.{◌≡◌, ◌++◌, map, drop}
use Rattle.std.specs.Map.{keys_of}
use Rattle.js_text.specs.declared.value.Key.TheVariants.{Index}
use Rattle.js_store.specs.Dense.{present}
use Rattle.js_store.proofs.elements.push_dense.Given as goal

abbrev pub invariant-loop-at : goal.invariant-loop-at
invariant-loop-at l = l.keys ++ map Index (keys_of (present l.at (drop l.at l.dense))) ≡ l.initial.keys ++ map Index (keys_of (present 0 l.dense))
