use Rattle.std.proofs.Common.{◌≡◌, ◌++◌, map}
use Rattle.js_text.specs.declared.value.Key.TheVariants.{Index}
use Rattle.js_store.proofs.elements.push_sparse.Given as goal

abbrev pub invariant-loop-index : goal.invariant-loop-index
invariant-loop-index l = l.keys ++ map Index l.index-iterator ≡ l.initial.keys ++ map Index l.initial.index-iterator
