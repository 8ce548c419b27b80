use Rattle.js_code.specs.Decoded.{text_at}
use Rattle.js_code.proofs.Holding.{Listing}
use Rattle.js_code.proofs.leaves.labels.Given as goal

abbrev pub invariant-loop-label : goal.invariant-loop-label
invariant-loop-label l = Listing (λ k c low. text_at c k) l.fn.code l.code l.places.items l.label-index l.names
