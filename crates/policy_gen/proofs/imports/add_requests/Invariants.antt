-- The requests before the place are taken in.
use Rattle.std.proofs.Common.{◌≡◌, take}
use Rattle.policy_gen.specs.Imports.{with_requests}
use Rattle.policy_gen.proofs.imports.add_requests.Given as goal

abbrev pub invariant-loop-request : goal.invariant-loop-request
invariant-loop-request l = l.imports ≡ with_requests l.packages l.owner l.initial.imports (take l.request-index l.requests)
