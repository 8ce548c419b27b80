-- The requests before the place are names.
use Rattle.std.proofs.Common.{◌≡◌, take}
use Rattle.pkg_source.specs.Reading.{request_names}
use Rattle.pkg_source.proofs.source.names_of.Given as goal

abbrev pub invariant-loop-request : goal.invariant-loop-request
invariant-loop-request l = l.names ≡ request_names (take l.request-index l.requests)
