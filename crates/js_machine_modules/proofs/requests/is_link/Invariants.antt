-- It is none of the links so far.
use Rattle.std.proofs.Common.{◌≡◌, drop}
use Rattle.js_machine.specs.js_run.Requests.{is_link}
use Rattle.js_machine_modules.proofs.requests.is_link.Given as goal

abbrev pub invariant-loop-other : goal.invariant-loop-other
invariant-loop-other l = is_link l.link l.links ≡ is_link l.link (drop l.other-index l.links)
