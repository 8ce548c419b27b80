-- What is left of the parts leads on.
use Rattle.std.proofs.Common.{◌≡◌, drop, Some}
use Rattle.js_machine.specs.js_run.Requests.{walked}
use Rattle.js_machine_modules.proofs.requests.walked.Given as goal

abbrev pub invariant-loop-part : goal.invariant-loop-part
invariant-loop-part l = walked (drop l.part-index l.parts) l.dir ≡ walked l.parts (Some l.fn.start)
