-- The parts so far, and those of what is left behind the part that is begun.
use Rattle.std.proofs.Common.{◌≡◌, ◌++◌, drop}
use Rattle.js_machine.specs.js_run.Requests.{parts_after, parts_of}
use Rattle.js_machine_modules.proofs.requests.parts_of.Given as goal

abbrev pub invariant-loop-unit : goal.invariant-loop-unit
invariant-loop-unit l = l.parts ++ parts_after l.begun (drop l.unit-index l.path) ≡ parts_of l.path
