-- The path so far, and what is left of the parts.
use Rattle.std.proofs.Common.{◌≡◌, ◌++◌, drop}
use Rattle.js_machine.specs.js_run.Requests.{joined_parts}
use Rattle.js_machine_modules.proofs.Requested.{joined_on}
use Rattle.js_machine_modules.proofs.requests.joined_parts.Given as goal

abbrev pub invariant-loop-part : goal.invariant-loop-part
invariant-loop-part l = l.path ++ joined_on l.first (drop l.part-index l.parts) ≡ joined_parts l.parts
