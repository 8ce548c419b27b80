-- No module has a path so far.
use Rattle.std.proofs.Common.{◌≡◌, drop}
use Rattle.js_machine.specs.Requested.{first_place}
use Rattle.js_machine_modules.proofs.require_calls.first_module.Given as goal

abbrev pub invariant-loop-path : goal.invariant-loop-path
invariant-loop-path g l = first_place l.machine.own_package.modules l.paths ≡ first_place l.machine.own_package.modules (drop l.path-index l.paths)
