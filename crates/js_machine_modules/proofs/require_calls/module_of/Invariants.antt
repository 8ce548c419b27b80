-- No module so far has the path.
use Rattle.std.proofs.Common.{◌≡◌, drop}
use Rattle.js_machine.specs.Requested.{place_from}
use Rattle.js_machine_modules.proofs.require_calls.module_of.Given as goal

abbrev pub invariant-loop-place : goal.invariant-loop-place
invariant-loop-place l = place_from 0 l.modules l.path ≡ place_from l.place (drop l.place l.modules) l.path
