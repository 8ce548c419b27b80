-- No name so far is the request.
use Rattle.std.proofs.Common.{◌≡◌, drop}
use Rattle.std.specs.Map.{lookup}
use Rattle.js_text.specs.Texts.{same_units}
use Rattle.js_machine_modules.proofs.require_calls.value_of.Given as goal

abbrev pub invariant-loop-name : goal.invariant-loop-name
invariant-loop-name l = lookup (same_units l.request) l.mapped ≡ lookup (same_units l.request) (drop l.name-index l.mapped)
