use Rattle.std.proofs.Common.{◌≡◌, ◌++◌, length}
use Rattle.js_phrase.specs.Lists.{flat}
use Rattle.js_cover.specs.Targets.{parameter_list_of}
use Rattle.js_cover.proofs.targets.all_parameters.Given as goal

abbrev pub invariant-loop-operand : goal.invariant-loop-operand
invariant-loop-operand l = l.elements ++ flat parameter_list_of l.left ≡ flat parameter_list_of l.initial.left

abbrev pub decreases-loop-operand : goal.decreases-loop-operand
decreases-loop-operand l = length l.left
