use Rattle.std.proofs.Common.{◌≡◌, ◌++◌, take}
use Rattle.js_exotic.proofs.bound_functions.joined_arguments.Given as goal

-- what was appended are the first of the arguments
abbrev pub invariant-loop-value : goal.invariant-loop-value
invariant-loop-value l = l.joined ≡ l.bound ++ take l.value-index l.args
