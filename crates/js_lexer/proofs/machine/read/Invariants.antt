use Rattle.std.proofs.Common.{◌≡◌, length}
use Rattle.js_lexer.specs.Machines.{run}
use Rattle.js_lexer.proofs.machine.read.Given as goal

-- what is left leads on to what all of it leads to
abbrev pub invariant-loop-c : goal.invariant-loop-c
invariant-loop-c g l = run g.M.Machine.steps g.M.Machine.stops l.state l.cursor ≡ run g.M.Machine.steps g.M.Machine.stops l.fn.start l.fn.cursor

abbrev pub decreases-loop-c : goal.decreases-loop-c
decreases-loop-c g l = length l.cursor
