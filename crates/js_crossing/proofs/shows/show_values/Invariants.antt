-- What is shown, and what is left to show.
use Rattle.std.proofs.Common.{◌≡◌, drop}
use Rattle.js_crossing.specs.Shows.{shows_values}
use Rattle.js_crossing.proofs.shows.show_values.Given as goal

abbrev pub invariant-loop-i : goal.invariant-loop-i
invariant-loop-i g l = shows_values (drop l.i l.values) l.machine ≡ shows_values l.values l.initial.machine
