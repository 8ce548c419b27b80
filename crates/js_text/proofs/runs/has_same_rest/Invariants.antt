-- The units so far are the same.
use Rattle.std.proofs.Common.{◌≡◌, take}
use Rattle.js_text.proofs.runs.has_same_rest.Given as goal

abbrev pub invariant-loop-at : goal.invariant-loop-at
invariant-loop-at l = take l.at l.units ≡ take l.at l.others
