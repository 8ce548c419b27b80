use Rattle.std.proofs.Common.{◌≡◌, ◌≤◌, length, take}
use Rattle.js_valid.specs.Surroundings as spec
use Rattle.js_valid.specs.Surroundings.{place}
use Rattle.js_valid.proofs.question.first_answer.Given as goal

abbrev pub invariant-loop-at : goal.invariant-loop-at
invariant-loop-at l =
    (spec.first_answer (spec.question_of l.question) (place (take l.at l.round)) ≡ spec.first_answer (spec.question_of l.question) (place l.round)) × (l.at ≤ length l.round)

abbrev pub decreases-loop-at : goal.decreases-loop-at
decreases-loop-at l = l.at
