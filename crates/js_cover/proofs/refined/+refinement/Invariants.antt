use Rattle.std.proofs.Common.{◌≡◌, ◌+◌, ◌*◌, ◌++◌, length}
use Rattle.js_phrase.specs.Lists.{flat, folded}
use Rattle.js_cover.specs.Refined as spec
use Rattle.js_cover.proofs.refined.+refinement.Given as goal

abbrev pub decreases-refined_to : goal.decreases-refined_to
decreases-refined_to c = 8 * c.levels + 0

abbrev pub decreases-covered : goal.decreases-covered
decreases-covered c = 8 * c.levels + 4

abbrev pub decreases-object_covered : goal.decreases-object_covered
decreases-object_covered c = 8 * c.levels + 3

abbrev pub decreases-array_covered : goal.decreases-array_covered
decreases-array_covered c = 8 * c.levels + 3

abbrev pub decreases-add_property : goal.decreases-add_property
decreases-add_property c = 8 * c.levels + 2

abbrev pub decreases-add_slot : goal.decreases-add_slot
decreases-add_slot c = 8 * c.levels + 2

abbrev pub decreases-element : goal.decreases-element
decreases-element c = 8 * c.levels + 1

abbrev pub invariant-object_covered-loop-property : goal.invariant-object_covered-loop-property
invariant-object_covered-loop-property l = record {
  fields : l.fields ++ flat (spec.fields_of (spec.refined_to l.levels)) l.left
      ≡ flat (spec.fields_of (spec.refined_to l.levels)) l.initial.left;
  rest : folded spec.with_rest_property l.rest l.left
      ≡ folded spec.with_rest_property l.initial.rest l.initial.left;
}

abbrev pub decreases-object_covered-loop-property : goal.decreases-object_covered-loop-property
decreases-object_covered-loop-property l = length l.left

abbrev pub invariant-array_covered-loop-element : goal.invariant-array_covered-loop-element
invariant-array_covered-loop-element l = record {
  slots : l.slots ++ flat (spec.slots_of (spec.refined_to l.levels)) l.left
      ≡ flat (spec.slots_of (spec.refined_to l.levels)) l.initial.left;
  rest : folded (spec.with_rest_element (spec.refined_to l.levels)) l.rest l.left
      ≡ folded (spec.with_rest_element (spec.refined_to l.levels)) l.initial.rest l.initial.left;
}

abbrev pub decreases-array_covered-loop-element : goal.decreases-array_covered-loop-element
decreases-array_covered-loop-element l = length l.left
