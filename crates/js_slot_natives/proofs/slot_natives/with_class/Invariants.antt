-- The values before the place stand behind the class.
use Rattle.std.proofs.Common.{◌≡◌, ◌∷◌, take}
use Rattle.js_text.specs.declared.value.Value.TheVariants as value
use Rattle.js_slot_natives.proofs.slot_natives.with_class.Given as goal

abbrev pub invariant-loop-value : goal.invariant-loop-value
invariant-loop-value l = l.args ≡ value.Text l.class ∷ take l.value-index l.rest
