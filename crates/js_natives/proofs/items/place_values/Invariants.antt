use Rattle.std.proofs.Common.{◌≡◌, map, take, pos}
use Rattle.js_natives.proofs.items.place_values.Given as goal
use Rattle.js_text.specs.declared.value.Value.TheVariants as value

abbrev pub invariant-loop-place : goal.invariant-loop-place
invariant-loop-place l = l.values ≡ map (λ n. value.Int (pos n)) (take l.place-index l.places)
