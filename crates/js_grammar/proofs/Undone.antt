-- What a token leaves as it was where it is refused, and what is open above some productions.
use Rattle.std.proofs.Common.{◌≡◌, ℕ, ◌+◌, ◌<◌, ◌≤◌, min, List, [], ◌∷◌, ◌++◌, sym, ap, ◌∙◌, length, take, map, get_or, arith}
use Rattle.std.proofs.Math.Seq.{take-length}
use Rattle.std.proofs.lemmas.List.{length-take, take-append-le, take_more}
use Rattle.std.proofs.Math.Nat.{min-le_right}
use Rattle.js_grammar.specs.declared.event.Event.{Event}
use Rattle.js_grammar.specs.declared.open.OpenProduction.{OpenProduction}
use Rattle.js_grammar.specs.Moves.{shapes_of, shape_in, Keeps, Grows}
use Rattle.js_grammar.proofs.Reversed.{reverse_push}

kept_length : (base xs : List Event) → Keeps base xs → length base ≤ length xs
kept_length base xs h =
    let e : length base ≡ min (length base) (length xs) = sym (ap length h) ∙ length-take (length base) xs in
    let k : min (length base) (length xs) ≤ length xs = min-le_right (length base) (length xs) in
    omega arith

pub grows_push : (xs : List Event) (e : Event) → Grows xs (xs ++ e ∷ [])
grows_push xs e base h = take-append-le (length base) xs (e ∷ []) (kept_length base xs h) ∙ h

pub undone : (old out : List Event) → Grows old out → take (length old) out ≡ old
undone old out g = g old (take-length old)

pub above : (xs : List OpenProduction) (n : ℕ) (d : OpenProduction) → n < length xs → shapes_of (take (n + 1) xs) ≡ shape_in (get_or xs n d) ∷ shapes_of (take n xs)
above xs n d h = ap shapes_of (take_more xs n d h) ∙ ap (map shape_in) (reverse_push (take n xs) (get_or xs n d))
