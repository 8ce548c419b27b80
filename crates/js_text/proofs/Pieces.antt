-- Pieces of a text's units.
use Rattle.std.proofs.Common.{◌≡◌, ℕ, ◌+◌, ◌-◌, ◌<◌, ◌≤◌, Bool, true, false, not, nat_eq, refl, List, ◌++◌, length, take, drop, ap, sym, subst, ◌∙◌, arith}
use Rattle.std.proofs.lemmas.Bool.{true≢false}
use Rattle.std.proofs.lemmas.Slice.Eq.{bytes_eq-Decides}
use Rattle.std.specs.Cmp.Lexicographic.{pointwise}
use Rattle.std.proofs.lemmas.List.{length-take, length-take-le, length-drop, drop-drop, drop-take, take-take, take_rest, drop-append-le}
use Rattle.std.proofs.Math.Seq.{take-add, drop-append-add, take-append-add}
use Rattle.js_text.proofs.Places.{part_at}
use Rattle.js_text.specs.Nodes.{node_units, IsSound}
use Rattle.js_text.specs.Search.{substring, StandsAt}
use Rattle.js_text.specs.declared.text.Node.{Node}

-- what holds of a text whose node is seen as this one
pub seen : {node at other : Node} {now : List ℕ} → at ≡ node → at ≡ other → node_units node ≡ now → IsSound node → (node_units other ≡ now) × IsSound other
seen deref is view sound = let same = sym deref ∙ is in (sym (ap node_units same) ∙ view, subst IsSound same sound)

module _ (xs now : List ℕ) (from to at : ℕ) (part : take (to - from) (drop from xs) ≡ now) (inside : to ≤ length xs) (within : at < length now) where
  pub place_in_part : from + at < to
  place_in_part = omega (arith, ap length part, length-take (to - from) (drop from xs), length-drop from xs)

  -- a piece of a part is a piece of the list
  pub run_in_part : (items : List ℕ) → items ≡ xs → (let run = take (to - (from + at)) (drop (from + at) items) in run ≡ take (length run) (drop at now))
  run_in_part items e =
      let n = to - (from + at) in
      let count : length (take n (drop (from + at) items)) ≡ n = length-take-le n (drop (from + at) items) (omega (arith, place_in_part, ap length e, length-drop (from + at) items)) in
      let all : to - from ≡ at + n = omega (arith, place_in_part) in
      ap (λ l. take n (drop (from + at) l)) e
      ∙ ap (take n) (sym (drop-drop at from xs))
      ∙ sym (take-take n n (drop at (drop from xs)) (omega arith))
      ∙ ap (take n) (sym (drop-take at n (drop from xs)) ∙ ap (λ k. drop at (take k (drop from xs))) (sym all) ∙ ap (drop at) part)
      ∙ ap (λ k. take k (drop at now)) (sym count)

-- a piece of the second side of a join is a piece of the join
pub run_in_back : (left right now run : List ℕ) (middle at : ℕ) → left ++ right ≡ now → middle ≡ length left → middle ≤ at → run ≡ take (length run) (drop (at - middle) right)
    → run ≡ take (length run) (drop at now)
run_in_back left right now run middle at join e past is =
    let place : at ≡ length left + (at - middle) = omega arith in
    is ∙ ap (take (length run)) (sym (drop-append-add left right (at - middle)) ∙ ap (λ k. drop k (left ++ right)) (sym place) ∙ ap (drop at) join)

-- the units before a place, and then a piece from there on
pub more_units : (xs run : List ℕ) (at : ℕ) → run ≡ take (length run) (drop at xs) → take at xs ++ run ≡ take (at + length run) xs
more_units xs run at is = ap (λ l. take at xs ++ l) is ∙ sym (take-add at (length run) xs)

module _ (xs part : List ℕ) (at done n : ℕ) where
  -- one piece more is the same
  pub same_more : take done (drop at xs) ≡ take done part → take n (drop (at + done) xs) ≡ take n (drop done part) → take (done + n) (drop at xs) ≡ take (done + n) part
  same_more before next =
      take-add done n (drop at xs)
      ∙ ap (λ l. take done (drop at xs) ++ take n l) (drop-drop done at xs)
      ∙ ap (λ l. take done (drop at xs) ++ l) next
      ∙ ap (λ l. l ++ take n (drop done part)) before
      ∙ sym (take-add done n part)

  -- a part that stands there has the same pieces
  pub same_piece : StandsAt xs part at → done + n ≤ length part → take n (drop (at + done) xs) ≡ take n (drop done part)
  same_piece stands within =
      let k = length part - done in
      let all : length part ≡ done + k = omega arith in
      ap (take n) (sym (drop-drop done at xs))
      ∙ sym (take-take n k (drop done (drop at xs)) (omega arith))
      ∙ ap (take n) (sym (drop-take done k (drop at xs)) ∙ ap (λ m. drop done (take m (drop at xs))) (sym all))
      ∙ ap (λ l. take n (drop done l)) (sym (part_at xs part at) ∙ stands.1)

-- what stands from a place up to another is the front of a piece that begins there, and then the rest
pub front_and_rest : (xs run : List ℕ) (at n to : ℕ) → run ≡ take (length run) (drop at xs) → n ≤ length run → at + n ≤ to → substring xs at to ≡ take n run ++ substring xs (at + n) to
front_and_rest xs run at n to is within before =
    let k = to - (at + n) in
    let all : to - at ≡ n + k = omega arith in
    ap (λ m. take m (drop at xs)) all
    ∙ take-add n k (drop at xs)
    ∙ ap (λ l. take n (drop at xs) ++ take k l) (drop-drop n at xs)
    ∙ ap (λ l. l ++ substring xs (at + n) to) (sym (take-take n (length run) (drop at xs) within) ∙ ap (take n) (sym is))

-- ---- what stands from one place up to another

part_length : (xs now : List ℕ) (start end : ℕ) → take (end - start) (drop start xs) ≡ now → end ≤ length xs → length now ≡ end - start
part_length xs now start end part inside = sym (ap length part) ∙ length-take-le (end - start) (drop start xs) (omega (arith, length-drop start xs))

-- in a part
pub place_fits : (xs now : List ℕ) (start end at : ℕ) → take (end - start) (drop start xs) ≡ now → start ≤ end → end ≤ length xs → at ≤ length now → start + at ≤ end
place_fits xs now start end at part order inside within = omega (arith, part_length xs now start end part inside)

pub substring_of_part : (xs now : List ℕ) (start end from to : ℕ) → take (end - start) (drop start xs) ≡ now → start ≤ end → end ≤ length xs → from ≤ to → to ≤ length now
    → substring xs (start + from) (start + to) ≡ substring now from to
substring_of_part xs now start end from to part order inside rises within =
    let m = end - start - from in
    let room = part_length xs now start end part inside in
    let all : end - start ≡ from + m = omega (arith, room) in
    let count : start + to - (start + from) ≡ to - from = omega arith in
    ap (λ n. take n (drop (start + from) xs)) count
    ∙ ap (take (to - from)) (sym (drop-drop from start xs))
    ∙ sym (take-take (to - from) m (drop from (drop start xs)) (omega (arith, room)))
    ∙ ap (take (to - from)) (sym (drop-take from m (drop start xs)) ∙ ap (λ k. drop from (take k (drop start xs))) (sym all) ∙ ap (drop from) part)

module _ (left right now : List ℕ) (middle from to : ℕ) (join : left ++ right ≡ now) (seam : middle ≡ length left) where
  -- in the second side of a join
  pub substring_of_back : middle ≤ from → from ≤ to → substring right (from - middle) (to - middle) ≡ substring now from to
  substring_of_back past rises =
      let place : from ≡ length left + (from - middle) = omega arith in
      let count : to - middle - (from - middle) ≡ to - from = omega arith in
      ap (λ n. take n (drop (from - middle) right)) count
      ∙ ap (take (to - from)) (sym (drop-append-add left right (from - middle)) ∙ ap (λ k. drop k (left ++ right)) (sym place) ∙ ap (drop from) join)

  -- over the seam of a join
  pub substring_over_seam : from < middle → middle < to → substring left from middle ++ substring right 0 (to - middle) ≡ substring now from to
  substring_over_seam before after =
      let count : to - from ≡ length (drop from left) + (to - middle) = omega (arith, length-drop from left) in
      let all : to - middle - 0 ≡ to - middle = omega arith in
      ap (λ n. take (middle - from) (drop from left) ++ take n right) all
      ∙ ap (λ l. l ++ take (to - middle) right) (ap (λ n. take (n - from) (drop from left)) seam ∙ take_rest left from)
      ∙ sym (take-append-add (drop from left) right (to - middle))
      ∙ ap (λ l. take (length (drop from left) + (to - middle)) l) (sym (drop-append-le from left right (omega arith)) ∙ ap (drop from) join)
      ∙ ap (λ n. take n (drop from now)) (sym count)

-- ---- tests

was_not : (b : Bool) → false ≡ not b → b ≡ true
was_not true e = refl
was_not false e = absurd (true≢false (sym e))

-- what the test of two pieces says
pub same_by_test : (a b : List ℕ) → false ≡ not (pointwise nat_eq a b) → a ≡ b
same_by_test a b e = (bytes_eq-Decides a b).0 (was_not (pointwise nat_eq a b) e)

pub differ_by_test : (a b : List ℕ) → true ≡ not (pointwise nat_eq a b) → a ≡ b → ⊥
differ_by_test a b e same = true≢false (e ∙ ap not ((bytes_eq-Decides a b).1 same))
