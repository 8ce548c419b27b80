-- A run from crossing to crossing.
use Rattle.std.proofs.Common.{◌≡◌, ℕ, zero, suc, ◌+◌, refl, ap, ◌∙◌, subst, arith}
use Rattle.js_crossing.specs.js_run.Heap as heap
use Rattle.js_crossing.specs.js_run.Heap.{cross}
use Rattle.js_crossing.specs.js_run.Journal.{Application}
use Rattle.js_crossing.specs.js_machine.declared.frame.Mode.{Mode}
use Rattle.js_world.specs.Ends.{Ends, IsOn, after_crossings}
use Rattle.js_world.specs.Worlds.{After, Crosses, Stands, WorldView}
use Rattle.js_crossing.specs.declared.ending.Turn.{Turn}
use Rattle.js_crossing.specs.declared.ending.Turn.TheVariants as turn

-- the crossings of a run from its beginning
further : (app : Application) (b k n : ℕ) → after_crossings app b n (heap.heap app b k) ≡ heap.heap app b (k + n)
further app b k zero = (let e : k ≡ k + zero = omega arith in ap (heap.heap app b) e)
further app b k (suc n) =
    let e : suc (k + n) ≡ k + suc n = omega arith in
    ap (λ (x : heap.World). cross app b x x.control) (further app b k n) ∙ ap (heap.heap app b) e

pub begins : (old : WorldView) (m : Mode) → IsOn old m 0 old m
begins old m = record { on = λ app w x. x; budget = refl }

-- one crossing more
next : (old : WorldView) (m : Mode) (i : ℕ) (now : WorldView) (a : Mode) (new : WorldView) (t : Turn) → IsOn old m i now a → Crosses now a new t → (app : Application) (w : heap.World) → Stands app w old m
    → After app (after_crossings app old.budget i w) (after_crossings app old.budget (suc i) w) new t
next old m i now a new t h c app w x =
    let y = after_crossings app old.budget i w in
    subst (λ b. After app y (cross app b y y.control) new t) h.budget (c.crosses app y (h.on app w x))

pub goes : (old : WorldView) (m : Mode) (i j : ℕ) (now : WorldView) (a : Mode) (new : WorldView) (t : Turn) (b : Mode) → IsOn old m i now a → Crosses now a new t → t ≡ turn.Runs b → j ≡ i + 1 → IsOn old m j new b
goes old m i j now a new t b h c e d =
    let size : suc i ≡ j = omega (arith, d) in
    record {
      on = λ app w x. subst (λ n. Stands app (after_crossings app old.budget n w) new b) size (subst (λ u. After app (after_crossings app old.budget i w) (after_crossings app old.budget (suc i) w) new u) e (next old m i now a new t h c app w x));
      budget = c.budget ∙ h.budget;
    }

pub over : (old : WorldView) (m : Mode) (i : ℕ) (now : WorldView) (a : Mode) (new : WorldView) (t u : Turn) → IsOn old m i now a → Crosses now a new t → t ≡ u → Ends old m new u
over old m i now a new t u h c e =
    let ends : (app : Application) (w : heap.World) → Stands app w old m → After app (after_crossings app old.budget i w) (after_crossings app old.budget (suc i) w) new u =
    λ app w x. subst (λ y. After app (after_crossings app old.budget i w) (after_crossings app old.budget (suc i) w) new y) e (next old m i now a new t h c app w x) in
    record {
      crossings = i;
      ends = ends;
      heaps = λ app k x. (let whole = ends app (heap.heap app old.budget k) x in
          subst (λ y. After app y (heap.heap app old.budget (k + suc i)) new u) (further app old.budget k i)
          (subst (λ y. After app (after_crossings app old.budget i (heap.heap app old.budget k)) y new u) (further app old.budget k (suc i)) whole));
      budget = c.budget ∙ h.budget;
    }
