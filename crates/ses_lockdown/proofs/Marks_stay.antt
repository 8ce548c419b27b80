-- The marks of the common objects stay those of the table of places.
use Rattle.std.proofs.Common.{◌≡◌, ℕ, zero, suc, ◌<◌, List, [], ◌∷◌, ◌++◌, length, arith, None, refl, ap, ◌∙◌}
use Rattle.std.proofs.lemmas.List.FromFn.{get_or-map-range_with_len}
use Rattle.js_store.specs.Objects.{at_place, fresh, object_at, plain_marks}
use Rattle.js_store.specs.declared.slot.Slot.TheVariants as slot
use Rattle.ses_lockdown.specs.Entries.{HasTableMarks}
use Rattle.ses_lockdown.specs.Intrinsics.{initial_object, initial_objects, with_body}
use Rattle.ses_lockdown.specs.Laws.{MarksStay}
use Rattle.ses_lockdown.specs.Lockdown.{Obj}
use Rattle.ses_lockdown.specs.Permits.{count}
use Rattle.ses_lockdown.proofs.Locked_laws.{at_locked}

marks_at : (f : Obj → Obj) → ((o : Obj) → (f o).marks ≡ o.marks) → (xs : List Obj) (i j : ℕ) → (object_at (at_place xs i f) j).marks ≡ (object_at xs j).marks
marks_at f h [] i j = refl
marks_at f h (x ∷ xs) zero zero = h x
marks_at f h (x ∷ xs) zero (suc j) = refl
marks_at f h (x ∷ xs) (suc i) zero = refl
marks_at f h (x ∷ xs) (suc i) (suc j) = marks_at f h xs i j

pub before_end : (xs : List Obj) (y : Obj) (j : ℕ) → j < length xs → object_at (xs ++ y ∷ []) j ≡ object_at xs j
before_end [] y j lt = absurd (omega (arith, lt))
before_end (x ∷ xs) y zero lt = refl
before_end (x ∷ xs) y (suc j) lt = before_end xs y j (omega (arith, lt))

initial_marks : HasTableMarks initial_objects
unfolding initial_objects
initial_marks place lt = ap (λ o. o.marks) (get_or-map-range_with_len initial_object 0 count place place (fresh None plain_marks slot.Plain) lt (omega arith))

pub they_stay : MarksStay
they_stay = record {
  initial = initial_marks;
  given = λ at number parameters objects h place lt. marks_at (with_body number parameters) (λ o. refl) objects at place ∙ h place lt;
  other = λ number objects n h place lt. ap (λ o. o.marks) (before_end objects _ place (omega (arith, n, lt))) ∙ h place lt;
  after = λ objects h place lt. ap (λ o. o.marks) (at_locked objects place lt) ∙ h place lt;
}
