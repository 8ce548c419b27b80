-- What lockdown makes stands locked.
use Rattle.std.proofs.Common.{◌≡◌, ℕ, ◌<◌, cond, List, arith, None, refl, ap, sym, ◌∙◌, subst}
use Rattle.std.proofs.lemmas.List.FromFn.{get_or-map-range_with_len}
use Rattle.js_store.specs.Objects.{object_at, fresh, plain_marks}
use Rattle.js_store.specs.declared.slot.Slot.TheVariants as slot
use Rattle.ses_lockdown.specs.Laws.{HasPermittedAlone, IsLockedOf, Lockdown_locks}
use Rattle.ses_lockdown.specs.Lockdown.{Obj, locked, locked_object, kept_by, held_or}
use Rattle.ses_lockdown.specs.Permits.{count}
use Rattle.ses_lockdown.proofs.Counts.{as_many, so_many_locked}
use Rattle.ses_lockdown.proofs.Fixed_laws.{is_frozen}
use Rattle.ses_lockdown.proofs.Permitted_laws.{permitted_alone}

pub at_locked : (objects : List Obj) (place : ℕ) → place < count → object_at (locked objects) place ≡ locked_object objects place
unfolding locked
at_locked objects place lt = get_or-map-range_with_len (locked_object objects) 0 count place place (fresh None plain_marks slot.Plain) lt (omega arith)

locked_of : (objects : List Obj) (place : ℕ) → IsLockedOf place (object_at objects place) (locked_object objects place)
locked_of objects place = record {
  marks = refl;
  prototype = λ h. ap (λ b. cond b (object_at objects place).prototype None) h;
  template = λ given h. ap (λ r. held_or (kept_by objects r) (object_at objects place).slot) given ∙ ap (λ b. cond b (object_at objects place).slot slot.Plain) h;
}

pub locks : Lockdown_locks
locks objects = record {
  places = so_many_locked objects ∙ sym as_many;
  objects = λ place lt. at_locked objects place (omega (arith, as_many));
  kept = λ place lt. subst (IsLockedOf place (object_at objects place)) (sym (at_locked objects place (omega (arith, as_many)))) (locked_of objects place);
  permitted = λ place lt. subst (HasPermittedAlone place) (sym (at_locked objects place (omega (arith, as_many)))) (permitted_alone objects place);
  frozen = is_frozen objects;
}
