-- What stands behind the common objects goes.
use Rattle.std.proofs.Common.{◌≡◌, ℕ, zero, suc, ◌<◌, ◌≤◌, Bool, true, false, cond, ltb, List, [], ◌∷◌, ◌++◌, length, get_or, arith, refl, ap, ◌∙◌, ltb-true}
use Rattle.js_store.specs.Objects.{object_at}
use Rattle.ses_lockdown.specs.Intrinsics.{with_other}
use Rattle.ses_lockdown.specs.Laws.{Lockdown_drops}
use Rattle.ses_lockdown.specs.Lockdown.{Obj, own_at, property_of, kept_of, kept_place, kept_by, held_or, role_at, with_permits, locked_at, common_prototype, locked_as, locked_object, holder_place}
use Rattle.ses_lockdown.specs.Permits.{Permit, permits, permit_at, no_permit, count}
use Rattle.ses_lockdown.specs.declared.table.Role.{Role}
use Rattle.ses_lockdown.specs.declared.table.Role.TheVariants as role
use Rattle.ses_lockdown.proofs.Again_laws.{locked_alike, locked_with}
use Rattle.ses_lockdown.proofs.Entries_laws.{both_hold}
use Rattle.ses_lockdown.proofs.Marks_stay.{before_end}

abbrev all_inside : List Permit → Bool
all_inside [] = true
all_inside (r ∷ rs) = cond (ltb (holder_place r.holder) count) (all_inside rs) false

-- each permit is for common objects
they_are_inside : all_inside permits ≡ true
unfolding permits count
they_are_inside = refl

no_row_inside : ltb 0 count ≡ true
unfolding count
no_row_inside = refl

row_inside : (rs : List Permit) (n : ℕ) → all_inside rs ≡ true → ltb (holder_place (get_or rs n no_permit).holder) count ≡ true
row_inside [] n h = no_row_inside
row_inside (r ∷ rs) zero h = (both_hold (ltb (holder_place r.holder) count) (all_inside rs) h).0
row_inside (r ∷ rs) (suc n) h = row_inside rs n (both_hold (ltb (holder_place r.holder) count) (all_inside rs) h).1

module _ (objects : List Obj) (y : Obj) (enough : count ≤ length objects) where
  abbrev longer : List Obj
  longer = objects ++ y ∷ []

  same_there : (place : ℕ) → place < count → object_at longer place ≡ object_at objects place
  same_there place lt = before_end objects y place (omega (arith, lt, enough))

  same_property : (n : ℕ) → property_of longer (permit_at n) ≡ property_of objects (permit_at n)
  same_property n = ap (own_at (permit_at n)) (same_there (holder_place (permit_at n).holder) (ltb-true (holder_place (permit_at n).holder) count (row_inside permits n they_are_inside)))

  same_kept : (x : Role) → kept_by longer x ≡ kept_by objects x
  same_kept role.Given = refl
  same_kept (role.Getter n) = ap (kept_of (permit_at n).stands) (same_property n)
  same_kept (role.Setter n) = ap (kept_place (permit_at n)) (same_property n)

  same_object : (place : ℕ) → place < count → locked_object longer place ≡ locked_object objects place
  same_object place lt =
      ap (locked_as longer place) (same_there place lt)
      ∙ ap (λ h. locked_with (common_prototype (object_at objects place).prototype) (with_permits (λ r. locked_at r (object_at objects place)) place (object_at objects place).marks.callable permits []) (held_or h (object_at objects place).slot) (object_at objects place).marks) (same_kept (role_at place))

-- what is kept behind the common objects goes with lockdown
pub drops : Lockdown_drops
drops number objects enough = locked_alike (with_other number objects) objects (same_object objects _ enough)
