-- What code above may rely on: how a locked list stands.
use Rattle.std.specs.Prelude.{◌≡◌, ℕ, ◌<◌, ◌≤◌, Bool, true, List, [], ◌∷◌, length, map, ◌⊎◌}
use Rattle.std.specs.List.{AllByRecursion}
use Rattle.lava_base.specs.declared.ids.MadeSymbol.{MadeSymbol}
use Rattle.js_text.specs.declared.value.Key.{Key}
use Rattle.js_text.specs.CommonPaths.{common_paths}
use Rattle.js_store.specs.Frozen.{CommonObject, IsFrozen, as_read, common_ref}
use Rattle.js_store.specs.Objects.{object_at}
use Rattle.ses_lockdown.specs.Entries.{HasTableMarks}
use Rattle.ses_lockdown.specs.Intrinsics.{copied, initial_objects, with_function, with_other}
use Rattle.ses_lockdown.specs.Lockdown.{Obj, locked, locked_object, role_at}
use Rattle.ses_lockdown.specs.Permits.{Permit, permits, count, key_of, is_for, is_common_if_any, is_common_slot}
use Rattle.ses_lockdown.specs.declared.table.Role.TheVariants as role

-- an object is the one that stood at its place, locked: it keeps its marks, its prototype, and its template where the prelude gives one
-- SES lockdown
pub record IsLockedOf (place : ℕ) (before after : Obj) : Type 0 where
  pub marks : after.marks ≡ before.marks
  pub prototype : is_common_if_any before.prototype ≡ true → after.prototype ≡ before.prototype
  pub template : role_at place ≡ role.Given → is_common_slot before.slot ≡ true → after.slot ≡ before.slot

-- the key of one of these permits, which is for the object of a place
-- SES permits
abbrev pub IsPermitted : List Permit → (place : ℕ) → (callable : Bool) → Key MadeSymbol → Type 0
IsPermitted [] place callable k = ⊥
IsPermitted (r ∷ rs) place callable k = ((is_for r.holder place callable ≡ true) × (k ≡ key_of r.sort r.word)) ⊎ IsPermitted rs place callable k

-- each property of an object is on the permits
-- SES removeUnpermittedIntrinsics
abbrev pub HasPermittedAlone : (place : ℕ) → Obj → Type 0
HasPermittedAlone place o = AllByRecursion (λ p. IsPermitted permits place o.marks.callable p.0) o.properties

-- a list stands locked for the intrinsics before it: it has the common objects and no others, each is what lockdown makes of the one
-- before, nothing of them can be changed, and each reference in them is to one of them
-- SES lockdown
pub record StandsLocked (before after : List Obj) : Type 0 where
  pub places : length after ≡ length common_paths
  pub objects : (place : ℕ) → place < length common_paths → object_at after place ≡ locked_object before place
  pub kept : (place : ℕ) → place < length common_paths → IsLockedOf place (object_at before place) (object_at after place)
  pub permitted : (place : ℕ) → place < length common_paths → HasPermittedAlone place (object_at after place)
  pub frozen : IsFrozen after

abbrev pub Lockdown_locks : Type 0
Lockdown_locks = (objects : List Obj) → StandsLocked objects (locked objects)

-- WHAT STAYS

-- the marks of the common objects are those of the table of places, before a function comes, after it, and after lockdown
-- SES intrinsics
pub record MarksStay : Type 0 where
  pub initial : HasTableMarks initial_objects
  pub given : (place number parameters : ℕ) (objects : List Obj) → HasTableMarks objects → HasTableMarks (with_function place number parameters objects)
  pub other : (number : ℕ) (objects : List Obj) → count ≤ length objects → HasTableMarks objects → HasTableMarks (with_other number objects)
  pub after : (objects : List Obj) → HasTableMarks objects → HasTableMarks (locked objects)

-- a locked list is locked already: the intrinsics of it are its objects, and lockdown leaves these as they are
-- SES lockdown
pub record LocksOnce (before : List Obj) : Type 0 where
  pub intrinsics : (common : List CommonObject) → map (as_read common_ref) common ≡ locked before → copied common ≡ locked before
  pub again : locked (locked before) ≡ locked before

-- what stands behind the common objects goes with lockdown
-- SES removeUnpermittedIntrinsics
abbrev pub Lockdown_drops : Type 0
Lockdown_drops = (number : ℕ) (objects : List Obj) → count ≤ length objects → locked (with_other number objects) ≡ locked objects

abbrev pub Lockdown_once : Type 0
Lockdown_once = (objects : List Obj) → HasTableMarks objects → LocksOnce objects
