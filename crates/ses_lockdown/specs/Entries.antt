-- The properties of a locked object as one list, in the order of the permits, and the objects of which that is so.
use Rattle.std.specs.Prelude.{◌≡◌, ℕ, ◌<◌, Bool, List, [], ◌∷◌, ◌++◌, Option, Some, None, if◌then◌else◌}
use Rattle.js_store.specs.Objects.{object_at}
use Rattle.ses_lockdown.specs.Intrinsics.{marks_of}
use Rattle.ses_lockdown.specs.Lockdown.{Obj, Property, Properties, locked_at, locked}
use Rattle.ses_lockdown.specs.Permits.{Permit, permits, key_of, is_for, place_at, count}

-- each common object has the marks that the table of places gives it
-- SES intrinsics
abbrev pub HasTableMarks : List Obj → Type 0
HasTableMarks objects = (place : ℕ) → place < count → (object_at objects place).marks ≡ marks_of (place_at place).0

-- the property of a permit, where something stands there
abbrev pub entry : Permit → Option Property → Properties
entry r None = []
entry r (Some d) = (key_of r.sort r.word, d) ∷ []

-- the properties of the object of a place: one for each permit that is for the object, in the order of the permits
-- SES permits
abbrev pub entries : (Permit → Option Property) → (place : ℕ) → (callable : Bool) → List Permit → Properties
entries at place callable [] = []
entries at place callable (r ∷ rs) = (if is_for r.holder place callable then entry r (at r) else []) ++ entries at place callable rs

-- the properties of each object of a locked list stand in the order of the permits: each is what stood there before, locked
-- SES permits
abbrev pub StandsInOrder : (before after : List Obj) → Type 0
StandsInOrder before after = (place : ℕ) → place < count → (object_at after place).properties ≡ entries (λ r. locked_at r (object_at before place)) place (object_at before place).marks.callable permits

abbrev pub Lockdown_orders : Type 0
Lockdown_orders = (objects : List Obj) → HasTableMarks objects → StandsInOrder objects (locked objects)
