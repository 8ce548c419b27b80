-- How a run of a machine goes on, while it may be paid.
use Rattle.std.specs.Prelude.{◌≡◌, ℕ, ◌+◌, Option}
use Rattle.js_text.specs.Naming.{naming_of}
use Rattle.js_in_place.specs.InPlace.{point_at}
use Rattle.js_in_place.specs.declared.spot.Spot.{Spot}
use Rattle.js_machine.specs.Steps.{Keeps, point_of}
use Rattle.js_machine.specs.Views.{Around, View, fitting}
use Rattle.js_machine.specs.declared.frame.Mode.{Mode}
use Rattle.js_machine.specs.js_run.Runs.{run_for}

-- what is next is what stands at a place
pub record IsNext (p : Spot) (old new : View) (m : Mode) : Type 0 where
  pub stands : (a : Around) → point_of a new m ≡ point_at a old p
  pub keeps : Keeps old new

-- after so many charges of one step each the run is where it goes on with another mode
pub record GoesOnTo (meter : Option ℕ) (spent limit used : ℕ) (m : Mode) (old new : View) (after : Mode) : Type 0 where
  pub goes : (a : Around) (charges : ℕ) → a.rest.meter ≡ meter
      → (let b = fitting old a in run_for (naming_of old.me) b.shared b.env (used + charges) limit spent (point_of b old m) ≡ run_for (naming_of old.me) b.shared b.env charges limit (spent + used) (point_of b new after))
  pub keeps : Keeps old new
