-- Runs that go on in place: where they stand, and what leads there.
use Rattle.std.specs.Prelude.{◌≡◌, ℕ, ◌+◌, ◌-◌, ◌≤◌, ◌∷◌}
use Rattle.js_text.specs.Naming.{naming_of}
use Rattle.js_code.specs.Decoded.{term_at}
use Rattle.js_direct.specs.Direct.{Sight, value_of}
use Rattle.js_machine.specs.Bodies.{scope_of}
use Rattle.js_machine.specs.Steps.{Deed, Keeps, over, point_of, settles, under}
use Rattle.js_machine.specs.Views.{Around, View, fitting, party_of}
use Rattle.js_machine.specs.declared.frame.Frame.{Frame}
use Rattle.js_machine.specs.declared.frame.Mode.{Mode}
use Rattle.js_machine.specs.declared.frame.Mode.TheVariants as mode
use Rattle.js_machine.specs.js_run.Acts.{Evaluate}
use Rattle.js_machine.specs.js_run.Runs.{Charged, Point, answered, charge, run_for}
use Rattle.lava_base.specs.declared.ids.MadeSymbol.{MadeSymbol}
use Rattle.lava_base.specs.declared.ids.Ref.{Ref}
use Rattle.js_in_place.specs.declared.spot.Spot.{Spot}
use Rattle.js_in_place.specs.declared.spot.Spot.TheVariants as spot
use Rattle.js_in_place.specs.declared.spot.Stand.{Stand}

-- where the machine stands, for forms that give a value at once
abbrev pub sight_of : View → Sight
sight_of w = record { me = w.me; code = w.code; objects = w.objects; scopes = w.scopes; scope = scope_of w.bodies }

-- the machine as the newest frame sees it: with the value that is given
abbrev pub seen_from : Spot → View → View
seen_from (spot.Form at) w = w
seen_from (spot.Given v) w = record w { values = value_of v ∷ w.values }
seen_from (spot.Other m) w = w

abbrev pub mode_of : Spot → Mode
mode_of (spot.Form at) = mode.Eval at
mode_of (spot.Given v) = mode.Value
mode_of (spot.Other m) = m

-- where a run stands that is at a place
abbrev pub point_at : Around → View → Spot → Point Ref MadeSymbol
point_at a w p = point_of a (seen_from p w) (mode_of p)

-- a run is after so many charges of one step each, where these can be paid together, where it goes on from another place, whatever stands around
pub record GoesTo (k : ℕ) (p : Spot) (old new : View) (q : Spot) : Type 0 where
  pub goes : (a : Around) (charges limit steps : ℕ) → charge a.rest.meter steps limit k ≡ Charged
      → (let b = fitting old a in run_for (naming_of old.me) b.shared b.env (k + charges) limit steps (point_at b old p) ≡ run_for (naming_of old.me) b.shared b.env charges limit (steps + k) (point_at b new q))
  pub keeps : Keeps old new

-- it pays for that with what is left
pub record RunsTo (p : Spot) (left : ℕ) (old new : View) (s : Stand) : Type 0 where
  pub within : s.left ≤ left
  pub goes : GoesTo (left - s.left) p old new s.spot

-- the machine stands where an act leads, and so much is left still
pub record LedTo (deed : Deed) (left : ℕ) (old new : View) (s : Stand) : Type 0 where
  pub leads : (a : Around) → let b = fitting old a in point_at b new s.spot ≡ settles b old old.values (answered (naming_of old.me) b.env (deed b))
  pub keeps : Keeps old new
  pub stays : s.left ≡ left

-- a form is evaluated, and a frame waits for it
abbrev pub WaitsIn : Frame → (at left : ℕ) → (old new : View) → Stand → Type 0
WaitsIn f at left old new s = LedTo (λ a. Evaluate (term_at old.code at) (party_of a old) (over f old a)) left (under f old) new s
