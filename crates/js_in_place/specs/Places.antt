-- Where a run stands in place, and how it comes from there to somewhere else.
use Rattle.std.specs.Prelude.{◌≡◌, ℕ, ◌+◌, ◌-◌, ◌≤◌, ◌<◌, None, replicate}
use Rattle.lava_base.specs.declared.ids.MadeSymbol.{MadeSymbol}
use Rattle.lava_base.specs.declared.ids.Ref.{Ref}
use Rattle.js_text.specs.Naming.{naming_of}
use Rattle.js_code.specs.Decoded.{term_at, terms_of}
use Rattle.js_text.specs.declared.value.Value.TheVariants as value
use Rattle.js_direct.specs.Direct.{value_of}
use Rattle.js_direct.specs.Done.{DoesAtOnce}
use Rattle.js_direct.specs.declared.increments.Incremented.{Incremented}
use Rattle.js_direct.specs.declared.increments.Incremented.TheVariants as incremented
use Rattle.js_direct.specs.declared.plain.Plain.{Plain}
use Rattle.js_direct.specs.declared.plain.Plain.TheVariants as plain
use Rattle.js_machine.specs.Steps.{Deed, Keeps, over, settles}
use Rattle.js_machine.specs.Views.{Around, View, fitting, party_of, turns_at}
use Rattle.js_machine.specs.js_run.Acts.{Evaluate, Give, Tested, Turned, give, next_turn}
use Rattle.js_machine.specs.js_run.Control.{in_order, inside, returns}
use Rattle.js_machine.specs.js_run.Parties.{refreshed}
use Rattle.js_machine.specs.js_run.declared.TheConstants.{MAX_DEPTH}
use Rattle.js_machine.specs.declared.frame.Frame.TheVariants as frame
use Rattle.js_machine.specs.declared.frame.Mode.{Mode}
use Rattle.js_machine.specs.js_run.Runs.{Charged, Point, answered, charge, run_for}
use Rattle.js_in_place.specs.InPlace.{point_at, sight_of}
use Rattle.js_in_place.specs.declared.seat.How.{How}
use Rattle.js_in_place.specs.declared.seat.How.TheVariants as how
use Rattle.js_in_place.specs.declared.seat.Seat.{Seat}
use Rattle.js_in_place.specs.declared.seat.Went.{Went}
use Rattle.js_in_place.specs.declared.spot.Spot.TheVariants as spot

-- a point of a run, whatever stands around the party
abbrev pub Place : Type 0
Place = Around → Point Ref MadeSymbol

-- an act is done
abbrev pub at_deed : Deed → View → Place
at_deed d w = λ a. settles a w w.values (answered (naming_of w.me) a.env (d a))

-- a form begins
abbrev pub at_form : ℕ → View → Place
at_form at w = λ a. point_at a w (spot.Form at)

-- a value comes to the newest frame
abbrev pub at_value : Plain → View → Place
at_value v w = λ a. point_at a w (spot.Given v)

-- the machine's own steps go on
abbrev pub at_mode : Mode → View → Place
at_mode m w = λ a. point_at a w (spot.Other m)

-- a value is returned
abbrev pub at_return : Plain → View → Place
at_return v w = at_deed (λ a. returns (value_of v) (party_of a w)) w

-- the forms of a list follow, in their order
abbrev pub at_list : (start count : ℕ) → View → Place
at_list s c w = at_deed (λ a. in_order (terms_of w.code (term_at w.code) s c) (party_of a w)) w

-- a form in a new scope
abbrev pub at_scope : (slots body : ℕ) → View → Place
at_scope n body w = at_deed (λ a. inside (replicate n None) (term_at w.code body) (party_of a w) Give) w

-- a loop tests, turns, and does what it does after a turn
abbrev pub at_test : (turns : ℕ) → View → Place
at_test t w = at_deed (λ a. Evaluate (turns_at w.code t).test (party_of a w) (Tested (turns_at w.code t))) w

abbrev pub at_turn : (turns : ℕ) → View → Place
at_turn t w = at_deed (λ a. Evaluate (turns_at w.code t).body (party_of a w) (Turned (turns_at w.code t))) w

abbrev pub after_turn : (turns : ℕ) → View → Place
after_turn t w = at_deed (λ a. next_turn (turns_at w.code t) (turns_at w.code t).update (party_of a w)) w

-- a run is after so many charges of one step each, where these can be paid together, where it goes on from another place, whatever stands around
pub record Comes (k : ℕ) (old new : View) (from to : Place) : Type 0 where
  pub comes : (a : Around) (charges limit steps : ℕ) → charge a.rest.meter steps limit k ≡ Charged
      → (let b = fitting old a in run_for (naming_of old.me) b.shared b.env (k + charges) limit steps (from b) ≡ run_for (naming_of old.me) b.shared b.env charges limit (steps + k) (to b))
  pub keeps : Keeps old new

-- it pays for that with what is left
pub record ComesTo (left : ℕ) (old new : View) (from to : Place) (rest : ℕ) : Type 0 where
  pub within : rest ≤ left
  pub comes : Comes (left - rest) old new from to

-- a form of a list begins, and those behind it wait
abbrev pub at_item : (at start count : ℕ) → View → Place
at_item at s c w = at_deed (λ a. Evaluate (term_at w.code at) (party_of a w) (over (frame.Seq s c) w a)) w

-- what a loop does after a turn begins
abbrev pub at_update : (turns at : ℕ) → View → Place
at_update t at w = at_deed (λ a. Evaluate (term_at w.code at) (party_of a w) (over (frame.Updated t) w a)) w

-- a copy of the innermost scope takes its place
abbrev pub at_copy : View → Place
at_copy w = at_deed (λ a. give value.Undefined (refreshed (party_of a w))) w

-- a form was done at once where the machine stands, in so many steps
pub record IsDone (at : ℕ) (old new : View) (v : Plain) (k : ℕ) : Type 0 where
  pub does : DoesAtOnce (sight_of old) old.common at (value_of v) new.objects new.scopes k
  pub depth : old.depth + 2 < MAX_DEPTH
  pub is : new ≡ record old { objects = new.objects; scopes = new.scopes }

-- by what came of a body like that of `x++`
abbrev pub IsBody : Incremented → (at left : ℕ) → (old new : View) → Type 0
IsBody (incremented.Gave n) at left old new = IsDone at old new (plain.Int n) 9 × (9 ≤ left)
IsBody incremented.Nothing at left old new = new ≡ old
IsBody incremented.Failed at left old new = Unit

-- by what came of a form
abbrev pub CameOf : How → (left : ℕ) → (old new : View) → (from : Place) → Seat → (rest : ℕ) → Type 0
CameOf how.Given left old new from s rest = ComesTo left old new from (at_value s.value new) rest
CameOf how.Left left old new from s rest = ComesTo left old new from (at_value s.value new) rest
CameOf how.Next left old new from s rest = ComesTo left old new from (at_form s.at new) rest
CameOf how.Stopped left old new from s rest = ComesTo left old new from (at_form s.at new) rest
CameOf how.Other left old new from s rest = ComesTo left old new from (at_mode s.mode new) rest
CameOf how.Failed left old new from s rest = Unit

-- a form went so far
abbrev pub IsWent : (from : Place) → (left : ℕ) → (old new : View) → Seat → Went → Type 0
IsWent from left old new s w = CameOf w.how left old new from s w.left

-- by what came of a part of a form, of which something is next
abbrev pub PartCameOf : How → (left : ℕ) → (old new : View) → (from to : Place) → Seat → (rest : ℕ) → Type 0
PartCameOf how.Next left old new from to s rest = ComesTo left old new from to rest
PartCameOf how.Given left old new from to s rest = CameOf how.Given left old new from s rest
PartCameOf how.Left left old new from to s rest = CameOf how.Left left old new from s rest
PartCameOf how.Stopped left old new from to s rest = CameOf how.Stopped left old new from s rest
PartCameOf how.Other left old new from to s rest = CameOf how.Other left old new from s rest
PartCameOf how.Failed left old new from to s rest = Unit

-- a part of a form went so far
abbrev pub IsPart : (from to : Place) → (left : ℕ) → (old new : View) → Seat → Went → Type 0
IsPart from to left old new s w = PartCameOf w.how left old new from to s w.left
