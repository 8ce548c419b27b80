-- Turns of loops, and what follows them, where no frame stands on the machine's stack yet.
use Rattle.std.specs.Prelude.{◌≡◌, ℕ, [], ◌∷◌}
use Rattle.lava_base.specs.declared.ids.MadeSymbol.{MadeSymbol}
use Rattle.lava_base.specs.declared.ids.Ref.{Ref}
use Rattle.js_text.specs.Naming.{naming_of}
use Rattle.js_code.specs.Decoded.{term_at, terms_of}
use Rattle.js_code.specs.Tables.{Tables, part_of}
use Rattle.js_code.specs.declared.node.Node.TheVariants as node
use Rattle.js_direct.specs.Increments.{HasRow}
use Rattle.js_machine.specs.Steps.{Deed}
use Rattle.js_machine.specs.Views.{Around, View, nexts_of, party_of, turns_at}
use Rattle.js_machine.specs.js_run.Acts.{Evaluate, Give, Next, Turned, Updated}
use Rattle.js_machine.specs.js_run.Control.{in_order, left_to}
use Rattle.js_machine.specs.js_run.Runs.{answered, settle}
use Rattle.js_in_place.specs.Places.{Place, at_deed}

-- an act is done, and something waits that is no frame yet
abbrev pub deed_under : (Around → Next Ref MadeSymbol) → Deed → View → Place
deed_under next d w = λ b. settle (naming_of w.me) b.shared b.env (next b ∷ nexts_of (naming_of w.me) b.shared w.code w.frames w.values w.waits) (answered (naming_of w.me) b.env (d b))

-- the forms of a list follow, and something waits for the last one
abbrev pub list_under : (Around → Next Ref MadeSymbol) → (start count : ℕ) → View → Place
list_under next s c w = deed_under next (λ a. in_order (terms_of w.code (term_at w.code) s c) (party_of a w)) w

-- the body of a turn begins
abbrev pub at_begun : (turns at : ℕ) → View → Place
at_begun t at w = at_deed (λ a. Evaluate (term_at w.code at) (party_of a w) (Turned (turns_at w.code t))) w

-- the forms of a list follow, and the turn is over after the last one
abbrev pub turn_list : (turns start count : ℕ) → View → Place
turn_list t s c w = list_under (λ a. Turned (turns_at w.code t)) s c w

-- a form begins in a scope that is left for another one, and then the loop tests
abbrev pub at_inside : (turns scope at : ℕ) → View → Place
at_inside t s at w = deed_under (λ a. Updated (turns_at w.code t)) (λ a. Evaluate (term_at w.code at) (party_of a w) (left_to s Give)) w

-- a form is a list of two: a copy of the innermost scope, and a form in a new scope with so many slots
pub record IsRenewal (t : Tables) (at slots body : ℕ) : Type 0 where
  pub start : ℕ
  pub count : ℕ
  pub first : ℕ
  pub second : ℕ
  pub list : HasRow t at (node.Seq start count)
  pub forms : part_of start count t.numbers ≡ first ∷ second ∷ []
  pub fresh : HasRow t first node.Fresh
  pub scope : HasRow t second (node.Scope slots body)
