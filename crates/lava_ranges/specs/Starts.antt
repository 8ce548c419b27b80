-- When the names of parties begin a trace.
use Rattle.std.specs.Prelude.{◌≡◌, ℕ, ◌-◌, ◌≤◌, ◌==◌, Bool, true, if◌then◌else◌, List, [], codes, get_or}
use Rattle.std.specs.Ordering.{is_lt}
use Rattle.js_text.specs.Search.{order_of_units}
use Rattle.js_text.specs.Texts.{same_units}
use Rattle.lava_trace.specs.declared.left.TheConstants.{MAX_PARTY}
use Rattle.lava_trace_laws.specs.Written.{IsName, MayBegin}

abbrev pub MayBeginTrace : List (List ℕ) → Type 0
MayBeginTrace parties = MayBegin [] parties

-- whether the name at a place may stand behind those before it
abbrev pub may_stand_at : List (List ℕ) → ℕ → Bool
may_stand_at ps at =
    if at == 0 then same_units (get_or ps at []) (codes "$host$")
    else if at == 1 then same_units (get_or ps at []) (codes "$root$")
    else if at == 2 then true
    else is_lt (order_of_units (get_or ps (at - 1) []) (get_or ps at []))

-- the line of the party at a place may stand there
pub record MayStandAt (ps : List (List ℕ)) (at : ℕ) : Type 0 where
  pub name : IsName (get_or ps at [])
  pub follows : may_stand_at ps at ≡ true
  pub few : at ≤ MAX_PARTY
