-- No key stands twice among the permits of one place.
use Rattle.std.specs.Prelude.{Bool, true, false, cond, nat_eq, List, [], ◌∷◌}
use Rattle.js_text.specs.Values.{same_key}
use Rattle.lava_base.specs.Ids.{same_made_symbol}
use Rattle.ses_lockdown.specs.Permits.{Permit, key_of, place_at}
use Rattle.ses_lockdown.specs.declared.table.Holder.{Holder}
use Rattle.ses_lockdown.specs.declared.table.Holder.TheVariants.{EachFunction, At}
use Rattle.ses_lockdown.specs.declared.table.Kind.{Kind}
use Rattle.ses_lockdown.specs.declared.table.Kind.TheVariants as kind

abbrev pub is_function : Kind → Bool
is_function kind.Ordinary = false
is_function kind.Function = true
is_function kind.Constructor = true

-- two permits are for one object, if the functions are those of the table
abbrev pub meet : Holder → Holder → Bool
meet EachFunction EachFunction = true
meet EachFunction (At p) = is_function (place_at p).0
meet (At p) EachFunction = is_function (place_at p).0
meet (At p) (At q) = nat_eq p q

abbrev pub apart_from : Permit → List Permit → Bool
apart_from r [] = true
apart_from r (s ∷ ss) = cond (meet r.holder s.holder) (cond (same_key same_made_symbol (key_of r.sort r.word) (key_of s.sort s.word)) false (apart_from r ss)) (apart_from r ss)

-- no key stands twice among the permits of one object
-- own: each property has one permit
abbrev pub all_apart : List Permit → Bool
all_apart [] = true
all_apart (r ∷ rs) = cond (apart_from r rs) (all_apart rs) false
