-- Faults against early rules, and the one that is told.
use Rattle.std.specs.Prelude.{ℕ, Bool, ◌||◌, ◌&&◌, nat_lt, nat_eq, List, [], ◌∷◌, codes, Option, Some, None, if◌then◌else◌}
use Rattle.lava_base.specs.declared.place.Place.{Place}
use Rattle.js_walk.specs.Places.{is_before}
use Rattle.js_early.specs.declared.fault.EarlyFault.{EarlyFault}
use Rattle.js_early.specs.declared.fault.EarlyRule.{EarlyRule}
use Rattle.js_early.specs.declared.fault.EarlyRule.TheVariants as rule

abbrev pub fault : EarlyRule → Place → List EarlyFault
fault r place = record { rule = r; place = place } ∷ []

abbrev pub unless : Bool → EarlyRule → Place → List EarlyFault
unless ok r place = if ok then [] else fault r place

-- the order of the rules' names
abbrev pub rank : EarlyRule → ℕ
rank rule.Duplicate = 0
rank rule.Parameter = 1
rank rule.Label = 2
rank rule.Break = 3
rank rule.Continue = 4
rank rule.Return = 5
rank rule.NewTarget = 6
rank rule.Super = 7
rank rule.Binding = 8
rank rule.Delete = 9
rank rule.Const = 10
rank rule.Assignment = 11
rank rule.Constructor = 12
rank rule.Function = 13

-- the rules' names
-- own: as they are printed
abbrev pub rule_name : EarlyRule → List ℕ
rule_name rule.Duplicate = codes "duplicate"
rule_name rule.Parameter = codes "parameter"
rule_name rule.Label = codes "label"
rule_name rule.Break = codes "break"
rule_name rule.Continue = codes "continue"
rule_name rule.Return = codes "return"
rule_name rule.NewTarget = codes "new.target"
rule_name rule.Super = codes "super"
rule_name rule.Binding = codes "binding"
rule_name rule.Delete = codes "delete"
rule_name rule.Const = codes "const"
rule_name rule.Assignment = codes "assignment"
rule_name rule.Constructor = codes "constructor"
rule_name rule.Function = codes "function"

abbrev pub is_same_place : Place → Place → Bool
is_same_place a b = nat_eq a.line b.line && nat_eq a.unit b.unit

-- the lesser place, and at one place the rule whose name comes first
abbrev pub is_sooner : EarlyFault → EarlyFault → Bool
is_sooner f g = is_before f.place g.place || (is_same_place f.place g.place && nat_lt (rank f.rule) (rank g.rule))

abbrev pub sooner : Option EarlyFault → EarlyFault → Option EarlyFault
sooner None f = Some f
sooner (Some g) f = if is_sooner f g then Some f else Some g

abbrev pub least_from : Option EarlyFault → List EarlyFault → Option EarlyFault
least_from best [] = best
least_from best (f ∷ fs) = least_from (sooner best f) fs

-- the fault that is told: the least
-- own: the earlier place in the source first
abbrev pub least : List EarlyFault → Option EarlyFault
least fs = least_from None fs
