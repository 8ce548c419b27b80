-- How a party runs: from a charge to the next crossing. It knows nothing of the rows but that they give Acts.
use Rattle.std.specs.Prelude.{ℕ, zero, suc, ◌+◌, ◌-◌, Bool, nat_lt, List, [], ◌∷◌, ◌++◌, Option, Some, None, if◌then◌else◌}
use Rattle.lava_base.specs.declared.marks.Marks.{Marks}
use Rattle.js_text.specs.Naming.{Naming, Origin, Own, Common, Foreign}
use Rattle.js_text.specs.declared.value.Key.{Key}
use Rattle.js_text.specs.declared.value.Value as v
use Rattle.js_text.specs.declared.value.Value.TheVariants as value
use Rattle.js_desc.specs.declared.ask.Ask as a
use Rattle.js_desc.specs.declared.reply.Reply.TheVariants as reply
use Rattle.js_store.specs.Objects.{plain_marks}
use Rattle.js_term.specs.declared.term.Term.{Term}
use Rattle.js_run.specs.Acts.{Act, Give, Evaluate, Become, Decide, Pay, Send, Make, Import, Look, Call_outside, End, Next}
use Rattle.js_run.specs.Completions as halt
use Rattle.js_run.specs.Completions.{Completion, Replied, Halt}
use Rattle.js_run.specs.Decisions.{decides}
use Rattle.js_run.specs.Going.{go_on}
use Rattle.js_run.specs.Outside.{OutsideCall, OutsideAnswer}
use Rattle.js_run.specs.Parties.{Party, Shared}
use Rattle.js_run.specs.Rows.{row}

-- what is asked of a party's surroundings, and no row can change: the marks of foreign objects, the links that its row allows,
-- the outside, whether its runs are free of charge, and the link over which it imports first of all
pub record Env (R : Type 0) : Type 0 where
  pub marks : R → Marks
  pub allows : List ℕ → Bool
  pub outside : List OutsideCall → OutsideAnswer
  pub free : Bool
  pub first : Option (List ℕ)

-- an ask that leaves the party: at a foreign object, an import over a link, or the making of a party with globals, modules and the maker's meter
pub data Request (R S : Type 0) : Type 0 where
  Asks : R → a.Ask R S → Request R S
  Imports : (link path : List ℕ) → Request R S
  Makes : List (Key S × v.Value R S) → List (List ℕ × v.Value R S) → (meter : Option ℕ) → Request R S

-- what is charged for
pub data Job (R S : Type 0) : Type 0 where
  Begins : Term → Job R S
  Decides : v.Value R S → a.Ask R S → Job R S
  Nothing : Job R S

-- an Act whose looks are answered
pub data Move (R S : Type 0) : Type 0 where
  Gives : Completion R S → Party R S → Move R S
  Does : (cost : ℕ) → Job R S → Party R S → List (Next R S) → Move R S
  Asks_out : Request R S → Party R S → Next R S → Move R S
  Ends : Halt → Move R S

-- where a body stands: before a charge of so much and one, at an ask that it sends, at its end
pub data Point (R S : Type 0) : Type 0 where
  Due : (cost : ℕ) → Job R S → Party R S → List (Next R S) → Point R S
  Sends : Request R S → Party R S → List (Next R S) → Point R S
  Over : Completion R S → Party R S → Point R S
  Ended : Halt → Point R S

-- how a run of a body stops, with the party's steps
pub data Stop (R S : Type 0) : Type 0 where
  Sent : Request R S → Party R S → List (Next R S) → (steps : ℕ) → Stop R S
  Gave : Completion R S → Party R S → (steps : ℕ) → Stop R S
  Stopped : Halt → (steps : ℕ) → Stop R S
  Short : (steps : ℕ) → Stop R S

-- the marks of a foreign object; of another one none are seen so
abbrev pub marks_there : {R : Type 0} → (R → Marks) → R → Origin → Marks
marks_there marks r (Own i) = plain_marks
marks_there marks r (Common c) = plain_marks
marks_there marks r Foreign = marks r

abbrev pub seen_marks : {R S : Type 0} → Naming R S → Env R → R → Marks
seen_marks names env r = marks_there env.marks r (names.origin r)

-- an ask at an own or common object is a decision, whatever a row says: what is sent is sent elsewhere
abbrev pub sent_there : {R S : Type 0} → Origin → R → a.Ask R S → Party R S → Next R S → Move R S
sent_there (Own i) r x p k = Does 0 (Decides (value.Ref r) x) p (k ∷ [])
sent_there (Common c) r x p k = Does 0 (Decides (value.Ref r) x) p (k ∷ [])
sent_there Foreign r x p k = Asks_out (Asks r x) p k

abbrev pub answered : {R S : Type 0} → Naming R S → Env R → Act R S → Move R S
answered names env (Give c p) = Gives c p
answered names env (Evaluate t p k) = Does 0 (Begins t) p (k ∷ [])
answered names env (Become t p) = Does 0 (Begins t) p []
answered names env (Decide v x p k) = Does 0 (Decides v x) p (k ∷ [])
answered names env (Pay n p k) = Does n Nothing p (k ∷ [])
answered names env (Send r x p k) = sent_there (names.origin r) r x p k
answered names env (Make globals modules p k) = Asks_out (Makes globals modules p.meter) p k
answered names env (Import link path denied p k) = if env.allows link then Asks_out (Imports link path) p k else answered names env denied
answered names env (Look r f) = answered names env (f (seen_marks names env r))
answered names env (Call_outside calls f) = answered names env (f (env.outside calls))
answered names env (End e) = Ends e

-- CHARGING

pub data Charge : Type 0 where
  Charged : Charge
  Lacks : Charge
  Stops : Halt → Charge

abbrev pub is_past : Option ℕ → ℕ → Bool
is_past None n = Bool.false
is_past (Some m) n = nat_lt m n

-- a cost that would pass the meter ends the run; else one that would pass the limit is not charged
abbrev pub charge : Option ℕ → (steps limit cost : ℕ) → Charge
charge meter steps limit cost = if is_past meter (steps + cost) then Stops halt.Meter else (if nat_lt limit (steps + cost) then Lacks else Charged)

abbrev pub at_steps : {R S : Type 0} → ℕ → Stop R S → Stop R S
at_steps n (Sent o p ks m) = Sent o p ks n
at_steps n (Gave c p m) = Gave c p n
at_steps n (Stopped e m) = Stopped e n
at_steps n (Short m) = Short n

module _ {R S : Type 0} (names : Naming R S) (shared : Shared) where
  abbrev pub work : Job R S → Party R S → Act R S
  work (Begins t) p = row names shared t p
  work (Decides v x) p = decides names shared v x p
  work Nothing p = Give (Replied (reply.Value value.Undefined)) p

  module _ (env : Env R) where
    -- hands completions on until there is something to do
    abbrev pub settle : List (Next R S) → Move R S → Point R S
    settle ks (Does n j p new) = Due n j p (new ++ ks)
    settle ks (Asks_out o p k) = Sends o p (k ∷ ks)
    settle ks (Ends e) = Ended e
    settle [] (Gives c p) = Over c p
    settle (k ∷ ks) (Gives c p) = settle ks (answered names env (go_on names shared k c p))

    -- at most so many charges, and steps up to the limit
    abbrev pub run_for : (charges limit steps : ℕ) → Point R S → Stop R S
    run_for charges limit steps (Sends o p ks) = Sent o p ks steps
    run_for charges limit steps (Over c p) = Gave c p steps
    run_for charges limit steps (Ended e) = Stopped e steps
    run_for zero limit steps (Due n j p ks) = Short steps
    run_for (suc charges) limit steps (Due n j p ks) =
        elim (charge p.meter steps limit (suc n)) [
          | Charged ↦ run_for charges limit (steps + suc n) (settle ks (answered names env (work j p)))
          | Lacks ↦ Short steps
          | Stops e ↦ Stopped e steps
        ]

    -- each charge is one or more, so what is left of the limit bounds the charges, and one more may meet the meter. A run that is free of charge has a bound of its own
    abbrev pub run : (limit steps : ℕ) → Point R S → Stop R S
    run limit steps point = if env.free then at_steps steps (run_for 1000 1000 0 point) else run_for (suc (limit - steps)) limit steps point
