-- What a run looks at, beside what it shows.
use Rattle.std.proofs.Common.{ℕ, zero, suc, ◌+◌, ◌-◌, List, [], ◌∷◌, ◌++◌, map, Option, Some, None, if◌then◌else◌}
use Rattle.lava_base.specs.declared.marks.Marks.{Marks}
use Rattle.js_text.specs.Naming.{Naming}
use Rattle.js_text.specs.declared.value.Symbol.{Symbol}
use Rattle.js_run.specs.Acts.{Act, Become, Call_outside, Decide, End, Evaluate, Give, Import, Look, Make, Next, Pay, Send}
use Rattle.js_run.specs.Completions.{Replied}
use Rattle.js_run.specs.Going.{go_on}
use Rattle.js_run.specs.Identities.{Message, Replies, Requests}
use Rattle.js_run.specs.Local.{Has_ended, Is_short, Local, Outgoing, Standing, Waits, local, served}
use Rattle.js_run.specs.Maps.{Shows, map_outgoing, shows}
use Rattle.js_run.specs.Modules.{imports}
use Rattle.js_run.specs.Parties.{Party, Shared}
use Rattle.js_run.specs.Runs.{Asks, Asks_out, Charged, Does, Due, Ended, Ends, Env, Gives, Imports, Lacks, Makes, Move, Over, Point, Request, Sends, Stops, answered, charge, seen_marks, settle, work}

module _ {R S : Type 0} (names : Naming R S) (shared : Shared) (env : Env R) where
  abbrev pub looked : Act R S → List R
  looked (Give c p) = []
  looked (Evaluate t p k) = []
  looked (Become t p) = []
  looked (Decide v x p k) = []
  looked (Pay n p k) = []
  looked (Send r m p k) = []
  looked (Make globals modules p k) = []
  looked (Import link path denied p k) = if env.allows link then [] else looked denied
  looked (Look r f) = r ∷ looked (f (seen_marks names env r))
  looked (Call_outside calls f) = looked (f (env.outside calls))
  looked (End e) = []

  abbrev pub settle_looks : List (Next R S) → Move R S → List R
  settle_looks ks (Does n j p new) = []
  settle_looks ks (Asks_out o p k) = []
  settle_looks ks (Ends e) = []
  settle_looks [] (Gives c p) = []
  settle_looks (k ∷ ks) (Gives c p) = looked (go_on names shared k c p) ++ settle_looks ks (answered names env (go_on names shared k c p))

  -- an act, and what it hands on
  abbrev pub act_looks : List (Next R S) → Act R S → List R
  act_looks ks a = looked a ++ settle_looks ks (answered names env a)

  abbrev pub run_looks_for : (charges limit steps : ℕ) → Point R S → List R
  run_looks_for charges limit steps (Sends o p ks) = []
  run_looks_for charges limit steps (Over c p) = []
  run_looks_for charges limit steps (Ended e) = []
  run_looks_for zero limit steps (Due n j p ks) = []
  run_looks_for (suc charges) limit steps (Due n j p ks) =
      elim (charge p.meter steps limit (suc n)) [
        | Charged ↦ act_looks ks (work names shared j p) ++ run_looks_for charges limit (steps + suc n) (settle names shared env ks (answered names env (work names shared j p)))
        | Lacks ↦ []
        | Stops e ↦ []
      ]

  abbrev pub run_looks : (limit steps : ℕ) → Point R S → List R
  run_looks limit steps point = if env.free then run_looks_for 1000 1000 0 point else run_looks_for (suc (limit - steps)) limit steps point

  abbrev pub serves_looks : Party R S → Request R S → List R
  serves_looks p (Asks r x) = []
  serves_looks p (Imports link path) = act_looks [] (imports names link path p)
  serves_looks p (Makes globals modules meter) = []

  abbrev pub served_looks : Party R S → List (List (Next R S)) → Message R S → List R
  served_looks p bodies (Requests x) = serves_looks p x
  served_looks p [] (Replies c) = []
  served_looks p (ks ∷ bodies) (Replies c) = settle_looks ks (Gives (Replied c) p)

  abbrev pub taken_looks : ℕ → Local R S → Option (Point R S × List (List (Next R S))) → List R
  taken_looks n r None = []
  taken_looks n r (Some s) = run_looks n r.steps s.0

  abbrev pub takes_looks : ℕ → Local R S → Standing R S → Message R S → List R
  takes_looks n r (Waits p bodies) x = served_looks p bodies x ++ taken_looks n r (served names shared env p bodies x)
  takes_looks n r Is_short x = []
  takes_looks n r (Has_ended e) x = []

  abbrev pub local_looks : Party R S → ℕ → List (Message R S) → List R
  local_looks start n [] = []
  local_looks start n (x ∷ older) = let r = local names shared env start n older in takes_looks n r r.standing x ++ local_looks start n older

pub record Watched (R S : Type 0) : Type 0 where
  pub sent : List (Outgoing R S)
  pub steps : ℕ
  pub standing : Shows
  pub looks : List R

abbrev pub watched : {R S : Type 0} → Naming R S → Shared → Env R → Party R S → ℕ → List (Message R S) → Watched R S
watched names shared env start n ins = let r = local names shared env start n ins in record { sent = r.sent; steps = r.steps; standing = shows r.standing; looks = local_looks names shared env start n ins }

abbrev pub map_watched : {A B S T : Type 0} → (A → B) → (Symbol S → Symbol T) → Watched A S → Watched B T
map_watched f g r = record { sent = map (map_outgoing f g) r.sent; steps = r.steps; standing = r.standing; looks = map f r.looks }

abbrev pub with_marks : {A B : Type 0} → (B → Marks) → Env A → Env B
with_marks marks env = record { marks = marks; allows = env.allows; outside = env.outside; free = env.free; first = env.first }
