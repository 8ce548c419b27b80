-- An import is sent over an allowed link alone: the driver asks, and no row is looked at.
use Rattle.std.proofs.Common.{◌≡◌, ℕ, zero, suc, ◌+◌, ◌-◌, List, [], ◌∷◌, Bool, true, false, refl, sym, subst, ⊎_elim, if◌then◌else◌}
use Rattle.std.proofs.lemmas.Bool.{cases_Bool}
use Rattle.js_text.specs.Naming.{Common, Foreign, Naming, Origin, Own}
use Rattle.js_desc.specs.declared.ask.Ask as a
use Rattle.js_run.specs.Acts.{Act, Become, Call_outside, Decide, End, Evaluate, Give, Import, Look, Make, Next, Pay, Send}
use Rattle.js_run.specs.Going.{go_on}
use Rattle.js_run.specs.Local.{serves, serves_at}
use Rattle.js_run.specs.Modules.{imports}
use Rattle.js_run.specs.Parties.{Party, Shared}
use Rattle.js_run.specs.Runs.{Asks, Asks_out, Charge, Charged, Does, Due, Ended, Ends, Env, Gave, Gives, Imports, Lacks, Makes, Move, Over, Point, Request, Sends, Sent, Short, Stop, Stopped, Stops, answered, at_steps, charge, run, run_for, seen_marks, sent_there, settle, work}

module _ {R S : Type 0} (names : Naming R S) (shared : Shared) (env : Env R) where
  abbrev pub IsAllowed : Request R S → Type 0
  IsAllowed (Asks r m) = names.origin r ≡ Foreign
  IsAllowed (Imports link path) = env.allows link ≡ true
  IsAllowed (Makes globals modules meter) = Unit {0}

  abbrev MoveAllowed : Move R S → Type 0
  MoveAllowed (Gives c p) = Unit {0}
  MoveAllowed (Does n j p new) = Unit {0}
  MoveAllowed (Asks_out o p k) = IsAllowed o
  MoveAllowed (Ends e) = Unit {0}

  abbrev pub PointAllowed : Point R S → Type 0
  PointAllowed (Due n j p ks) = Unit {0}
  PointAllowed (Sends o p ks) = IsAllowed o
  PointAllowed (Over c p) = Unit {0}
  PointAllowed (Ended e) = Unit {0}

  abbrev pub StopAllowed : Stop R S → Type 0
  StopAllowed (Sent o p ks n) = IsAllowed o
  StopAllowed (Gave c p n) = Unit {0}
  StopAllowed (Stopped e n) = Unit {0}
  StopAllowed (Short n) = Unit {0}

  sent_allowed : (r : R) (m : a.Ask R S) (p : Party R S) (k : Next R S) (at : Origin) → names.origin r ≡ at → MoveAllowed (sent_there at r m p k)
  sent_allowed r m p k (Own i) e = tt
  sent_allowed r m p k (Common c) e = tt
  sent_allowed r m p k Foreign e = e

  answered_allowed : (a : Act R S) → MoveAllowed (answered names env a)
  answered_allowed (Give c p) = tt
  answered_allowed (Evaluate t p k) = tt
  answered_allowed (Become t p) = tt
  answered_allowed (Decide v x p k) = tt
  answered_allowed (Pay n p k) = tt
  answered_allowed (Send r m p k) = sent_allowed r m p k (names.origin r) refl
  answered_allowed (Make globals modules p k) = tt
  answered_allowed (Import link path denied p k) =
      let P : Bool → Type 0 = λ b. MoveAllowed (if b then Asks_out (Imports link path) p k else answered names env denied) in
      ⊎_elim (λ e. subst P (sym e) e) (λ e. subst P (sym e) (answered_allowed denied)) (cases_Bool (env.allows link))
  answered_allowed (Look r f) = answered_allowed (f (seen_marks names env r))
  answered_allowed (Call_outside calls f) = answered_allowed (f (env.outside calls))
  answered_allowed (End e) = tt

  pub settle_allowed : (ks : List (Next R S)) (m : Move R S) → MoveAllowed m → PointAllowed (settle names shared env ks m)
  settle_allowed ks (Does n j p new) h = tt
  settle_allowed ks (Asks_out o p k) h = h
  settle_allowed ks (Ends e) h = tt
  settle_allowed [] (Gives c p) h = tt
  settle_allowed (k ∷ ks) (Gives c p) h = settle_allowed ks (answered names env (go_on names shared k c p)) (answered_allowed (go_on names shared k c p))

  run_for_allowed : (charges limit steps : ℕ) (point : Point R S) → PointAllowed point → StopAllowed (run_for names shared env charges limit steps point)
  run_for_allowed charges limit steps (Sends o p ks) h = h
  run_for_allowed charges limit steps (Over c p) h = tt
  run_for_allowed charges limit steps (Ended e) h = tt
  run_for_allowed zero limit steps (Due n j p ks) h = tt
  run_for_allowed (suc charges) limit steps (Due n j p ks) h =
      let m = answered names env (work names shared j p) in
      by_charge (charge p.meter steps limit (suc n)) charges limit steps n m ks (run_for_allowed charges limit (steps + suc n) (settle names shared env ks m) (settle_allowed ks m (answered_allowed (work names shared j p))))
    where
      by_charge : (c : Charge) (charges limit steps n : ℕ) (m : Move R S) (ks : List (Next R S)) → StopAllowed (run_for names shared env charges limit (steps + suc n) (settle names shared env ks m)) → StopAllowed (elim c [ Charged ↦ run_for names shared env charges limit (steps + suc n) (settle names shared env ks m) | Lacks ↦ Short steps | Stops e ↦ Stopped e steps ])
      by_charge Charged charges limit steps n m ks h = h
      by_charge Lacks charges limit steps n m ks h = tt
      by_charge (Stops e) charges limit steps n m ks h = tt

  at_steps_allowed : (n : ℕ) (s : Stop R S) → StopAllowed s → StopAllowed (at_steps n s)
  at_steps_allowed n (Sent o p ks m) h = h
  at_steps_allowed n (Gave c p m) h = tt
  at_steps_allowed n (Stopped e m) h = tt
  at_steps_allowed n (Short m) h = tt

  pub run_allowed : (limit steps : ℕ) (point : Point R S) → PointAllowed point → StopAllowed (run names shared env limit steps point)
  run_allowed limit steps point h = by_mode env.free
    where
      by_mode : (b : Bool) → StopAllowed (if b then at_steps steps (run_for names shared env 1000 1000 0 point) else run_for names shared env (suc (limit - steps)) limit steps point)
      by_mode true = at_steps_allowed steps (run_for names shared env 1000 1000 0 point) (run_for_allowed 1000 1000 0 point h)
      by_mode false = run_for_allowed (suc (limit - steps)) limit steps point h

  at_allowed : (at : Origin) (r : R) (m : a.Ask R S) (p : Party R S) → PointAllowed (serves_at at r m p)
  at_allowed (Own i) r m p = tt
  at_allowed (Common c) r m p = tt
  at_allowed Foreign r m p = tt

  pub serves_allowed : (p : Party R S) (o : Request R S) → PointAllowed (serves names shared env p o)
  serves_allowed p (Asks r m) = at_allowed (names.origin r) r m p
  serves_allowed p (Imports link path) = settle_allowed [] (answered names env (imports names link path p)) (answered_allowed (imports names link path p))
  serves_allowed p (Makes globals modules meter) = tt
