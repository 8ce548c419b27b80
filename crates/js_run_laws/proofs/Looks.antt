-- A run depends on the marks that it looks at and on no others.
use Rattle.std.proofs.Common.{◌≡◌, ℕ, zero, suc, ◌+◌, ◌-◌, List, [], ◌∷◌, ◌++◌, Bool, true, false, Option, Some, None, refl, ap, ◌∙◌, inl, inr, ⊎_elim, if◌then◌else◌}
use Rattle.lava_base.specs.declared.marks.Marks.{Marks}
use Rattle.js_text.specs.Naming.{Naming}
use Rattle.js_run.specs.Acts.{Act, Become, Call_outside, Decide, End, Evaluate, Give, Import, Look, Make, Next, Pay, Send}
use Rattle.js_run.specs.Completions.{Replied}
use Rattle.js_run.specs.Going.{go_on}
use Rattle.js_run.specs.Identities.{IsAmong, Message, Replies, Requests}
use Rattle.js_run.specs.Local.{Has_ended, Is_short, Local, Standing, Waits, after, local, served, serves, taken_up, takes}
use Rattle.js_run.specs.Modules.{imports}
use Rattle.js_run.specs.Parties.{Party, Shared}
use Rattle.js_run.specs.Runs.{Asks, Asks_out, Charge, Charged, Does, Due, Ended, Ends, Env, Gives, Imports, Job, Lacks, Makes, Move, Over, Point, Request, Sends, Short, Stop, Stopped, Stops, answered, at_steps, charge, run, run_for, seen_marks, settle, work}
use Rattle.js_run_laws.proofs.Watch.{local_looks, looked, run_looks, run_looks_for, served_looks, serves_looks, settle_looks, taken_looks, takes_looks, with_marks}

pub in_front : {A : Type 0} (x : A) (xs ys : List A) → IsAmong x xs → IsAmong x (xs ++ ys)
in_front x [] ys h = absurd h
in_front x (z ∷ xs) ys h = ⊎_elim (λ e. inl e) (λ k. inr (in_front x xs ys k)) h

pub behind : {A : Type 0} (x : A) (xs ys : List A) → IsAmong x ys → IsAmong x (xs ++ ys)
behind x [] ys h = h
behind x (z ∷ xs) ys h = inr (behind x xs ys h)

module _ {R S : Type 0} (names : Naming R S) (shared : Shared) (env : Env R) (marks : R → Marks) where
  abbrev other : Env R
  other = with_marks marks env

  -- the two tables agree on these
  abbrev Agree : List R → Type 0
  Agree xs = (r : R) → IsAmong r xs → seen_marks names other r ≡ seen_marks names env r

  import_same : (b : Bool) (xs : List R) (m a d : Move R S) → Agree (if b then [] else xs) → (Agree xs → a ≡ d) → (if b then m else a) ≡ (if b then m else d)
  import_same true xs m a d h go = refl
  import_same false xs m a d h go = go h

  answered_same : (a : Act R S) → Agree (looked names shared env a) → answered names other a ≡ answered names env a
  answered_same (Give c p) h = refl
  answered_same (Evaluate t p k) h = refl
  answered_same (Become t p) h = refl
  answered_same (Decide v x p k) h = refl
  answered_same (Pay n p k) h = refl
  answered_same (Send r m p k) h = refl
  answered_same (Make globals modules p k) h = refl
  answered_same (Import link path denied p k) h = import_same (env.allows link) (looked names shared env denied) (Asks_out (Imports link path) p k) (answered names other denied) (answered names env denied) h (answered_same denied)
  answered_same (Look r f) h = ap (λ b. answered names other (f b)) (h r (inl refl)) ∙ answered_same (f (seen_marks names env r)) (λ x k. h x (inr k))
  answered_same (Call_outside calls f) h = answered_same (f (env.outside calls)) h
  answered_same (End e) h = refl

  settle_same : (ks : List (Next R S)) (m : Move R S) → Agree (settle_looks names shared env ks m) → settle names shared other ks m ≡ settle names shared env ks m
  settle_same ks (Does n j p new) h = refl
  settle_same ks (Asks_out o p k) h = refl
  settle_same ks (Ends e) h = refl
  settle_same [] (Gives c p) h = refl
  settle_same (k ∷ ks) (Gives c p) h =
      ap (settle names shared other ks) (answered_same (go_on names shared k c p) (λ x z. h x (in_front x (looked names shared env (go_on names shared k c p)) (settle_looks names shared env ks (answered names env (go_on names shared k c p))) z)))
      ∙ settle_same ks (answered names env (go_on names shared k c p)) (λ x z. h x (behind x (looked names shared env (go_on names shared k c p)) (settle_looks names shared env ks (answered names env (go_on names shared k c p))) z))

  acts_same : (ks : List (Next R S)) (a : Act R S) → Agree (looked names shared env a ++ settle_looks names shared env ks (answered names env a)) → settle names shared other ks (answered names other a) ≡ settle names shared env ks (answered names env a)
  acts_same ks a h =
      ap (settle names shared other ks) (answered_same a (λ x z. h x (in_front x (looked names shared env a) (settle_looks names shared env ks (answered names env a)) z)))
      ∙ settle_same ks (answered names env a) (λ x z. h x (behind x (looked names shared env a) (settle_looks names shared env ks (answered names env a)) z))

  abbrev here : (n : ℕ) → Job R S → Party R S → List (Next R S) → List R
  here n j p ks = looked names shared env (work names shared j p) ++ settle_looks names shared env ks (answered names env (work names shared j p))

  abbrev there : (charges limit steps n : ℕ) → Job R S → Party R S → List (Next R S) → List R
  there charges limit steps n j p ks = run_looks_for names shared env charges limit (steps + suc n) (settle names shared env ks (answered names env (work names shared j p)))

  abbrev charged : Env R → (charges limit steps n : ℕ) → Job R S → Party R S → List (Next R S) → Charge → Stop R S
  charged e charges limit steps n j p ks c = elim c [ Charged ↦ run_for names shared e charges limit (steps + suc n) (settle names shared e ks (answered names e (work names shared j p))) | Lacks ↦ Short steps | Stops k ↦ Stopped k steps ]

  charge_same : (charges limit steps n : ℕ) (j : Job R S) (p : Party R S) (ks : List (Next R S)) (c : Charge) → Agree (elim c [ Charged ↦ here n j p ks ++ there charges limit steps n j p ks | Lacks ↦ [] | Stops e ↦ [] ])
      → (Agree (there charges limit steps n j p ks) → run_for names shared other charges limit (steps + suc n) (settle names shared env ks (answered names env (work names shared j p))) ≡ run_for names shared env charges limit (steps + suc n) (settle names shared env ks (answered names env (work names shared j p))))
      → charged other charges limit steps n j p ks c ≡ charged env charges limit steps n j p ks c
  charge_same charges limit steps n j p ks Charged h go =
      ap (run_for names shared other charges limit (steps + suc n)) (acts_same ks (work names shared j p) (λ x k. h x (in_front x (here n j p ks) (there charges limit steps n j p ks) k)))
      ∙ go (λ x k. h x (behind x (here n j p ks) (there charges limit steps n j p ks) k))
  charge_same charges limit steps n j p ks Lacks h go = refl
  charge_same charges limit steps n j p ks (Stops e) h go = refl

  run_for_same : (charges limit steps : ℕ) (point : Point R S) → Agree (run_looks_for names shared env charges limit steps point) → run_for names shared other charges limit steps point ≡ run_for names shared env charges limit steps point
  run_for_same charges limit steps (Sends o p ks) h = refl
  run_for_same charges limit steps (Over c p) h = refl
  run_for_same charges limit steps (Ended e) h = refl
  run_for_same zero limit steps (Due n j p ks) h = refl
  run_for_same (suc charges) limit steps (Due n j p ks) h =
      charge_same charges limit steps n j p ks (charge p.meter steps limit (suc n)) h (run_for_same charges limit (steps + suc n) (settle names shared env ks (answered names env (work names shared j p))))

  run_same : (limit steps : ℕ) (point : Point R S) → Agree (run_looks names shared env limit steps point) → run names shared other limit steps point ≡ run names shared env limit steps point
  run_same limit steps point h = by env.free h
    where
      by : (b : Bool) → Agree (if b then run_looks_for names shared env 1000 1000 0 point else run_looks_for names shared env (suc (limit - steps)) limit steps point) → (if b then at_steps steps (run_for names shared other 1000 1000 0 point) else run_for names shared other (suc (limit - steps)) limit steps point) ≡ (if b then at_steps steps (run_for names shared env 1000 1000 0 point) else run_for names shared env (suc (limit - steps)) limit steps point)
      by true h = ap (at_steps steps) (run_for_same 1000 1000 0 point h)
      by false h = run_for_same (suc (limit - steps)) limit steps point h

  serves_same : (o : Request R S) (p : Party R S) → Agree (serves_looks names shared env p o) → serves names shared other p o ≡ serves names shared env p o
  serves_same (Asks r m) p h = refl
  serves_same (Imports link path) p h = acts_same [] (imports names link path p) h
  serves_same (Makes globals modules meter) p h = refl

  served_same : (p : Party R S) (bodies : List (List (Next R S))) (x : Message R S) → Agree (served_looks names shared env p bodies x) → served names shared other p bodies x ≡ served names shared env p bodies x
  served_same p bodies (Requests o) h = ap (λ w. Some (w, bodies)) (serves_same o p h)
  served_same p [] (Replies c) h = refl
  served_same p (ks ∷ bodies) (Replies c) h = ap (λ w. Some (w, bodies)) (settle_same ks (Gives (Replied c) p) h)

  taken_same : (n : ℕ) (r : Local R S) (o : Option (Point R S × List (List (Next R S)))) → Agree (taken_looks names shared env n r o) → taken_up names shared other n r o ≡ taken_up names shared env n r o
  taken_same n r None h = refl
  taken_same n r (Some s) h = ap (after names r.sent s.1) (run_same n r.steps s.0 h)

  takes_same : (n : ℕ) (r : Local R S) (st : Standing R S) (x : Message R S) → Agree (takes_looks names shared env n r st x) → takes names shared other n r st x ≡ takes names shared env n r st x
  takes_same n r (Waits p bodies) x h =
      ap (taken_up names shared other n r) (served_same p bodies x (λ y k. h y (in_front y (served_looks names shared env p bodies x) (taken_looks names shared env n r (served names shared env p bodies x)) k)))
      ∙ taken_same n r (served names shared env p bodies x) (λ y k. h y (behind y (served_looks names shared env p bodies x) (taken_looks names shared env n r (served names shared env p bodies x)) k))
  takes_same n r Is_short x h = refl
  takes_same n r (Has_ended e) x h = refl

  pub local_same : (start : Party R S) (n : ℕ) (ins : List (Message R S)) → Agree (local_looks names shared env start n ins) → local names shared other start n ins ≡ local names shared env start n ins
  local_same start n [] h = refl
  local_same start n (x ∷ older) h =
      let r = local names shared env start n older in
      ap (λ (q : Local R S). takes names shared other n q q.standing x) (local_same start n older (λ y k. h y (behind y (takes_looks names shared env n r r.standing x) (local_looks names shared env start n older) k)))
      ∙ takes_same n r r.standing x (λ y k. h y (in_front y (takes_looks names shared env n r r.standing x) (local_looks names shared env start n older) k))
