-- What is to be looked at is valid before a step exactly where the step finds nothing wrong and what is left then is valid.
use Rattle.std.proofs.Common.{◌≡◌, true, List, [], ◌∷◌, ◌++◌, Option, Some, None, refl, sym, subst, ◌∙◌, ◌↔◌, false, Bool, Result, Ok, Err, IfOk}
use Rattle.js_valid.specs.Inner.{Inner, Item, entered, inside}
use Rattle.js_valid.specs.Surroundings.{Place, Round}
use Rattle.js_valid.specs.Valid.{Everywhere, here, nowhere, stands}
use Rattle.js_valid.specs.Work.{AreSteps, Leave, Step, Visit, left, left_after, no_steps, place_after, step_stands, steps_after, visited, visits}

-- some steps are valid exactly where others are
abbrev pub AreAsValid : Place → List Step → Place → List Step → Type 0
AreAsValid p ss q ts = (AreSteps p ss → AreSteps q ts) × (AreSteps q ts → AreSteps p ss)

both : (p : Place) (is : List Inner) (ss : List Step) → Everywhere stands p is → AreSteps p ss → AreSteps p (visits is ++ ss)
both p [] ss (nowhere _) s = s
both p (i ∷ is) ss (here _ _ _ own under rest) s = visited p i (visits is ++ ss) (here p i [] own under (nowhere p)) (both p is ss rest s)

apart : (p : Place) (is : List Inner) (ss : List Step) → AreSteps p (visits is ++ ss) → Everywhere stands p is × AreSteps p ss
apart p [] ss s = (nowhere p, s)
apart p (i ∷ is) ss (visited _ _ _ (here _ _ _ own under _) s) =
    let r : Everywhere stands p is × AreSteps p ss = apart p is ss s in
    (here p i is own under r.0, r.1)

unleft : (r : Round) (p : Place) (ss : List Step) → AreSteps (r ∷ p) (Leave ∷ ss) → AreSteps p ss
unleft r p ss (left _ _ s) = s

unleft_from : (p : Place) (ss : List Step) → AreSteps p (Leave ∷ ss) → AreSteps (place_after p Leave) ss
unleft_from p ss (left _ _ s) = s

visit_from : (p : Place) (r : Option Round) (t : Item) (ss : List Step) → stands (entered p r) t ≡ true → AreSteps (entered p r) (visits (inside t) ++ left_after r ss)
    → AreSteps p (Visit (record { round = r; item = t }) ∷ ss)
visit_from p None t ss own all =
    let x : Everywhere stands p (inside t) × AreSteps p ss = apart p (inside t) ss all in
    visited p _ ss (here p _ [] own x.0 (nowhere p)) x.1
visit_from p (Some r) t ss own all =
    let x : Everywhere stands (r ∷ p) (inside t) × AreSteps (r ∷ p) (Leave ∷ ss) = apart (r ∷ p) (inside t) (Leave ∷ ss) all in
    visited p _ ss (here p _ [] own x.0 (nowhere p)) (unleft r p ss x.1)

visit_to : (p : Place) (r : Option Round) (t : Item) (ss : List Step) → AreSteps p (Visit (record { round = r; item = t }) ∷ ss)
    → (stands (entered p r) t ≡ true) × AreSteps (entered p r) (visits (inside t) ++ left_after r ss)
visit_to p None t ss (visited _ _ _ (here _ _ _ own under _) s) = (own, both p (inside t) ss under s)
visit_to p (Some r) t ss (visited _ _ _ (here _ _ _ own under _) s) = (own, both (r ∷ p) (inside t) (Leave ∷ ss) under (left (r ∷ p) ss s))

pub step_from : (p : Place) (s : Step) (ss : List Step) → step_stands p s ≡ true → AreSteps (place_after p s) (steps_after s ss) → AreSteps p (s ∷ ss)
step_from p (Visit i) ss own all = visit_from p i.round i.item ss own all
step_from p Leave ss own all = left p ss all

pub step_to : (p : Place) (s : Step) (ss : List Step) → AreSteps p (s ∷ ss) → (step_stands p s ≡ true) × AreSteps (place_after p s) (steps_after s ss)
step_to p (Visit i) ss all = visit_to p i.round i.item ss all
step_to p Leave ss all = (refl, unleft_from p ss all)

-- what a step leaves to look at is valid exactly where all was
pub as_valid_on : (p : Place) (s : Step) (ss : List Step) (q : Place) (ts : List Step) → step_stands p s ≡ true → AreAsValid p (s ∷ ss) q ts
    → AreAsValid (place_after p s) (steps_after s ss) q ts
as_valid_on p s ss q ts own same = (λ all. same.0 (step_from p s ss own all), λ all. (step_to p s ss (same.1 all)).1)

pub one_item : (i : Inner) → AreSteps [] (Visit i ∷ []) → Everywhere stands [] (i ∷ [])
one_item i (visited _ _ _ e _) = e

pub one_step : (i : Inner) → Everywhere stands [] (i ∷ []) → AreSteps [] (Visit i ∷ [])
one_step i e = visited [] i [] e (no_steps [])

-- AT THE END

pub ends_true : (p : Place) (ss : List Step) (q : Place) (ts : List Step) → ss ≡ [] → AreAsValid p ss q ts → (true ≡ true) ↔ AreSteps q ts
ends_true p [] q ts e same = (λ t. same.0 (no_steps p), λ s. refl)
ends_true p (s ∷ ss) q ts e same = cc

pub ends_false : (p : Place) (s : Step) (ss : List Step) (q : Place) (ts : List Step) → step_stands p s ≡ false → AreAsValid p (s ∷ ss) q ts → (false ≡ true) ↔ AreSteps q ts
ends_false p s ss q ts own same = (λ t. cc, λ all. sym own ∙ (step_to p s ss (same.1 all)).0)

-- steps that stand for the same list
pub as_steps : (p : Place) (ss tt : List Step) (q : Place) (ts : List Step) → ss ≡ tt → AreAsValid p ss q ts → AreAsValid p tt q ts
as_steps p ss tt q ts e same = subst (λ x. AreAsValid p x q ts) e same

pub as_place : (p r : Place) (ss tt : List Step) (q : Place) (ts : List Step) → p ≡ r → ss ≡ tt → AreAsValid p ss q ts → AreAsValid r tt q ts
as_place p r ss tt q ts e f same = subst (λ x. AreAsValid x tt q ts) e (subst (λ x. AreAsValid p x q ts) f same)

with_item : (p : Place) (ss : List Step) (i : Inner) (v : Bool) → p ≡ [] → ss ≡ Visit i ∷ [] → (v ≡ true) ↔ AreSteps p ss → (v ≡ true) ↔ Everywhere stands [] (i ∷ [])
with_item p ss i v e f h =
    let all : (v ≡ true) ↔ AreSteps [] (Visit i ∷ []) = subst (λ x. (v ≡ true) ↔ AreSteps x (Visit i ∷ [])) e (subst (λ x. (v ≡ true) ↔ AreSteps p x) f h) in
    (λ t. one_item i (all.0 t), λ x. all.1 (one_step i x))

-- the answer to a whole template
pub whole : {E : Type 0} (r : Result Bool E) (p : Place) (ss : List Step) (i : Inner) → p ≡ [] → ss ≡ Visit i ∷ [] → IfOk r (λ v. (v ≡ true) ↔ AreSteps p ss)
    → IfOk r (λ v. (v ≡ true) ↔ Everywhere stands [] (i ∷ []))
whole (Ok v) p ss i e f h = with_item p ss i v e f h
whole (Err x) p ss i e f h = h
