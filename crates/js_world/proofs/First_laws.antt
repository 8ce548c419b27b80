-- A machine that has done nothing yet.
use Rattle.std.proofs.Common.{◌≡◌, ℕ, zero, suc, ◌+◌, List, [], ◌∷◌, ◌++◌, get_or, length, replicate, refl, sym, ap, ◌∙◌, subst, arith, Result, Ok, Err, IfOk, Some, if◌then◌else◌}
use Rattle.js_crossing.specs.js_machine.Begun.{Own}
use Rattle.js_crossing.specs.js_machine.Views.{View}
use Rattle.js_crossing.specs.js_run.Heap.{begins}
use Rattle.js_crossing.specs.js_run.Journal.{root_link}
use Rattle.js_crossing.specs.js_run.Runs.{Imports}
use Rattle.js_crossing.specs.js_machine.declared.asked.Imported.{Imported}
use Rattle.js_crossing.specs.js_machine.declared.frame.Mode.{Mode}
use Rattle.js_world.specs.Crossings.{IsTaken}
use Rattle.js_world.specs.First.{IsBegun, RestsFirst, as_new}
use Rattle.js_crossing.specs.Newest.{traced_import}
use Rattle.js_world.specs.Worlds.{WorldView, noted}
use Rattle.js_crossing.specs.declared.leads.Lead.{Lead}
use Rattle.js_crossing.specs.declared.newest.TracedCrossing.{TracedCrossing}
use Rattle.js_world.proofs.Traced_laws.{rests_noted}

all_zero : (n q : ℕ) → zero ≡ get_or (replicate n zero) q zero
all_zero zero q = refl
all_zero (suc n) zero = refl
all_zero (suc n) (suc q) = all_zero n q

one_more : (n : ℕ) → replicate n zero ++ zero ∷ [] ≡ replicate (suc n) zero
one_more zero = refl
one_more (suc n) = ap (λ l. zero ∷ l) (one_more n)

pub none_added : (i j : ℕ) (old new : List ℕ) → old ≡ replicate i zero → new ≡ old ++ zero ∷ [] → j ≡ i + 1 → new ≡ replicate j zero
none_added i j old new e d s = let size : suc i ≡ j = omega (arith, s) in d ∙ ap (λ l. l ++ zero ∷ []) e ∙ one_more i ∙ ap (λ n. replicate n zero) size

pub rests_first : (m : View) (others : List Own) (leads : List (List Lead)) (budget : ℕ) (v : WorldView) → v ≡ as_new m others leads budget → RestsFirst v
rests_first m others leads budget v e =
    let so : RestsFirst (as_new m others leads budget) = record {
      rests = λ app f. record {
        suits = f.suits;
        own = f.own;
        counts = record { steps = λ q l. all_zero (length others) q; spent = refl; stack = refl; known = f.known };
      };
    } in
    subst RestsFirst (sym e) so

-- the host's import is taken
pub begun_so : {E : Type 0} (k : Result Mode E) (x : Imported) (old mid new : WorldView) → x ≡ record { link = root_link; path = [] } → mid ≡ noted (traced_import 0 1 x.link x.path) old → IfOk k (IsTaken 1 (Imports x.link x.path) mid new)
    → IfOk k (IsBegun old new)
begun_so (Ok m) x old mid new e is h =
    let y : TracedCrossing = traced_import 0 1 root_link [] in
    let kept : mid ≡ noted y old = is ∙ ap (λ (i : Imported). noted (traced_import 0 1 i.link i.path) old) e in
    let first = subst (λ v. IsTaken 1 (Imports root_link []) v new m) kept (subst (λ (i : Imported). IsTaken 1 (Imports i.link i.path) mid new m) e h) in
    record {
      begins = λ app r. first.takes app (begins app) (record { rests = rests_noted app (begins app) y old r; control = refl }) (λ t. ap (λ b. if b then Some y else old.newest) t);
      budget = first.budget;
    }
begun_so (Err z) x old mid new e is h = tt
