-- Charges that can be paid.
use Rattle.std.proofs.Common.{◌≡◌, ℕ, suc, ◌+◌, ◌≤◌, ◌<◌, Bool, true, false, List, Option, Some, None, nat_lt, refl, ap, ◌∙◌, arith, if◌then◌else◌}
use Rattle.std.proofs.lemmas.Bool.{ltb-false, ltb-true}
use Rattle.lava_base.specs.declared.ids.MadeSymbol.{MadeSymbol}
use Rattle.lava_base.specs.declared.ids.Ref.{Ref}
use Rattle.js_text.specs.Naming.{Naming}
use Rattle.js_operation.specs.Deeds.{MachineParty}
use Rattle.js_operation.specs.js_run.Acts.{Next}
use Rattle.js_operation.specs.js_run.Completions as halt
use Rattle.js_operation.specs.js_run.Parties.{Shared}
use Rattle.js_operation.specs.js_run.Runs as runs
use Rattle.js_operation.specs.js_run.Runs.{Charge, Charged, Due, Env, Job, Lacks, Short, Stopped, Stops, answered, charge, is_past, run_for, settle, work}

-- neither the meter nor the limit is passed by so many steps
abbrev pub Affords : Option ℕ → (limit steps : ℕ) → Type 0
Affords meter limit steps = (is_past meter steps ≡ false) × (nat_lt limit steps ≡ false)

-- fewer steps pass no bound that more don't pass
not_passed : (bound n k : ℕ) (b : Bool) → nat_lt bound n ≡ b → n ≤ k → nat_lt bound k ≡ false → b ≡ false
not_passed bound n k false e l f = refl
not_passed bound n k true e l f = let less : bound < n = ltb-true bound n e in let more : k ≤ bound = ltb-false bound k f in absurd (omega (arith, l, less, more))

meter_left : (meter : Option ℕ) (n k : ℕ) → n ≤ k → is_past meter k ≡ false → is_past meter n ≡ false
meter_left None n k l e = refl
meter_left (Some m) n k l e = not_passed m n k (nat_lt m n) refl l e

pub affords_less : (meter : Option ℕ) (limit n k : ℕ) → n ≤ k → Affords meter limit k → Affords meter limit n
affords_less meter limit n k l (m, e) = (meter_left meter n k l m, not_passed limit n k (nat_lt limit n) refl l e)

-- what can be paid is charged
pub charged : (meter : Option ℕ) (steps limit cost : ℕ) → Affords meter limit (steps + cost) → charge meter steps limit cost ≡ Charged
charged meter steps limit cost (m, e) =
    ap (λ b. if b then Stops halt.Meter else (if nat_lt limit (steps + cost) then Lacks else Charged)) m ∙ ap (λ b. if b then Lacks else Charged) e

-- and what is charged can be paid
affords_by : (a b : Bool) → (if a then Stops halt.Meter else (if b then Lacks else Charged)) ≡ Charged → (a ≡ false) × (b ≡ false)
affords_by true b e = cc
affords_by false true e = cc
affords_by false false e = (refl, refl)

pub affords : (meter : Option ℕ) (steps limit cost : ℕ) → charge meter steps limit cost ≡ Charged → Affords meter limit (steps + cost)
affords meter steps limit cost e = affords_by (is_past meter (steps + cost)) (nat_lt limit (steps + cost)) e

-- what is charged together can be charged one after the other
pub part : (meter : Option ℕ) (steps now limit cost all : ℕ) → now + cost ≤ steps + all → charge meter steps limit all ≡ Charged → charge meter now limit cost ≡ Charged
part meter steps now limit cost all l e = charged meter now limit cost (affords_less meter limit (now + cost) (steps + all) l (affords meter steps limit all e))

module _ (names : Naming Ref MadeSymbol) (shared : Shared) (env : Env Ref) where
  abbrev by_charge : (charges limit steps : ℕ) (j : Job Ref MadeSymbol) (p : MachineParty) (ks : List (Next Ref MadeSymbol)) → Charge → runs.Stop Ref MadeSymbol
  by_charge charges limit steps j p ks c =
      elim c [
        | Charged ↦ run_for names shared env charges limit (steps + 1) (settle names shared env ks (answered names env (work names shared j p)))
        | Lacks ↦ Short steps
        | Stops e ↦ Stopped e steps
      ]

  -- one charge
  pub one : (charges limit steps : ℕ) (j : Job Ref MadeSymbol) (p : MachineParty) (ks : List (Next Ref MadeSymbol)) → charge p.meter steps limit 1 ≡ Charged
      → run_for names shared env (suc charges) limit steps (Due 0 j p ks) ≡ run_for names shared env charges limit (steps + 1) (settle names shared env ks (answered names env (work names shared j p)))
  one charges limit steps j p ks a = ap (by_charge charges limit steps j p ks) a
