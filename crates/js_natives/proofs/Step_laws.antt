-- What follows a decision of one kind of natives follows it as a decision of a native.
use Rattle.std.proofs.Common.{◌≡◌, ℕ, false, List, [], ◌∷◌, length, get_or, arith, Option, Some, None, refl, sym, ap, subst, Result, Ok, Err, IfOk}
use Rattle.std.specs.Prelude.{ℤ}
use Rattle.lava_base.specs.declared.ids.MadeSymbol.{MadeSymbol}
use Rattle.lava_base.specs.declared.ids.Ref.{Ref}
use Rattle.js_text.specs.Naming.{Origin, Own, Common, Foreign}
use Rattle.js_text.specs.declared.native.Native.{Native}
use Rattle.js_text.specs.declared.native.Native.TheVariants as native
use Rattle.js_desc.specs.declared.ask.Ask.{Ask}
use Rattle.js_desc.specs.declared.decision.Decision.{Decision}
use Rattle.js_desc.specs.declared.decision.Decision.TheVariants as decision
use Rattle.js_run_laws.specs.js_maker_natives.MakerDecisions.{MakerDecision}
use Rattle.js_native.specs.NativeDecisions.{NativeDecision}
use Rattle.js_run_laws.specs.js_run.Acts as acts
use Rattle.js_run_laws.specs.js_run.Acts.{Closes, Native_decides, Of_maker, ask_there}
use Rattle.js_run_laws.specs.js_run.Asking.{open_one}
use Rattle.js_run_laws.specs.js_run.NativeTurns.{follows_native, follows_native_with}
use Rattle.js_run_laws.specs.js_run.Natives.{follows_text}
use Rattle.js_run_laws.specs.js_run.Parties.{Shared}
use Rattle.js_run_laws.specs.js_run.SlotNatives.{asks_slot, follows_kind}
use Rattle.lava_base.specs.declared.marks.Marks.{Marks}
use Rattle.js_store.specs.Frozen.{CommonObject}
use Rattle.js_natives.specs.Decided.{conversion_native, convert_value, family_step, text_native}
use Rattle.js_natives.specs.Deeds.{MachineNaming, MachineParty, asks_here, having, is_here}
use Rattle.js_native_steps.specs.Steps.{MachineObjects, MachineValue, NativeStep, of_maker, of_text, step_by, waits_as}
use Rattle.js_natives.specs.declared.families.Family.{Family}
use Rattle.js_natives.specs.declared.families.Family.TheVariants as family
use Rattle.js_native_steps.specs.declared.next.NativeNext.{NativeNext}

-- a decision, and the objects after it
abbrev pub Says : NativeStep → MachineObjects → NativeStep × MachineObjects → Type 0
Says d os q = (d, os) ≡ q

module _ (names : MachineNaming) (which : Native) (after : MachineObjects) (p : MachineParty) where
  pub same_step : {N : Type 0} (f : N → NativeNext) (d : Decision N Ref MadeSymbol)
      → follows_native names which (λ n. waits_as (f n)) d (having after p) ≡ follows_native_with names which waits_as (step_by f d, after) p
  same_step f (decision.Done r) = refl
  same_step f (decision.Fault t) = refl
  same_step f (decision.Ask (Some o) x n) = refl
  same_step f (decision.Ask None x n) = refl
  same_step f (decision.Number v n) = refl
  same_step f (decision.Run body this args target) = refl
  same_step f (decision.End e) = refl

  pub text_step : (d : NativeDecision Ref MadeSymbol) → follows_text names which d (having after p) ≡ follows_native_with names which waits_as (of_text d, after) p
  text_step (decision.Done r) = refl
  text_step (decision.Fault t) = refl
  text_step (decision.Ask o x n) = refl
  text_step (decision.Number v n) = refl
  text_step (decision.Run body this args target) = refl
  text_step (decision.End e) = refl

module _ (names : MachineNaming) (shared : Shared) where
  -- an ask at a foreign object crosses
  slot_asked : (o : Origin) (r : Ref) (x : Ask Ref MadeSymbol) (which : Native) (n : acts.NativeNext Ref MadeSymbol) (p : MachineParty) → is_here o ≡ false
      → asks_slot names shared o r x which n p ≡ open_one p (λ q. ask_there o r x q (Closes (Native_decides which n)))
  slot_asked (Own i) r x which n p h = cc
  slot_asked (Common c) r x which n p h = cc
  slot_asked Foreign r x which n p h = refl

  pub kind_step : (after : MachineObjects) (p : MachineParty) (d : MakerDecision Ref MadeSymbol) → asks_here names (of_maker d) ≡ false
      → follows_kind names shared Of_maker d (having after p) ≡ follows_native_with names native.ClassOf waits_as (of_maker d, after) p
  kind_step after p (decision.Ask (Some r) x n) h = slot_asked (names.origin r) r x native.ClassOf (Of_maker n) (having after p) h
  kind_step after p (decision.Done r) h = refl
  kind_step after p (decision.Fault t) h = refl
  kind_step after p (decision.Ask None x n) h = refl
  kind_step after p (decision.Number v n) h = refl
  kind_step after p (decision.Run body this args target) h = refl
  kind_step after p (decision.End e) h = refl

-- WHAT THE FAMILY OF A NATIVE DECIDES

module _ {E : Type 0} (names : MachineNaming) (marks : Ref → Marks) (objects : MachineObjects) (common : List CommonObject) (read : List ℕ → Option ℤ) (find : List ℕ → List ℕ → ℕ → Option ℕ) (which : Native) (vs : List MachineValue) where
  abbrev Takes : Family → Result NativeStep E → Type 0
  Takes k r = IfOk r (λ d. Says d objects (family_step names marks objects common read find k which vs))

  abbrev taken : (k j : Family) (r : Result NativeStep E) → k ≡ j → Takes j r → Takes k r
  taken k j r e h = subst (λ i. Takes i r) (sym e) h

  pub texts_taken : (k : Family) (r : Result NativeStep E) → k ≡ family.Texts → IfOk r (λ d. d ≡ text_native find which vs) → Takes k r
  texts_taken k (Ok d) e h = taken k family.Texts (Ok d) e (ap (λ x. (x, objects)) h)
  texts_taken k (Err x) e h = tt

  pub converts_taken : (k : Family) (r : Result NativeStep E) → k ≡ family.Converts → IfOk r (λ d. d ≡ conversion_native read which vs) → Takes k r
  converts_taken k (Ok d) e h = taken k family.Converts (Ok d) e (ap (λ x. (x, objects)) h)
  converts_taken k (Err x) e h = tt

-- a list of one operand
pub one_operand : {A : Type 0} (xs : List A) (x : A) → length xs ≡ 1 → x ≡ get_or xs 0 x → xs ≡ x ∷ []
one_operand [] x n e = absurd (omega (arith, n))
one_operand (y ∷ []) x n e = ap (λ z. z ∷ []) (sym e)
one_operand (y ∷ z ∷ xs) x n e = absurd (omega (arith, n))

pub converts_one : {E : Type 0} (r : Result NativeStep E) (read : List ℕ → Option ℤ) (which : Native) (vs : List MachineValue) (v : MachineValue) → vs ≡ v ∷ [] → IfOk r (λ d. d ≡ convert_value read which v) → IfOk r (λ d. d ≡ conversion_native read which vs)
converts_one r read which vs v e h = subst (λ xs. IfOk r (λ d. d ≡ conversion_native read which xs)) (sym e) h
