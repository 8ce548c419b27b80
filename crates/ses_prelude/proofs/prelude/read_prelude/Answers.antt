use Rattle.std.proofs.Common.{◌≡◌, ℕ, List, IfOk, IfErr, MatchResult, ◌∙◌, subst}
use Rattle.js_fault.specs.declared.fault.SyntaxFault.TheVariants as fault
use Rattle.js_reader.specs.Reading.{IsRefusal}
use Rattle.ses_prelude.specs.Preludes.{IsPrelude, HasIntrinsics, IsPreludeFault, HasPreludeCause}
use Rattle.ses_prelude.proofs.prelude.read_prelude.Goals as goal

pub returns-clause-made : goal.returns-clause-made
returns-clause-made c = subst (λ (s : List ℕ). IfOk c.read_intrinsics.result (IsPrelude s)) (c.as_bytes.ensures.value ∙ c.prelude_text.ensures) c.read_intrinsics.ensures.made

pub returns-clause-only : goal.returns-clause-only
returns-clause-only c =
    subst (λ (s : List ℕ). HasIntrinsics s → MatchResult c.read_intrinsics.result (λ i. Unit {0}) (λ f. f ≡ fault.OutOfMemory)) (c.as_bytes.ensures.value ∙ c.prelude_text.ensures) c.read_intrinsics.ensures.only

pub returns-clause-cause : goal.returns-clause-cause
returns-clause-cause c = subst (λ (s : List ℕ). IfErr c.read_intrinsics.result (HasPreludeCause s)) (c.as_bytes.ensures.value ∙ c.prelude_text.ensures) c.read_intrinsics.ensures.cause

pub returns-clause-refused : goal.returns-clause-refused
returns-clause-refused c = λ p w.
    subst (λ (s : List ℕ). IsPreludeFault s p w → MatchResult c.read_intrinsics.result (λ i. ⊥) (IsRefusal p w)) (c.as_bytes.ensures.value ∙ c.prelude_text.ensures) (c.read_intrinsics.ensures.refused p w)
