-- A prelude that is refused.
use Rattle.std.proofs.Common.{◌≡◌, subst}
use Rattle.lava_base.specs.declared.place.Place.{Place}
use Rattle.js_fault.specs.declared.fault.SyntaxFault.{SyntaxFault}
use Rattle.js_fault.specs.declared.fault.SyntaxFault.TheVariants as fault
use Rattle.js_fault.specs.declared.fault.SyntaxWhat.{SyntaxWhat}
use Rattle.ses_prelude.specs.Preludes.{HasPreludeCause, IsPreludeFault, prelude}

-- its fault, moved out of the answer that has it, is its cause
pub moved : (f : SyntaxFault) (q p : Place) (w v : SyntaxWhat) → p ≡ q → v ≡ w → f ≡ fault.At p v → HasPreludeCause prelude f → IsPreludeFault prelude q w
moved f q p w v same alike is h = subst (λ x. IsPreludeFault prelude q x) alike (subst (λ x. IsPreludeFault prelude x v) same (subst (HasPreludeCause prelude) is h))
