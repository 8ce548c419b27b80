-- Deeds of what is known.
use Rattle.std.proofs.Common.{◌≡◌, sym, subst, Result, IfOk}
use Rattle.js_machine.specs.Steps.{Deed, LeadsTo}
use Rattle.js_machine.specs.Views.{View}
use Rattle.js_machine.specs.declared.frame.Mode.{Mode}

-- a deed of what is known
pub in_case : {A : Type 0} {E : Type 0} (r : Result Mode E) (x y : A) (deed : A → Deed) (old new : View) → x ≡ y → IfOk r (LeadsTo (deed y) old new) → IfOk r (LeadsTo (deed x) old new)
in_case r x y deed old new e h = subst (λ z. IfOk r (LeadsTo (deed z) old new)) (sym e) h
