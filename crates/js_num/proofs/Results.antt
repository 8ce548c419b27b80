-- Laws of the answers of a call.
use Rattle.std.proofs.Common.{◌≡◌, ℕ, true, false, ◌==◌, List, [], length, Result, Ok, Err, IfOk, OnErr, sym, subst}

pub on_err : {T E P : Type 0} (r : Result T E) → P → OnErr r P
on_err (Ok x) p = tt
on_err (Err e) p = p

pub not_empty : (text : List ℕ) → false ≡ (length text == 0) → text ≡ [] → ⊥
not_empty text h e = let no : false ≡ true = rw e at h in cc

pub if_ok_at : {T E : Type 0} (P : T → Type 0) (r : Result T E) (v : T) → IfOk r (λ x. x ≡ v) → P v → IfOk r P
if_ok_at P (Ok x) v e p = subst P (sym e) p
if_ok_at P (Err e) v n p = tt

pub not_err : {T E : Type 0} (P Q : Type 0) (r : Result T E) → OnErr r (¬ Q) → Q → OnErr r P
not_err P Q (Ok x) n q = tt
not_err P Q (Err e) n q = absurd (n q)
