-- There is one place at which bytes that are not UTF-8 stop going on as UTF-8.
use Rattle.std.proofs.Common.{◌≡◌, ◌≤◌, ◌^◌, Result, Err, ap, subst}
use Rattle.std.proofs.Math.Logic.{inr, ⊎_elim}
use Rattle.js_text.specs.Utf8.{IsFault}
use Rattle.js_text.proofs.Begun.{one_place}
use Rattle.js_text.proofs.utf8.from_utf8.Goals as goal

same_error : {T E : Type 0} (a b : E) → Path (Result T E) (Err a) (Err b) → a ≡ b
same_error a b e = cc

pub returns-in-Err-clause-not_utf8 : goal.returns-in-Err-clause-not_utf8
returns-in-Err-clause-not_utf8 c = λ at small.
    let fault = c.fault_place.ensures in
    let near = c.fault_at.ensures.near at small in (
      (λ e. subst (IsFault c.args.bytes.now) (near.0 (same_error _ _ e)) fault),
      λ is. ap Err (near.1 (one_place c.args.bytes.now c.fault_place.result at fault.1 is.1)),
    )

pub returns-in-Err-clause-too_long : goal.returns-in-Err-clause-too_long
returns-in-Err-clause-too_long c =
    let fault = c.fault_place.ensures in
    let far = c.fault_at.ensures.far in (
      (λ e. inr (c.fault_place.result, far.0 (same_error _ _ e), fault)),
      λ long. ap Err (far.1 (⊎_elim (λ u. absurd (fault.0 u.0)) (λ u. subst (λ n. 2 ^ 32 ≤ n) (one_place c.args.bytes.now u.0 c.fault_place.result u.2.1 fault.1) u.1) long)),
    )
