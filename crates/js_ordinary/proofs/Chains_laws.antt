-- The look for a cycle, a step at a time.
use Rattle.std.proofs.Common.{◌≡◌, ℕ, suc, ◌+◌, ◌-◌, ◌<◌, List, Option, ap, arith}
use Rattle.js_text.specs.Naming.{Naming}
use Rattle.js_store.specs.Objects.{Object}
use Rattle.js_ordinary.specs.OrdinarySetPrototypeOf.{ends_without, ends_by, own_prototype}

-- with k of n objects passed, one more is looked at
pub within_step : {R S : Type 0} (names : Naming R S) (objects : List (Object R S)) (me n k : ℕ) (p : Option R) → k < n → ends_without names objects me (n - k) p ≡ ends_by objects me (ends_without names objects me (n - (k + 1))) (own_prototype names objects p)
within_step names objects me n k p h =
    let e : n - k ≡ suc (n - (k + 1)) = omega arith in
    ap (λ (m : ℕ). ends_without names objects me m p) e
