-- A run has one ending: once it is over, it stays so.
use Rattle.std.proofs.Common.{◌≡◌, ℕ, zero, suc, ◌+◌, Some, sym, ap, ◌∙◌}
use Rattle.std.proofs.Math.Nat.{add_comm, add-suc, add-zero}
use Rattle.lava_driver.specs.js_run.Journal.{Application, Ending}
use Rattle.lava_driver.specs.js_run.Net.{net, next}
use Rattle.lava_runner.specs.Endings.{One_ending}

some_one : {X : Type 0} {x y : X} → Some x ≡ Some y → x ≡ y
some_one h = cc

stays : (app : Application) (budget n k : ℕ) (e : Ending) → (net app budget n).ending ≡ Some e → net app budget (n + k) ≡ net app budget n
stays app budget n zero e is = ap (net app budget) (add-zero n)
stays app budget n (suc k) e is =
    let same = stays app budget n k e is in
    ap (net app budget) (add-suc n k) ∙ (ap (λ x. next app budget x x.ending) same ∙ ap (next app budget (net app budget n)) is)

pub one_ending : One_ending
one_ending app budget n m a b p q =
    some_one (sym p ∙ ap (λ x. x.ending) (sym (stays app budget n m a p) ∙ ap (net app budget) (add_comm n m) ∙ stays app budget m n b q) ∙ q)
