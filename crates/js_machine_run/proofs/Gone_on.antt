-- What a run does in place, while it can be paid.
use Rattle.std.proofs.Common.{◌≡◌, ℕ, ◌+◌, ◌-◌, ◌≤◌, ◌∷◌, Option, refl, sym, ap, ◌∙◌, subst, arith, Result, Ok, Err, OnOk, IfOk}
use Rattle.lava_base.specs.declared.ids.MadeSymbol.{MadeSymbol}
use Rattle.lava_base.specs.declared.ids.Ref.{Ref}
use Rattle.js_text.specs.Naming.{naming_of}
use Rattle.js_text.specs.declared.value.Value.{Value}
use Rattle.js_in_place.specs.js_direct.Direct.{value_of}
use Rattle.js_in_place.specs.js_direct.declared.plain.Plain.{Plain}
use Rattle.js_in_place.proofs.of_js_direct.Charges.{part}
use Rattle.js_machine.specs.Steps.{point_of}
use Rattle.js_machine.specs.Stops.{Stays}
use Rattle.js_machine.specs.Views.{Around, View, fitting}
use Rattle.js_machine.specs.declared.frame.Mode.{Mode}
use Rattle.js_machine.specs.declared.frame.Mode.TheVariants as mode
use Rattle.js_machine.specs.js_run.Runs.{Charged, charge, run_for}
use Rattle.js_in_place.specs.InPlace.{RunsTo, point_at}
use Rattle.js_in_place.specs.declared.spot.Spot.{Spot}
use Rattle.js_in_place.specs.declared.spot.Spot.TheVariants as spot
use Rattle.js_in_place.specs.declared.spot.Stand.{Stand}
use Rattle.js_in_place.proofs.Gone.{fits, keeps_on, me_kept}
use Rattle.js_machine_run.specs.Going.{GoesOnTo, IsNext}

-- WHAT IS NEXT

pub form_next : (p : Spot) (at : ℕ) (old : View) → p ≡ spot.Form at → IsNext p old old (mode.Eval at)
form_next p at old e = subst (λ (q : Spot). IsNext q old old (mode.Eval at)) (sym e) (record { stands = λ a. refl; keeps = (refl, (refl, (refl, (refl, refl)))) })

pub other_next : (p : Spot) (m : Mode) (old : View) → p ≡ spot.Other m → IsNext p old old m
other_next p m old e = subst (λ (q : Spot). IsNext q old old m) (sym e) (record { stands = λ a. refl; keeps = (refl, (refl, (refl, (refl, refl)))) })

given_next : (v : Plain) (x : Value Ref MadeSymbol) (old new : View) (m : Mode) → x ≡ value_of v → m ≡ mode.Value → new ≡ record old { values = x ∷ old.values } → IsNext (spot.Given v) old new m
given_next v x old new m s d e =
    subst (λ k. IsNext (spot.Given v) old new k) (sym d)
    (subst (λ w. IsNext (spot.Given v) old w mode.Value) (sym (e ∙ ap (λ y. record old { values = y ∷ old.values }) s)) (record { stands = λ a. refl; keeps = (refl, (refl, (refl, (refl, refl)))) }))

pub value_next : {E : Type 0} (r : Result Mode E) (p : Spot) (v : Plain) (x : Value Ref MadeSymbol) (old new : View) → p ≡ spot.Given v → x ≡ value_of v → IfOk r (λ m. m ≡ mode.Value) → OnOk r (new ≡ record old { values = x ∷ old.values })
    → IfOk r (IsNext p old new)
value_next (Ok m) p v x old new i s d e = subst (λ (q : Spot). IsNext q old new m) (sym i) (given_next v x old new m s d e)
value_next (Err x') p v x old new i s d e = tt

-- WHAT IS PAID

-- nothing
pub nothing_paid : (meter : Option ℕ) (spent limit : ℕ) (m : Mode) (old : View) → GoesOnTo meter spent limit 0 m old old m
nothing_paid meter spent limit m old =
    record {
      goes = λ a charges h.
          (let b = fitting old a in
          let count : 0 + charges ≡ charges = omega arith in
          let sum : spent ≡ spent + 0 = omega arith in
          λ j. run_for (naming_of old.me) b.shared b.env (count j) limit (sum j) (point_of b old m));
      keeps = (refl, (refl, (refl, (refl, refl))));
    }

-- what a run in place takes
pub taken_in_place : (meter : Option ℕ) (spent limit at most used : ℕ) (s : Stand) (old mid new : View) (m : Mode) → charge meter spent limit most ≡ Charged → RunsTo (spot.Form at) most old mid s → used ≡ most - s.left → IsNext s.spot mid new m
    → GoesOnTo meter spent limit used (mode.Eval at) old new m
taken_in_place meter spent limit at most used s old mid new m c run e next =
    subst (λ k. GoesOnTo meter spent limit k (mode.Eval at) old new m) (sym e)
    (record {
      goes = λ a charges h.
          (let b = fitting old a in
          let k = most - s.left in
          let paid : charge a.rest.meter spent limit k ≡ Charged = ap (λ x. charge x spent limit k) h ∙ part meter spent spent limit k most (omega (arith, run.within)) c in
          run.goes.goes a charges limit spent paid ∙ ap (run_for (naming_of old.me) b.shared b.env charges limit (spent + k)) (sym (next.stands b)));
      keeps = keeps_on old mid new run.goes.keeps next.keeps;
    })

-- completions are handed on before
pub settled_first : (meter : Option ℕ) (spent limit used : ℕ) (m n k : Mode) (old mid new : View) → Stays m old mid n → GoesOnTo meter spent limit used n mid new k → GoesOnTo meter spent limit used m old new k
settled_first meter spent limit used m n k old mid new s g =
    record {
      goes = λ a charges h.
          (let b = fitting old a in
          ap (run_for (naming_of old.me) b.shared b.env (used + charges) limit spent) (sym (s.stands a))
          ∙ subst (λ me. (let c = fitting old a in run_for (naming_of me) c.shared c.env (used + charges) limit spent (point_of c mid n) ≡ run_for (naming_of me) c.shared c.env charges limit (spent + used) (point_of c new k))) (me_kept old mid s.keeps)
          (subst (λ (c : Around). run_for (naming_of mid.me) c.shared c.env (used + charges) limit spent (point_of c mid n) ≡ run_for (naming_of mid.me) c.shared c.env charges limit (spent + used) (point_of c new k)) (fits old mid a s.keeps)
          (g.goes a charges h)));
      keeps = keeps_on old mid new s.keeps g.keeps;
    }

-- and after
pub settled_last : (meter : Option ℕ) (spent limit used : ℕ) (m n k : Mode) (old mid new : View) → GoesOnTo meter spent limit used m old mid n → Stays n mid new k → GoesOnTo meter spent limit used m old new k
settled_last meter spent limit used m n k old mid new g s =
    record {
      goes = λ a charges h.
          (let b = fitting old a in
          g.goes a charges h
          ∙ ap (run_for (naming_of old.me) b.shared b.env charges limit (spent + used)) (sym (subst (λ (c : Around). point_of c new k ≡ point_of c mid n) (fits old mid a g.keeps) (s.stands a))));
      keeps = keeps_on old mid new g.keeps s.keeps;
    }
