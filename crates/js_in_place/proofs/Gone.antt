-- How runs in place are put together.
use Rattle.std.proofs.Common.{◌≡◌, ℕ, ◌+◌, ◌-◌, ◌≤◌, ◌∷◌, drop, Option, Some, refl, sym, ap, ◌∙◌, subst, arith, Result, Ok, Err, IfOk}
use Rattle.lava_base.specs.Ids.{same_ref}
use Rattle.js_text.specs.Naming.{naming_of}
use Rattle.js_store.specs.Foreign.{marks_of}
use Rattle.js_direct.specs.Direct.{GivesAtOnce, IsDirect, value_of}
use Rattle.js_direct.specs.declared.direct.Direct.{Direct}
use Rattle.js_direct.specs.declared.plain.Plain.{Plain}
use Rattle.js_direct.proofs.Charges.{part}
use Rattle.js_machine.specs.Steps.{Keeps, deed_with, under}
use Rattle.js_machine.specs.Views.{Around, View, fitting, newest, nexts_of, party_of, templates_at}
use Rattle.js_machine.specs.declared.frame.Frame.{Frame}
use Rattle.js_machine.specs.js_run.Requests.{is_link}
use Rattle.js_machine.specs.js_run.Runs.{Charged, charge, run_for}
use Rattle.js_in_place.specs.InPlace.{GoesTo, LedTo, RunsTo, sight_of, point_at}
use Rattle.js_in_place.specs.declared.spot.Spot.{Spot}
use Rattle.js_in_place.specs.declared.spot.Spot.TheVariants as spot
use Rattle.js_in_place.specs.declared.spot.Stand.{Stand}
use Rattle.js_in_place.proofs.Newest.{first_back}

-- WHAT STAYS

pub fits : (old new : View) (a : Around) → Keeps old new → fitting new a ≡ fitting old a
fits old new a (m, (d, (c, (t, k)))) = λ j. record a { shared = record a.shared { objects = c j; templates = templates_at (d j) (t j) }; env = record a.env { marks = λ r. marks_of same_ref r (k j).0; allows = λ l. is_link l (k j).1 } }

pub me_kept : (old new : View) → Keeps old new → new.me ≡ old.me
me_kept old new (m, k) = m

pub keeps_on : (old mid new : View) → Keeps old mid → Keeps mid new → Keeps old new
keeps_on old mid new (m, (d, (c, (t, k)))) (m', (d', (c', (t', k')))) = (m' ∙ m, (d' ∙ d, (c' ∙ c, (t' ∙ t, k' ∙ k))))

-- RUNS

-- a run, seen from an earlier machine
seen_earlier : (j : ℕ) (q r : Spot) (old mid new : View) → Keeps old mid → GoesTo j q mid new r → (a : Around) (charges limit steps : ℕ) → charge a.rest.meter steps limit j ≡ Charged
    → (let b = fitting old a in run_for (naming_of old.me) b.shared b.env (j + charges) limit steps (point_at b mid q) ≡ run_for (naming_of old.me) b.shared b.env charges limit (steps + j) (point_at b new r))
seen_earlier j q r old mid new k h a charges limit steps c =
    subst (λ me. (let b = fitting old a in run_for (naming_of me) b.shared b.env (j + charges) limit steps (point_at b mid q) ≡ run_for (naming_of me) b.shared b.env charges limit (steps + j) (point_at b new r))) (me_kept old mid k)
    (subst (λ (b : Around). run_for (naming_of mid.me) b.shared b.env (j + charges) limit steps (point_at b mid q) ≡ run_for (naming_of mid.me) b.shared b.env charges limit (steps + j) (point_at b new r)) (fits old mid a k)
    (h.goes a charges limit steps c))

-- one after the other
pub further : (i j k : ℕ) (p q r : Spot) (old mid new : View) → GoesTo i p old mid q → GoesTo j q mid new r → k ≡ i + j → GoesTo k p old new r
further i j k p q r old mid new first second e =
    record {
      goes = λ a charges limit steps c.
          (let b = fitting old a in
          let names = naming_of old.me in
          let first_paid : charge a.rest.meter steps limit i ≡ Charged = part a.rest.meter steps steps limit i k (omega (arith, e)) c in
          let rest_paid : charge a.rest.meter (steps + i) limit j ≡ Charged = part a.rest.meter steps (steps + i) limit j k (omega (arith, e)) c in
          let count : k + charges ≡ i + (j + charges) = omega (arith, e) in
          let sum : steps + i + j ≡ steps + k = omega (arith, e) in
          ap (λ m. run_for names b.shared b.env m limit steps (point_at b old p)) count
          ∙ first.goes a (j + charges) limit steps first_paid
          ∙ seen_earlier j q r old mid new first.keeps second a charges limit (steps + i) rest_paid
          ∙ ap (λ n. run_for names b.shared b.env charges limit n (point_at b new r)) sum);
      keeps = keeps_on old mid new first.keeps second.keeps;
    }

pub runs_on : (p : Spot) (left : ℕ) (old mid new : View) (s t : Stand) → RunsTo p left old mid s → RunsTo s.spot s.left mid new t → RunsTo p left old new t
runs_on p left old mid new s t h g =
    record {
      within = omega (arith, h.within, g.within);
      goes = further (left - s.left) (s.left - t.left) (left - t.left) p s.spot t.spot old mid new h.goes g.goes (omega (arith, h.within, g.within));
    }

-- nothing is charged, and the run stands where it stood
stays_there : (p q : Spot) (old new : View) → Keeps old new → ((a : Around) → let b = fitting old a in point_at b new q ≡ point_at b old p) → GoesTo 0 p old new q
stays_there p q old new k e =
    record {
      goes = λ a charges limit steps c.
          (let b = fitting old a in
          let count : 0 + charges ≡ charges = omega arith in
          let sum : steps ≡ steps + 0 = omega arith in
          λ j. run_for (naming_of old.me) b.shared b.env (count j) limit (sum j) (sym (e a) j));
      keeps = k;
    }

pub still : (p : Spot) (left : ℕ) (old : View) (s : Stand) → s.spot ≡ p → s.left ≡ left → RunsTo p left old old s
still p left old s e d =
    let none : 0 ≡ left - s.left = omega (arith, d) in
    record {
      within = omega (arith, d);
      goes = subst (λ (q : Spot). GoesTo (left - s.left) p old old q) (sym e) (subst (λ k. GoesTo k p old old p) none (stays_there p p old old (refl, (refl, (refl, (refl, refl)))) (λ a. refl)));
    }

-- A FORM BEGINS

-- a form gives a value at once
directly : (at k : ℕ) (v : Plain) (w : View) → GivesAtOnce (sight_of w) at (value_of v) k → GoesTo k (spot.Form at) w w (spot.Given v)
directly at k v w h =
    record {
      goes = λ a charges limit steps c. (let b = fitting w a in h.gives b.shared b.env (party_of b w) (nexts_of (naming_of w.me) b.shared w.code w.frames w.values w.waits) charges limit steps refl refl refl c);
      keeps = (refl, (refl, (refl, (refl, refl))));
    }

pub given_at_once : (at left : ℕ) (d : Direct) (w : View) (s : Stand) → IsDirect (sight_of w) at d → d.steps ≤ left → s.spot ≡ spot.Given d.value → s.left ≡ left - d.steps → RunsTo (spot.Form at) left w w s
given_at_once at left d w s h l e f =
    let price : d.steps ≡ left - s.left = omega (arith, l, f) in
    record {
      within = omega (arith, f);
      goes = subst (λ (q : Spot). GoesTo (left - s.left) (spot.Form at) w w q) (sym e) (subst (λ k. GoesTo k (spot.Form at) w w (spot.Given d.value)) price (directly at d.steps d.value w h));
    }

-- A VALUE COMES TO A FRAME

-- what the frame does leads there
comes : (f : Frame) (v : Plain) (left : ℕ) (low new : View) (s : Stand) → LedTo (deed_with f (value_of v) low) left (under f low) new s → RunsTo (spot.Given v) left (record low { frames = f ∷ low.frames }) new s
comes f v left low new s h =
    let none : 0 ≡ left - s.left = omega (arith, h.stays) in
    record {
      within = omega (arith, h.stays);
      goes = subst (λ k. GoesTo k (spot.Given v) (record low { frames = f ∷ low.frames }) new s.spot) none (stays_there (spot.Given v) s.spot (record low { frames = f ∷ low.frames }) new h.keeps (λ a. h.leads a));
    }

pub comes_to : (o : Option Frame) (f g : Frame) (v : Plain) (left : ℕ) (old low new : View) (s : Stand) → o ≡ newest old.frames → o ≡ Some f → f ≡ g → low ≡ record old { frames = drop 1 old.frames }
    → LedTo (deed_with g (value_of v) low) left (under g low) new s → RunsTo (spot.Given v) left old new s
comes_to o f g v left old low new s e i t d h =
    let there : newest old.frames ≡ Some g = sym e ∙ i ∙ ap Some t in
    let back : record low { frames = g ∷ low.frames } ≡ old = (λ j. record (d j) { frames = g ∷ (d j).frames }) ∙ ap (λ fs. record old { frames = fs }) (sym (first_back g old.frames there)) in
    subst (λ w. RunsTo (spot.Given v) left w new s) back (comes g v left low new s h)

pub comes_in : {E : Type 0} (r : Result Stand E) (o : Option Frame) (f g : Frame) (v : Plain) (left : ℕ) (old low new : View) → o ≡ newest old.frames → o ≡ Some f → f ≡ g → low ≡ record old { frames = drop 1 old.frames }
    → IfOk r (LedTo (deed_with g (value_of v) low) left (under g low) new) → IfOk r (RunsTo (spot.Given v) left old new)
comes_in (Ok s) o f g v left old low new e i t d h = comes_to o f g v left old low new s e i t d h
comes_in (Err x) o f g v left old low new e i t d h = tt
