-- Charges, and runs.
use Rattle.std.proofs.Common.{◌≡◌, ℕ, zero, suc, ◌+◌, ◌-◌, ◌<◌, Bool, true, false, List, [], ◌∷◌, Option, Some, None, refl, sym, ap, ◌∙◌, subst, arith, Result, Ok, Err, IfOk, if◌then◌else◌}
use Rattle.lava_base.specs.declared.ids.MadeSymbol.{MadeSymbol}
use Rattle.lava_base.specs.declared.ids.Ref.{Ref}
use Rattle.js_text.specs.Naming.{Naming, naming_of}
use Rattle.js_text.specs.declared.value.Value.{Value}
use Rattle.js_desc.specs.declared.ask.Ask.{Ask}
use Rattle.js_code.specs.Decoded.{term_at}
use Rattle.js_machine.specs.js_run.Acts as acts
use Rattle.js_machine.specs.js_run.Completions as halt_kind
use Rattle.js_machine.specs.js_run.Completions.{Completion}
use Rattle.js_machine.specs.js_run.Parties.{Party, Shared}
use Rattle.js_machine.specs.js_run.Runs as runs
use Rattle.js_machine.specs.js_run.Runs.{Begins, Charge, Charged, Decides, Due, Env, Gives, Job, Lacks, Nothing, Point, Short, Stopped, Stops, answered, at_steps, charge, run, run_for, settle, work}
use Rattle.js_machine.specs.Looks.{foreign_in}
use Rattle.js_machine.specs.Steps.{Keeps, asked_at, point_of, settles}
use Rattle.js_machine.specs.Stops.{IsRun, IsWorked, RunsFor, RunsOn, Stays, ask_cost, ask_stop, charge_of, cost_of, stop_at, stop_of, told_as, told_stop, with_steps, worked}
use Rattle.js_machine.specs.Views.{Around, Values, View, below, completion_of, fitting, is_handed, nexts_of, party_of}
use Rattle.js_machine.specs.declared.frame.Mode.{Mode}
use Rattle.js_machine.specs.declared.frame.Mode.TheVariants as mode
use Rattle.js_machine.specs.declared.frame.Halt.TheVariants as halt
use Rattle.js_machine.specs.declared.stop.Charge as charge_type
use Rattle.js_machine.specs.declared.stop.Charge.TheVariants as charge_kind
use Rattle.js_machine.specs.declared.stop.Pause.{Pause}
use Rattle.js_machine.specs.declared.stop.Stop.{Stop}
use Rattle.js_machine.specs.declared.stop.Stop.TheVariants as stop
use Rattle.js_machine_run.specs.Going.{GoesOnTo}
use Rattle.js_in_place.proofs.Gone.{fits, keeps_on, me_kept}
use Rattle.js_machine.proofs.Looked.{decided_here, sent_away}

-- what is left of a run
abbrev pub paused : (charges limit steps : ℕ) → Pause
paused k limit n = record { charges = k; limit = limit; steps = n; told = None }

module _ (names : Naming Ref MadeSymbol) (shared : Shared) (env : Env Ref) where
  -- what becomes of a point by what becomes of the charge
  abbrev pub paid : (k limit steps n : ℕ) → Point Ref MadeSymbol → Charge → runs.Stop Ref MadeSymbol
  paid k limit steps n x c =
      elim c [
        | Charged ↦ run_for names shared env k limit (steps + suc n) (worked names shared env x)
        | Lacks ↦ Short steps
        | Stops e ↦ Stopped e steps
      ]

  due_paid : (k limit steps n : ℕ) (j : Job Ref MadeSymbol) (p : Party Ref MadeSymbol) (ks : List (acts.Next Ref MadeSymbol)) (c : Charge) → charge p.meter steps limit (suc n) ≡ c
      → run_for names shared env (suc k) limit steps (Due n j p ks) ≡ paid k limit steps n (Due n j p ks) c
  due_paid k limit steps n j p ks c e = ap (paid k limit steps n (Due n j p ks)) e

  -- an ask that is decided here is paid
  pays_ask : (k limit steps n : ℕ) (c : Charge) (o : Option Ref) (own : Naming Ref MadeSymbol) (v : Value Ref MadeSymbol) (x : Ask Ref MadeSymbol) (p : Party Ref MadeSymbol) (ks : List (acts.Next Ref MadeSymbol))
      → foreign_in own v ≡ o → ask_cost o ≡ Some n → charge p.meter steps limit (suc n) ≡ c → run_for names shared env (suc k) limit steps (asked_at own v x p ks) ≡ paid k limit steps n (asked_at own v x p ks) c
  pays_ask k limit steps n c None own v x p ks o e d =
      let z : 0 ≡ n = cc in
      subst (λ q. run_for names shared env (suc k) limit steps q ≡ paid k limit steps n q c) (sym (decided_here own v x p ks o))
      (subst (λ y. charge p.meter steps limit (suc y) ≡ c → run_for names shared env (suc k) limit steps (Due 0 (Decides v x) p ks) ≡ paid k limit steps y (Due 0 (Decides v x) p ks) c) z
      (λ h. due_paid k limit steps 0 (Decides v x) p ks c h) d)
  pays_ask k limit steps n c (Some r) own v x p ks o e d = cc

  -- what is due is paid
  pays : (k limit steps n : ℕ) (c : Charge) (a : Around) (m : Mode) (w : View) → cost_of w m ≡ Some n → charge a.rest.meter steps limit (suc n) ≡ c
      → run_for names shared env (suc k) limit steps (point_of a w m) ≡ paid k limit steps n (point_of a w m) c
  pays k limit steps n c a (mode.Eval at) w e d =
      let z : 0 ≡ n = cc in
      subst (λ x. charge a.rest.meter steps limit (suc x) ≡ c → run_for names shared env (suc k) limit steps (point_of a w (mode.Eval at)) ≡ paid k limit steps x (point_of a w (mode.Eval at)) c) z
      (λ h. due_paid k limit steps 0 (Begins (term_at w.code at)) (party_of a w) (nexts_of (naming_of w.me) a.shared w.code w.frames w.values w.waits) c h) d
  pays k limit steps n c a mode.Ask w e d =
      pays_ask k limit steps n c (foreign_in (naming_of w.me) w.asked.target) (naming_of w.me) w.asked.target w.asked.ask (party_of a w) (nexts_of (naming_of w.me) a.shared w.code w.frames w.values w.waits) refl e d
  pays k limit steps n c a mode.Answer w e d = cc
  pays k limit steps n c a mode.Value w e d = cc
  pays k limit steps n c a mode.Throw w e d = cc
  pays k limit steps n c a mode.Return w e d = cc
  pays k limit steps n c a (mode.Break l) w e d = cc
  pays k limit steps n c a (mode.Continue l) w e d = cc
  pays k limit steps n c a (mode.End h) w e d = cc
  pays k limit steps n c a (mode.Pay i) w e d =
      let z : i ≡ n = cc in
      subst (λ x. charge a.rest.meter steps limit (suc x) ≡ c → run_for names shared env (suc k) limit steps (point_of a w (mode.Pay i)) ≡ paid k limit steps x (point_of a w (mode.Pay i)) c) z
      (λ h. due_paid k limit steps i Nothing (party_of a w) (nexts_of (naming_of w.me) a.shared w.code w.frames w.values w.waits) c h) d
  pays k limit steps n c a mode.Import w e d = cc
  pays k limit steps n c a mode.Outside w e d = cc
  pays k limit steps n c a (mode.Serve i) w e d =
      let z : i ≡ n = cc in
      subst (λ x. charge a.rest.meter steps limit (suc x) ≡ c → run_for names shared env (suc k) limit steps (point_of a w (mode.Serve i)) ≡ paid k limit steps x (point_of a w (mode.Serve i)) c) z
      (λ h. due_paid k limit steps i (Decides w.asked.target w.asked.ask) (party_of a w) (nexts_of (naming_of w.me) a.shared w.code w.frames w.values w.waits) c h) d

  -- where no frame is left, a completion is over
  over_by : (k limit n : ℕ) (a : Around) (w : View) (vs : Values) (d : Completion Ref MadeSymbol) → w.frames ≡ [] → runs.Gave d (party_of a w) n ≡ run_for names shared env k limit n (settles a w vs (Gives d (party_of a w)))
  over_by k limit n a w vs d e =
      ap (λ fs. run_for names shared env k limit n (settle (naming_of w.me) a.shared a.env (nexts_of (naming_of w.me) a.shared w.code fs vs w.waits) (Gives d (party_of a w)))) (sym e)

  -- an ask at a foreign object is sent
  stops_ask : (k limit n : ℕ) (a : Around) (o : Option Ref) (w : View) → foreign_in (naming_of w.me) w.asked.target ≡ o → ask_cost o ≡ None → stop_of a w (ask_stop o n) ≡ run_for names shared env k limit n (point_of a w mode.Ask)
  stops_ask k limit n a None w e c = cc
  stops_ask k limit n a (Some r) w e c =
      ap (run_for names shared env k limit n) (sym (sent_away (naming_of w.me) w.asked.target r w.asked.ask (party_of a w) (nexts_of (naming_of w.me) a.shared w.code w.frames w.values w.waits) e))

  -- the party goes on with the answer of the outside as these do
  abbrev pub GoesOut : (k limit n : ℕ) → Around → View → Type 0
  GoesOut k limit n a w = run_for (naming_of w.me) a.shared a.env k limit n (point_of a w mode.Outside) ≡ run_for names shared env k limit n (point_of a w mode.Outside)

  stops_there : (k limit n : ℕ) (a : Around) (m : Mode) (w : View) → cost_of w m ≡ None → (is_handed m ≡ true → w.frames ≡ []) → GoesOut k limit n a w → stop_of a w (stop_at w m (paused k limit n)) ≡ run_for names shared env k limit n (point_of a w m)
  stops_there k limit n a (mode.Eval at) w c e o = cc
  stops_there k limit n a mode.Ask w c e o = stops_ask k limit n a (foreign_in (naming_of w.me) w.asked.target) w refl c
  stops_there k limit n a mode.Answer w c e o = over_by k limit n a w w.values (completion_of w mode.Answer) (e refl)
  stops_there k limit n a mode.Value w c e o = over_by k limit n a w (below w.values) (completion_of w mode.Value) (e refl)
  stops_there k limit n a mode.Throw w c e o = over_by k limit n a w (below w.values) (completion_of w mode.Throw) (e refl)
  stops_there k limit n a mode.Return w c e o = over_by k limit n a w (below w.values) (completion_of w mode.Return) (e refl)
  stops_there k limit n a (mode.Break l) w c e o = over_by k limit n a w w.values (completion_of w (mode.Break l)) (e refl)
  stops_there k limit n a (mode.Continue l) w c e o = over_by k limit n a w w.values (completion_of w (mode.Continue l)) (e refl)
  stops_there k limit n a (mode.End h) w c e o = refl
  stops_there k limit n a (mode.Pay i) w c e o = cc
  stops_there k limit n a (mode.Serve i) w c e o = cc
  stops_there k limit n a mode.Import w c e o = refl
  stops_there k limit n a mode.Outside w c e o = o

  last_ask : (limit n : ℕ) (a : Around) (o : Option Ref) (w : View) → foreign_in (naming_of w.me) w.asked.target ≡ o → stop_of a w (ask_stop o n) ≡ run_for names shared env zero limit n (point_of a w mode.Ask)
  last_ask limit n a None w e =
      ap (run_for names shared env zero limit n) (sym (decided_here (naming_of w.me) w.asked.target w.asked.ask (party_of a w) (nexts_of (naming_of w.me) a.shared w.code w.frames w.values w.waits) e))
  last_ask limit n a (Some r) w e = stops_ask zero limit n a (Some r) w e refl

  stops_last : (limit n : ℕ) (a : Around) (m : Mode) (w : View) → (is_handed m ≡ true → w.frames ≡ []) → GoesOut zero limit n a w → stop_of a w (stop_at w m (paused zero limit n)) ≡ run_for names shared env zero limit n (point_of a w m)
  stops_last limit n a (mode.Eval at) w e o = refl
  stops_last limit n a mode.Ask w e o = last_ask limit n a (foreign_in (naming_of w.me) w.asked.target) w refl
  stops_last limit n a mode.Answer w e o = stops_there zero limit n a mode.Answer w refl e o
  stops_last limit n a mode.Value w e o = stops_there zero limit n a mode.Value w refl e o
  stops_last limit n a mode.Throw w e o = stops_there zero limit n a mode.Throw w refl e o
  stops_last limit n a mode.Return w e o = stops_there zero limit n a mode.Return w refl e o
  stops_last limit n a (mode.Break l) w e o = stops_there zero limit n a (mode.Break l) w refl e o
  stops_last limit n a (mode.Continue l) w e o = stops_there zero limit n a (mode.Continue l) w refl e o
  stops_last limit n a (mode.End h) w e o = refl
  stops_last limit n a (mode.Pay i) w e o = refl
  stops_last limit n a (mode.Serve i) w e o = refl
  stops_last limit n a mode.Import w e o = refl
  stops_last limit n a mode.Outside w e o = o

-- A RUN ON ITS WAY

-- the run from a start goes on as it does from where the machine stands, with so many charges left
pub record IsOn (meter : Option ℕ) (charges limit steps : ℕ) (start : Mode) (first : View) (left spent : ℕ) (m : Mode) (w : View) : Type 0 where
  pub goes : (a : Around) → a.rest.meter ≡ meter
      → (let b = fitting first a in run_for (naming_of first.me) b.shared b.env charges limit steps (point_of b first start) ≡ run_for (naming_of first.me) b.shared b.env left limit spent (point_of b w m))
  pub keeps : Keeps first w

-- where the machine stands after what stays, seen from the start
seen_first : (first w v : View) (m n : Mode) (a : Around) → Keeps first w → Stays m w v n → point_of (fitting first a) v n ≡ point_of (fitting first a) w m
seen_first first w v m n a k s = subst (λ b. point_of b v n ≡ point_of b w m) (fits first w a k) (s.stands a)

-- and after what was charged for
worked_first : (first w v : View) (m n : Mode) (a : Around) → Keeps first w → IsWorked m w v n → (let b = fitting first a in point_of b v n ≡ worked (naming_of first.me) b.shared b.env (point_of b w m))
worked_first first w v m n a k x =
    subst (λ i. (let b = fitting first a in point_of b v n ≡ worked (naming_of i) b.shared b.env (point_of b w m))) (me_kept first w k)
    (subst (λ (b : Around). point_of b v n ≡ worked (naming_of w.me) b.shared b.env (point_of b w m)) (fits first w a k) (x.stands a))

module _ (meter : Option ℕ) (charges limit steps : ℕ) (start : Mode) (first : View) where
  pub begins : IsOn meter charges limit steps start first charges steps start first
  begins = record { goes = λ a h. refl; keeps = (refl, (refl, (refl, (refl, refl)))) }

  pub settles_on : (left spent : ℕ) (m n : Mode) (w v : View) → IsOn meter charges limit steps start first left spent m w → Stays m w v n → IsOn meter charges limit steps start first left spent n v
  settles_on left spent m n w v on s =
      record {
        goes = λ a h. (let b = fitting first a in on.goes a h ∙ ap (run_for (naming_of first.me) b.shared b.env left limit spent) (sym (seen_first first w v m n a on.keeps s)));
        keeps = keeps_on first w v on.keeps s.keeps;
      }

  -- a charge is paid, or stops the run
  pays_on : (k left spent cost : ℕ) (c : Charge) (m : Mode) (w : View) → IsOn meter charges limit steps start first left spent m w → left ≡ suc k → cost_of w m ≡ Some cost → charge meter spent limit (suc cost) ≡ c
      → (a : Around) → a.rest.meter ≡ meter
      → (let b = fitting first a in run_for (naming_of first.me) b.shared b.env charges limit steps (point_of b first start) ≡ paid (naming_of first.me) b.shared b.env k limit spent cost (point_of b w m) c)
  pays_on k left spent cost c m w on e d p a h =
      let b = fitting first a in
      on.goes a h ∙ ap (λ n. run_for (naming_of first.me) b.shared b.env n limit spent (point_of b w m)) e
      ∙ pays (naming_of first.me) b.shared b.env k limit spent cost c b m w d (ap (λ x. charge x spent limit (suc cost)) h ∙ p)

  pub works_on : (left rest spent now cost price : ℕ) (r : charge_type.Charge) (m n : Mode) (w v : View) → IsOn meter charges limit steps start first left spent m w → cost_of w m ≡ Some cost → price ≡ cost + 1 → left ≡ suc rest → now ≡ spent + price
      → charge_of r ≡ charge meter spent limit price → r ≡ charge_kind.Charged → IsWorked m w v n → IsOn meter charges limit steps start first rest now n v
  works_on left rest spent now cost price r m n w v on d p q s g y x =
      let there : suc cost ≡ price = omega (arith, p) in
      let is : charge meter spent limit (suc cost) ≡ Charged = ap (charge meter spent limit) there ∙ sym g ∙ ap charge_of y in
      let sum : spent + suc cost ≡ now = ap (λ z. spent + z) there ∙ sym s in
      record {
        goes = λ a h. (let b = fitting first a in
            pays_on rest left spent cost Charged m w on q d is a h
            ∙ (λ z. run_for (naming_of first.me) b.shared b.env rest limit (sum z) (worked (naming_of first.me) b.shared b.env (point_of b w m)))
            ∙ ap (run_for (naming_of first.me) b.shared b.env rest limit now) (sym (worked_first first w v m n a on.keeps x)));
        keeps = keeps_on first w v on.keeps x.keeps;
      }

  -- what is paid together
  goes_there : (used rest spent : ℕ) (m n : Mode) (w new : View) → Keeps first w → GoesOnTo meter spent limit used m w new n → (a : Around) → a.rest.meter ≡ meter
      → (let b = fitting first a in run_for (naming_of first.me) b.shared b.env (used + rest) limit spent (point_of b w m) ≡ run_for (naming_of first.me) b.shared b.env rest limit (spent + used) (point_of b new n))
  goes_there used rest spent m n w new keeps g a h =
      subst (λ me. (let b = fitting first a in run_for (naming_of me) b.shared b.env (used + rest) limit spent (point_of b w m) ≡ run_for (naming_of me) b.shared b.env rest limit (spent + used) (point_of b new n))) (me_kept first w keeps)
      (subst (λ (b : Around). run_for (naming_of w.me) b.shared b.env (used + rest) limit spent (point_of b w m) ≡ run_for (naming_of w.me) b.shared b.env rest limit (spent + used) (point_of b new n)) (fits first w a keeps)
      (g.goes a rest h))

  pub goes_on_to : (left rest spent now used : ℕ) (m n : Mode) (w new : View) → IsOn meter charges limit steps start first left spent m w → GoesOnTo meter spent limit used m w new n → left ≡ used + rest → now ≡ spent + used
      → IsOn meter charges limit steps start first rest now n new
  goes_on_to left rest spent now used m n w new on g q s =
      record {
        goes = λ a h. (let b = fitting first a in
            on.goes a h
            ∙ (λ z. run_for (naming_of first.me) b.shared b.env (q z) limit spent (point_of b w m))
            ∙ goes_there used rest spent m n w new on.keeps g a h
            ∙ (λ z. run_for (naming_of first.me) b.shared b.env rest limit (sym s z) (point_of b new n)));
        keeps = keeps_on first w new on.keeps g.keeps;
      }

  pub lacks_there : (left spent cost price : ℕ) (r : charge_type.Charge) (m : Mode) (w : View) → IsOn meter charges limit steps start first left spent m w → cost_of w m ≡ Some cost → price ≡ cost + 1 → 0 < left
      → charge_of r ≡ charge meter spent limit price → r ≡ charge_kind.Lacks → RunsFor meter charges limit steps start first w (stop.Short spent)
  lacks_there left spent cost price r m w on d p l g y =
      let is : charge meter spent limit (suc cost) ≡ Lacks = (let there : suc cost ≡ price = omega (arith, p) in ap (charge meter spent limit) there) ∙ sym g ∙ ap charge_of y in
      record { stops = λ a h. sym (pays_on (left - 1) left spent cost Lacks m w on (omega (arith, l)) d is a h); keeps = on.keeps }

  pub meter_there : (left spent cost price : ℕ) (r : charge_type.Charge) (m : Mode) (w : View) → IsOn meter charges limit steps start first left spent m w → cost_of w m ≡ Some cost → price ≡ cost + 1 → 0 < left
      → charge_of r ≡ charge meter spent limit price → r ≡ charge_kind.Stops → RunsFor meter charges limit steps start first w (stop.Stopped halt.Meter spent)
  meter_there left spent cost price r m w on d p l g y =
      let is : charge meter spent limit (suc cost) ≡ Stops halt_kind.Meter = (let there : suc cost ≡ price = omega (arith, p) in ap (charge meter spent limit) there) ∙ sym g ∙ ap charge_of y in
      record { stops = λ a h. sym (pays_on (left - 1) left spent cost (Stops halt_kind.Meter) m w on (omega (arith, l)) d is a h); keeps = on.keeps }

  out_there : (k spent : ℕ) (w : View) (a : Around) → Keeps first w → (let b = fitting first a in GoesOut (naming_of first.me) b.shared b.env k limit spent b w)
  out_there k spent w a keeps = (let b = fitting first a in ap (λ i. run_for (naming_of i) b.shared b.env k limit spent (point_of b w mode.Outside)) (me_kept first w keeps))

  -- nothing is due
  pub none_there : (left spent : ℕ) (o : Option ℕ) (s : Stop) (m : Mode) (w : View) → IsOn meter charges limit steps start first left spent m w → o ≡ cost_of w m → o ≡ None → (is_handed m ≡ true → w.frames ≡ []) → s ≡ stop_at w m (paused left limit spent)
      → RunsFor meter charges limit steps start first w s
  none_there left spent o s m w on d n f e =
      record {
        stops = λ a h. (let b = fitting first a in ap (stop_of b w) e ∙ stops_there (naming_of first.me) b.shared b.env left limit spent b m w (sym d ∙ n) f (out_there left spent w a on.keeps) ∙ sym (on.goes a h));
        keeps = on.keeps;
      }

  -- no charge is left
  pub last_there : (left spent : ℕ) (s : Stop) (m : Mode) (w : View) → IsOn meter charges limit steps start first left spent m w → (is_handed m ≡ true → w.frames ≡ []) → left ≡ 0 → s ≡ stop_at w m (paused 0 limit spent) → RunsFor meter charges limit steps start first w s
  last_there left spent s m w on f l e =
      record {
        stops = λ a h. (let b = fitting first a in ap (stop_of b w) e ∙ stops_last (naming_of first.me) b.shared b.env limit spent b m w f (out_there zero spent w a on.keeps)
            ∙ ap (λ n. run_for (naming_of first.me) b.shared b.env n limit spent (point_of b w m)) (sym l) ∙ sym (on.goes a h));
        keeps = on.keeps;
      }

-- RUNS

last_steps : (n m : ℕ) (s : runs.Stop Ref MadeSymbol) → at_steps n s ≡ at_steps n (at_steps m s)
last_steps n m (runs.Sent o p ks k) = refl
last_steps n m (runs.Gave c p k) = refl
last_steps n m (Stopped e k) = refl
last_steps n m (Short k) = refl

-- the steps that are told last
told_again : (n : ℕ) (o : Option ℕ) (s : runs.Stop Ref MadeSymbol) → told_as (Some n) s ≡ at_steps n (told_as o s)
told_again n None s = refl
told_again n (Some m) s = last_steps n m s

stepped : (a : Around) (w : View) (n : ℕ) (s : Stop) → stop_of a w (with_steps n s) ≡ at_steps n (stop_of a w s)
stepped a w n (stop.Sent r k) = refl
stepped a w n (stop.Gave m k) = refl
stepped a w n (stop.Stopped h k) = refl
stepped a w n (stop.Short k) = refl
stepped a w n (stop.Imports k) = refl
stepped a w n (stop.Outside p) = told_again n p.told (run_for (naming_of w.me) a.shared a.env p.charges p.limit p.steps (point_of a w mode.Outside))

-- the steps that a stop tells
stop_told : (a : Around) (w : View) (o : Option ℕ) (s : Stop) → stop_of a w (told_stop o s) ≡ told_as o (stop_of a w s)
stop_told a w None s = refl
stop_told a w (Some n) s = stepped a w n s

-- a run by whether it is free of charge
abbrev Runs : Bool → (limit steps : ℕ) → Mode → View → Around → runs.Stop Ref MadeSymbol
Runs free limit steps m old b =
    if free then at_steps steps (run_for (naming_of old.me) b.shared b.env 1000 1000 0 (point_of b old m)) else run_for (naming_of old.me) b.shared b.env (suc (limit - steps)) limit steps (point_of b old m)

by_charge : (free : Bool) (meter : Option ℕ) (limit steps : ℕ) (m : Mode) (old new : View) (s : Stop) → Keeps old new
    → ((a : Around) → a.rest.meter ≡ meter → stop_of (fitting old a) new s ≡ Runs free limit steps m old (fitting old a)) → IsRun free meter limit steps m old new s
by_charge free meter limit steps m old new s k h =
    record { stops = λ a f e. h a e ∙ ap (λ (x : Bool). Runs x limit steps m old (fitting old a)) (sym f); keeps = k }

pub runs_free : (free : Bool) (meter : Option ℕ) (limit steps : ℕ) (m : Mode) (old new : View) (r s : Stop) → free ≡ true → RunsFor meter 1000 1000 0 m old new r → s ≡ with_steps steps r → IsRun free meter limit steps m old new s
runs_free free meter limit steps m old new r s f h e =
    subst (λ x. IsRun x meter limit steps m old new s) (sym f)
    (by_charge true meter limit steps m old new s h.keeps (λ a d. (let b = fitting old a in ap (stop_of b new) e ∙ stepped b new steps r ∙ ap (at_steps steps) (h.stops a d))))

pub runs_charged : {E : Type 0} (r : Result Stop E) (free : Bool) (meter : Option ℕ) (charges limit steps : ℕ) (m : Mode) (old new : View) → free ≡ false → charges ≡ suc (limit - steps) → IfOk r (RunsFor meter charges limit steps m old new)
    → IfOk r (IsRun free meter limit steps m old new)
runs_charged (Ok s) free meter charges limit steps m old new f c h =
    let run = subst (λ n. RunsFor meter n limit steps m old new s) c h in
    subst (λ x. IsRun x meter limit steps m old new s) (sym f) (by_charge false meter limit steps m old new s run.keeps (λ a d. run.stops a d))
runs_charged (Err x) free meter charges limit steps m old new f c h = tt

pub goes_on_after : (meter : Option ℕ) (p : Pause) (m : Mode) (old new : View) (r s : Stop) → RunsFor meter p.charges p.limit p.steps m old new r → s ≡ told_stop p.told r → RunsOn meter p m old new s
goes_on_after meter p m old new r s h e =
    record {
      stops = λ a d. (let b = fitting old a in ap (stop_of b new) e ∙ stop_told b new p.told r ∙ ap (told_as p.told) (h.stops a d));
      keeps = h.keeps;
    }
