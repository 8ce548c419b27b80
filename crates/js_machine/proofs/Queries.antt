-- What is asked and what is answered.
use Rattle.std.proofs.Common.{◌≡◌, ◌+◌, suc, Bool, true, false, ◌∷◌, nat_lt, refl, sym, ap, ◌∙◌, subst, Result, Ok, Err, IfOk, arith, if◌then◌else◌}
use Rattle.lava_base.specs.declared.ids.MadeSymbol.{MadeSymbol}
use Rattle.lava_base.specs.declared.ids.Ref.{Ref}
use Rattle.js_text.specs.Naming.{Origin, Own, Common, Foreign, naming_of}
use Rattle.js_text.specs.declared.value.Value.{Value}
use Rattle.js_text.specs.declared.value.Value.TheVariants as value
use Rattle.js_desc.specs.declared.ask.Ask.{Ask}
use Rattle.js_operation.specs.js_run.Acts.{Closes, End, Give, ask_there, asks}
use Rattle.js_operation.specs.js_run.Asking.{waits_for}
use Rattle.js_operation.specs.js_run.Completions as halt_kind
use Rattle.js_operation.specs.js_run.Completions.{Replied}
use Rattle.js_operation.specs.js_run.Parties.{deeper}
use Rattle.js_operation.specs.js_run.Runs.{answered, sent_there, settle}
use Rattle.js_operation.specs.js_run.declared.TheConstants.{MAX_DEPTH}
use Rattle.js_machine.specs.Steps.{LeadsTo, WaitsFor, WaitsForValue, asked_there, over}
use Rattle.js_machine.specs.Views.{Around, View, fitting, next_of_wait, nexts_of, party_of, reply_of_answer, rest_of, waits_under}
use Rattle.js_machine.specs.declared.asked.Answer.{Answer}
use Rattle.js_machine.specs.declared.asked.Wait.{Wait}
use Rattle.js_machine.specs.declared.frame.Frame.{Frame}
use Rattle.js_machine.specs.declared.frame.Frame.TheVariants as frame
use Rattle.js_machine.specs.declared.frame.Mode.{Mode}
use Rattle.js_machine.specs.declared.frame.Mode.TheVariants as mode
use Rattle.js_machine.proofs.Leads.{led}

-- where the machine stands with an ask, by the origin of what is asked
abbrev Stands : Origin → Frame → Ref → Ask Ref MadeSymbol → View → Around → Type 0
Stands o f r x w a =
    asked_there o r x (party_of a w) (over f w a ∷ nexts_of (naming_of w.me) a.shared w.code w.frames (rest_of f w.values) (waits_under f w.waits))
    ≡ settle (naming_of w.me) a.shared a.env (nexts_of (naming_of w.me) a.shared w.code w.frames (rest_of f w.values) (waits_under f w.waits))
    (answered (naming_of w.me) a.env (ask_there o r x (party_of a w) (over f w a)))

by_origin : (o : Origin) (f : Frame) (r : Ref) (x : Ask Ref MadeSymbol) (w : View) (a : Around) → (naming_of w.me).origin r ≡ o → Stands o f r x w a
by_origin (Own i) f r x w a e = refl
by_origin (Common c) f r x w a e = refl
by_origin Foreign f r x w a e =
    ap (λ o. settle (naming_of w.me) a.shared a.env (nexts_of (naming_of w.me) a.shared w.code w.frames (rest_of f w.values) (waits_under f w.waits)) (sent_there o r x (party_of a w) (over f w a))) (sym e)

asked_so : (f : Frame) (v : Value Ref MadeSymbol) (x : Ask Ref MadeSymbol) (old : View) → WaitsForValue f v x old (record old { frames = f ∷ old.frames; asked = record { target = v; ask = x } }) mode.Ask
asked_so f value.Undefined x old = record { leads = λ a. refl; keeps = (refl, (refl, (refl, (refl, refl)))) }
asked_so f value.Null x old = record { leads = λ a. refl; keeps = (refl, (refl, (refl, (refl, refl)))) }
asked_so f (value.Bool b) x old = record { leads = λ a. refl; keeps = (refl, (refl, (refl, (refl, refl)))) }
asked_so f (value.Int n) x old = record { leads = λ a. refl; keeps = (refl, (refl, (refl, (refl, refl)))) }
asked_so f (value.Text t) x old = record { leads = λ a. refl; keeps = (refl, (refl, (refl, (refl, refl)))) }
asked_so f (value.Symbol s) x old = record { leads = λ a. refl; keeps = (refl, (refl, (refl, (refl, refl)))) }
asked_so f (value.Ref r) x old = record { leads = λ a. by_origin ((naming_of old.me).origin r) f r x old (fitting old a) refl; keeps = (refl, (refl, (refl, (refl, refl)))) }

pub asked_value : (f : Frame) (v : Value Ref MadeSymbol) (x : Ask Ref MadeSymbol) (old new : View) (m : Mode)
    → new ≡ record old { frames = f ∷ old.frames; asked = record { target = v; ask = x } } → m ≡ mode.Ask → WaitsForValue f v x old new m
asked_value f v x old new m e d = led _ _ (record old { frames = f ∷ old.frames; asked = record { target = v; ask = x } }) new mode.Ask m (asked_so f v x old) e d

pub answers : (r : Answer) (old new : View) → new ≡ record old { answer = r } → LeadsTo (λ a. Give (Replied (reply_of_answer r)) (party_of a old)) old new mode.Answer
answers r old new e = led _ old (record old { answer = r }) new mode.Answer mode.Answer (record { leads = λ a. refl; keeps = (refl, (refl, (refl, (refl, refl)))) }) e refl

-- whether a party is too deep
abbrev Opened : Bool → Ref → Ask Ref MadeSymbol → Wait → View → View → Mode → Type 0
Opened b o x k old new m = LeadsTo (λ a. if b then asks (naming_of old.me) o x (deeper (party_of a old)) (Closes (next_of_wait (naming_of old.me) a.shared old.code k)) else End halt_kind.Depth) old new m

pub too_deep : {E : Type 0} (r : Result Mode E) (b : Bool) (o : Ref) (x : Ask Ref MadeSymbol) (k : Wait) (old mid new : View) → b ≡ nat_lt old.depth MAX_DEPTH → b ≡ false → mid ≡ old
    → IfOk r (LeadsTo (λ a. End halt_kind.Depth) mid new) → IfOk r (LeadsTo (λ a. waits_for (naming_of old.me) o x (party_of a old) (next_of_wait (naming_of old.me) a.shared old.code k)) old new)
too_deep r b o x k old mid new e f s h =
    let l = subst (λ w. IfOk r (LeadsTo (λ a. End halt_kind.Depth) w new)) s h in
    subst (λ c. IfOk r (Opened c o x k old new)) (sym f ∙ e) l

opened_so : (o : Ref) (x : Ask Ref MadeSymbol) (k : Wait) (old new : View) (m : Mode) → WaitsFor frame.Decides o x (record old { depth = suc old.depth; waits = k ∷ old.waits }) new m → Opened true o x k old new m
opened_so o x k old new m h = record { leads = λ a. h.leads a; keeps = h.keeps }

pub waited_for : {E : Type 0} (r : Result Mode E) (b : Bool) (o : Ref) (x : Ask Ref MadeSymbol) (k : Wait) (old mid more new : View) → b ≡ nat_lt old.depth MAX_DEPTH → b ≡ true → mid ≡ record old { depth = old.depth + 1 }
    → more ≡ record mid { waits = k ∷ mid.waits } → IfOk r (WaitsFor frame.Decides o x more new) → IfOk r (LeadsTo (λ a. waits_for (naming_of old.me) o x (party_of a old) (next_of_wait (naming_of old.me) a.shared old.code k)) old new)
waited_for (Ok m) b o x k old mid more new e f s t h =
    let one : old.depth + 1 ≡ suc old.depth = omega arith in
    let w = subst (λ (y : View). WaitsFor frame.Decides o x y new m) (t ∙ ap (λ (y : View). record y { waits = k ∷ y.waits }) s ∙ ap (λ n. record old { depth = n; waits = k ∷ old.waits }) one) h in
    subst (λ c. Opened c o x k old new m) (sym f ∙ e) (opened_so o x k old new m w)
waited_for (Err y) b o x k old mid more new e f s t h = tt
