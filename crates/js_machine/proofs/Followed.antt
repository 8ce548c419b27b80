-- What follows a decision.
use Rattle.std.proofs.Common.{◌≡◌, List, ◌-◌, Option, Some, None, sym, ap, ◌∙◌, subst, Result, Ok, Err, IfOk}
use Rattle.lava_base.specs.declared.ids.MadeSymbol.{MadeSymbol}
use Rattle.lava_base.specs.declared.ids.Ref.{Ref}
use Rattle.js_text.specs.Naming.{naming_of}
use Rattle.js_text.specs.declared.value.Value.{Value}
use Rattle.js_text.specs.declared.value.Value.TheVariants as value
use Rattle.js_desc.specs.declared.ask.Ask.{Ask}
use Rattle.js_desc.specs.declared.decision.BodyId.{BodyId}
use Rattle.js_desc.specs.declared.decision.Decision.TheVariants as decision
use Rattle.js_desc.specs.declared.reply.Reply.{Reply}
use Rattle.js_desc.specs.declared.reply.Reply.TheVariants as reply
use Rattle.js_operation.specs.js_exotic.Decided.{decided, exotic_resumed}
use Rattle.js_operation.specs.js_exotic.Verdicts.{ExoticDecision, as_exotic}
use Rattle.js_operation.specs.js_exotic.declared.next.Next.{Next as ExoticNext}
use Rattle.js_ordinary.specs.Verdicts.{OrdinaryDecision}
use Rattle.js_operation.specs.js_run.Decisions.{decides, decides_object, follows, follows_once, follows_with, goes_on, primitive_decided, with_objects}
use Rattle.js_operation.specs.js_exotic.declared.next.Next.TheVariants as exotic
use Rattle.js_ordinary.specs.declared.next.Next.{Next as OrdinaryNext}
use Rattle.js_store.specs.Objects.{Object}
use Rattle.js_operation.specs.js_run.Completions.{Replied}
use Rattle.js_operation.specs.js_run.Going.{go_on}
use Rattle.js_machine.specs.Decisions.{object_of_value}
use Rattle.js_machine.specs.Steps.{IsDecided, IsDelivered, LeadsTo, Wakes, over, under, without_top}
use Rattle.js_machine.specs.Views.{View, first_wait, party_of, reply_of_answer, top, waits_under}
use Rattle.js_machine.specs.declared.asked.Answer.{Answer}
use Rattle.js_machine.specs.declared.asked.Wait.{Wait}
use Rattle.js_machine.specs.declared.frame.Frame.TheVariants as frame
use Rattle.js_machine.specs.declared.frame.Mode.TheVariants as mode
use Rattle.js_machine.specs.declared.frame.Mode.{Mode}

-- a decision, and the objects after it
abbrev pub Says : ExoticDecision Ref MadeSymbol → List (Object Ref MadeSymbol) → ExoticDecision Ref MadeSymbol × List (Object Ref MadeSymbol) → Type 0
Says d os q = (d, os) ≡ q

-- what the table of decisions says is followed
pub decided_so : {E : Type 0} (r : Result Mode E) (me : Ref) (d : ExoticDecision Ref MadeSymbol) (old mid new : View) → Says d mid.objects (decided (naming_of old.me) old.objects old.common me old.asked.ask) → mid ≡ record old { objects = mid.objects }
    → IfOk r (LeadsTo (λ a. follows (naming_of mid.me) a.shared me d (party_of a mid)) mid new)
    → IfOk r (LeadsTo (λ a. follows_with (naming_of old.me) a.shared me (decided (naming_of old.me) old.objects a.shared.objects me old.asked.ask) (party_of a old)) old new)
decided_so (Ok m) me d old mid new e s h =
    let w = subst (λ (x : View). LeadsTo (λ a. follows (naming_of x.me) a.shared me d (party_of a x)) x new m) s h in
    let pair : LeadsTo (λ a. follows_with (naming_of old.me) a.shared me (d, mid.objects) (party_of a old)) old new m = record { leads = λ a. w.leads a; keeps = w.keeps } in
    let q = subst (λ q. LeadsTo (λ a. follows_with (naming_of old.me) a.shared me q (party_of a old)) old new m) e pair in
    record { leads = λ a. q.leads a; keeps = q.keeps }
decided_so (Err x) me d old mid new e s h = tt

pub resumed_so : {E : Type 0} (r : Result Mode E) (me : Ref) (n : ExoticNext Ref MadeSymbol) (y : Reply Ref MadeSymbol) (d : ExoticDecision Ref MadeSymbol) (old mid new : View)
    → Says d mid.objects (exotic_resumed (naming_of old.me) old.objects old.common n y) → mid ≡ record old { objects = mid.objects }
    → IfOk r (LeadsTo (λ a. follows_once (naming_of mid.me) a.shared me d (party_of a mid)) mid new) → IfOk r (LeadsTo (λ a. goes_on (naming_of old.me) a.shared me n y (party_of a old)) old new)
resumed_so (Ok m) me n y d old mid new e s h =
    let w = subst (λ (x : View). LeadsTo (λ a. follows_once (naming_of x.me) a.shared me d (party_of a x)) x new m) s h in
    let pair : LeadsTo (λ a. with_objects (naming_of old.me) a.shared me (d, mid.objects) (party_of a old)) old new m = record { leads = λ a. w.leads a; keeps = w.keeps } in
    let q = subst (λ q. LeadsTo (λ a. with_objects (naming_of old.me) a.shared me q (party_of a old)) old new m) e pair in
    record { leads = λ a. q.leads a; keeps = q.keeps }
resumed_so (Err x) me n y d old mid new e s h = tt

-- WHAT IS ASKED

pub is_object : (v : Value Ref MadeSymbol) (me : Ref) → object_of_value v ≡ Some me → v ≡ value.Ref me
is_object (value.Ref r) me e = cc
is_object v me e = cc

pub object_decides : {E : Type 0} (r : Result Mode E) (o : Option Ref) (me : Ref) (old new : View) → o ≡ object_of_value old.asked.target → o ≡ Some me
    → IfOk r (LeadsTo (λ a. decides_object (naming_of old.me) a.shared me old.asked.ask (party_of a old)) old new) → IfOk r (IsDecided old new)
object_decides (Ok m) o me old new e f h =
    let start : LeadsTo (λ a. decides (naming_of old.me) a.shared (value.Ref me) old.asked.ask (party_of a old)) old new m = record { leads = λ a. h.leads a; keeps = h.keeps } in
    record { leads = subst (λ v. LeadsTo (λ a. decides (naming_of old.me) a.shared v old.asked.ask (party_of a old)) old new m) (sym (is_object old.asked.target me (sym e ∙ f))) start }
object_decides (Err x) o me old new e f h = tt

by_itself : (v : Value Ref MadeSymbol) (x : Ask Ref MadeSymbol) (m : Mode) (old new : View) → object_of_value v ≡ None
    → LeadsTo (λ a. follows_once (naming_of old.me) a.shared ((naming_of old.me).own 0) (as_exotic (primitive_decided (naming_of old.me) v x)) (party_of a old)) old new m
    → LeadsTo (λ a. decides (naming_of old.me) a.shared v x (party_of a old)) old new m
by_itself (value.Ref r) x m old new e h = cc
by_itself v x m old new e h = h

pub value_decides : {E : Type 0} (r : Result Mode E) (o : Option Ref) (d : OrdinaryDecision Ref MadeSymbol) (old new : View) → o ≡ object_of_value old.asked.target → o ≡ None
    → d ≡ primitive_decided (naming_of old.me) old.asked.target old.asked.ask
    → IfOk r (LeadsTo (λ a. follows_once (naming_of old.me) a.shared ((naming_of old.me).own 0) (as_exotic d) (party_of a old)) old new) → IfOk r (IsDecided old new)
value_decides (Ok m) o d old new e f g h =
    let w = subst (λ x. LeadsTo (λ a. follows_once (naming_of old.me) a.shared ((naming_of old.me).own 0) (as_exotic x) (party_of a old)) old new m) g h in
    record { leads = by_itself old.asked.target old.asked.ask m old new (sym e ∙ f) w }
value_decides (Err x) o d old new e f g h = tt

pub primitive_asks : {E : Type 0} (r : Result Mode E) (o : Ref) (target : Option Ref) (x : Ask Ref MadeSymbol) (n : OrdinaryNext Ref MadeSymbol) (d : OrdinaryDecision Ref MadeSymbol) (old new : View) → o ≡ (naming_of old.me).own 0 → d ≡ decision.Ask target x n
    → IfOk r (LeadsTo (λ a. follows_once (naming_of old.me) a.shared o (decision.Ask target x (exotic.Ordinary n)) (party_of a old)) old new)
    → IfOk r (LeadsTo (λ a. follows_once (naming_of old.me) a.shared ((naming_of old.me).own 0) (as_exotic d) (party_of a old)) old new)
primitive_asks r o target x n d old new e f h =
    let w = subst (λ me. IfOk r (LeadsTo (λ a. follows_once (naming_of old.me) a.shared me (decision.Ask target x (exotic.Ordinary n)) (party_of a old)) old new)) e h in
    subst (λ y. IfOk r (LeadsTo (λ a. follows_once (naming_of old.me) a.shared ((naming_of old.me).own 0) (as_exotic y) (party_of a old)) old new)) (sym f) w

pub primitive_runs : {E : Type 0} (r : Result Mode E) (o : Ref) (body : BodyId) (this : Value Ref MadeSymbol) (args : List (Value Ref MadeSymbol)) (target : Option Ref) (d : OrdinaryDecision Ref MadeSymbol) (old new : View) → o ≡ (naming_of old.me).own 0 → d ≡ decision.Run body this args target
    → IfOk r (LeadsTo (λ a. follows_once (naming_of old.me) a.shared o (decision.Run body this args target) (party_of a old)) old new)
    → IfOk r (LeadsTo (λ a. follows_once (naming_of old.me) a.shared ((naming_of old.me).own 0) (as_exotic d) (party_of a old)) old new)
primitive_runs r o body this args target d old new e f h =
    let w = subst (λ me. IfOk r (LeadsTo (λ a. follows_once (naming_of old.me) a.shared me (decision.Run body this args target) (party_of a old)) old new)) e h in
    subst (λ y. IfOk r (LeadsTo (λ a. follows_once (naming_of old.me) a.shared ((naming_of old.me).own 0) (as_exotic y) (party_of a old)) old new)) (sym f) w

-- WHAT WAITS

pub woken : {E : Type 0} (r : Result Mode E) (w : Wait) (y : Reply Ref MadeSymbol) (old mid more new : View) → w ≡ first_wait old.waits
    → mid ≡ record old { waits = waits_under frame.Decides old.waits } → more ≡ record mid { depth = mid.depth - 1 } → IfOk r (Wakes w y more new)
    → IfOk r (LeadsTo (λ a. go_on (naming_of old.me) a.shared (over frame.Decides old a) (Replied y) (party_of a old)) (under frame.Decides old) new)
woken (Ok m) w y old mid more new e s t h =
    let g = subst (λ (x : View). Wakes w y x new m) (t ∙ ap (λ (x : View). record x { depth = x.depth - 1 }) s) h in
    let g = subst (λ k. Wakes k y (record old { waits = waits_under frame.Decides old.waits; depth = old.depth - 1 }) new m) e g in
    record { leads = λ a. g.leads a; keeps = g.keeps }
woken (Err x) w y old mid more new e s t h = tt

pub woken_answered : {E : Type 0} (r : Result Mode E) (y : Reply Ref MadeSymbol) (old mid new : View) (x : Answer) → y ≡ reply_of_answer old.answer → mid ≡ record old { answer = x }
    → IfOk r (LeadsTo (λ a. go_on (naming_of mid.me) a.shared (over frame.Decides mid a) (Replied y) (party_of a mid)) (under frame.Decides mid) new) → IfOk r (IsDelivered frame.Decides mode.Answer old new)
woken_answered (Ok m) y old mid new x e s h =
    let g = subst (λ (w : View). LeadsTo (λ a. go_on (naming_of w.me) a.shared (over frame.Decides w a) (Replied y) (party_of a w)) (under frame.Decides w) new m) s h in
    let g = subst (λ z. LeadsTo (λ a. go_on (naming_of old.me) a.shared (over frame.Decides (record old { answer = x }) a) (Replied z) (party_of a (record old { answer = x }))) (under frame.Decides (record old { answer = x })) new m) e g in
    record { stands = λ a. g.leads a; keeps = g.keeps }
woken_answered (Err z) y old mid new x e s h = tt

pub woken_thrown : {E : Type 0} (r : Result Mode E) (v : Value Ref MadeSymbol) (old mid new : View) → v ≡ top old.values → mid ≡ without_top old
    → IfOk r (LeadsTo (λ a. go_on (naming_of mid.me) a.shared (over frame.Decides mid a) (Replied (reply.Throw v)) (party_of a mid)) (under frame.Decides mid) new) → IfOk r (IsDelivered frame.Decides mode.Throw old new)
woken_thrown (Ok m) v old mid new e s h =
    let g = subst (λ (w : View). LeadsTo (λ a. go_on (naming_of w.me) a.shared (over frame.Decides w a) (Replied (reply.Throw v)) (party_of a w)) (under frame.Decides w) new m) s h in
    let g = subst (λ z. LeadsTo (λ a. go_on (naming_of old.me) a.shared (over frame.Decides (without_top old) a) (Replied (reply.Throw z)) (party_of a (without_top old))) (under frame.Decides (without_top old)) new m) e g in
    record { stands = λ a. g.leads a; keeps = g.keeps }
woken_thrown (Err z) v old mid new e s h = tt
