-- How what a step does is put together.
use Rattle.std.proofs.Common.{◌≡◌, ℕ, ◌∷◌, refl, sym, ap, ◌∙◌, subst, not, Bool, true, false, Option, Result, Ok, Err, IfOk, if◌then◌else◌}
use Rattle.std.specs.Option.{option_map}
use Rattle.lava_base.specs.declared.ids.MadeSymbol.{MadeSymbol}
use Rattle.lava_base.specs.declared.ids.Ref.{Ref}
use Rattle.js_text.specs.Naming.{naming_of}
use Rattle.js_text.specs.declared.value.Value.{Value}
use Rattle.js_operation.specs.js_run.Acts.{Become, Evaluate, Give, Turned, give}
use Rattle.js_operation.specs.js_run.Operators.{short_value}
use Rattle.js_text.specs.declared.value.Value.TheVariants as value
use Rattle.js_tree.specs.declared.operator.LogicalOperator.{LogicalOperator}
use Rattle.js_tree.specs.declared.operator.LogicalOperator.TheVariants as logical
use Rattle.js_operation.specs.js_run.Control.{branch, otherwise}
use Rattle.js_operation.specs.js_run.Truth.{is_nullish, to_boolean}
use Rattle.js_code.specs.Decoded.{layer_of, term_at}
use Rattle.js_code.specs.declared.node.Node.{Node}
use Rattle.js_operation.specs.js_run.Rows.{row_at}
use Rattle.js_operation.specs.js_run.Runs.{answered}
use Rattle.js_term.specs.declared.term.Term.{out-Term}
use Rattle.js_machine.specs.Views.{View, completion_with, fitting, has_value, keeps_left, party_of, top, turns_at}
use Rattle.js_machine.specs.Steps.{Deed, Pays, Waits, WaitsWith, deed_with, IsBegun, IsDelivered, LeadsTo, deed_of_frame, deed_of_row, settles, under, with_top, without_top}
use Rattle.js_machine.specs.declared.frame.Frame.{Frame}
use Rattle.js_machine.specs.declared.frame.Mode.{Mode}
use Rattle.js_machine.specs.declared.frame.Mode.TheVariants as mode

pub led : (deed : Deed) (old x new : View) (k m : Mode) → LeadsTo deed old x k → new ≡ x → m ≡ k → LeadsTo deed old new m
led deed old x new k m h e d = subst (λ j. LeadsTo deed old new j) (sym d) (subst (λ w. LeadsTo deed old w k) (sym e) h)

pub begun : (at : ℕ) (n : Node) (old new : View) (m : Mode) → out-Term (term_at old.code at) ≡ layer_of old.code (term_at old.code) n → LeadsTo (deed_of_row n old) old new m → IsBegun at old new m
begun at n old new m e h = record { leads = record { leads = λ a. (let b = fitting old a in h.leads a ∙ ap (λ l. settles b old old.values (answered (naming_of old.me) b.env (row_at (naming_of old.me) b.shared l (party_of b old)))) (sym e)); keeps = h.keeps } }

pub delivered : (f : Frame) (old new : View) (m : Mode) → LeadsTo (deed_of_frame f old) (under f (without_top old)) new m → IsDelivered f mode.Value old new m
delivered f old new m h = record { stands = λ a. h.leads a; keeps = h.keeps }

pub waited : (f : Frame) (at : ℕ) (old new : View) (m : Mode) → new ≡ record old { frames = f ∷ old.frames } → m ≡ mode.Eval at → Waits f at old new m
waited f at old new m e d = led _ _ (record old { frames = f ∷ old.frames }) new (mode.Eval at) m (record { leads = λ a. refl; keeps = (refl, (refl, (refl, (refl, refl)))) }) e d

pub given : (v : Value Ref MadeSymbol) (old new : View) (m : Mode) → new ≡ record old { values = v ∷ old.values } → m ≡ mode.Value → LeadsTo (λ a. give v (party_of a old)) old new m
given v old new m e d = led _ old (record old { values = v ∷ old.values }) new mode.Value m (record { leads = λ a. refl; keeps = (refl, (refl, (refl, (refl, refl)))) }) e d

pub begun_ok : {E : Type 0} (r : Result Mode E) (at : ℕ) (n : Node) (old new : View) → out-Term (term_at old.code at) ≡ layer_of old.code (term_at old.code) n → IfOk r (LeadsTo (deed_of_row n old) old new) → IfOk r (IsBegun at old new)
begun_ok (Ok m) at n old new e h = begun at n old new m e h
begun_ok (Err x) at n old new e h = tt

pub delivered_ok : {E : Type 0} (r : Result Mode E) (f : Frame) (old new : View) → IfOk r (LeadsTo (deed_of_frame f old) (under f (without_top old)) new) → IfOk r (IsDelivered f mode.Value old new)
delivered_ok (Ok m) f old new h = delivered f old new m h
delivered_ok (Err x) f old new h = tt

pub became : (at : ℕ) (old : View) → LeadsTo (λ a. Become (term_at old.code at) (party_of a old)) old old (mode.Eval at)
became at old = record { leads = λ a. refl; keeps = (refl, (refl, (refl, (refl, refl)))) }

pub waited_with : {E : Type 0} (r : Result Mode E) (v : Value Ref MadeSymbol) (f : Frame) (at : ℕ) (old mid new : View) → mid ≡ with_top v old → IfOk r (Waits f at mid new) → IfOk r (WaitsWith v f at old new)
waited_with (Ok m) v f at old mid new e h = let w = subst (λ x. Waits f at x new m) e h in record { leads = λ a. w.leads a; keeps = w.keeps }
waited_with (Err x) v f at old mid new e h = tt

-- the value that a frame goes on with was taken off
pub taken_ok : {E : Type 0} (r : Result Mode E) (f : Frame) (old mid new : View) (v : Value Ref MadeSymbol) → v ≡ top old.values → mid ≡ without_top old → IfOk r (LeadsTo (deed_with f v mid) (under f mid) new)
    → IfOk r (LeadsTo (deed_of_frame f old) (under f (without_top old)) new)
taken_ok (Ok m) f old mid new v s e h =
    let w = subst (λ x. LeadsTo (deed_with f (top old.values) x) (under f x) new m) e (subst (λ x. LeadsTo (deed_with f x mid) (under f mid) new m) s h) in
    record { leads = λ a. w.leads a; keeps = w.keeps }
taken_ok (Err x) f old mid new v s e h = tt

abbrev Chosen : Bool → (consequent : ℕ) → Option ℕ → View → View → Mode → Type 0
Chosen b c alternate old new m = LeadsTo (λ a. if b then Become (term_at old.code c) (party_of a old) else otherwise (option_map (term_at old.code) alternate) (party_of a old)) old new m

pub branched : {E : Type 0} (r : Result Mode E) (b : Bool) (v : Value Ref MadeSymbol) (c : ℕ) (alternate : Option ℕ) (old new : View) → b ≡ to_boolean v → IfOk r (Chosen b c alternate old new)
    → IfOk r (LeadsTo (λ a. branch v (term_at old.code c) (option_map (term_at old.code) alternate) (party_of a old)) old new)
branched r b v c alternate old new e h = subst (λ x. IfOk r (Chosen x c alternate old new)) e h

ended_by : (v : Value Ref MadeSymbol) (m : Mode) (old : View) → has_value m ≡ true → LeadsTo (λ a. Give (completion_with old.code m v) (party_of a old)) old (record old { values = v ∷ old.values }) m
ended_by v (mode.Eval at) old h = cc
ended_by v mode.Ask old h = cc
ended_by v mode.Answer old h = cc
ended_by v mode.Value old h = record { leads = λ a. refl; keeps = (refl, (refl, (refl, (refl, refl)))) }
ended_by v mode.Throw old h = record { leads = λ a. refl; keeps = (refl, (refl, (refl, (refl, refl)))) }
ended_by v mode.Return old h = record { leads = λ a. refl; keeps = (refl, (refl, (refl, (refl, refl)))) }
ended_by v (mode.Break l) old h = cc
ended_by v (mode.Continue l) old h = cc
ended_by v (mode.End x) old h = cc
ended_by v (mode.Pay i) old h = cc
ended_by v (mode.Serve i) old h = cc
ended_by v mode.Import old h = cc
ended_by v mode.Outside old h = cc

pub ended : (v : Value Ref MadeSymbol) (m : Mode) (old new : View) → has_value m ≡ true → new ≡ record old { values = v ∷ old.values } → LeadsTo (λ a. Give (completion_with old.code m v) (party_of a old)) old new m
ended v m old new h e = led _ old (record old { values = v ∷ old.values }) new m m (ended_by v m old h) e refl

abbrev Kept : Bool → Value Ref MadeSymbol → ℕ → View → View → Mode → Type 0
Kept b v at old new m = LeadsTo (λ a. if b then give v (party_of a old) else Become (term_at old.code at) (party_of a old)) old new m

by_truth : {E : Type 0} (r : Result Mode E) (b : Bool) (v : Value Ref MadeSymbol) (at : ℕ) (old new : View) → IfOk r (Kept (not b) v at old new)
    → IfOk r (LeadsTo (λ a. if b then Become (term_at old.code at) (party_of a old) else give v (party_of a old)) old new)
by_truth r true v at old new h = h
by_truth r false v at old new h = h

short_by : {E : Type 0} (r : Result Mode E) (o : LogicalOperator) (v : Value Ref MadeSymbol) (at : ℕ) (old new : View) → IfOk r (Kept (keeps_left o v) v at old new)
    → IfOk r (LeadsTo (λ a. short_value o v (term_at old.code at) (party_of a old)) old new)
short_by r logical.And v at old new h = by_truth r (to_boolean v) v at old new h
short_by r logical.Or v at old new h = h
short_by r logical.Coalesce v at old new h = by_truth r (is_nullish v) v at old new h

pub shorted : {E : Type 0} (r : Result Mode E) (o : LogicalOperator) (b : Bool) (v : Value Ref MadeSymbol) (at : ℕ) (old new : View) → b ≡ keeps_left o v → IfOk r (Kept b v at old new)
    → IfOk r (LeadsTo (λ a. short_value o v (term_at old.code at) (party_of a old)) old new)
shorted r o b v at old new e h = short_by r o v at old new (subst (λ x. IfOk r (Kept x v at old new)) e h)

abbrev Turn : Bool → ℕ → View → View → Mode → Type 0
Turn b t old new m = LeadsTo (λ a. if b then Evaluate (turns_at old.code t).body (party_of a old) (Turned (turns_at old.code t)) else give value.Undefined (party_of a old)) old new m

pub tested : {E : Type 0} (r : Result Mode E) (b : Bool) (v : Value Ref MadeSymbol) (t : ℕ) (old new : View) → b ≡ to_boolean v → IfOk r (Turn b t old new) → IfOk r (Turn (to_boolean v) t old new)
tested r b v t old new e h = subst (λ x. IfOk r (Turn x t old new)) e h

-- a frame that is known
pub arm : {E : Type 0} (r : Result Mode E) (f g : Frame) (v : Value Ref MadeSymbol) (old new : View) → f ≡ g → IfOk r (LeadsTo (deed_with g v old) (under g old) new) → IfOk r (LeadsTo (deed_with f v old) (under f old) new)
arm r f g v old new e h = subst (λ x. IfOk r (LeadsTo (deed_with x v old) (under x old) new)) (sym e) h

-- so much is to be paid, and a frame waits
pub paid : (n : ℕ) (f : Frame) (old new : View) (m : Mode) → new ≡ record old { frames = f ∷ old.frames } → m ≡ mode.Pay n → Pays n f old new m
paid n f old new m e d = led _ _ (record old { frames = f ∷ old.frames }) new (mode.Pay n) m (record { leads = λ a. refl; keeps = (refl, (refl, (refl, (refl, refl)))) }) e d
