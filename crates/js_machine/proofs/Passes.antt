-- What is no value passes each frame that takes values alone.
use Rattle.std.proofs.Common.{◌≡◌, Bool, true, false, ◌∷◌, refl, sym, ap, ◌∙◌, subst, drop, Option, Some, None, if◌then◌else◌, ◌++◌, []}
use Rattle.lava_base.specs.declared.ids.MadeSymbol.{MadeSymbol}
use Rattle.lava_base.specs.declared.ids.Ref.{Ref}
use Rattle.js_text.specs.Naming.{Naming, naming_of}
use Rattle.js_text.specs.declared.value.Value.{Value}
use Rattle.js_text.specs.declared.value.Value.TheVariants as value
use Rattle.js_code.specs.Decoded.{term_at, terms_of, text_at, arguments_at, parts_of}
use Rattle.js_code.specs.Tables.{Tables}
use Rattle.js_operation.specs.js_run.Acts.{Act, Evaluate, Give, Tested, Turned, give, on_flag, on_prototype, on_value, throws}
use Rattle.js_operation.specs.js_run.Completions.{Completion}
use Rattle.js_operation.specs.js_run.Calls.{calls_with}
use Rattle.js_operation.specs.js_run.Control.{all_values, finally_ends, in_order, listed, returns}
use Rattle.js_operation.specs.js_run.Going.{go_on}
use Rattle.js_operation.specs.js_run.Operators.{binary_value, unary_value}
use Rattle.js_operation.specs.js_run.Parties.{Party, Shared}
use Rattle.js_operation.specs.js_run.Parts.{define_on}
use Rattle.js_operation.specs.js_run.Properties.{delete_property, init_slot, put_global, put_property, set_slot}
use Rattle.js_operation.specs.js_run.Rows.{binary_left, delete_object, get_key, get_object, if_test, put_key, put_object, short_left, super_key, call_on_object, new_callee}
use Rattle.js_operation.specs.js_run.Runs.{Gives, answered, settle}
use Rattle.js_operation.specs.js_run.Truth.{to_boolean}
use Rattle.js_machine.specs.Views.{Around, Values, View, Waits, below, completion_with, fitting, has_value, has_wait, is_abrupt, knows, next_over, nexts_of, owned, party_of, rest_of, takes_values, top, turns_at, values_without, applied, args_on, holding_on, next_part_of}
use Rattle.js_machine.specs.Classes.{parent_comes, prototype_comes}
use Rattle.js_machine.specs.Parts.{part_at, part_comes, part_valued, parts_go, reference_in}
use Rattle.js_machine.specs.Steps.{IsDelivered, Keeps, comes, point_of, settles}
use Rattle.js_machine.specs.declared.frame.Frame.{Frame}
use Rattle.js_machine.specs.declared.frame.Frame.TheVariants as frame
use Rattle.js_machine.specs.declared.frame.Mode.{Mode}
use Rattle.js_machine.specs.declared.frame.Mode.TheVariants as mode
use Rattle.js_operation.specs.js_run.Rows.{call_on_key, call_super_key}
use Rattle.js_machine.specs.Views.{super_method}

module _ (names : Naming Ref MadeSymbol) (shared : Shared) (c : Tables) (v : Value Ref MadeSymbol) where
  abrupt : (m : Mode) → is_abrupt m ≡ true → (p : Party Ref MadeSymbol) (go : Value Ref MadeSymbol → Party Ref MadeSymbol → Act Ref MadeSymbol) → on_value (completion_with c m v) p go ≡ Give (completion_with c m v) p
  abrupt (mode.Eval at) a p go = cc
  abrupt mode.Ask a p go = cc
  abrupt mode.Answer a p go = cc
  abrupt mode.Value a p go = cc
  abrupt mode.Throw a p go = refl
  abrupt mode.Return a p go = refl
  abrupt (mode.Break l) a p go = refl
  abrupt (mode.Continue l) a p go = refl
  abrupt (mode.End h) a p go = cc
  abrupt (mode.Pay i) a p go = cc
  abrupt (mode.Serve i) a p go = cc
  abrupt mode.Import a p go = cc
  abrupt mode.Outside a p go = cc

  after_last : (m : Mode) → is_abrupt m ≡ true → (earlier : Completion Ref MadeSymbol) (p : Party Ref MadeSymbol) → finally_ends earlier (completion_with c m v) p ≡ Give (completion_with c m v) p
  after_last (mode.Eval at) a e p = cc
  after_last mode.Ask a e p = cc
  after_last mode.Answer a e p = cc
  after_last mode.Value a e p = cc
  after_last mode.Throw a e p = refl
  after_last mode.Return a e p = refl
  after_last (mode.Break l) a e p = refl
  after_last (mode.Continue l) a e p = refl
  after_last (mode.End h) a e p = cc
  after_last (mode.Pay i) a e p = cc
  after_last (mode.Serve i) a e p = cc
  after_last mode.Import a e p = cc
  after_last mode.Outside a e p = cc

  no_flag : (m : Mode) → is_abrupt m ≡ true → (p : Party Ref MadeSymbol) (go : Bool → Party Ref MadeSymbol → Act Ref MadeSymbol) → on_flag (completion_with c m v) p go ≡ Give (completion_with c m v) p
  no_flag (mode.Eval at) a p go = cc
  no_flag mode.Ask a p go = cc
  no_flag mode.Answer a p go = cc
  no_flag mode.Value a p go = cc
  no_flag mode.Throw a p go = refl
  no_flag mode.Return a p go = refl
  no_flag (mode.Break l) a p go = refl
  no_flag (mode.Continue l) a p go = refl
  no_flag (mode.End h) a p go = cc
  no_flag (mode.Pay i) a p go = cc
  no_flag (mode.Serve i) a p go = cc
  no_flag mode.Import a p go = cc
  no_flag mode.Outside a p go = cc

  no_prototype : (m : Mode) → is_abrupt m ≡ true → (p : Party Ref MadeSymbol) (go : Option Ref → Party Ref MadeSymbol → Act Ref MadeSymbol) → on_prototype (completion_with c m v) p go ≡ Give (completion_with c m v) p
  no_prototype (mode.Eval at) a p go = cc
  no_prototype mode.Ask a p go = cc
  no_prototype mode.Answer a p go = cc
  no_prototype mode.Value a p go = cc
  no_prototype mode.Throw a p go = refl
  no_prototype mode.Return a p go = refl
  no_prototype (mode.Break l) a p go = refl
  no_prototype (mode.Continue l) a p go = refl
  no_prototype (mode.End h) a p go = cc
  no_prototype (mode.Pay i) a p go = cc
  no_prototype (mode.Serve i) a p go = cc
  no_prototype mode.Import a p go = cc
  no_prototype mode.Outside a p go = cc

  by_frame : (f : Frame) (m : Mode) (vs : Values) (ws : Waits) → takes_values f ≡ true → is_abrupt m ≡ true → (p : Party Ref MadeSymbol) → go_on names shared (next_over names shared c f vs ws) (completion_with c m v) p ≡ Give (completion_with c m v) p
  unfolding next_part_of
  by_frame (frame.SetLocal h s constant) m vs ws t a p = abrupt m a p (set_slot names h s constant)
  by_frame (frame.Init h s) m vs ws t a p = abrupt m a p (init_slot names h s)
  by_frame (frame.Unary o) m vs ws t a p = abrupt m a p (unary_value names shared o)
  by_frame (frame.BinaryLeft o b) m vs ws t a p = abrupt m a p (binary_left names shared o (term_at c b))
  by_frame (frame.BinaryRight o) m vs ws t a p = abrupt m a p (binary_value names shared o (top vs))
  by_frame (frame.ShortLeft o b) m vs ws t a p = abrupt m a p (short_left names shared o (term_at c b))
  by_frame (frame.If x) m vs ws t a p = abrupt m a p (if_test names shared (term_at c x) None)
  by_frame (frame.IfElse x y) m vs ws t a p = abrupt m a p (if_test names shared (term_at c x) (Some (term_at c y)))
  by_frame (frame.Seq start count) m vs ws t a p = abrupt m a p (λ w q. in_order (terms_of c (term_at c) start count) q)
  by_frame (frame.ScopeExit s) m vs ws t a p = cc
  by_frame (frame.Tested k) m vs ws t a p = abrupt m a p (λ w q. if to_boolean w then Evaluate (turns_at c k).body q (Turned (turns_at c k)) else give value.Undefined q)
  by_frame (frame.Turned k) m vs ws t a p = cc
  by_frame (frame.Updated k) m vs ws t a p = abrupt m a p (λ w q. Evaluate (turns_at c k).test q (Tested (turns_at c k)))
  by_frame (frame.Label l) m vs ws t a p = cc
  by_frame frame.Return m vs ws t a p = abrupt m a p returns
  by_frame frame.Throw m vs ws t a p = abrupt m a p throws
  by_frame (frame.Guarded g) m vs ws t a p = cc
  by_frame (frame.Handled g s) m vs ws t a p = cc
  by_frame (frame.Finally e) m vs ws t a p = after_last m a (completion_with c e (top vs)) p
  by_frame frame.Called m vs ws t a p = cc
  by_frame (frame.Constructed o) m vs ws t a p = cc
  by_frame frame.Derived m vs ws t a p = cc
  by_frame frame.Built m vs ws t a p = cc
  by_frame (frame.Arguments k done start left) m vs ws t a p = abrupt m a p (λ w q. all_values (terms_of c (term_at c) start left) (args_on done vs ++ w ∷ []) q (applied names shared k (drop done vs)))
  by_frame (frame.ArgumentsOf k) m vs ws t a p = abrupt m a p (λ w q. applied names shared k vs (listed names shared w q) q)
  by_frame (frame.Callee args) m vs ws t a p = abrupt m a p (calls_with names shared value.Undefined (arguments_at c (term_at c) args))
  by_frame (frame.NewCallee args) m vs ws t a p = abrupt m a p (new_callee names shared (arguments_at c (term_at c) args))
  by_frame (frame.CallObject k args) m vs ws t a p = abrupt m a p (call_on_object names shared (term_at c k) (arguments_at c (term_at c) args))
  by_frame (frame.CallMethod args) m vs ws t a p = abrupt m a p (calls_with names shared (top vs) (arguments_at c (term_at c) args))
  by_frame frame.Given m vs ws t a p = abrupt m a p give
  by_frame (frame.GetObject k) m vs ws t a p = abrupt m a p (get_object names shared (term_at c k))
  by_frame frame.GetKey m vs ws t a p = abrupt m a p (get_key names shared (top vs))
  by_frame (frame.PutObject k e) m vs ws t a p = abrupt m a p (put_object names shared (term_at c k) (term_at c e))
  by_frame (frame.PutKey e) m vs ws t a p = abrupt m a p (put_key names shared (term_at c e) (top vs))
  by_frame frame.PutValue m vs ws t a p = abrupt m a p (put_property names shared (top (below vs)) (top vs))
  by_frame (frame.DeleteObject k) m vs ws t a p = abrupt m a p (delete_object names shared (term_at c k))
  by_frame frame.DeleteKey m vs ws t a p = abrupt m a p (delete_property names shared (top vs))
  by_frame frame.HasSet m vs ws t a p = no_flag m a p _
  by_frame frame.HasDeleted m vs ws t a p = no_flag m a p _
  by_frame frame.SuperKey m vs ws t a p = abrupt m a p (super_key names shared)
  by_frame frame.SuperHome m vs ws t a p = no_prototype m a p _
  by_frame (frame.Global n soft) m vs ws t a p = no_flag m a p _
  by_frame (frame.SetGlobal n e) m vs ws t a p = no_flag m a p _
  by_frame (frame.PutGlobal n there) m vs ws t a p = abrupt m a p (put_global names (text_at c n) there)
  by_frame frame.Decides m vs ws t a p = cc
  by_frame (frame.CallKey args) m vs ws t a p = abrupt m a p (call_on_key names shared (arguments_at c (term_at c) args) (top vs))
  by_frame (frame.CallSuperKey args) m vs ws t a p = abrupt m a p (call_super_key names shared (arguments_at c (term_at c) args))
  by_frame (frame.CallSuperHome args) m vs ws t a p = no_prototype m a p _
  by_frame (frame.CallSuperMethod args) m vs ws t a p = abrupt m a p (super_method names shared (arguments_at c (term_at c) args))
  by_frame (frame.SuperParent args) m vs ws t a p = no_prototype m a p _
  by_frame frame.BindThis m vs ws t a p = abrupt m a p _
  by_frame frame.Paid m vs ws t a p = cc
  by_frame frame.Told m vs ws t a p = no_flag m a p _
  by_frame frame.InstanceOf m vs ws t a p = abrupt m a p _
  by_frame frame.Inherits m vs ws t a p = no_prototype m a p _
  by_frame (frame.MethodGot last g) m vs ws t a p = abrupt m a p _
  by_frame (frame.MethodCalled last g) m vs ws t a p = abrupt m a p _
  by_frame (frame.Define start count) m vs ws t a p = abrupt m a p (define_on names shared (parts_of c (term_at c) start count))
  by_frame (frame.Part e at left) m vs ws t a p = abrupt m a p (part_comes names shared c (holding_on e vs) at left (part_at c at))
  by_frame (frame.PartValue e at left) m vs ws t a p = abrupt m a p (part_valued names shared c (holding_on e (below vs)) at left (top vs))
  by_frame (frame.Parts e start count) m vs ws t a p = abrupt m a p (λ w q. parts_go names shared c (holding_on e vs) start count q)
  by_frame (frame.ClassParent k) m vs ws t a p = abrupt m a p (parent_comes names shared c k)
  by_frame (frame.ClassPrototype k) m vs ws t a p = abrupt m a p (prototype_comes names shared c k (reference_in (top vs)))
  by_frame (frame.Charged which count) m vs ws t a p = cc
  by_frame frame.Made m vs ws t a p = cc
  by_frame (frame.ModuleBody n at o) m vs ws t a p = cc
  by_frame (frame.ModuleEnds n at) m vs ws t a p = cc
  by_frame (frame.SlotCharged which count) m vs ws t a p = cc
  by_frame (frame.Refused b) m vs ws t a p = cc

-- nothing waits for a frame that takes values
pub nothing_waits : (f : Frame) → takes_values f ≡ true → has_wait f ≡ false
nothing_waits frame.Decides t = cc
nothing_waits f t = refl

-- the frame is gone, and the act of what it goes on with is the completion
passed : (f : Frame) (m : Mode) (w : View) → takes_values f ≡ true → is_abrupt m ≡ true → (a : Around)
    → settles a w (rest_of f (values_without m w.values)) (Gives (completion_with w.code m (top w.values)) (party_of a w)) ≡ comes a (record w { frames = f ∷ w.frames }) m
passed f m w t x a =
    ap (λ act. settles a w (rest_of f (values_without m w.values)) (answered (naming_of w.me) a.env act)) (sym (by_frame (naming_of w.me) a.shared w.code (top w.values) f m (values_without m w.values) w.waits t x (party_of a w)))
    ∙ ap (λ ws. settle (naming_of w.me) a.shared a.env (nexts_of (naming_of w.me) a.shared w.code w.frames (rest_of f (values_without m w.values)) ws) (answered (naming_of w.me) a.env (go_on (naming_of w.me) a.shared (next_over (naming_of w.me) a.shared w.code f (values_without m w.values) w.waits) (completion_with w.code m (top w.values)) (party_of a w)))) (ap (λ b. if b then drop 1 w.waits else w.waits) (sym (nothing_waits f t)))

with_value_passed : (f : Frame) (m : Mode) (w : View) → takes_values f ≡ true → is_abrupt m ≡ true → has_value m ≡ true → (a : Around)
    → point_of a (record w { values = top w.values ∷ drop (owned f) (below w.values) }) m ≡ point_of a (record w { frames = f ∷ w.frames }) m
with_value_passed f (mode.Eval at) w t x v a = cc
with_value_passed f mode.Ask w t x v a = cc
with_value_passed f mode.Answer w t x v a = cc
with_value_passed f mode.Value w t x v a = cc
with_value_passed f mode.Throw w t x v a = passed f mode.Throw w t x a
with_value_passed f mode.Return w t x v a = passed f mode.Return w t x a
with_value_passed f (mode.Break l) w t x v a = cc
with_value_passed f (mode.Continue l) w t x v a = cc
with_value_passed f (mode.End h) w t x v a = cc
with_value_passed f (mode.Pay i) w t x v a = cc
with_value_passed f (mode.Serve i) w t x v a = cc
with_value_passed f mode.Import w t x v a = cc
with_value_passed f mode.Outside w t x v a = cc

without_passed : (f : Frame) (m : Mode) (w : View) → takes_values f ≡ true → is_abrupt m ≡ true → has_value m ≡ false → (a : Around)
    → point_of a (record w { values = drop (owned f) w.values }) m ≡ point_of a (record w { frames = f ∷ w.frames }) m
without_passed f (mode.Eval at) w t x v a = cc
without_passed f mode.Ask w t x v a = cc
without_passed f mode.Answer w t x v a = cc
without_passed f mode.Value w t x v a = cc
without_passed f mode.Throw w t x v a = cc
without_passed f mode.Return w t x v a = cc
without_passed f (mode.Break l) w t x v a = passed f (mode.Break l) w t x a
without_passed f (mode.Continue l) w t x v a = passed f (mode.Continue l) w t x a
without_passed f (mode.End h) w t x v a = cc
without_passed f (mode.Pay i) w t x v a = cc
without_passed f (mode.Serve i) w t x v a = cc
without_passed f mode.Import w t x v a = cc
without_passed f mode.Outside w t x v a = cc

-- what a step that changes only values keeps
pub kept : (old new : View) (vs : Values) → new ≡ record old { values = vs } → Keeps old new
kept old new vs e = (ap (λ (w : View). w.me) e, (ap (λ (w : View). w.code) e, (ap (λ (w : View). w.common) e, (ap (λ (w : View). w.common_templates) e, ap knows e))))

pub passes_with_value : (f : Frame) (m : Mode) (old new : View) → takes_values f ≡ true → is_abrupt m ≡ true → has_value m ≡ true
    → new ≡ record old { values = top old.values ∷ drop (owned f) (below old.values) } → IsDelivered f m old new m
passes_with_value f m old new t x v e = record { stands = λ a. subst (λ w. point_of (fitting old a) w m ≡ point_of (fitting old a) (record old { frames = f ∷ old.frames }) m) (sym e) (with_value_passed f m old t x v (fitting old a)); keeps = kept old new _ e }

pub passes_without : (f : Frame) (m : Mode) (old new : View) → takes_values f ≡ true → is_abrupt m ≡ true → has_value m ≡ false
    → new ≡ record old { values = drop (owned f) old.values } → IsDelivered f m old new m
passes_without f m old new t x v e = record { stands = λ a. subst (λ w. point_of (fitting old a) w m ≡ point_of (fitting old a) (record old { frames = f ∷ old.frames }) m) (sym e) (without_passed f m old t x v (fitting old a)); keeps = kept old new _ e }
