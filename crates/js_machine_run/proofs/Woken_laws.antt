-- Jumps that come to what waits.
use Rattle.std.proofs.Common.{◌≡◌, ◌-◌, ◌∷◌, Bool, true, false, refl, sym, ap, ◌∙◌, subst, Result, Ok, Err, IfOk}
use Rattle.lava_base.specs.declared.ids.MadeSymbol.{MadeSymbol}
use Rattle.lava_base.specs.declared.ids.Ref.{Ref}
use Rattle.js_text.specs.Naming.{Naming, naming_of}
use Rattle.js_text.specs.declared.value.Value.{Value}
use Rattle.js_text.specs.declared.value.Value.TheVariants as value
use Rattle.js_code.specs.Decoded.{template_at, term_at}
use Rattle.js_code.specs.Tables.{Tables}
use Rattle.js_desc.specs.declared.reply.Reply.TheVariants as reply
use Rattle.js_machine.specs.js_native_steps.Steps.{waits_as}
use Rattle.js_machine.specs.js_run.Acts.{Act, Give, give, on_value}
use Rattle.js_machine.specs.js_run.Completions.{Replied, reply_of}
use Rattle.js_machine.specs.js_run.Decisions.{goes_on}
use Rattle.js_machine.specs.js_run.Going.{go_on}
use Rattle.js_machine.specs.js_run.NativeTurns.{native_goes_on}
use Rattle.js_machine.specs.js_run.Parties.{Party, Shared, shallower}
use Rattle.js_machine.specs.js_run.Proxies.{proxy_goes_on}
use Rattle.js_machine.specs.js_run.Runs.{answered}
use Rattle.js_machine.specs.Constructions.{constructs_made}
use Rattle.js_machine.specs.Steps.{IsDelivered, Wakes, comes, point_of, settles}
use Rattle.js_machine.specs.Views.{Around, View, completion_with, first_wait, fitting, is_completion, next_of_wait, next_of_want, party_of, top, values_without, waits_under}
use Rattle.js_machine.specs.Waking.{WakesBy, is_jump, passes_jumps}
use Rattle.js_machine.specs.Wanting.{number_method_gave, number_method_got}
use Rattle.js_machine.specs.declared.asked.Wait.{Wait}
use Rattle.js_machine.specs.declared.asked.Wait.TheVariants as wait
use Rattle.js_machine.specs.declared.frame.Frame.TheVariants as frame
use Rattle.js_machine.specs.declared.frame.Mode.{Mode}
use Rattle.js_machine.specs.declared.frame.Mode.TheVariants as mode

-- what is neither a value nor a throw
pub jump_left : (m : Mode) → is_completion m ≡ true → (m ≡ mode.Value → ⊥) → (m ≡ mode.Throw → ⊥) → is_jump m ≡ true
jump_left (mode.Eval at) c f g = cc
jump_left mode.Ask c f g = cc
jump_left mode.Answer c f g = cc
jump_left mode.Value c f g = absurd (f refl)
jump_left mode.Throw c f g = absurd (g refl)
jump_left mode.Return c f g = refl
jump_left (mode.Break l) c f g = refl
jump_left (mode.Continue l) c f g = refl
jump_left (mode.End h) c f g = cc
jump_left (mode.Pay n) c f g = cc
jump_left (mode.Serve n) c f g = cc
jump_left mode.Import c f g = cc
jump_left mode.Outside c f g = cc

module _ (names : Naming Ref MadeSymbol) (shared : Shared) (c : Tables) (v : Value Ref MadeSymbol) where
  as_reply : (m : Mode) → is_jump m ≡ true → reply_of (completion_with c m v) ≡ reply.Throw value.Undefined
  as_reply (mode.Eval at) j = cc
  as_reply mode.Ask j = cc
  as_reply mode.Answer j = cc
  as_reply mode.Value j = cc
  as_reply mode.Throw j = cc
  as_reply mode.Return j = refl
  as_reply (mode.Break l) j = refl
  as_reply (mode.Continue l) j = refl
  as_reply (mode.End h) j = cc
  as_reply (mode.Pay n) j = cc
  as_reply (mode.Serve n) j = cc
  as_reply mode.Import j = cc
  as_reply mode.Outside j = cc

  as_it_came : (m : Mode) → is_jump m ≡ true → (p : Party Ref MadeSymbol) (go : Value Ref MadeSymbol → Party Ref MadeSymbol → Act Ref MadeSymbol) → on_value (completion_with c m v) p go ≡ Give (completion_with c m v) p
  as_it_came (mode.Eval at) j p go = cc
  as_it_came mode.Ask j p go = cc
  as_it_came mode.Answer j p go = cc
  as_it_came mode.Value j p go = cc
  as_it_came mode.Throw j p go = cc
  as_it_came mode.Return j p go = refl
  as_it_came (mode.Break l) j p go = refl
  as_it_came (mode.Continue l) j p go = refl
  as_it_came (mode.End h) j p go = cc
  as_it_came (mode.Pay n) j p go = cc
  as_it_came (mode.Serve n) j p go = cc
  as_it_came mode.Import j p go = cc
  as_it_came mode.Outside j p go = cc

  -- a decision takes a jump as a throw of undefined
  taken : (w : Wait) (m : Mode) → is_jump m ≡ true → passes_jumps w ≡ false → (p : Party Ref MadeSymbol)
      → go_on names shared (next_of_wait names shared c w) (completion_with c m v) p ≡ go_on names shared (next_of_wait names shared c w) (Replied (reply.Throw value.Undefined)) p
  unfolding next_of_want
  taken (wait.Object me n) m j t p = ap (λ y. goes_on names shared me n y p) (as_reply m j)
  taken (wait.Proxy n) m j t p = ap (λ y. proxy_goes_on names shared n y p) (as_reply m j)
  taken (wait.MethodGot o last k) m j t p = cc
  taken (wait.MethodCalled o last k) m j t p = cc
  taken (wait.Construct k args) m j t p = cc
  taken (wait.Native which n) m j t p = ap (λ y. native_goes_on names shared which (waits_as n) y p) (as_reply m j)
  taken wait.Exports m j t p = cc
  taken (wait.SlotTold which n) m j t p = ap (λ y. native_goes_on names shared which (waits_as n) y (shallower p)) (as_reply m j)

  -- what goes on with values alone is passed
  passed : (w : Wait) (m : Mode) → is_jump m ≡ true → passes_jumps w ≡ true → (p : Party Ref MadeSymbol) → go_on names shared (next_of_wait names shared c w) (completion_with c m v) p ≡ Give (completion_with c m v) p
  unfolding next_of_want
  passed (wait.Object me n) m j t p = cc
  passed (wait.Proxy n) m j t p = cc
  passed (wait.MethodGot o last k) m j t p = as_it_came m j p (number_method_got names shared last o k)
  passed (wait.MethodCalled o last k) m j t p = as_it_came m j p (number_method_gave names shared last o k)
  passed (wait.Construct k args) m j t p = as_it_came m j p (constructs_made names shared (template_at c (term_at c) k.at) k args)
  passed (wait.Native which n) m j t p = cc
  passed wait.Exports m j t p = as_it_came m j p give
  passed (wait.SlotTold which n) m j t p = cc

comes_so : (m : Mode) → is_jump m ≡ true → (a : Around) (w : View) → point_of a w m ≡ comes a w m
comes_so (mode.Eval at) j a w = cc
comes_so mode.Ask j a w = cc
comes_so mode.Answer j a w = cc
comes_so mode.Value j a w = cc
comes_so mode.Throw j a w = cc
comes_so mode.Return j a w = refl
comes_so (mode.Break l) j a w = refl
comes_so (mode.Continue l) j a w = refl
comes_so (mode.End h) j a w = cc
comes_so (mode.Pay n) j a w = cc
comes_so (mode.Serve n) j a w = cc
comes_so mode.Import j a w = cc
comes_so mode.Outside j a w = cc

pub passed_by_jump : (w : Wait) (m : Mode) (old : View) → is_jump m ≡ true → passes_jumps w ≡ true → WakesBy w m old old m
passed_by_jump w m old j t =
    record {
      leads = λ a. (
          let b = fitting old a in
          let low = record old { values = values_without m old.values } in
          comes_so m j b old
          ∙ ap (λ act. settles b low low.values (answered (naming_of old.me) b.env act)) (sym (passed (naming_of old.me) b.shared old.code (top old.values) w m j t (party_of b old))));
      keeps = (refl, (refl, (refl, (refl, refl))));
    }

pub taken_by_jump : {E : Type 0} (r : Result Mode E) (w : Wait) (m : Mode) (b : Bool) (old mid new : View) → is_jump m ≡ true → b ≡ passes_jumps w → b ≡ false → mid ≡ record old { values = values_without m old.values }
    → IfOk r (Wakes w (reply.Throw value.Undefined) mid new) → IfOk r (WakesBy w m old new)
taken_by_jump (Ok after) w m b old mid new j e f s h =
    let low = record old { values = values_without m old.values } in
    let g = subst (λ (x : View). Wakes w (reply.Throw value.Undefined) x new after) s h in
    record {
      leads = λ a. (
          let d = fitting old a in
          g.leads a
          ∙ ap (λ act. settles d low low.values (answered (naming_of old.me) d.env act)) (sym (taken (naming_of old.me) d.shared old.code (top old.values) w m j (sym e ∙ f) (party_of d old))));
      keeps = g.keeps;
    }
taken_by_jump (Err x) w m b old mid new j e f s h = tt

-- the frame is gone, and what waited goes on with the jump
stands_so : (m : Mode) → is_jump m ≡ true → (a : Around) (w : View)
    → (let low = record w { waits = waits_under frame.Decides w.waits; depth = w.depth - 1; values = values_without m w.values } in
    settles a low low.values (answered (naming_of w.me) a.env (go_on (naming_of w.me) a.shared (next_of_wait (naming_of w.me) a.shared w.code (first_wait w.waits)) (completion_with w.code m (top w.values)) (party_of a low)))
    ≡ point_of a (record w { frames = frame.Decides ∷ w.frames }) m)
stands_so (mode.Eval at) j a w = cc
stands_so mode.Ask j a w = cc
stands_so mode.Answer j a w = cc
stands_so mode.Value j a w = cc
stands_so mode.Throw j a w = cc
stands_so mode.Return j a w = refl
stands_so (mode.Break l) j a w = refl
stands_so (mode.Continue l) j a w = refl
stands_so (mode.End h) j a w = cc
stands_so (mode.Pay n) j a w = cc
stands_so (mode.Serve n) j a w = cc
stands_so mode.Import j a w = cc
stands_so mode.Outside j a w = cc

pub woken_by_jump : {E : Type 0} (r : Result Mode E) (w : Wait) (m : Mode) (old mid more new : View) → is_jump m ≡ true → w ≡ first_wait old.waits
    → mid ≡ record old { waits = waits_under frame.Decides old.waits } → more ≡ record mid { depth = mid.depth - 1 } → IfOk r (WakesBy w m more new) → IfOk r (IsDelivered frame.Decides m old new)
woken_by_jump (Ok after) w m old mid more new j e s t h =
    let g = subst (λ (x : View). WakesBy w m x new after) (t ∙ ap (λ (x : View). record x { depth = x.depth - 1 }) s) h in
    let g = subst (λ k. WakesBy k m (record old { waits = waits_under frame.Decides old.waits; depth = old.depth - 1 }) new after) e g in
    record { stands = λ a. g.leads a ∙ stands_so m j (fitting old a) old; keeps = g.keeps }
woken_by_jump (Err x) w m old mid more new j e s t h = tt
