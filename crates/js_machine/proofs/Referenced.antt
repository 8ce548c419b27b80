-- Properties and free names that are asked for.
use Rattle.std.proofs.Common.{◌≡◌, ℕ, Bool, true, false, ◌∷◌, Option, Some, sym, ap, ◌∙◌, subst, Result, Ok, Err, IfOk, if◌then◌else◌}
use Rattle.std.specs.Option.{unwrap_or}
use Rattle.lava_base.specs.declared.ids.MadeSymbol.{MadeSymbol}
use Rattle.lava_base.specs.declared.ids.Ref.{Ref}
use Rattle.js_text.specs.Naming.{Naming, naming_of}
use Rattle.js_text.specs.declared.value.Key.{Key}
use Rattle.js_text.specs.declared.value.Key.TheVariants as key
use Rattle.js_text.specs.declared.value.Value.{Value}
use Rattle.js_text.specs.declared.value.Value.TheVariants as value
use Rattle.js_code.specs.Decoded.{term_at, text_at}
use Rattle.js_desc.specs.declared.ask.Ask.TheVariants as ask
use Rattle.js_desc.specs.declared.fault.FaultText.TheVariants as fault
use Rattle.js_operation.specs.js_run.Acts.{Act, asks_value, give, with_value}
use Rattle.js_operation.specs.js_run.Faults.{faults}
use Rattle.js_operation.specs.js_run.Parties.{Party, Shared}
use Rattle.js_operation.specs.js_run.Properties.{delete_property, get_global, global_value, has_set, on_reference, put_global, put_property, set_global, to_key}
use Rattle.js_operation.specs.js_run.Rows.{get_key}
use Rattle.js_operation.specs.js_run.Runs.{answered}
use Rattle.js_operation.specs.js_run.Truth.{is_nullish}
use Rattle.js_machine.specs.Conversions.{BecomesKey}
use Rattle.js_machine.specs.Keys.{plain_key}
use Rattle.js_machine.specs.Steps.{Deed, LeadsTo, WaitsFor, WaitsForValue, over, settles, with_top}
use Rattle.js_machine.specs.Views.{Around, View, fitting, has_deleted, key_deed, party_of}
use Rattle.js_machine.specs.declared.frame.Frame.TheVariants as frame
use Rattle.js_machine.specs.declared.frame.KeyGoal.TheVariants as key_goal
use Rattle.js_machine.specs.declared.frame.Mode.{Mode}

-- two deeds that are the same act, whatever stands around
pub same_deed : {E : Type 0} (r : Result Mode E) (d e : Deed) (old new : View) → ((a : Around) → e (fitting old a) ≡ d (fitting old a)) → IfOk r (LeadsTo d old new) → IfOk r (LeadsTo e old new)
same_deed (Ok m) d e old new s h = record { leads = λ a. (let b = fitting old a in h.leads a ∙ ap (λ act. settles b old old.values (answered (naming_of old.me) b.env act)) (sym (s a))); keeps = h.keeps }
same_deed (Err x) d e old new s h = tt

-- KEYS

module _ (names : Naming Ref MadeSymbol) (shared : Shared) where
  abbrev Gone : Type 0
  Gone = Key MadeSymbol → Party Ref MadeSymbol → Act Ref MadeSymbol

  known : (j k : Key MadeSymbol) (p : Party Ref MadeSymbol) (go : Gone) → Some j ≡ Some k → go j p ≡ go k p
  known j k p go e = ap (λ o. go (unwrap_or o k) p) e

  key_known : (v : Value Ref MadeSymbol) (k : Key MadeSymbol) (p : Party Ref MadeSymbol) (go : Gone) → plain_key v ≡ Some k → to_key names shared v p go ≡ go k p
  key_known value.Undefined k p go e = known _ k p go e
  key_known value.Null k p go e = known _ k p go e
  key_known (value.Bool true) k p go e = known _ k p go e
  key_known (value.Bool false) k p go e = known _ k p go e
  key_known (value.Int n) k p go e = known _ k p go e
  key_known (value.Text t) k p go e = known _ k p go e
  key_known (value.Symbol s) k p go e = known _ k p go e
  key_known (value.Ref r) k p go e = cc

  pub reference_known : (o v : Value Ref MadeSymbol) (k : Key MadeSymbol) (p : Party Ref MadeSymbol) (go : Gone) → is_nullish o ≡ false → plain_key v ≡ Some k → on_reference names shared o v p go ≡ go k p
  reference_known o v k p go n e = ap (λ b. if b then faults names fault.CannotConvert p else to_key names shared v p go) n ∙ key_known v k p go e

  pub reference_made : (o v : Value Ref MadeSymbol) (p : Party Ref MadeSymbol) (go : Gone) → is_nullish o ≡ false → on_reference names shared o v p go ≡ to_key names shared v p go
  reference_made o v p go n = ap (λ b. if b then faults names fault.CannotConvert p else to_key names shared v p go) n

-- PROPERTIES

-- an object that was copied is asked
pub named : {E : Type 0} (r : Result Mode E) (o t : Value Ref MadeSymbol) (k : Key MadeSymbol) (old new : View) → t ≡ o → IfOk r (WaitsForValue frame.Given t (ask.Get k o) old new) → IfOk r (WaitsForValue frame.Given o (ask.Get k o) old new)
named r o t k old new s h = subst (λ x. IfOk r (WaitsForValue frame.Given x (ask.Get k o) old new)) s h

abbrev Keyed : Type 0
Keyed = Option (Key MadeSymbol)

module _ (o v : Value Ref MadeSymbol) (old : View) (e : is_nullish o ≡ false) where
  abbrev Gets : View → Mode → Type 0
  Gets new m = LeadsTo (λ a. get_key (naming_of old.me) a.shared o v (party_of a old)) old new m

  pub got : {E : Type 0} (r : Result Mode E) (x : Keyed) (k : Key MadeSymbol) (new : View) → x ≡ plain_key v → x ≡ Some k → IfOk r (WaitsForValue frame.Given o (ask.Get k o) old new) → IfOk r (Gets new)
  got r x k new g s h =
      same_deed r (λ a. asks_value (naming_of old.me) o (ask.Get k o) (party_of a old) (over frame.Given old a)) (λ a. get_key (naming_of old.me) a.shared o v (party_of a old)) old new
      (λ a. reference_known (naming_of old.me) (fitting old a).shared o v k (party_of (fitting old a) old) (λ name q. asks_value (naming_of old.me) o (ask.Get name o) q (with_value give)) e (sym g ∙ s)) h

  pub got_later : {E : Type 0} (r : Result Mode E) (mid new : View) → mid ≡ with_top o old → IfOk r (BecomesKey v key_goal.Get mid new) → IfOk r (Gets new)
  got_later (Ok m) mid new s h =
      let w = subst (λ (x : View). BecomesKey v key_goal.Get x new m) s h in
      let made : LeadsTo (λ a. to_key (naming_of old.me) a.shared v (party_of a old) (key_deed (naming_of old.me) a.shared old.code key_goal.Get (o ∷ old.values))) old new m = record { leads = λ a. w.leads a; keeps = w.keeps } in
      same_deed {E = ℕ} (Ok m) (λ a. to_key (naming_of old.me) a.shared v (party_of a old) (key_deed (naming_of old.me) a.shared old.code key_goal.Get (o ∷ old.values))) (λ a. get_key (naming_of old.me) a.shared o v (party_of a old)) old new
      (λ a. (let b = fitting old a in reference_made (naming_of old.me) b.shared o v (party_of b old) (key_deed (naming_of old.me) b.shared old.code key_goal.Get (o ∷ old.values)) e)) made
  got_later (Err x) mid new s h = tt

  abbrev Deletes : View → Mode → Type 0
  Deletes new m = LeadsTo (λ a. delete_property (naming_of old.me) a.shared o v (party_of a old)) old new m

  pub deleted : {E : Type 0} (r : Result Mode E) (x : Keyed) (k : Key MadeSymbol) (new : View) → x ≡ plain_key v → x ≡ Some k → IfOk r (WaitsForValue frame.HasDeleted o (ask.Delete k) old new) → IfOk r (Deletes new)
  deleted r x k new g s h =
      same_deed r (λ a. asks_value (naming_of old.me) o (ask.Delete k) (party_of a old) (over frame.HasDeleted old a)) (λ a. delete_property (naming_of old.me) a.shared o v (party_of a old)) old new
      (λ a. reference_known (naming_of old.me) (fitting old a).shared o v k (party_of (fitting old a) old) (λ name q. asks_value (naming_of old.me) o (ask.Delete name) q (has_deleted (naming_of old.me) (fitting old a).shared)) e (sym g ∙ s)) h

  pub deleted_later : {E : Type 0} (r : Result Mode E) (mid new : View) → mid ≡ with_top o old → IfOk r (BecomesKey v key_goal.Delete mid new) → IfOk r (Deletes new)
  deleted_later (Ok m) mid new s h =
      let w = subst (λ (x : View). BecomesKey v key_goal.Delete x new m) s h in
      let made : LeadsTo (λ a. to_key (naming_of old.me) a.shared v (party_of a old) (key_deed (naming_of old.me) a.shared old.code key_goal.Delete (o ∷ old.values))) old new m = record { leads = λ a. w.leads a; keeps = w.keeps } in
      same_deed {E = ℕ} (Ok m) (λ a. to_key (naming_of old.me) a.shared v (party_of a old) (key_deed (naming_of old.me) a.shared old.code key_goal.Delete (o ∷ old.values))) (λ a. delete_property (naming_of old.me) a.shared o v (party_of a old)) old new
      (λ a. (let b = fitting old a in reference_made (naming_of old.me) b.shared o v (party_of b old) (key_deed (naming_of old.me) b.shared old.code key_goal.Delete (o ∷ old.values)) e)) made
  deleted_later (Err x) mid new s h = tt

pub set_asked : {E : Type 0} (r : Result Mode E) (o t x y : Value Ref MadeSymbol) (k : Key MadeSymbol) (old mid new : View) → t ≡ o → y ≡ x → mid ≡ with_top y old
    → IfOk r (WaitsForValue frame.HasSet t (ask.Set k x o) mid new) → IfOk r (LeadsTo (λ a. asks_value (naming_of old.me) o (ask.Set k x o) (party_of a old) (has_set (naming_of old.me) x)) old new)
set_asked r o t x y k old mid new s u w h =
    let start = subst (λ z. IfOk r (WaitsForValue frame.HasSet t (ask.Set k x o) (with_top z old) new)) u (subst (λ (z : View). IfOk r (WaitsForValue frame.HasSet t (ask.Set k x o) z new)) w h) in
    subst (λ z. IfOk r (WaitsForValue frame.HasSet z (ask.Set k x o) (with_top x old) new)) s start

module _ (o v x : Value Ref MadeSymbol) (old : View) (e : is_nullish o ≡ false) where
  abbrev Puts : View → Mode → Type 0
  Puts new m = LeadsTo (λ a. put_property (naming_of old.me) a.shared o v x (party_of a old)) old new m

  pub put : {E : Type 0} (r : Result Mode E) (y : Keyed) (k : Key MadeSymbol) (new : View) → y ≡ plain_key v → y ≡ Some k → IfOk r (LeadsTo (λ a. asks_value (naming_of old.me) o (ask.Set k x o) (party_of a old) (has_set (naming_of old.me) x)) old new) → IfOk r (Puts new)
  put r y k new g s h =
      same_deed r (λ a. asks_value (naming_of old.me) o (ask.Set k x o) (party_of a old) (has_set (naming_of old.me) x)) (λ a. put_property (naming_of old.me) a.shared o v x (party_of a old)) old new
      (λ a. reference_known (naming_of old.me) (fitting old a).shared o v k (party_of (fitting old a) old) (λ name q. asks_value (naming_of old.me) o (ask.Set name x o) q (has_set (naming_of old.me) x)) e (sym g ∙ s)) h

  pub put_later : {E : Type 0} (r : Result Mode E) (mid low new : View) → mid ≡ with_top o old → low ≡ with_top x mid → IfOk r (BecomesKey v key_goal.Put low new) → IfOk r (Puts new)
  put_later (Ok m) mid low new s t h =
      let w = subst (λ (z : View). BecomesKey v key_goal.Put z new m) (t ∙ ap (with_top x) s) h in
      let made : LeadsTo (λ a. to_key (naming_of old.me) a.shared v (party_of a old) (key_deed (naming_of old.me) a.shared old.code key_goal.Put (x ∷ o ∷ old.values))) old new m = record { leads = λ a. w.leads a; keeps = w.keeps } in
      same_deed {E = ℕ} (Ok m) (λ a. to_key (naming_of old.me) a.shared v (party_of a old) (key_deed (naming_of old.me) a.shared old.code key_goal.Put (x ∷ o ∷ old.values))) (λ a. put_property (naming_of old.me) a.shared o v x (party_of a old)) old new
      (λ a. (let b = fitting old a in reference_made (naming_of old.me) b.shared o v (party_of b old) (key_deed (naming_of old.me) b.shared old.code key_goal.Put (x ∷ o ∷ old.values)) e)) made
  put_later (Err y) mid low new s t h = tt

-- FREE NAMES

pub global_asked : {E : Type 0} (r : Result Mode E) (g : Ref) (k : Key MadeSymbol) (n : ℕ) (soft : Bool) (old new : View) → g ≡ (naming_of old.me).own 0 → k ≡ key.Text (text_at old.code n)
    → IfOk r (WaitsFor (frame.Global n soft) g (ask.HasProperty k) old new) → IfOk r (LeadsTo (λ a. global_value (naming_of old.me) (text_at old.code n) soft (party_of a old)) old new)
global_asked r g k n soft old new e s h =
    subst (λ x. IfOk r (WaitsFor (frame.Global n soft) x (ask.HasProperty (key.Text (text_at old.code n))) old new)) e (subst (λ y. IfOk r (WaitsFor (frame.Global n soft) g (ask.HasProperty y) old new)) s h)

pub set_global_asked : {E : Type 0} (r : Result Mode E) (g : Ref) (k : Key MadeSymbol) (n v : ℕ) (old new : View) → g ≡ (naming_of old.me).own 0 → k ≡ key.Text (text_at old.code n)
    → IfOk r (WaitsFor (frame.SetGlobal n v) g (ask.HasProperty k) old new) → IfOk r (LeadsTo (λ a. set_global (naming_of old.me) (text_at old.code n) (term_at old.code v) (party_of a old)) old new)
set_global_asked r g k n v old new e s h =
    subst (λ x. IfOk r (WaitsFor (frame.SetGlobal n v) x (ask.HasProperty (key.Text (text_at old.code n))) old new)) e (subst (λ y. IfOk r (WaitsFor (frame.SetGlobal n v) g (ask.HasProperty y) old new)) s h)

pub global_got : {E : Type 0} (r : Result Mode E) (g : Ref) (k : Key MadeSymbol) (n : ℕ) (old new : View) → g ≡ (naming_of old.me).own 0 → k ≡ key.Text (text_at old.code n)
    → IfOk r (WaitsFor frame.Given g (ask.Get k (value.Ref g)) old new) → IfOk r (LeadsTo (λ a. get_global (naming_of old.me) (key.Text (text_at old.code n)) (party_of a old)) old new)
global_got r g k n old new e s h =
    subst (λ x. IfOk r (WaitsFor frame.Given x (ask.Get (key.Text (text_at old.code n)) (value.Ref x)) old new)) e (subst (λ y. IfOk r (WaitsFor frame.Given g (ask.Get y (value.Ref g)) old new)) s h)

pub global_put : {E : Type 0} (r : Result Mode E) (g : Ref) (k : Key MadeSymbol) (n : ℕ) (x y : Value Ref MadeSymbol) (old mid new : View) → g ≡ (naming_of old.me).own 0 → k ≡ key.Text (text_at old.code n) → y ≡ x → mid ≡ with_top y old
    → IfOk r (WaitsFor frame.HasSet g (ask.Set k x (value.Ref g)) mid new) → IfOk r (LeadsTo (λ a. put_global (naming_of old.me) (text_at old.code n) true x (party_of a old)) old new)
global_put r g k n x y old mid new e s u w h =
    let start = subst (λ z. IfOk r (WaitsFor frame.HasSet g (ask.Set k x (value.Ref g)) (with_top z old) new)) u (subst (λ (z : View). IfOk r (WaitsFor frame.HasSet g (ask.Set k x (value.Ref g)) z new)) w h) in
    subst (λ o. IfOk r (WaitsFor frame.HasSet o (ask.Set (key.Text (text_at old.code n)) x (value.Ref o)) (with_top x old) new)) e
    (subst (λ j. IfOk r (WaitsFor frame.HasSet g (ask.Set j x (value.Ref g)) (with_top x old) new)) s start)
