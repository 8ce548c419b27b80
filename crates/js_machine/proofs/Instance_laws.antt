-- Functions behind bound ones, and what objects inherit from.
use Rattle.std.proofs.Common.{◌≡◌, ℕ, zero, suc, Bool, true, false, List, length, codes, Option, Some, None, refl, sym, ap, ◌∙◌, subst, Result, Ok, Err, IfOk, if◌then◌else◌}
use Rattle.std.specs.Option.{option_map, unwrap_or}
use Rattle.lava_base.specs.declared.ids.MadeSymbol.{MadeSymbol}
use Rattle.lava_base.specs.declared.ids.Ref.{Ref}
use Rattle.js_text.specs.Naming.{Origin, naming_of}
use Rattle.js_text.specs.declared.value.Key.{Key}
use Rattle.js_text.specs.declared.value.Key.TheVariants as key
use Rattle.js_text.specs.declared.value.Value.{Value}
use Rattle.js_text.specs.declared.value.Value.TheVariants as value
use Rattle.js_desc.specs.declared.ask.Ask.TheVariants as ask
use Rattle.js_desc.specs.declared.fault.FaultText.TheVariants as fault
use Rattle.js_desc.specs.declared.reply.Reply.TheVariants as reply
use Rattle.js_ordinary.specs.Origins.{object_of, there}
use Rattle.js_ordinary.specs.Targets.{object_seen, origin_of_target}
use Rattle.js_ordinary.specs.declared.target.Target.{Target}
use Rattle.js_store.specs.Frozen.{CommonObject, common_ref}
use Rattle.js_store.specs.Objects.{Object}
use Rattle.js_store.specs.declared.slot.Slot.{Slot}
use Rattle.js_store.specs.declared.slot.Slot.TheVariants as slot
use Rattle.js_operation.specs.js_run.Acts.{give, inherits_from}
use Rattle.js_operation.specs.js_run.Faults.{faults}
use Rattle.js_operation.specs.js_run.Operators.{has_instance, has_instance_by, prototype_inherited, unbound, unbound_by}
use Rattle.js_machine.specs.Decisions.{object_of_value}
use Rattle.js_machine.specs.Instances.{bound_target, bound_target_in, unbound_in}
use Rattle.js_machine.specs.Replies.{deed_replied}
use Rattle.js_machine.specs.Steps.{LeadsTo, WaitsFor, deed_with, under, with_top, without_top}
use Rattle.js_machine.specs.Views.{Around, View, fitting, object_on, party_of, top}
use Rattle.js_machine.specs.Ways.{object_in}
use Rattle.js_machine.specs.declared.frame.Frame.TheVariants as frame
use Rattle.js_machine.specs.declared.frame.Mode.{Mode}
use Rattle.js_machine.proofs.Followed.{is_object}
use Rattle.js_machine.proofs.Referenced.{same_deed}
use Rattle.js_machine.proofs.Ways_laws.{nowhere, seen_there}

abbrev V : Type 0
V = Value Ref MadeSymbol

-- FUNCTIONS BEHIND BOUND ONES

pub no_target : (os : List (Object Ref MadeSymbol)) (cs : List CommonObject) (p : Origin) (o : Option Target) → option_map origin_of_target o ≡ there os cs p → o ≡ None → None ≡ bound_target (object_of common_ref os cs p).slot
no_target os cs p o e f = let b = nowhere os cs p (sym e ∙ ap (option_map origin_of_target) f) in ap bound_target (sym b.0)

pub target_there : (os : List (Object Ref MadeSymbol)) (cs : List CommonObject) (p : Origin) (o : Option Target) (t : Target) (s : Slot Ref MadeSymbol) → option_map origin_of_target o ≡ there os cs p → o ≡ Some t
    → s ≡ (object_seen os cs t).slot → bound_target s ≡ bound_target (object_of common_ref os cs p).slot
target_there os cs p o t s e f g = ap bound_target (g ∙ ap (λ (x : Object Ref MadeSymbol). x.slot) (seen_there os cs t o p e f))

pub stays_unbound : (w : View) (n : ℕ) (r : Ref) → bound_target_in w r ≡ None → unbound_in w n r ≡ r
stays_unbound w zero r e = refl
stays_unbound w (suc n) r e = ap (λ o. unbound_in w n (unwrap_or o r)) e ∙ stays_unbound w n r e

pub one_behind : (w : View) (n left : ℕ) (r t : Ref) (o : Option Ref) → left ≡ suc n → o ≡ bound_target_in w r → o ≡ Some t → unbound_in w left r ≡ unbound_in w n t
one_behind w n left r t o s e f = ap (λ i. unbound_in w i r) s ∙ ap (λ x. unbound_in w n (unwrap_or x r)) (sym e ∙ f)

by_slot : (w : View) (a : Around) (s : Slot Ref MadeSymbol) (r : Ref) → unbound_by (naming_of w.me) (fitting w a).shared s r ≡ unwrap_or (bound_target s) r
by_slot w a (slot.Bound target this args) r = refl
by_slot w a s r = refl

-- as the definitions find it
behind : (w : View) (a : Around) (n : ℕ) (r : Ref) → (let b = fitting w a in unbound (naming_of w.me) b.shared n r (party_of b w) ≡ unbound_in w n r)
behind w a zero r = refl
behind w a (suc n) r = behind w a n (unbound_by (naming_of w.me) (fitting w a).shared (object_in w r).slot r) ∙ ap (unbound_in w n) (by_slot w a (object_in w r).slot r)

pub instance_unbound : {E : Type 0} (r : Result Mode E) (f g : Ref) (v : V) (old new : View) → g ≡ unbound_in old (length old.objects) f → IfOk r (LeadsTo (λ a. has_instance_by (naming_of old.me) a.shared g v (party_of a old)) old new)
    → IfOk r (LeadsTo (λ a. has_instance (naming_of old.me) a.shared v (value.Ref f) (party_of a old)) old new)
instance_unbound r f g v old new e h =
    same_deed r (λ a. has_instance_by (naming_of old.me) a.shared g v (party_of a old)) (λ a. has_instance (naming_of old.me) a.shared v (value.Ref f) (party_of a old)) old new
    (λ a. (let b = fitting old a in ap (λ x. has_instance_by (naming_of old.me) b.shared x v (party_of b old)) (behind old a (length old.objects) f ∙ sym e))) h

-- WHAT OBJECTS INHERIT FROM

pub sought : {E : Type 0} (r : Result Mode E) (o p : Ref) (old mid new : View) → mid ≡ with_top (value.Ref p) old → IfOk r (WaitsFor frame.Inherits o ask.GetPrototypeOf mid new)
    → IfOk r (LeadsTo (λ a. prototype_inherited (naming_of old.me) a.shared o (value.Ref p) (party_of a old)) old new)
sought (Ok m) o p old mid new e h = let w = subst (λ (x : View). WaitsFor frame.Inherits o ask.GetPrototypeOf x new m) e h in record { leads = λ a. w.leads a; keeps = w.keeps }
sought (Err x) o p old mid new e h = tt

abbrev Inherited : Ref → V → View → View → Mode → Type 0
Inherited o v old new m = LeadsTo (λ a. prototype_inherited (naming_of old.me) a.shared o v (party_of a old)) old new m

pub inherited_object : {E : Type 0} (r : Result Mode E) (x : Option Ref) (o p : Ref) (v : V) (old new : View) → x ≡ object_of_value v → x ≡ Some p → IfOk r (Inherited o (value.Ref p) old new) → IfOk r (Inherited o v old new)
inherited_object r x o p v old new e f h = subst (λ y. IfOk r (Inherited o y old new)) (sym (is_object v p (sym e ∙ f))) h

pub inherited_other : {E : Type 0} (r : Result Mode E) (x : Option Ref) (o : Ref) (v : V) (old new : View) → x ≡ object_of_value v → x ≡ None → IfOk r (LeadsTo (λ a. faults (naming_of old.me) fault.NotAnObject (party_of a old)) old new) → IfOk r (Inherited o v old new)
inherited_other r x o (value.Ref q) old new e f h = cc
inherited_other r x o v old new e f h = h

-- the object was taken off
pub instance_taken : {E : Type 0} (r : Result Mode E) (o : Ref) (v : V) (old mid new : View) → o ≡ object_on (top old.values) → mid ≡ without_top old → IfOk r (Inherited o v mid new) → IfOk r (LeadsTo (deed_with frame.InstanceOf v old) (under frame.InstanceOf old) new)
instance_taken (Ok m) o v old mid new e s h =
    let w = subst (λ (x : View). Inherited o v x new m) s h in
    let u = subst (λ x. Inherited x v (without_top old) new m) e w in
    record { leads = λ a. u.leads a; keeps = u.keeps }
instance_taken (Err x) o v old mid new e s h = tt

abbrev Instance : Ref → V → View → View → Mode → Type 0
Instance f v old new m = LeadsTo (λ a. has_instance_by (naming_of old.me) a.shared f v (party_of a old)) old new m

pub prototype_asked : {E : Type 0} (r : Result Mode E) (f o : Ref) (k : Key MadeSymbol) (old mid new : View) → k ≡ key.Text (codes "prototype") → mid ≡ with_top (value.Ref o) old → IfOk r (WaitsFor frame.InstanceOf f (ask.Get k (value.Ref f)) mid new)
    → IfOk r (Instance f (value.Ref o) old new)
prototype_asked (Ok m) f o k old mid new d e h =
    let w = subst (λ (x : View). WaitsFor frame.InstanceOf f (ask.Get k (value.Ref f)) x new m) e h in
    let u = subst (λ j. WaitsFor frame.InstanceOf f (ask.Get j (value.Ref f)) (with_top (value.Ref o) old) new m) d w in
    record { leads = λ a. u.leads a; keeps = u.keeps }
prototype_asked (Err x) f o k old mid new d e h = tt

pub instance_object : {E : Type 0} (r : Result Mode E) (x : Option Ref) (f o : Ref) (v : V) (old new : View) → x ≡ object_of_value v → x ≡ Some o → IfOk r (Instance f (value.Ref o) old new) → IfOk r (Instance f v old new)
instance_object r x f o v old new e d h = subst (λ y. IfOk r (Instance f y old new)) (sym (is_object v o (sym e ∙ d))) h

pub instance_other : {E : Type 0} (r : Result Mode E) (x : Option Ref) (f : Ref) (v : V) (old new : View) → x ≡ object_of_value v → x ≡ None → IfOk r (LeadsTo (λ a. give (value.Bool false) (party_of a old)) old new) → IfOk r (Instance f v old new)
instance_other r x f (value.Ref q) old new e d h = cc
instance_other r x f v old new e d h = h

-- the object that is sought was taken off
pub sought_known : {E : Type 0} (r : Result Mode E) (s : Ref) (o : Option Ref) (old mid new : View) → s ≡ object_on (top old.values) → mid ≡ without_top old
    → IfOk r (LeadsTo (λ a. inherits_from (naming_of mid.me) s o (party_of a mid)) mid new) → IfOk r (LeadsTo (deed_replied frame.Inherits (reply.Proto o) old) (under frame.Inherits old) new)
sought_known (Ok m) s o old mid new e d h =
    let w = subst (λ (x : View). LeadsTo (λ a. inherits_from (naming_of x.me) s o (party_of a x)) x new m) d h in
    let u = subst (λ x. LeadsTo (λ a. inherits_from (naming_of old.me) x o (party_of a (without_top old))) (without_top old) new m) e w in
    record { leads = λ a. u.leads a; keeps = u.keeps }
sought_known (Err x) s o old mid new e d h = tt

-- the prototype is not the object that is sought, and is asked for its own
pub found_or_not : {E : Type 0} (r : Result Mode E) (b : Bool) (s o : Ref) (old new : View) → b ≡ (naming_of old.me).same s o → b ≡ false
    → IfOk r (LeadsTo (λ a. prototype_inherited (naming_of old.me) a.shared o (value.Ref s) (party_of a old)) old new) → IfOk r (LeadsTo (λ a. inherits_from (naming_of old.me) s (Some o) (party_of a old)) old new)
found_or_not r b s o old new e d h =
    subst (λ x. IfOk r (LeadsTo (λ a. if x then give (value.Bool true) (party_of a old) else prototype_inherited (naming_of old.me) a.shared o (value.Ref s) (party_of a old)) old new)) (sym d ∙ e) h
