-- Frames that have operands of a property.
use Rattle.std.proofs.Common.{◌≡◌, [], ◌∷◌, drop, refl, ap, ◌∙◌, subst, Result, Ok, Err, IfOk}
use Rattle.lava_base.specs.declared.ids.MadeSymbol.{MadeSymbol}
use Rattle.lava_base.specs.declared.ids.Ref.{Ref}
use Rattle.js_text.specs.Naming.{naming_of}
use Rattle.js_text.specs.declared.value.Value.{Value}
use Rattle.js_operation.specs.js_run.Properties.{delete_property, put_property}
use Rattle.js_operation.specs.js_run.Rows.{get_key}
use Rattle.js_machine.specs.Steps.{LeadsTo, deed_with, under, without_top}
use Rattle.js_machine.specs.Views.{Values, View, below, party_of, top}
use Rattle.js_machine.specs.declared.frame.Frame.TheVariants as frame
use Rattle.js_machine.specs.declared.frame.Mode.{Mode}

pub with_object : {E : Type 0} (r : Result Mode E) (o k : Value Ref MadeSymbol) (old mid new : View) → o ≡ top old.values → mid ≡ without_top old
    → IfOk r (LeadsTo (λ a. get_key (naming_of mid.me) a.shared o k (party_of a mid)) mid new) → IfOk r (LeadsTo (deed_with frame.GetKey k old) (under frame.GetKey old) new)
with_object (Ok m) o k old mid new e s h =
    let w = subst (λ (x : View). LeadsTo (λ a. get_key (naming_of x.me) a.shared o k (party_of a x)) x new m) s h in
    let u = subst (λ x. LeadsTo (λ a. get_key (naming_of old.me) a.shared x k (party_of a (without_top old))) (without_top old) new m) e w in
    record { leads = λ a. u.leads a; keeps = u.keeps }
with_object (Err x) o k old mid new e s h = tt

pub to_delete : {E : Type 0} (r : Result Mode E) (o k : Value Ref MadeSymbol) (old mid new : View) → o ≡ top old.values → mid ≡ without_top old
    → IfOk r (LeadsTo (λ a. delete_property (naming_of mid.me) a.shared o k (party_of a mid)) mid new) → IfOk r (LeadsTo (deed_with frame.DeleteKey k old) (under frame.DeleteKey old) new)
to_delete (Ok m) o k old mid new e s h =
    let w = subst (λ (x : View). LeadsTo (λ a. delete_property (naming_of x.me) a.shared o k (party_of a x)) x new m) s h in
    let u = subst (λ x. LeadsTo (λ a. delete_property (naming_of old.me) a.shared x k (party_of a (without_top old))) (without_top old) new m) e w in
    record { leads = λ a. u.leads a; keeps = u.keeps }
to_delete (Err x) o k old mid new e s h = tt

pub twice : (vs : Values) → below (below vs) ≡ drop 2 vs
twice [] = refl
twice (v ∷ []) = refl
twice (v ∷ u ∷ vs) = refl

pub with_both : {E : Type 0} (r : Result Mode E) (k o v : Value Ref MadeSymbol) (old mid more new : View) → k ≡ top old.values → mid ≡ without_top old → o ≡ top mid.values → more ≡ without_top mid
    → IfOk r (LeadsTo (λ a. put_property (naming_of more.me) a.shared o k v (party_of a more)) more new) → IfOk r (LeadsTo (deed_with frame.PutValue v old) (under frame.PutValue old) new)
with_both (Ok m) k o v old mid more new e s f t h =
    let rest = record old { values = drop 2 old.values } in
    let two : more ≡ rest = t ∙ ap without_top s ∙ ap (λ vs. record old { values = vs }) (twice old.values) in
    let w = subst (λ (x : View). LeadsTo (λ a. put_property (naming_of x.me) a.shared o k v (party_of a x)) x new m) two h in
    let u = subst (λ x. LeadsTo (λ a. put_property (naming_of old.me) a.shared x k v (party_of a rest)) rest new m) (f ∙ ap (λ (x : View). top x.values) s) w in
    let z = subst (λ x. LeadsTo (λ a. put_property (naming_of old.me) a.shared (top (below old.values)) x v (party_of a rest)) rest new m) e u in
    record { leads = λ a. z.leads a; keeps = z.keeps }
with_both (Err x) k o v old mid more new e s f t h = tt
