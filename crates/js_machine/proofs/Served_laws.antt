-- An ask that came.
use Rattle.std.proofs.Common.{◌≡◌, ℕ, [], Option, Some, None, refl, sym, ap, ◌∙◌, subst, Result, Ok, Err, IfOk}
use Rattle.lava_base.specs.declared.ids.MadeSymbol.{MadeSymbol}
use Rattle.lava_base.specs.declared.ids.Ref.{Ref}
use Rattle.js_text.specs.Naming.{Origin, Own, Common, Foreign, naming_of}
use Rattle.js_text.specs.declared.value.Value.TheVariants as value
use Rattle.js_desc.specs.declared.ask.Ask.{Ask}
use Rattle.js_operation.specs.js_run.Acts.{throws}
use Rattle.js_operation.specs.js_run.Local.{serves_at}
use Rattle.js_operation.specs.js_run.NativeTurns.{served_units}
use Rattle.js_operation.specs.js_run.Parties.{Party}
use Rattle.js_operation.specs.js_run.Runs.{Decides, Due, answered, settle}
use Rattle.js_machine.specs.Looks.{foreign_at}
use Rattle.js_machine.specs.Served.{IsServed}
use Rattle.js_machine.specs.Steps.{LeadsTo}
use Rattle.js_machine.specs.Views.{View, fitting, nexts_of, party_of}
use Rattle.js_machine.specs.declared.frame.Mode.{Mode}
use Rattle.js_machine.specs.declared.frame.Mode.TheVariants as mode

-- an object that is not foreign decides
here : (o : Origin) (r : Ref) (x : Ask Ref MadeSymbol) (p : Party Ref MadeSymbol) → foreign_at r o ≡ None → serves_at o r x p ≡ Due (served_units x) (Decides (value.Ref r) x) p []
here (Own i) r x p e = refl
here (Common c) r x p e = refl
here Foreign r x p e = cc

pub served : (o : Option Ref) (n : ℕ) (r : Ref) (x : Ask Ref MadeSymbol) (old new : View) → old.frames ≡ [] → o ≡ foreign_at r ((naming_of old.me).origin r) → o ≡ None → n ≡ served_units x
    → new ≡ record old { asked = record { target = value.Ref r; ask = x } } → IsServed r x old new (mode.Serve n)
served o n r x old new f e d u s =
    let stands : IsServed r x old (record old { asked = record { target = value.Ref r; ask = x } }) (mode.Serve n) = record {
      stands = λ a. (let b = fitting old a in
          (λ j. Due (u j) (Decides (value.Ref r) x) (party_of b old) (nexts_of (naming_of old.me) b.shared old.code (f j) old.values old.waits))
          ∙ sym (here ((naming_of old.me).origin r) r x (party_of b old) (sym e ∙ d)));
      keeps = (refl, (refl, (refl, (refl, refl))));
    } in
    subst (λ w. IsServed r x old w (mode.Serve n)) (sym s) stands

-- an object that is foreign throws undefined
away : (o : Origin) (r s : Ref) → foreign_at r o ≡ Some s → o ≡ Foreign
away (Own i) r s e = cc
away (Common c) r s e = cc
away Foreign r s e = refl

pub not_served : {E : Type 0} (k : Result Mode E) (o : Option Ref) (s r : Ref) (x : Ask Ref MadeSymbol) (old new : View) → old.frames ≡ [] → o ≡ foreign_at r ((naming_of old.me).origin r) → o ≡ Some s
    → IfOk k (LeadsTo (λ a. throws value.Undefined (party_of a old)) old new) → IfOk k (IsServed r x old new)
not_served (Ok m) o s r x old new f e d h =
    record {
      stands = λ a. (let b = fitting old a in
          h.leads a
          ∙ ap (λ fs. settle (naming_of old.me) b.shared b.env (nexts_of (naming_of old.me) b.shared old.code fs old.values old.waits) (answered (naming_of old.me) b.env (throws value.Undefined (party_of b old)))) f
          ∙ ap (λ y. serves_at y r x (party_of b old)) (sym (away ((naming_of old.me).origin r) r s (sym e ∙ d))));
      keeps = h.keeps;
    }
not_served (Err z) o s r x old new f e d h = tt
