-- How bodies end.
use Rattle.std.proofs.Common.{◌≡◌, ℕ, [], ◌∷◌, true, false, Option, refl, sym, ap, ◌∙◌, subst, Result, Ok, Err, IfOk}
use Rattle.lava_base.specs.declared.ids.MadeSymbol.{MadeSymbol}
use Rattle.lava_base.specs.declared.ids.Ref.{Ref}
use Rattle.js_text.specs.Naming.{naming_of}
use Rattle.js_text.specs.declared.value.Value.{Value}
use Rattle.js_text.specs.declared.value.Value.TheVariants as value
use Rattle.js_code.specs.Tables.{Tables}
use Rattle.js_operation.specs.js_run.Acts.{Act, give}
use Rattle.js_operation.specs.js_run.Bodies.{built, closed, constructed, derived_constructed, returned, this_of}
use Rattle.js_operation.specs.js_run.Going.{go_on}
use Rattle.js_operation.specs.js_run.Parties.{Party, first_body}
use Rattle.js_operation.specs.js_run.Runs.{answered}
use Rattle.js_machine.specs.Bodies.{OpenBodies}
use Rattle.js_machine.specs.Opened.{returned_value, without_body}
use Rattle.js_machine.specs.Steps.{IsDelivered, LeadsTo, over, settles, under}
use Rattle.js_machine.specs.Views.{Around, View, completion_with, fitting, is_completion, is_throw, party_of, top, values_without}
use Rattle.js_machine.specs.declared.frame.Frame.{Frame}
use Rattle.js_machine.specs.declared.frame.Frame.TheVariants as frame
use Rattle.js_machine.specs.declared.frame.Mode.{Mode}
use Rattle.js_machine.specs.declared.frame.Mode.TheVariants as mode

abbrev V : Type 0
V = Value Ref MadeSymbol

abbrev Going : Type 0
Going = Around → V → Party Ref MadeSymbol → Act Ref MadeSymbol

-- what waited goes on with the completion
abbrev GoesOn : Frame → Mode → View → View → Mode → Type 0
GoesOn f m old new after = LeadsTo (λ a. go_on (naming_of old.me) a.shared (over f (record old { values = values_without m old.values }) a) (completion_with old.code m (top old.values)) (party_of a old)) (under f (record old { values = values_without m old.values })) new after

pub followed : (f : Frame) (m : Mode) (old new : View) (after : Mode) → is_completion m ≡ true → GoesOn f m old new after → IsDelivered f m old new after
followed f (mode.Eval at) old new after c h = cc
followed f mode.Ask old new after c h = cc
followed f mode.Answer old new after c h = cc
followed f mode.Value old new after c h = record { stands = λ a. h.leads a; keeps = h.keeps }
followed f mode.Throw old new after c h = record { stands = λ a. h.leads a; keeps = h.keeps }
followed f mode.Return old new after c h = record { stands = λ a. h.leads a; keeps = h.keeps }
followed f (mode.Break l) old new after c h = record { stands = λ a. h.leads a; keeps = h.keeps }
followed f (mode.Continue l) old new after c h = record { stands = λ a. h.leads a; keeps = h.keeps }
followed f (mode.End h) old new after c g = cc
followed f (mode.Pay i) old new after c g = cc
followed f (mode.Serve i) old new after c g = cc
followed f mode.Import old new after c g = cc
followed f mode.Outside old new after c g = cc

returned_is : (m : Mode) (c : Tables) (v : V) (p : Party Ref MadeSymbol) (go : V → Party Ref MadeSymbol → Act Ref MadeSymbol) → is_completion m ≡ true → is_throw m ≡ false → returned (completion_with c m v) p go ≡ go (returned_value m v) p
returned_is (mode.Eval at) c v p go k n = cc
returned_is mode.Ask c v p go k n = cc
returned_is mode.Answer c v p go k n = cc
returned_is mode.Value c v p go k n = refl
returned_is mode.Throw c v p go k n = cc
returned_is mode.Return c v p go k n = refl
returned_is (mode.Break l) c v p go k n = refl
returned_is (mode.Continue l) c v p go k n = refl
returned_is (mode.End h) c v p go k n = cc
returned_is (mode.Pay i) c v p go k n = cc
returned_is (mode.Serve i) c v p go k n = cc
returned_is mode.Import c v p go k n = cc
returned_is mode.Outside c v p go k n = cc

pub throw_is : (m : Mode) → is_throw m ≡ true → m ≡ mode.Throw
throw_is (mode.Eval at) t = cc
throw_is mode.Ask t = cc
throw_is mode.Answer t = cc
throw_is mode.Value t = cc
throw_is mode.Throw t = refl
throw_is mode.Return t = cc
throw_is (mode.Break l) t = cc
throw_is (mode.Continue l) t = cc
throw_is (mode.End h) t = cc
throw_is (mode.Pay i) t = cc
throw_is (mode.Serve i) t = cc
throw_is mode.Import t = cc
throw_is mode.Outside t = cc

-- the body's end leads on
abbrev Ends : Going → Mode → View → View → Mode → Type 0
Ends go m old new after = LeadsTo (λ a. returned (completion_with old.code m (top old.values)) (closed (party_of a old)) (go a)) (record old { values = values_without m old.values }) new after

abbrev After : Mode → View → View
After m old = record (without_body old) { values = values_without m old.values }

came_back : (go : Going) (m : Mode) (old new : View) (after : Mode) → is_completion m ≡ true → is_throw m ≡ false → LeadsTo (λ a. go a (returned_value m (top old.values)) (party_of a (After m old))) (After m old) new after → Ends go m old new after
came_back go m old new after c n h =
    record { leads = λ a. (let b = fitting old a in h.leads a ∙ ap (λ x. settles b old (values_without m old.values) (answered (naming_of old.me) b.env x)) (sym (returned_is m old.code (top old.values) (closed (party_of b old)) (go b) c n))); keeps = h.keeps }

came_back_ok : {E : Type 0} (r : Result Mode E) (go : Going) (m : Mode) (v : V) (old mid end new : View) → is_completion m ≡ true → is_throw m ≡ false → mid ≡ without_body old → v ≡ returned_value m (top mid.values)
    → end ≡ record mid { values = values_without m mid.values } → IfOk r (LeadsTo (λ a. go a v (party_of a end)) end new) → IfOk r (Ends go m old new)
came_back_ok {E = ℕ} (Ok k) go m v old mid end new c n e s d h =
    let there = d ∙ (λ j. record (e j) { values = values_without m (e j).values }) in
    let what = s ∙ ap (λ (w : View). returned_value m (top w.values)) e in
    let w = subst (λ x. LeadsTo (λ a. go a v (party_of a x)) x new k) there h in
    came_back go m old new k c n (subst (λ x. LeadsTo (λ a. go a x (party_of a (After m old))) (After m old) new k) what w)
came_back_ok (Err x) go m v old mid end new c n e s d h = tt

-- a throw passes
threw : (go : Going) (old new : View) → new ≡ without_body old → Ends go mode.Throw old new mode.Throw
threw go old new e = subst (λ w. Ends go mode.Throw old w mode.Throw) (sym e) (record { leads = λ a. refl; keeps = (refl, (refl, (refl, (refl, refl)))) })

-- CALLS

pub called_back : {E : Type 0} (r : Result Mode E) (m : Mode) (v : V) (old mid end new : View) → is_completion m ≡ true → is_throw m ≡ false → mid ≡ without_body old → v ≡ returned_value m (top mid.values)
    → end ≡ record mid { values = values_without m mid.values } → IfOk r (LeadsTo (λ a. give v (party_of a end)) end new) → IfOk r (IsDelivered frame.Called m old new)
called_back (Ok k) m v old mid end new c n e s d h = followed frame.Called m old new k c (came_back_ok {E = ℕ} (Ok k) (λ a. give) m v old mid end new c n e s d h)
called_back (Err x) m v old mid end new c n e s d h = tt

pub call_threw : (m : Mode) (old new : View) → is_throw m ≡ true → new ≡ without_body old → IsDelivered frame.Called m old new m
call_threw m old new t e = subst (λ x. IsDelivered frame.Called x old new x) (sym (throw_is m t)) (followed frame.Called mode.Throw old new mode.Throw refl (threw (λ a. give) old new e))

-- CONSTRUCTIONS

abbrev Constructs : ℕ → ℕ → Going
Constructs me o a = constructed (naming_of me) a.shared (value.Ref ((naming_of me).own o))

pub constructed_back : {E : Type 0} (r : Result Mode E) (o : ℕ) (m : Mode) (v : V) (old mid end new : View) → is_completion m ≡ true → is_throw m ≡ false → mid ≡ without_body old → v ≡ returned_value m (top mid.values)
    → end ≡ record mid { values = values_without m mid.values } → IfOk r (LeadsTo (λ a. constructed (naming_of end.me) a.shared (value.Ref ((naming_of end.me).own o)) v (party_of a end)) end new) → IfOk r (IsDelivered (frame.Constructed o) m old new)
constructed_back (Ok k) o m v old mid end new c n e s d h =
    let me = ap (λ (w : View). w.me) d ∙ ap (λ (w : View). w.me) e in
    followed (frame.Constructed o) m old new k c (came_back_ok {E = ℕ} (Ok k) (Constructs old.me o) m v old mid end new c n e s d (subst (λ i. LeadsTo (λ a. Constructs i o a v (party_of a end)) end new k) me h))
constructed_back (Err x) o m v old mid end new c n e s d h = tt

pub construct_threw : (o : ℕ) (m : Mode) (old new : View) → is_throw m ≡ true → new ≡ without_body old → IsDelivered (frame.Constructed o) m old new m
construct_threw o m old new t e = subst (λ x. IsDelivered (frame.Constructed o) x old new x) (sym (throw_is m t)) (followed (frame.Constructed o) mode.Throw old new mode.Throw refl (threw (Constructs old.me o) old new e))

abbrev Builds : ℕ → Going
Builds me a = built (naming_of me) a.shared

pub built_back : {E : Type 0} (r : Result Mode E) (m : Mode) (v : V) (old mid end new : View) → is_completion m ≡ true → is_throw m ≡ false → mid ≡ without_body old → v ≡ returned_value m (top mid.values)
    → end ≡ record mid { values = values_without m mid.values } → IfOk r (LeadsTo (λ a. built (naming_of end.me) a.shared v (party_of a end)) end new) → IfOk r (IsDelivered frame.Built m old new)
built_back (Ok k) m v old mid end new c n e s d h =
    let me = ap (λ (w : View). w.me) d ∙ ap (λ (w : View). w.me) e in
    followed frame.Built m old new k c (came_back_ok {E = ℕ} (Ok k) (Builds old.me) m v old mid end new c n e s d (subst (λ i. LeadsTo (λ a. Builds i a v (party_of a end)) end new k) me h))
built_back (Err x) m v old mid end new c n e s d h = tt

pub build_threw : (m : Mode) (old new : View) → is_throw m ≡ true → new ≡ without_body old → IsDelivered frame.Built m old new m
build_threw m old new t e = subst (λ x. IsDelivered frame.Built x old new x) (sym (throw_is m t)) (followed frame.Built mode.Throw old new mode.Throw refl (threw (Builds old.me) old new e))

this_first : (bs : OpenBodies) → (first_body bs).this ≡ this_of bs
this_first [] = refl
this_first (b ∷ bs) = refl

abbrev Derives : ℕ → Option V → Going
Derives me this a = derived_constructed (naming_of me) a.shared this

pub derived_back : {E : Type 0} (r : Result Mode E) (m : Mode) (this : Option V) (v : V) (old mid end new : View) → is_completion m ≡ true → is_throw m ≡ false → this ≡ (first_body old.bodies).this → mid ≡ without_body old → v ≡ returned_value m (top mid.values)
    → end ≡ record mid { values = values_without m mid.values } → IfOk r (LeadsTo (λ a. derived_constructed (naming_of end.me) a.shared this v (party_of a end)) end new) → IfOk r (IsDelivered frame.Derived m old new)
derived_back (Ok k) m this v old mid end new c n t e s d h =
    let me = ap (λ (w : View). w.me) d ∙ ap (λ (w : View). w.me) e in
    let g = subst (λ i. LeadsTo (λ a. Derives i this a v (party_of a end)) end new k) me h in
    followed frame.Derived m old new k c (came_back_ok {E = ℕ} (Ok k) (Derives old.me (this_of old.bodies)) m v old mid end new c n e s d (subst (λ x. LeadsTo (λ a. Derives old.me x a v (party_of a end)) end new k) (t ∙ this_first old.bodies) g))
derived_back (Err x) m this v old mid end new c n t e s d h = tt

pub derived_threw : (m : Mode) (old new : View) → is_throw m ≡ true → new ≡ without_body old → IsDelivered frame.Derived m old new m
derived_threw m old new t e = subst (λ x. IsDelivered frame.Derived x old new x) (sym (throw_is m t)) (followed frame.Derived mode.Throw old new mode.Throw refl (threw (Derives old.me (this_of old.bodies)) old new e))
