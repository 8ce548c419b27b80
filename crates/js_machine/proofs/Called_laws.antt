-- Calls and constructions that ask an object.
use Rattle.std.proofs.Common.{◌≡◌, ℕ, suc, ◌+◌, Bool, true, false, List, [], ◌∷◌, ◌++◌, ◌<◌, ◌≤◌, length, take, take-suc, drop, Option, Some, None, sym, ap, ◌∙◌, subst, arith, Result, Ok, Err, IfOk, if◌then◌else◌}
use Rattle.lava_base.specs.declared.ids.MadeSymbol.{MadeSymbol}
use Rattle.lava_base.specs.declared.ids.Ref.{Ref}
use Rattle.lava_base.specs.declared.marks.Marks.{Marks}
use Rattle.js_text.specs.Naming.{naming_of}
use Rattle.js_text.specs.declared.value.Value.{Value}
use Rattle.js_text.specs.declared.value.Value.TheVariants as value
use Rattle.js_desc.specs.declared.ask.Ask.{Ask}
use Rattle.js_desc.specs.declared.ask.Ask.TheVariants as ask
use Rattle.js_desc.specs.declared.fault.FaultText.{FaultText}
use Rattle.js_desc.specs.declared.fault.FaultText.TheVariants as fault
use Rattle.js_operation.specs.js_run.Acts.{asks, give, with_value}
use Rattle.js_operation.specs.js_run.Asking.{calls}
use Rattle.js_operation.specs.js_run.Calls.{constructs_itself}
use Rattle.js_operation.specs.js_run.Faults.{faults}
use Rattle.js_machine.specs.Decisions.{object_of_value}
use Rattle.js_machine.specs.Looks.{marks_in}
use Rattle.js_machine.specs.Steps.{LeadsTo, WaitsFor, settles, without_top}
use Rattle.js_machine.specs.Views.{View, applied, args_on, below, fitting, held, party_of, top}
use Rattle.js_machine.specs.declared.frame.Frame.TheVariants as frame
use Rattle.js_machine.specs.declared.frame.Mode.{Mode}
use Rattle.js_machine.specs.declared.frame.Purpose.{Purpose}
use Rattle.js_machine.specs.declared.frame.Purpose.TheVariants as purpose
use Rattle.js_machine.proofs.Dropped.{drop_below}
use Rattle.js_machine.proofs.Filled.{top_of}
use Rattle.js_machine.proofs.Followed.{is_object}
use Rattle.js_machine.proofs.Looked.{looked}

abbrev V : Type 0
V = Value Ref MadeSymbol

-- an object is asked, if its marks say so
abbrev Asked : Bool → Ref → Ask Ref MadeSymbol → FaultText → View → View → Mode → Type 0
Asked b f x e old new m = LeadsTo (λ a. if b then asks (naming_of old.me) f x (party_of a old) (with_value give) else faults (naming_of old.me) e (party_of a old)) old new m

asked_if : {E : Type 0} (r : Result Mode E) (b c : Bool) (f : Ref) (x : Ask Ref MadeSymbol) (e : FaultText) (old new : View) → b ≡ c → IfOk r (Asked b f x e old new) → IfOk r (Asked c f x e old new)
asked_if r b c f x e old new d h = subst (λ y. IfOk r (Asked y f x e old new)) d h

-- CALLS

abbrev Calls : V → V → List V → View → View → Mode → Type 0
Calls f this args old new m = LeadsTo (λ a. calls (naming_of old.me) a.shared f this args (party_of a old) (with_value give)) old new m

calls_by_marks : {E : Type 0} (r : Result Mode E) (f : Ref) (this : V) (args : List V) (old new : View) → IfOk r (Asked (marks_in old f).callable f (ask.Call this args) fault.NotAFunction old new) → IfOk r (Calls (value.Ref f) this args old new)
calls_by_marks (Ok m) f this args old new h =
    record {
      leads = λ a. (let b = fitting old a in
          h.leads a
          ∙ ap (λ x. settles b old old.values x) (sym (looked f old a (λ (n : Marks). if n.callable then asks (naming_of old.me) f (ask.Call this args) (party_of b old) (with_value give) else faults (naming_of old.me) fault.NotAFunction (party_of b old)))));
      keeps = h.keeps;
    }
calls_by_marks (Err x) f this args old new h = tt

pub call_asks : {E : Type 0} (r : Result Mode E) (n : Marks) (f : Ref) (this : V) (args : List V) (old new : View) → n ≡ marks_in old f → n.callable ≡ true → IfOk r (WaitsFor frame.Given f (ask.Call this args) old new) → IfOk r (Calls (value.Ref f) this args old new)
call_asks r n f this args old new e t h =
    calls_by_marks r f this args old new (asked_if r true (marks_in old f).callable f (ask.Call this args) fault.NotAFunction old new (sym t ∙ ap (λ (x : Marks). x.callable) e) h)

pub call_refused : {E : Type 0} (r : Result Mode E) (n : Marks) (f : Ref) (this : V) (args : List V) (old new : View) → n ≡ marks_in old f → n.callable ≡ false → IfOk r (LeadsTo (λ a. faults (naming_of old.me) fault.NotAFunction (party_of a old)) old new)
    → IfOk r (Calls (value.Ref f) this args old new)
call_refused r n f this args old new e t h =
    calls_by_marks r f this args old new (asked_if r false (marks_in old f).callable f (ask.Call this args) fault.NotAFunction old new (sym t ∙ ap (λ (x : Marks). x.callable) e) h)

pub called_object : {E : Type 0} (r : Result Mode E) (o : Option Ref) (v : V) (f : Ref) (this : V) (args : List V) (old new : View) → o ≡ object_of_value v → o ≡ Some f → IfOk r (Calls (value.Ref f) this args old new) → IfOk r (Calls v this args old new)
called_object r o v f this args old new e s h = subst (λ x. IfOk r (Calls x this args old new)) (sym (is_object v f (sym e ∙ s))) h

pub called_other : {E : Type 0} (r : Result Mode E) (o : Option Ref) (v : V) (this : V) (args : List V) (old new : View) → o ≡ object_of_value v → o ≡ None → IfOk r (LeadsTo (λ a. faults (naming_of old.me) fault.NotAFunction (party_of a old)) old new)
    → IfOk r (Calls v this args old new)
called_other r o (value.Ref f) this args old new e s h = cc
called_other r o v this args old new e s h = h

-- CONSTRUCTIONS

abbrev News : V → List V → View → View → Mode → Type 0
News f args old new m = LeadsTo (λ a. constructs_itself (naming_of old.me) a.shared f args (party_of a old)) old new m

news_by_marks : {E : Type 0} (r : Result Mode E) (f : Ref) (args : List V) (old new : View) → IfOk r (Asked (marks_in old f).constructor f (ask.Construct f args) fault.NotAConstructor old new) → IfOk r (News (value.Ref f) args old new)
news_by_marks (Ok m) f args old new h =
    record {
      leads = λ a. (let b = fitting old a in
          h.leads a
          ∙ ap (λ x. settles b old old.values x) (sym (looked f old a (λ (n : Marks). if n.constructor then asks (naming_of old.me) f (ask.Construct f args) (party_of b old) (with_value give) else faults (naming_of old.me) fault.NotAConstructor (party_of b old)))));
      keeps = h.keeps;
    }
news_by_marks (Err x) f args old new h = tt

pub new_asks : {E : Type 0} (r : Result Mode E) (n : Marks) (f : Ref) (args : List V) (old new : View) → n ≡ marks_in old f → n.constructor ≡ true → IfOk r (WaitsFor frame.Given f (ask.Construct f args) old new) → IfOk r (News (value.Ref f) args old new)
new_asks r n f args old new e t h =
    news_by_marks r f args old new (asked_if r true (marks_in old f).constructor f (ask.Construct f args) fault.NotAConstructor old new (sym t ∙ ap (λ (x : Marks). x.constructor) e) h)

pub new_refused : {E : Type 0} (r : Result Mode E) (n : Marks) (f : Ref) (args : List V) (old new : View) → n ≡ marks_in old f → n.constructor ≡ false → IfOk r (LeadsTo (λ a. faults (naming_of old.me) fault.NotAConstructor (party_of a old)) old new)
    → IfOk r (News (value.Ref f) args old new)
new_refused r n f args old new e t h =
    news_by_marks r f args old new (asked_if r false (marks_in old f).constructor f (ask.Construct f args) fault.NotAConstructor old new (sym t ∙ ap (λ (x : Marks). x.constructor) e) h)

pub new_object : {E : Type 0} (r : Result Mode E) (o : Option Ref) (v : V) (f : Ref) (args : List V) (old new : View) → o ≡ object_of_value v → o ≡ Some f → IfOk r (News (value.Ref f) args old new) → IfOk r (News v args old new)
new_object r o v f args old new e s h = subst (λ x. IfOk r (News x args old new)) (sym (is_object v f (sym e ∙ s))) h

pub new_other : {E : Type 0} (r : Result Mode E) (o : Option Ref) (v : V) (args : List V) (old new : View) → o ≡ object_of_value v → o ≡ None → IfOk r (LeadsTo (λ a. faults (naming_of old.me) fault.NotAConstructor (party_of a old)) old new) → IfOk r (News v args old new)
new_other r o (value.Ref f) args old new e s h = cc
new_other r o v args old new e s h = h

-- WHAT ARGUMENTS ARE FOR

abbrev pub Applies : Purpose → (done : ℕ) → View → View → Mode → Type 0
Applies k done old new m = LeadsTo (λ a. applied (naming_of old.me) a.shared k (drop done old.values) (args_on done old.values) (party_of a old)) (record old { values = drop (done + held k) old.values }) new m

pub applies : {E : Type 0} (r : Result Mode E) (k j : Purpose) (done : ℕ) (old new : View) → k ≡ j → IfOk r (Applies j done old new) → IfOk r (Applies k done old new)
applies r k j done old new e h = subst (λ x. IfOk r (Applies x done old new)) (sym e) h

pub new_applied : {E : Type 0} (r : Result Mode E) (done : ℕ) (args : List V) (f : V) (old mid low new : View) → args ≡ args_on done old.values → mid ≡ record old { values = drop done old.values } → f ≡ top mid.values → low ≡ without_top mid
    → IfOk r (LeadsTo (λ a. constructs_itself (naming_of low.me) a.shared f args (party_of a low)) low new) → IfOk r (Applies purpose.New done old new)
new_applied (Ok m) done args f old mid low new s e g d h =
    let rest = record old { values = drop (done + 1) old.values } in
    let there : low ≡ rest = d ∙ ap without_top e ∙ ap (λ vs. record old { values = vs }) (drop_below done old.values) in
    let w = subst (λ (x : View). LeadsTo (λ a. constructs_itself (naming_of x.me) a.shared f args (party_of a x)) x new m) there h in
    let u = subst (λ x. LeadsTo (λ a. constructs_itself (naming_of old.me) a.shared x args (party_of a rest)) rest new m) (g ∙ ap (λ (x : View). top x.values) e) w in
    let v = subst (λ xs. LeadsTo (λ a. constructs_itself (naming_of old.me) a.shared (top (drop done old.values)) xs (party_of a rest)) rest new m) s u in
    record { leads = λ a. v.leads a; keeps = v.keeps }
new_applied (Err x) done args f old mid low new s e g d h = tt

pub call_applied : {E : Type 0} (r : Result Mode E) (done : ℕ) (args : List V) (f this : V) (old mid more low new : View) → args ≡ args_on done old.values → mid ≡ record old { values = drop done old.values } → f ≡ top mid.values → more ≡ without_top mid
    → this ≡ top more.values → low ≡ without_top more → IfOk r (LeadsTo (λ a. calls (naming_of low.me) a.shared f this args (party_of a low) (with_value give)) low new) → IfOk r (Applies purpose.Call done old new)
call_applied (Ok m) done args f this old mid more low new s e g d t l h =
    let rest = record old { values = drop (done + 2) old.values } in
    let two : done + 1 + 1 ≡ done + 2 = omega arith in
    let once : more ≡ record old { values = below (drop done old.values) } = d ∙ ap without_top e in
    let there : low ≡ rest =
    l ∙ ap without_top (once ∙ ap (λ vs. record old { values = vs }) (drop_below done old.values)) ∙ ap (λ vs. record old { values = vs }) (drop_below (done + 1) old.values ∙ ap (λ n. drop n old.values) two) in
    let w = subst (λ (x : View). LeadsTo (λ a. calls (naming_of x.me) a.shared f this args (party_of a x) (with_value give)) x new m) there h in
    let u = subst (λ x. LeadsTo (λ a. calls (naming_of old.me) a.shared x this args (party_of a rest) (with_value give)) rest new m) (g ∙ ap (λ (x : View). top x.values) e) w in
    let v = subst (λ x. LeadsTo (λ a. calls (naming_of old.me) a.shared (top (drop done old.values)) x args (party_of a rest) (with_value give)) rest new m) (t ∙ ap (λ (x : View). top x.values) once) u in
    let z = subst (λ xs. LeadsTo (λ a. calls (naming_of old.me) a.shared (top (drop done old.values)) (top (below (drop done old.values))) xs (party_of a rest) (with_value give)) rest new m) s v in
    record { leads = λ a. z.leads a; keeps = z.keeps }
call_applied (Err x) done args f this old mid more low new s e g d t l h = tt

-- ARGUMENTS AS A LIST

pub next_state : (i : ℕ) (old mid new : View) → mid ≡ record old { values = drop i old.values } → new ≡ without_top mid → new ≡ record old { values = drop (i + 1) old.values }
next_state i old mid new e d = d ∙ ap without_top e ∙ ap (λ vs. record old { values = vs }) (drop_below i old.values)

pub next_taken : (i n : ℕ) (v : V) (xs ys : List V) (old mid : View) → mid ≡ record old { values = drop i old.values } → xs ≡ take i old.values → v ≡ top mid.values → i < n → n ≤ length old.values → ys ≡ xs ++ v ∷ [] → ys ≡ take (i + 1) old.values
next_taken i n v xs ys old mid e t s l m p =
    let there : v ≡ top (drop i old.values) = s ∙ ap (λ (w : View). top w.values) e in
    let one : suc i ≡ i + 1 = omega arith in
    p ∙ (λ j. t j ++ (there ∙ top_of i old.values) j ∷ []) ∙ sym (take-suc old.values i value.Undefined (omega (arith, l, m))) ∙ ap (λ k. take k old.values) one
