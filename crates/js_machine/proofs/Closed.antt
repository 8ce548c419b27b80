-- Functions of a source that run.
use Rattle.std.proofs.Common.{◌≡◌, ℕ, zero, suc, ◌+◌, ◌<◌, ◌≤◌, true, if◌then◌else◌, eq-eqb, lt-ltb, List, [], ◌∷◌, ◌++◌, length, get_or, take, take-suc, take_all, drop, reverse, Option, Some, None, refl, sym, ap, ◌∙◌, subst, arith, Result, Ok, Err, IfOk}
use Rattle.std.specs.Option.{option_map}
use Rattle.std.proofs.lemmas.List.{length-reverse, reverse-append, reverse-reverse}
use Rattle.lava_base.specs.declared.ids.MadeSymbol.{MadeSymbol}
use Rattle.lava_base.specs.declared.ids.Ref.{Ref}
use Rattle.lava_base.specs.declared.ids.Ref.TheVariants as reference
use Rattle.js_text.specs.Naming.{Naming, Origin, Own, Common, Foreign, naming_of, origin_of}
use Rattle.js_text.specs.declared.value.Value.{Value}
use Rattle.js_text.specs.declared.value.Value.TheVariants as value
use Rattle.js_desc.specs.declared.ask.Ask.{Ask}
use Rattle.js_desc.specs.declared.ask.Ask.TheVariants as ask
use Rattle.js_desc.specs.declared.decision.BodyId.{BodyId}
use Rattle.js_desc.specs.declared.decision.Decision.TheVariants as decision
use Rattle.js_desc.specs.declared.fault.FaultText.TheVariants as fault
use Rattle.js_ordinary.specs.Origins.{object_of, there}
use Rattle.js_ordinary.specs.Targets.{object_seen, origin_of_target}
use Rattle.js_ordinary.specs.declared.target.Target.{Target}
use Rattle.js_store.specs.Frozen.{CommonObject, common_ref}
use Rattle.js_store.specs.Objects.{Object, object_at}
use Rattle.js_store.specs.declared.slot.Lexical.{Lexical}
use Rattle.js_store.specs.declared.slot.Slot.{Slot}
use Rattle.js_store.specs.declared.slot.Slot.TheVariants as slot
use Rattle.js_operation.specs.js_exotic.BoundFunctions.{call_any}
use Rattle.js_operation.specs.js_exotic.Decided.{decided, decided_there}
use Rattle.js_operation.specs.js_exotic.Verdicts.{as_exotic}
use Rattle.js_operation.specs.js_run.Acts.{Decide, Next, ask_there}
use Rattle.js_operation.specs.js_run.Asking.{calls, calls_object, see_there}
use Rattle.js_operation.specs.js_run.Bodies.{outer_scope, run_function, run_slot, run_template}
use Rattle.js_operation.specs.js_run.Decisions.{decides, decides_by_slot, follows_with}
use Rattle.js_operation.specs.js_run.Faults.{faults}
use Rattle.js_operation.specs.js_run.Parties.{Party, Shared, template_at}
use Rattle.js_operation.specs.js_run.Runs.{answered}
use Rattle.js_term.specs.declared.term.Template.{Template}
use Rattle.js_machine.specs.Called.{template_numbered}
use Rattle.js_machine.specs.Closures.{closure_in, outer_of, runs_closure}
use Rattle.js_machine.specs.Opened.{template_of}
use Rattle.js_machine.specs.Steps.{LeadsTo, settles}
use Rattle.js_machine.specs.Views.{Values, View, args_on, fitting, party_of}
use Rattle.js_machine.specs.Ways.{object_in}
use Rattle.js_machine.specs.declared.closures.Closure.{Closure}
use Rattle.js_machine.specs.declared.frame.Mode.{Mode}
use Rattle.js_machine.proofs.Ways_laws.{nowhere, seen_there}

abbrev V : Type 0
V = Value Ref MadeSymbol

pub no_closure : (os : List (Object Ref MadeSymbol)) (cs : List CommonObject) (p : Origin) (o : Option Target) → option_map origin_of_target o ≡ there os cs p → o ≡ None → None ≡ closure_in (object_of common_ref os cs p).slot
no_closure os cs p o e f = let b = nowhere os cs p (sym e ∙ ap (option_map origin_of_target) f) in ap closure_in (sym b.0)

pub closure_there : {E : Type 0} (r : Result (Option Closure) E) (os : List (Object Ref MadeSymbol)) (cs : List CommonObject) (p : Origin) (o : Option Target) (t : Target) (s : Slot Ref MadeSymbol) → option_map origin_of_target o ≡ there os cs p → o ≡ Some t
    → s ≡ (object_seen os cs t).slot → IfOk r (λ c. c ≡ closure_in s) → IfOk r (λ c. c ≡ closure_in (object_of common_ref os cs p).slot)
closure_there (Ok c) os cs p o t s e f g h = h ∙ ap closure_in (g ∙ ap (λ (x : Object Ref MadeSymbol). x.slot) (seen_there os cs t o p e f))
closure_there (Err x) os cs p o t s e f g h = tt

-- WHAT RUNS

module _ (names : Naming Ref MadeSymbol) (shared : Shared) (f : Ref) (b : BodyId) (this : V) (args : List V) (target : Option Ref) (p : Party Ref MadeSymbol) where
  outer_is : (o : Origin) (s : ℕ) → outer_scope names shared o s ≡ outer_of o s
  outer_is (Own i) s = refl
  outer_is (Common c) s = refl
  outer_is Foreign s = refl

  is_run : (s : Slot Ref MadeSymbol) (c : Closure) → closure_in s ≡ Some c → run_slot names shared f s b this args target p ≡ runs_closure names shared f b c this args target p
  is_run (slot.Closure d home l) c e = let same : record { home = home; lexical = l } ≡ c = cc in ap (λ k. run_template names shared f (template_at shared p b.template) k home l this args target p) (outer_is (names.origin f) b.scope) ∙ ap (λ x. runs_closure names shared f b x this args target p) same
  is_run s c e = cc

  is_none : (s : Slot Ref MadeSymbol) → closure_in s ≡ None → run_slot names shared f s b this args target p ≡ faults names fault.NotAFunction p
  is_none (slot.Closure d home l) e = cc
  is_none s e = refl

-- A FUNCTION OF THE PARTY IS CALLED

module _ (me : ℕ) (shared : Shared) (id : ℕ) (this : V) (args : List V) (p : Party Ref MadeSymbol) where
  abbrev own_at : Ref
  own_at = reference.Own (record { 0 = me }) (record { 0 = id })

  abbrev called : Ask Ref MadeSymbol
  called = ask.Call this args

  from_here : origin_of me own_at ≡ Own id
  from_here = ap (λ b. if b then Own id else Foreign) (eq-eqb me me refl)

  seen_here : object_of (naming_of me).common p.objects shared.objects (origin_of me own_at) ≡ object_at p.objects id
  seen_here = ap (object_of (naming_of me).common p.objects shared.objects) from_here

  -- it is asked, where it can be called
  pub own_called : (k : Next Ref MadeSymbol) → (object_at p.objects id).marks.callable ≡ true → calls (naming_of me) shared (value.Ref own_at) this args p k ≡ Decide (value.Ref own_at) called p k
  own_called k e =
      let names = naming_of me in
      ap (λ o. see_there names shared o own_at p (λ m. if m.callable then calls_object names shared (value.Ref own_at) this args p k else faults names fault.NotAFunction p)) from_here
      ∙ ap (λ b. if b then calls_object names shared (value.Ref own_at) this args p k else faults names fault.NotAFunction p) e ∙ ap (λ o. ask_there o own_at called p k) from_here

  module _ (b : BodyId) (home : Option Ref) (l : Option (Lexical Ref MadeSymbol)) (is_there : id < length p.objects) (keeps : (object_at p.objects id).slot ≡ slot.Closure b home l) where
    -- the table says that its body runs
    body_said : decided (naming_of me) p.objects shared.objects own_at called ≡ (decision.Run b this args None, p.objects)
    body_said =
        let names = naming_of me in
        ap (λ o. decided_there names p.objects shared.objects own_at called (there p.objects shared.objects o)) from_here
        ∙ ap (λ t. decided_there names p.objects shared.objects own_at called (if t then Some (Own id) else None)) (lt-ltb id (length p.objects) is_there)
        ∙ ap (λ s. (as_exotic (call_any names s this args), p.objects)) keeps

    -- and it does
    pub own_runs : (c : Closure) → closure_in (object_at p.objects id).slot ≡ Some c → decides (naming_of me) shared (value.Ref own_at) called p ≡ runs_closure (naming_of me) shared own_at b c this args None p
    own_runs c e =
        let names = naming_of me in
        ap (λ (o : Object Ref MadeSymbol). decides_by_slot names shared own_at o.slot o.marks.callable called p) seen_here
        ∙ ap (λ s. decides_by_slot names shared own_at s (object_at p.objects id).marks.callable called p) keeps
        ∙ ap (λ d. follows_with names shared own_at d p) body_said
        ∙ ap (λ (o : Object Ref MadeSymbol). run_slot names shared own_at o.slot b this args None p) seen_here
        ∙ is_run names shared own_at b this args None p (object_at p.objects id).slot c e

abbrev Runs : Ref → BodyId → V → List V → Option Ref → View → View → Mode → Type 0
Runs f b this args target old new m = LeadsTo (λ a. run_function (naming_of old.me) a.shared f b this args target (party_of a old)) old new m

pub runs_none : {E : Type 0} (r : Result Mode E) (f : Ref) (b : BodyId) (this : V) (args : List V) (target : Option Ref) (o : Option Closure) (old new : View) → o ≡ closure_in (object_in old f).slot → o ≡ None
    → IfOk r (LeadsTo (λ a. faults (naming_of old.me) fault.NotAFunction (party_of a old)) old new) → IfOk r (Runs f b this args target old new)
runs_none (Ok m) f b this args target o old new e n h =
    record {
      leads = λ a. (let d = fitting old a in
          h.leads a ∙ ap (λ x. settles d old old.values (answered (naming_of old.me) d.env x)) (sym (is_none (naming_of old.me) d.shared f b this args target (party_of d old) (object_in old f).slot (sym e ∙ n))));
      keeps = h.keeps;
    }
runs_none (Err x) f b this args target o old new e n h = tt

pub runs_some : {E : Type 0} (r : Result Mode E) (f : Ref) (b : BodyId) (this : V) (args : List V) (target : Option Ref) (o : Option Closure) (c : Closure) (old new : View) → o ≡ closure_in (object_in old f).slot → o ≡ Some c
    → IfOk r (LeadsTo (λ a. runs_closure (naming_of old.me) a.shared f b c this args target (party_of a old)) old new) → IfOk r (Runs f b this args target old new)
runs_some (Ok m) f b this args target o c old new e n h =
    record {
      leads = λ a. (let d = fitting old a in
          h.leads a ∙ ap (λ x. settles d old old.values (answered (naming_of old.me) d.env x)) (sym (is_run (naming_of old.me) d.shared f b this args target (party_of d old) (object_in old f).slot c (sym e ∙ n))));
      keeps = h.keeps;
    }
runs_some (Err x) f b this args target o c old new e n h = tt

-- ARGUMENTS ON THE STACK

pub take_front : (n : ℕ) (xs ys : Values) → n ≡ length xs → take n (xs ++ ys) ≡ xs
take_front zero [] ys e = refl
take_front (suc n) [] ys e = cc
take_front zero (x ∷ xs) ys e = cc
take_front (suc n) (x ∷ xs) ys e = ap (λ zs. x ∷ zs) (take_front n xs ys (omega (arith, e)))

pub drop_front : (n : ℕ) (xs ys : Values) → n ≡ length xs → drop n (xs ++ ys) ≡ ys
drop_front zero [] ys e = refl
drop_front (suc n) [] ys e = cc
drop_front zero (x ∷ xs) ys e = cc
drop_front (suc n) (x ∷ xs) ys e = drop_front n xs ys (omega (arith, e))

pub one_pushed : (args : Values) (i : ℕ) (v : V) (old mid new : View) → mid ≡ record old { values = reverse (take i args) ++ old.values } → i < length args → v ≡ get_or args i v → new ≡ record mid { values = v ∷ mid.values } → new ≡ record old { values = reverse (take (i + 1) args) ++ old.values }
one_pushed args i v old mid new e l s d =
    let one : suc i ≡ i + 1 = omega arith in
    let next : v ∷ reverse (take i args) ≡ reverse (take (i + 1) args) =
    ap (λ x. x ∷ reverse (take i args)) s ∙ sym (reverse-append (take i args) (get_or args i v ∷ [])) ∙ ap (λ xs. reverse xs) (sym (take-suc args i v l)) ∙ ap (λ n. reverse (take n args)) one in
    d ∙ (λ j. record (e j) { values = v ∷ (e j).values }) ∙ ap (λ xs. record old { values = xs ++ old.values }) next

pub all_pushed : (args : Values) (i : ℕ) (old new : View) → new ≡ record old { values = reverse (take i args) ++ old.values } → length args ≤ i → new ≡ record old { values = reverse args ++ old.values }
all_pushed args i old new e l = e ∙ ap (λ xs. record old { values = reverse xs ++ old.values }) (take_all i args l)

pub listed_runs : {E : Type 0} (r : Result Mode E) (f : Ref) (b : BodyId) (c : Closure) (this : V) (target : Option Ref) (n at outer : ℕ) (old new : View) → template_of old at ≡ template_numbered old b.template → outer ≡ outer_of ((naming_of old.me).origin f) b.scope
    → IfOk r (LeadsTo (λ a. run_template (naming_of old.me) a.shared f (template_of old at) outer c.home c.lexical this (args_on n old.values) target (party_of a old)) (record old { values = drop n old.values }) new)
    → IfOk r (LeadsTo (λ a. runs_closure (naming_of old.me) a.shared f b c this (args_on n old.values) target (party_of a old)) (record old { values = drop n old.values }) new)
listed_runs (Ok m) f b c this target n at outer old new t s h =
    let w = subst (λ (x : Template). LeadsTo (λ a. run_template (naming_of old.me) a.shared f x outer c.home c.lexical this (args_on n old.values) target (party_of a old)) (record old { values = drop n old.values }) new m) t h in
    let w = subst (λ i. LeadsTo (λ a. run_template (naming_of old.me) a.shared f (template_numbered old b.template) i c.home c.lexical this (args_on n old.values) target (party_of a old)) (record old { values = drop n old.values }) new m) s w in
    record { leads = λ a. w.leads a; keeps = w.keeps }
listed_runs (Err x) f b c this target n at outer old new t s h = tt

pub closure_runs : {E : Type 0} (r : Result Mode E) (f : Ref) (b : BodyId) (c : Closure) (this : V) (args : Values) (target : Option Ref) (n : ℕ) (old mid new : View) → n ≡ length args → mid ≡ record old { values = reverse args ++ old.values }
    → IfOk r (LeadsTo (λ a. runs_closure (naming_of mid.me) a.shared f b c this (args_on n mid.values) target (party_of a mid)) (record mid { values = drop n mid.values }) new)
    → IfOk r (LeadsTo (λ a. runs_closure (naming_of old.me) a.shared f b c this args target (party_of a old)) old new)
closure_runs (Ok m) f b c this args target n old mid new e d h =
    let top = record old { values = reverse args ++ old.values } in
    let count : n ≡ length (reverse args) = e ∙ sym (length-reverse args) in
    let w = subst (λ (x : View). LeadsTo (λ a. runs_closure (naming_of x.me) a.shared f b c this (args_on n x.values) target (party_of a x)) (record x { values = drop n x.values }) new m) d h in
    let there : args_on n top.values ≡ args = ap (λ xs. reverse xs) (take_front n (reverse args) old.values count) ∙ reverse-reverse args in
    let w = subst (λ xs. LeadsTo (λ a. runs_closure (naming_of old.me) a.shared f b c this xs target (party_of a old)) (record old { values = drop n top.values }) new m) there w in
    let w = subst (λ vs. LeadsTo (λ a. runs_closure (naming_of old.me) a.shared f b c this args target (party_of a old)) (record old { values = vs }) new m) (drop_front n (reverse args) old.values count) w in
    record { leads = λ a. w.leads a; keeps = w.keeps }
closure_runs (Err x) f b c this args target n old mid new e d h = tt
