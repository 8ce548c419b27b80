-- Objects that become primitive values and property keys.
use Rattle.std.proofs.Common.{◌≡◌, ℕ, zero, suc, ◌+◌, Bool, true, false, List, [], ◌∷◌, drop, Option, Some, None, refl, sym, ap, ◌∙◌, subst, arith, Result, Ok, Err, IfOk, if◌then◌else◌}
use Rattle.std.specs.Option.{unwrap_or}
use Rattle.lava_base.specs.declared.ids.MadeSymbol.{MadeSymbol}
use Rattle.lava_base.specs.declared.ids.Ref.{Ref}
use Rattle.lava_base.specs.declared.marks.Marks.{Marks}
use Rattle.js_text.specs.Naming.{Naming, Origin, Own, Common, Foreign, naming_of}
use Rattle.js_text.specs.declared.value.Key.{Key}
use Rattle.js_text.specs.declared.value.Key.TheVariants as key
use Rattle.js_text.specs.declared.value.Value.{Value}
use Rattle.js_text.specs.declared.value.Value.TheVariants as value
use Rattle.js_desc.specs.declared.ask.Ask.TheVariants as ask
use Rattle.js_desc.specs.declared.fault.FaultText.TheVariants as fault
use Rattle.js_operation.specs.js_run.Acts.{Act, asks, asks_value, with_value}
use Rattle.js_operation.specs.js_run.Conversions.{method_names, primitive_to_key}
use Rattle.js_operation.specs.js_run.Faults.{faults}
use Rattle.js_operation.specs.js_run.Operators.{to_primitive}
use Rattle.js_operation.specs.js_run.Parties.{Party, Shared}
use Rattle.js_operation.specs.js_run.Properties.{has_set}
use Rattle.js_operation.specs.Deeds.{Does, act_of, becomes_key, rest_deed}
use Rattle.js_operation.specs.declared.operation.Operation.{Operation}
use Rattle.js_operation.specs.declared.operation.Rest.{Rest}
use Rattle.js_machine.specs.Conversions.{BecomesBy, BecomesKey, CallsMethod, Converts, GoesOnWithMethod, GoesOnWithResult, KeyReaches, Reaches, callable_in, past_goal}
use Rattle.js_machine.specs.Decisions.{object_of_value}
use Rattle.js_machine.specs.Keys.{plain_key}
use Rattle.js_machine.specs.Looks.{marks_at, marks_in}
use Rattle.js_machine.specs.Steps.{LeadsTo, WaitsFor, WaitsForValue, deed_with, under, with_top, without_top}
use Rattle.js_machine.specs.Views.{Around, Values, View, as_text, becomes, below, fitting, goal_deed, goal_held, key_deed, key_held, method_at, method_gave, methods_behind, methods_from, object_on, party_of, top}
use Rattle.js_machine.specs.declared.frame.Frame.TheVariants as frame
use Rattle.js_machine.specs.declared.frame.Goal.{Goal}
use Rattle.js_machine.specs.declared.frame.Goal.TheVariants as goal
use Rattle.js_machine.specs.declared.frame.KeyGoal.{KeyGoal}
use Rattle.js_machine.specs.declared.frame.KeyGoal.TheVariants as key_goal
use Rattle.js_machine.specs.declared.frame.Mode.{Mode}
use Rattle.js_machine.proofs.Followed.{is_object}
use Rattle.js_machine.proofs.Operands.{twice}
use Rattle.js_machine.proofs.Operated.{does_so, seen_callable}
use Rattle.js_machine.proofs.Referenced.{same_deed}

abbrev V : Type 0
V = Value Ref MadeSymbol

-- VALUES BELOW THE OBJECT

none_dropped : (n : ℕ) → drop {A = V} n [] ≡ []
none_dropped zero = refl
none_dropped (suc n) = refl

beneath_one : (n : ℕ) (vs : Values) → drop n (below vs) ≡ drop (suc n) vs
beneath_one n [] = none_dropped n
beneath_one n (v ∷ vs) = refl

beneath : (n : ℕ) (vs : Values) → drop n (below vs) ≡ drop (1 + n) vs
beneath n vs = let e : suc n ≡ 1 + n = omega arith in beneath_one n vs ∙ ap (λ k. drop k vs) e

-- METHODS ARE ASKED FOR

pub method_asked : {E : Type 0} (r : Result Mode E) (o : Ref) (g : Goal) (last t : Bool) (k : Key MadeSymbol) (old mid new : View) → t ≡ as_text g → k ≡ key.Text (method_at last t) → mid ≡ with_top (value.Ref o) old
    → IfOk r (WaitsFor (frame.MethodGot last g) o (ask.Get k (value.Ref o)) mid new) → IfOk r (BecomesBy (methods_from last (as_text g)) o g old new)
method_asked (Ok m) o g last t k old mid new d e s h =
    let w = subst (λ (x : View). WaitsFor (frame.MethodGot last g) o (ask.Get k (value.Ref o)) x new m) s h in
    let u = subst (λ j. WaitsFor (frame.MethodGot last g) o (ask.Get j (value.Ref o)) (with_top (value.Ref o) old) new m) (e ∙ ap (λ b. key.Text (method_at last b)) d) w in
    let led : LeadsTo (λ a. becomes (naming_of old.me) a.shared old.code (methods_from last (as_text g)) o g old.values (party_of a old)) (record old { values = drop (1 + goal_held g) (value.Ref o ∷ old.values) }) new m = record { leads = λ a. u.leads a; keeps = u.keeps } in
    subst (λ vs. LeadsTo (λ a. becomes (naming_of old.me) a.shared old.code (methods_from last (as_text g)) o g old.values (party_of a old)) (record old { values = vs }) new m) (sym (beneath (goal_held g) (value.Ref o ∷ old.values))) led
method_asked (Err x) o g last t k old mid new d e s h = tt

names_are : (t : Bool) → methods_from false t ≡ method_names t
names_are true = refl
names_are false = refl

pub converts : {E : Type 0} (r : Result Mode E) (o : Ref) (g : Goal) (old new : View) → IfOk r (BecomesBy (methods_from false (as_text g)) o g old new) → IfOk r (Converts o g old new)
converts r o g old new h = subst (λ ns. IfOk r (BecomesBy ns o g old new)) (names_are (as_text g)) h

pub no_method : {E : Type 0} (r : Result Mode E) (o : Ref) (g : Goal) (last : Bool) (n : ℕ) (old mid new : View) → last ≡ true → n ≡ goal_held g → mid ≡ record old { values = drop n old.values }
    → IfOk r (LeadsTo (λ a. faults (naming_of mid.me) fault.CannotConvert (party_of a mid)) mid new) → IfOk r (BecomesBy (methods_behind last (as_text g)) o g old new)
no_method (Ok m) o g last n old mid new l e s h =
    let w = subst (λ (x : View). LeadsTo (λ a. faults (naming_of x.me) fault.CannotConvert (party_of a x)) x new m) (s ∙ ap (λ i. record old { values = drop i old.values }) e) h in
    let led : BecomesBy [] o g old new m = record { leads = λ a. w.leads a; keeps = w.keeps } in
    subst (λ b. BecomesBy (methods_behind b (as_text g)) o g old new m) (sym l) led
no_method (Err x) o g last n old mid new l e s h = tt

pub last_method : {E : Type 0} (r : Result Mode E) (o : Ref) (g : Goal) (last : Bool) (old new : View) → last ≡ false → IfOk r (BecomesBy (methods_from true (as_text g)) o g old new) → IfOk r (BecomesBy (methods_behind last (as_text g)) o g old new)
last_method r o g last old new l h = subst (λ b. IfOk r (BecomesBy (methods_behind b (as_text g)) o g old new)) (sym l) h

-- METHODS ARE CALLED

pub method_asks : {E : Type 0} (r : Result Mode E) (o : Ref) (g : Goal) (last : Bool) (f : Ref) (args : List V) (old mid new : View) → args ≡ [] → mid ≡ with_top (value.Ref o) old
    → IfOk r (WaitsFor (frame.MethodCalled last g) f (ask.Call (value.Ref o) args) mid new) → IfOk r (CallsMethod last o g f old new)
method_asks (Ok m) o g last f args old mid new e s h =
    let w = subst (λ (x : View). WaitsFor (frame.MethodCalled last g) f (ask.Call (value.Ref o) args) x new m) s h in
    let u = subst (λ xs. WaitsFor (frame.MethodCalled last g) f (ask.Call (value.Ref o) xs) (with_top (value.Ref o) old) new m) e w in
    let led : LeadsTo (λ a. asks (naming_of old.me) f (ask.Call (value.Ref o) []) (party_of a old) (with_value (method_gave (naming_of old.me) a.shared old.code last o g old.values))) (record old { values = drop (1 + goal_held g) (value.Ref o ∷ old.values) }) new m = record { leads = λ a. u.leads a; keeps = u.keeps } in
    subst (λ vs. LeadsTo (λ a. asks (naming_of old.me) f (ask.Call (value.Ref o) []) (party_of a old) (with_value (method_gave (naming_of old.me) a.shared old.code last o g old.values))) (record old { values = vs }) new m) (sym (beneath (goal_held g) (value.Ref o ∷ old.values))) led
method_asks (Err x) o g last f args old mid new e s h = tt

same_marks : (w : View) (vs : Values) (r : Ref) (o : Origin) → marks_at (record w { values = vs }) r o ≡ marks_at w r o
same_marks w vs r (Own i) = refl
same_marks w vs r (Common c) = refl
same_marks w vs r Foreign = refl

module _ (o : Ref) (g : Goal) (last : Bool) (old : View) where
  -- a method, as it can be called or not
  abbrev known : Ref → Around → Bool → Act Ref MadeSymbol
  known q a b =
      if b then asks (naming_of old.me) q (ask.Call (value.Ref o) []) (party_of a old) (with_value (method_gave (naming_of old.me) a.shared old.code last o g old.values))
      else becomes (naming_of old.me) a.shared old.code (methods_behind last (as_text g)) o g old.values (party_of a old)

  seen : {E : Type 0} (r : Result Mode E) (q : Ref) (b : Bool) (new : View) → b ≡ (marks_in old q).callable → IfOk r (LeadsTo (λ a. known q a b) (past_goal g old) new) → IfOk r (GoesOnWithMethod last o g (value.Ref q) old new)
  seen r q b new e h =
      let low = past_goal g old in
      let same = same_marks old (drop (goal_held g) old.values) q ((naming_of old.me).origin q) in
      seen_callable r (marks_in low q) q (known q) low new refl (subst (λ c. IfOk r (LeadsTo (λ a. known q a c) low new)) (e ∙ ap (λ (n : Marks). n.callable) (sym same)) h)

  abbrev Found : Bool → Ref → Option Ref
  Found b q = if b then Some q else None

  calls_by : {E : Type 0} (r : Result Mode E) (q f : Ref) (b : Bool) (new : View) → b ≡ (marks_in old q).callable → Found b q ≡ Some f → IfOk r (CallsMethod last o g f old new) → IfOk r (GoesOnWithMethod last o g (value.Ref q) old new)
  calls_by r q f true new e s h = let same : f ≡ q = cc in seen r q true new e (subst (λ x. IfOk r (CallsMethod last o g x old new)) same h)
  calls_by r q f false new e s h = cc

  pub method_calls : {E : Type 0} (r : Result Mode E) (x : Option Ref) (f : Ref) (v : V) (new : View) → x ≡ callable_in old v → x ≡ Some f → IfOk r (CallsMethod last o g f old new) → IfOk r (GoesOnWithMethod last o g v old new)
  method_calls r x f (value.Ref q) new e s h = calls_by r q f (marks_in old q).callable new refl (sym e ∙ s) h
  method_calls r x f v new e s h = cc

  misses_by : {E : Type 0} (r : Result Mode E) (q : Ref) (b : Bool) (new : View) → b ≡ (marks_in old q).callable → Found b q ≡ None → IfOk r (BecomesBy (methods_behind last (as_text g)) o g old new) → IfOk r (GoesOnWithMethod last o g (value.Ref q) old new)
  misses_by r q true new e s h = cc
  misses_by r q false new e s h = seen r q false new e h

  pub method_missing : {E : Type 0} (r : Result Mode E) (x : Option Ref) (v : V) (new : View) → x ≡ callable_in old v → x ≡ None → IfOk r (BecomesBy (methods_behind last (as_text g)) o g old new) → IfOk r (GoesOnWithMethod last o g v old new)
  method_missing r x (value.Ref q) new e s h = misses_by r q (marks_in old q).callable new refl (sym e ∙ s) h
  method_missing r x v new e s h = h

  -- what a method gave is an object
  pub result_object : {E : Type 0} (r : Result Mode E) (x : Option Ref) (q : Ref) (v : V) (new : View) → x ≡ object_of_value v → x ≡ Some q → IfOk r (BecomesBy (methods_behind last (as_text g)) o g old new) → IfOk r (GoesOnWithResult last o g v old new)
  result_object r x q v new e s h = subst (λ y. IfOk r (GoesOnWithResult last o g y old new)) (sym (is_object v q (sym e ∙ s))) h

  -- or a primitive value
  pub result_reached : {E : Type 0} (r : Result Mode E) (x : Option Ref) (v : V) (new : View) → x ≡ object_of_value v → x ≡ None → IfOk r (Reaches g v old new) → IfOk r (GoesOnWithResult last o g v old new)
  result_reached r x (value.Ref q) new e s h = cc
  result_reached r x v new e s h = h

-- the object was taken off
module _ (o : Ref) (g : Goal) (last : Bool) (v : V) (old mid : View) (e : o ≡ object_on (top old.values)) (s : mid ≡ without_top old) where
  pub method_taken : {E : Type 0} (r : Result Mode E) (new : View) → IfOk r (GoesOnWithMethod last o g v mid new) → IfOk r (LeadsTo (deed_with (frame.MethodGot last g) v old) (under (frame.MethodGot last g) old) new)
  method_taken (Ok m) new h =
      let w = subst (λ (x : View). GoesOnWithMethod last o g v x new m) s h in
      let u = subst (λ x. GoesOnWithMethod last x g v (without_top old) new m) e w in
      subst (λ vs. LeadsTo (deed_with (frame.MethodGot last g) v old) (record old { values = vs }) new m) (beneath (goal_held g) old.values) (record { leads = λ a. u.leads a; keeps = u.keeps })
  method_taken (Err x) new h = tt

  pub result_taken : {E : Type 0} (r : Result Mode E) (new : View) → IfOk r (GoesOnWithResult last o g v mid new) → IfOk r (LeadsTo (deed_with (frame.MethodCalled last g) v old) (under (frame.MethodCalled last g) old) new)
  result_taken (Ok m) new h =
      let w = subst (λ (x : View). GoesOnWithResult last o g v x new m) s h in
      let u = subst (λ x. GoesOnWithResult last x g v (without_top old) new m) e w in
      subst (λ vs. LeadsTo (deed_with (frame.MethodCalled last g) v old) (record old { values = vs }) new m) (beneath (goal_held g) old.values) (record { leads = λ a. u.leads a; keeps = u.keeps })
  result_taken (Err x) new h = tt

-- OPERANDS

pub operand_converts : {E : Type 0} (r : Result Mode E) (o : Ref) (x : Rest) (v : V) (old mid new : View) → mid ≡ with_top v old → IfOk r (Converts o (goal.Operand x) mid new)
    → IfOk r (LeadsTo (λ a. to_primitive (naming_of old.me) a.shared (becomes_key x) (value.Ref o) (party_of a old) (rest_deed (naming_of old.me) a.shared x v)) old new)
operand_converts (Ok m) o x v old mid new s h = let w = subst (λ (y : View). Converts o (goal.Operand x) y new m) s h in record { leads = λ a. w.leads a; keeps = w.keeps }
operand_converts (Err y) o x v old mid new s h = tt

pub operand_taken : {E : Type 0} (r : Result Mode E) (x : Rest) (o : Operation) (held v : V) (old mid new : View) → held ≡ top old.values → mid ≡ without_top old → Does (λ n s. rest_deed n s x held v) o
    → IfOk r (LeadsTo (λ a. act_of (naming_of mid.me) a.shared o (party_of a mid)) mid new) → IfOk r (Reaches (goal.Operand x) v old new)
operand_taken r x o held v old mid new e s d h =
    let done = does_so r (λ n z. rest_deed n z x held v) o mid new d h in
    let w = subst (λ (y : View). IfOk r (LeadsTo (λ a. rest_deed (naming_of y.me) a.shared x held v (party_of a y)) y new)) s done in
    subst (λ y. IfOk r (LeadsTo (λ a. rest_deed (naming_of old.me) a.shared x y v (party_of a old)) (without_top old) new)) e w

-- PROPERTY KEYS

module _ (names : Naming Ref MadeSymbol) (shared : Shared) where
  abbrev Gone : Type 0
  Gone = Key MadeSymbol → Party Ref MadeSymbol → Act Ref MadeSymbol

  same_key : (j k : Key MadeSymbol) (p : Party Ref MadeSymbol) (go : Gone) → Some j ≡ Some k → go j p ≡ go k p
  same_key j k p go e = ap (λ o. go (unwrap_or o k) p) e

  primitive_known : (v : V) (k : Key MadeSymbol) (p : Party Ref MadeSymbol) (go : Gone) → plain_key v ≡ Some k → primitive_to_key names shared (asks names) v p go ≡ go k p
  primitive_known value.Undefined k p go e = same_key _ k p go e
  primitive_known value.Null k p go e = same_key _ k p go e
  primitive_known (value.Bool true) k p go e = same_key _ k p go e
  primitive_known (value.Bool false) k p go e = same_key _ k p go e
  primitive_known (value.Int n) k p go e = same_key _ k p go e
  primitive_known (value.Text t) k p go e = same_key _ k p go e
  primitive_known (value.Symbol s) k p go e = same_key _ k p go e
  primitive_known (value.Ref r) k p go e = cc

pub key_reached : {E : Type 0} (r : Result Mode E) (g : KeyGoal) (x : Option (Key MadeSymbol)) (k : Key MadeSymbol) (v : V) (old new : View) → x ≡ plain_key v → x ≡ Some k → IfOk r (KeyReaches g k old new) → IfOk r (Reaches (goal.Key g) v old new)
key_reached r g x k v old new e s h =
    same_deed r (λ a. key_deed (naming_of old.me) a.shared old.code g old.values k (party_of a old)) (λ a. goal_deed (naming_of old.me) a.shared old.code (goal.Key g) old.values v (party_of a old)) (past_goal (goal.Key g) old) new
    (λ a. (let b = fitting old a in primitive_known (naming_of old.me) b.shared v k (party_of b old) (key_deed (naming_of old.me) b.shared old.code g old.values) (sym e ∙ s))) h

abbrev Faults : View → View → Mode → Type 0
Faults old new m = LeadsTo (λ a. faults (naming_of old.me) fault.CannotConvert (party_of a old)) old new m

no_key_of : (g : KeyGoal) (v : V) (m : Mode) (old new : View) → plain_key v ≡ None → LeadsTo (λ a. faults (naming_of old.me) fault.CannotConvert (party_of a old)) (past_goal (goal.Key g) old) new m → Reaches (goal.Key g) v old new m
no_key_of g value.Undefined m old new e h = cc
no_key_of g value.Null m old new e h = cc
no_key_of g (value.Bool true) m old new e h = cc
no_key_of g (value.Bool false) m old new e h = cc
no_key_of g (value.Int n) m old new e h = cc
no_key_of g (value.Text t) m old new e h = cc
no_key_of g (value.Symbol s) m old new e h = cc
no_key_of g (value.Ref r) m old new e h = h

-- a value that is no property key
pub no_key : {E : Type 0} (r : Result Mode E) (g : KeyGoal) (x : Option (Key MadeSymbol)) (v : V) (n : ℕ) (old mid new : View) → x ≡ plain_key v → x ≡ None → n ≡ key_held g → mid ≡ record old { values = drop n old.values } → IfOk r (Faults mid new)
    → IfOk r (Reaches (goal.Key g) v old new)
no_key (Ok m) g x v n old mid new e s d t h =
    let w = subst (λ (y : View). Faults y new m) (t ∙ ap (λ i. record old { values = drop i old.values }) d) h in
    no_key_of g v m old new (sym e ∙ s) (record { leads = λ a. w.leads a; keeps = w.keeps })
no_key (Err y) g x v n old mid new e s d t h = tt

pub key_plain : {E : Type 0} (r : Result Mode E) (g : KeyGoal) (x : Option Ref) (v : V) (old new : View) → x ≡ object_of_value v → x ≡ None → IfOk r (Reaches (goal.Key g) v old new) → IfOk r (BecomesKey v g old new)
key_plain r g x (value.Ref q) old new e s h = cc
key_plain r g x v old new e s h = h

pub key_converts : {E : Type 0} (r : Result Mode E) (g : KeyGoal) (x : Option Ref) (q : Ref) (v : V) (old new : View) → x ≡ object_of_value v → x ≡ Some q → IfOk r (Converts q (goal.Key g) old new) → IfOk r (BecomesKey v g old new)
key_converts r g x q v old new e s h = subst (λ y. IfOk r (BecomesKey y g old new)) (sym (is_object v q (sym e ∙ s))) h

-- WHAT PROPERTY KEYS ARE FOR

pub key_gets : {E : Type 0} (r : Result Mode E) (o : V) (k : Key MadeSymbol) (old mid new : View) → o ≡ top old.values → mid ≡ without_top old → IfOk r (WaitsForValue frame.Given o (ask.Get k o) mid new) → IfOk r (KeyReaches key_goal.Get k old new)
key_gets (Ok m) o k old mid new e s h =
    let w = subst (λ (x : View). WaitsForValue frame.Given o (ask.Get k o) x new m) s h in
    let u = subst (λ x. WaitsForValue frame.Given x (ask.Get k x) (without_top old) new m) e w in
    record { leads = λ a. u.leads a; keeps = u.keeps }
key_gets (Err x) o k old mid new e s h = tt

pub key_deletes : {E : Type 0} (r : Result Mode E) (o : V) (k : Key MadeSymbol) (old mid new : View) → o ≡ top old.values → mid ≡ without_top old → IfOk r (WaitsForValue frame.HasDeleted o (ask.Delete k) mid new) → IfOk r (KeyReaches key_goal.Delete k old new)
key_deletes (Ok m) o k old mid new e s h =
    let w = subst (λ (x : View). WaitsForValue frame.HasDeleted o (ask.Delete k) x new m) s h in
    let u = subst (λ x. WaitsForValue frame.HasDeleted x (ask.Delete k) (without_top old) new m) e w in
    record { leads = λ a. u.leads a; keeps = u.keeps }
key_deletes (Err x) o k old mid new e s h = tt

abbrev Sets : V → Key MadeSymbol → V → View → View → Mode → Type 0
Sets o k v old new m = LeadsTo (λ a. asks_value (naming_of old.me) o (ask.Set k v o) (party_of a old) (has_set (naming_of old.me) v)) old new m

pub key_puts : {E : Type 0} (r : Result Mode E) (v o : V) (k : Key MadeSymbol) (old mid low new : View) → v ≡ top old.values → mid ≡ without_top old → o ≡ top mid.values → low ≡ without_top mid → IfOk r (Sets o k v low new) → IfOk r (KeyReaches key_goal.Put k old new)
key_puts (Ok m) v o k old mid low new e s f t h =
    let rest = record old { values = drop 2 old.values } in
    let two : low ≡ rest = t ∙ ap without_top s ∙ ap (λ vs. record old { values = vs }) (twice old.values) in
    let w = subst (λ (x : View). Sets o k v x new m) two h in
    let u = subst (λ x. Sets x k v rest new m) (f ∙ ap (λ (x : View). top x.values) s) w in
    let z = subst (λ x. Sets (top (below old.values)) k x rest new m) e u in
    record { leads = λ a. z.leads a; keeps = z.keeps }
key_puts (Err x) v o k old mid low new e s f t h = tt
