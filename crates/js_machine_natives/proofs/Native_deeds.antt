-- What natives do.
use Rattle.std.proofs.Common.{◌≡◌, ℕ, suc, ◌+◌, ◌-◌, ◌≤◌, Bool, true, false, List, ◌∷◌, ◌++◌, length, take, drop, reverse, refl, sym, ap, ◌∙◌, subst, arith, Result, Ok, Err, IfOk}
use Rattle.std.proofs.Math.Seq.{take-append_seam}
use Rattle.std.proofs.lemmas.List.{length-drop, length-reverse, reverse-append, reverse-reverse, take-append-drop, take_all}
use Rattle.lava_base.specs.declared.ids.MadeSymbol.{MadeSymbol}
use Rattle.lava_base.specs.declared.ids.Ref.{Ref}
use Rattle.js_text.specs.Naming.{Naming, naming_of}
use Rattle.js_text.specs.declared.native.Native.{Native}
use Rattle.js_text.specs.declared.native.Native.TheVariants as native
use Rattle.js_text.specs.declared.value.Value.{Value}
use Rattle.js_text.specs.declared.value.Value.TheVariants as value
use Rattle.js_desc.specs.declared.reply.Reply.{Reply}
use Rattle.js_desc.specs.declared.reply.Reply.TheVariants as reply
use Rattle.js_native.specs.Costs.{native_cost}
use Rattle.js_natives.specs.Deeds.{Does, NativeDeed, acts_with, goes_on_with}
use Rattle.js_machine.specs.js_native_steps.Steps.{NativeStep, waits_as}
use Rattle.js_machine.specs.js_native_steps.declared.next.NativeNext.{NativeNext}
use Rattle.js_machine.specs.js_operations.Lists.{list_items}
use Rattle.js_machine.specs.js_run.Acts.{give}
use Rattle.js_machine.specs.js_run.NativeTurns.{charged, follows_native, follows_native_with, listed_units, native_gives, native_goes_on}
use Rattle.js_machine.specs.js_run.Natives.{native_acts, runs_native}
use Rattle.js_machine.specs.js_run.Operators.{pays}
use Rattle.js_machine.specs.js_run.Parties.{Party, Shared}
use Rattle.js_machine.specs.js_run.Runs.{answered}
use Rattle.js_store.specs.Objects.{Object}
use Rattle.js_machine.specs.Natives.{asks_slots}
use Rattle.js_machine.specs.Steps.{Deed, IsDelivered, LeadsTo, Pays, settles, without_top}
use Rattle.js_machine.specs.Views.{Values, View, applied, args_on, fitting, held, native_after, native_on, party_of}
use Rattle.js_machine.specs.declared.frame.Frame.TheVariants as frame
use Rattle.js_machine.specs.declared.frame.Mode.{Mode}
use Rattle.js_machine.specs.declared.frame.Mode.TheVariants as mode
use Rattle.js_machine.specs.declared.frame.Purpose.{Purpose}
use Rattle.js_machine.specs.declared.frame.Purpose.TheVariants as purpose
use Rattle.js_machine.proofs.Leads.{delivered}

-- a value that is no text is given as it is
not_text : (which : Native) (v : Value Ref MadeSymbol) (p : Party Ref MadeSymbol) → ((t : List ℕ) → v ≡ value.Text t → ⊥) → native_gives which (reply.Value v) p ≡ give v p
not_text which (value.Text t) p f = absurd (f t refl)
not_text which v p f = refl

pub other_given : {E : Type 0} (r : Result Mode E) (which : Native) (v : Value Ref MadeSymbol) (old new : View) → ((t : List ℕ) → v ≡ value.Text t → ⊥)
    → IfOk r (LeadsTo (λ a. give v (party_of a old)) old new) → IfOk r (LeadsTo (λ a. native_gives which (reply.Value v) (party_of a old)) old new)
other_given (Ok m) which v old new f h =
    record { leads = λ a. (let b = fitting old a in h.leads a ∙ ap (λ x. settles b old old.values (answered (naming_of old.me) b.env x)) (sym (not_text which v (party_of b old) f))); keeps = h.keeps }
other_given (Err x) which v old new f h = tt

-- WHAT FOLLOWS A DECISION

abbrev Follows : Native → NativeStep → View → View → Mode → Type 0
Follows which d old new m = LeadsTo (λ a. follows_native (naming_of old.me) which waits_as d (party_of a old)) old new m

-- what a native does is what follows its decision
done : (w low new : View) (which : Native) (deed : NativeDeed) (d : NativeStep) (m : Mode) → Does w.me w.objects w.common w.known which deed d low.objects → low ≡ record w { objects = low.objects }
    → Follows which d low new m → LeadsTo (λ a. deed (naming_of w.me) a.shared (party_of a w)) w new m
done w low new which deed d m s e h =
    let f = subst (λ x. Follows which d x new m) e h in
    record {
      leads = λ a. (let b = fitting w a in f.leads a ∙ ap (λ x. settles b w w.values x) (sym (s.does b.shared b.numbers b.finds b.env (party_of b w))));
      keeps = f.keeps;
    }

abbrev rest_after : ℕ → View → View
rest_after n w = record w { values = drop n w.values }

abbrev pub Acts : Native → ℕ → View → View → Mode → Type 0
Acts which n old new m = LeadsTo (λ a. native_acts (naming_of old.me) a.shared which (args_on n old.values) (party_of a old)) (rest_after n old) new m

pub acted : {E : Type 0} (r : Result Mode E) (which : Native) (n : ℕ) (args : Values) (d : NativeStep) (old mid low new : View) → args ≡ args_on n old.values → mid ≡ rest_after n old
    → Does mid.me mid.objects mid.common mid.known which (acts_with which args) d low.objects → low ≡ record mid { objects = low.objects } → IfOk r (Follows which d low new) → IfOk r (Acts which n old new)
acted (Ok m) which n args d old mid low new s e does k h =
    let w = done mid low new which (acts_with which args) d m does k h in
    let u = subst (λ (x : View). LeadsTo (λ a. native_acts (naming_of x.me) a.shared which args (party_of a x)) x new m) e w in
    let v = subst (λ vs. LeadsTo (λ a. native_acts (naming_of old.me) a.shared which vs (party_of a (rest_after n old))) (rest_after n old) new m) s u in
    record { leads = λ a. v.leads a; keeps = v.keeps }
acted (Err x) which n args d old mid low new s e does k h = tt

pub went_on : {E : Type 0} (r : Result Mode E) (which : Native) (next : NativeNext) (y : Reply Ref MadeSymbol) (d : NativeStep) (old low new : View)
    → Does old.me old.objects old.common old.known which (goes_on_with which next y) d low.objects → low ≡ record old { objects = low.objects } → IfOk r (Follows which d low new)
    → IfOk r (LeadsTo (λ a. native_goes_on (naming_of old.me) a.shared which (waits_as next) y (party_of a old)) old new)
went_on (Ok m) which next y d old low new does k h = done old low new which (goes_on_with which next y) d m does k h
went_on (Err x) which next y d old low new does k h = tt

-- OPERANDS

taken : {A : Type 0} (xs ys : List A) → take (length ys) (reverse (xs ++ ys)) ≡ reverse ys
taken xs ys = ap (λ zs. take (length ys) zs) (reverse-append xs ys) ∙ ap (λ k. take k (reverse ys ++ reverse xs)) (sym (length-reverse ys)) ∙ take-append_seam (reverse ys) (reverse xs)

-- the last ones of a list are the newest of the stack
pub last_on : (xs : Values) (n : ℕ) → n ≤ length xs → drop (length xs - n) xs ≡ args_on n (reverse xs)
last_on xs n l =
    let k = length xs - n in
    let left : length (drop k xs) ≡ n = length-drop k xs ∙ omega (arith, l) in
    sym (reverse-reverse (drop k xs)) ∙ ap (λ vs. reverse vs) (sym (taken (take k xs) (drop k xs)) ∙ ap (λ zs. take (length (drop k xs)) (reverse zs)) (take-append-drop k xs) ∙ ap (λ j. take j (reverse xs)) left)

-- and so is the slice of them
pub slice_on : (xs : Values) (len n : ℕ) → len ≡ length xs → n ≤ length xs → take (length xs - (len - n)) (drop (len - n) xs) ≡ args_on n (reverse xs)
slice_on xs len n e l =
    let all : length (drop (len - n) xs) ≤ length xs - (len - n) = omega (arith, length-drop (len - n) xs) in
    take_all (length xs - (len - n)) (drop (len - n) xs) all ∙ ap (λ k. drop (k - n) xs) e ∙ last_on xs n l

-- what is known of the operands of a machine that is seen
pub cost_known : {E : Type 0} (r : Result ℕ E) (which : Native) (n : ℕ) (args : Values) (w now : View) → w ≡ now
    → IfOk r (λ k. k ≡ native_cost which args (listed_units (λ v. list_items (naming_of w.me) w.objects w.common v) which args)) → args ≡ args_on n now.values
    → IfOk r (λ k. k ≡ native_cost which (args_on n now.values) (listed_units (λ v. list_items (naming_of now.me) now.objects now.common v) which (args_on n now.values)))
cost_known r which n args w now e h g =
    let s = subst (λ (x : View). IfOk r (λ k. k ≡ native_cost which args (listed_units (λ v. list_items (naming_of x.me) x.objects x.common v) which args))) e h in
    subst (λ vs. IfOk r (λ k. k ≡ native_cost which vs (listed_units (λ v. list_items (naming_of now.me) now.objects now.common v) which vs))) g s

-- THE CHARGE

pub charged_so : {E : Type 0} (r : Result Mode E) (which : Native) (n cost k : ℕ) (old new : View)
    → cost ≡ native_cost which (args_on n old.values) (listed_units (λ v. list_items (naming_of old.me) old.objects old.common v) which (args_on n old.values)) → cost ≡ suc k → IfOk r (Pays k (frame.Charged which n) old new)
    → IfOk r (LeadsTo (λ a. charged (naming_of old.me) a.shared which (args_on n old.values) (party_of a old) (λ p. native_acts (naming_of old.me) a.shared which (args_on n old.values) p)) (rest_after n old) new)
unfolding native_after
charged_so (Ok m) which n cost k old new e s h =
    record {
      leads = λ a. (let b = fitting old a in
          h.leads a ∙ ap (λ j. settles b (rest_after n old) (drop n old.values) (answered (naming_of old.me) b.env (pays j (party_of b old) (λ p. native_acts (naming_of old.me) b.shared which (args_on n old.values) p)))) (sym s ∙ e));
      keeps = h.keeps;
    }
charged_so (Err x) which n cost k old new e s h = tt

module _ (names : Naming Ref MadeSymbol) (shared : Shared) (vs : Values) (p : Party Ref MadeSymbol) where
  -- a native that asks no slot is charged first
  plain_native : (which : Native) → asks_slots which ≡ false → runs_native names shared which vs p ≡ charged names shared which vs p (λ q. native_acts names shared which vs q)
  plain_native native.IsArray e = cc
  plain_native native.MapGet e = cc
  plain_native native.MapSet e = cc
  plain_native native.MapHas e = cc
  plain_native native.MapDelete e = cc
  plain_native native.MapClear e = cc
  plain_native native.MapNext e = cc
  plain_native native.MapKeyAt e = cc
  plain_native native.MapSize e = cc
  plain_native which e = refl

abbrev pub RunsNative : Native → ℕ → View → View → Mode → Type 0
RunsNative which n old new m = LeadsTo (λ a. runs_native (naming_of old.me) a.shared which (args_on n old.values) (party_of a old)) (rest_after n old) new m

pub ran : {E : Type 0} (r : Result Mode E) (which : Native) (b : Bool) (n : ℕ) (old new : View) → b ≡ asks_slots which → b ≡ false
    → IfOk r (LeadsTo (λ a. charged (naming_of old.me) a.shared which (args_on n old.values) (party_of a old) (λ p. native_acts (naming_of old.me) a.shared which (args_on n old.values) p)) (rest_after n old) new)
    → IfOk r (RunsNative which n old new)
ran (Ok m) which b n old new e f h =
    record {
      leads = λ a. (let b = fitting old a in
          h.leads a ∙ ap (λ x. settles b (rest_after n old) (drop n old.values) (answered (naming_of old.me) b.env x)) (sym (plain_native (naming_of old.me) b.shared (args_on n old.values) (party_of b old) which (sym e ∙ f))));
      keeps = h.keeps;
    }
ran (Err x) which b n old new e f h = tt

-- what was charged for comes
pub charge_comes : {E : Type 0} (r : Result Mode E) (which : Native) (n : ℕ) (old mid new : View) → mid ≡ without_top old → IfOk r (Acts which n mid new) → IfOk r (IsDelivered (frame.Charged which n) mode.Value old new)
unfolding native_after
charge_comes (Ok m) which n old mid new e h =
    let w = subst (λ x. Acts which n x new m) e h in
    delivered (frame.Charged which n) old new m (record { leads = λ a. w.leads a; keeps = w.keeps })
charge_comes (Err x) which n old mid new e h = tt

-- what operands are for
pub native_applied : {E : Type 0} (r : Result Mode E) (k : Purpose) (which : Native) (n : ℕ) (old new : View) → k ≡ purpose.Native which → IfOk r (RunsNative which n old new)
    → IfOk r (LeadsTo (λ a. applied (naming_of old.me) a.shared k (drop n old.values) (args_on n old.values) (party_of a old)) (record old { values = drop (n + held k) old.values }) new)
unfolding native_on
native_applied (Ok m) k which n old new e h =
    let same : n ≡ n + 0 = omega arith in
    let w = subst (λ j. LeadsTo (λ a. runs_native (naming_of old.me) a.shared which (args_on n old.values) (party_of a old)) (record old { values = drop j old.values }) new m) same h in
    subst (λ j. LeadsTo (λ a. applied (naming_of old.me) a.shared j (drop n old.values) (args_on n old.values) (party_of a old)) (record old { values = drop (n + held j) old.values }) new m) (sym e) (record { leads = λ a. w.leads a; keeps = w.keeps })
native_applied (Err x) k which n old new e h = tt
