-- Calls of the host's functions.
use Rattle.std.proofs.Common.{◌≡◌, ℕ, suc, ◌-◌, Bool, true, false, List, [], ◌∷◌, ◌++◌, length, map, pos, reverse, slice_get, arith, refl, sym, ap, ◌∙◌, subst, append-nil, append_assoc, Result, Ok, Err, IfOk}
use Rattle.std.proofs.lemmas.List.{reverse-append}
use Rattle.lava_base.specs.declared.ids.MadeSymbol.{MadeSymbol}
use Rattle.lava_base.specs.declared.ids.Ref.{Ref}
use Rattle.js_text.specs.Naming.{Naming, Origin, Own, Common, Foreign, naming_of}
use Rattle.js_text.specs.declared.value.Value.{Value}
use Rattle.js_text.specs.declared.value.Value.TheVariants as value
use Rattle.js_desc.specs.declared.ask.Ask.{Ask}
use Rattle.js_desc.specs.declared.ask.Ask.TheVariants as ask
use Rattle.js_machine.specs.js_run.Acts.{Act, give}
use Rattle.js_machine.specs.js_run.Decisions.{called_at, decides_ask, decides_by_slot, decides_object}
use Rattle.js_machine.specs.js_run.Hosts.{calls_host, calls_outside, number_there, outside_answers, printed_all, printed_marks}
use Rattle.js_machine.specs.js_run.Modules.{throws_plain_error}
use Rattle.js_machine.specs.js_run.Outside.{OutsideAnswer, OutsideCall}
use Rattle.js_machine.specs.js_run.Parties.{Party, Shared}
use Rattle.js_machine.specs.js_run.Runs.{answered}
use Rattle.js_store.specs.declared.slot.Held.TheVariants as held
use Rattle.js_store.specs.declared.slot.Slot.{Slot}
use Rattle.js_store.specs.declared.slot.Slot.TheVariants as slot
use Rattle.js_machine.specs.Looks.{marks_in}
use Rattle.js_machine.specs.Outsides.{IsAnswered, answer_of, arguments_in, call_in, newest_call, number_at, printed_in, with_call}
use Rattle.js_machine.specs.Steps.{LeadsTo, outside_point, settles}
use Rattle.js_machine.specs.Views.{Around, Values, View, fitting, party_of}
use Rattle.js_machine.specs.Ways.{object_in, way_asked, way_called, way_collected, way_here, way_of}
use Rattle.js_machine.specs.declared.frame.Mode.{Mode}
use Rattle.js_machine.specs.declared.frame.Mode.TheVariants as mode
use Rattle.js_machine.specs.declared.outside.HostAnswer.{HostAnswer}
use Rattle.js_machine.specs.declared.outside.HostAnswer.TheVariants as host_answer
use Rattle.js_machine.specs.declared.ways.Way.{Way}
use Rattle.js_machine.specs.declared.ways.Way.TheVariants as way
use Rattle.js_machine.proofs.Leads.{led}
use Rattle.js_machine.proofs.Looked.{looked}

-- PRINTING

module _ (w : View) (a : Around) (go : List (List ℕ) → Act Ref MadeSymbol) where
  abbrev Prints : Values → List (List ℕ) → Type 0
  Prints vs done = let b = fitting w a in answered (naming_of w.me) b.env (printed_all (naming_of w.me) b.shared vs done (party_of b w) go) ≡ answered (naming_of w.me) b.env (go (done ++ map (printed_in w) vs))

  -- one is printed behind those that are there
  one_more : (v : Value Ref MadeSymbol) (vs : Values) (done : List (List ℕ)) → Prints vs (done ++ printed_in w v ∷ []) → (let b = fitting w a in
      answered (naming_of w.me) b.env (printed_all (naming_of w.me) b.shared vs (done ++ printed_in w v ∷ []) (party_of b w) go) ≡ answered (naming_of w.me) b.env (go (done ++ printed_in w v ∷ map (printed_in w) vs)))
  one_more v vs done h = h ∙ ap (λ l. answered (naming_of w.me) (fitting w a).env (go l)) (append_assoc done (printed_in w v ∷ []) (map (printed_in w) vs))

  prints : (vs : Values) (done : List (List ℕ)) → Prints vs done
  prints [] done = ap (λ l. answered (naming_of w.me) (fitting w a).env (go l)) (sym (append-nil done))
  prints (value.Ref r ∷ vs) done =
      let b = fitting w a in
      looked r w a (λ m. printed_all (naming_of w.me) b.shared vs (done ++ printed_marks m ∷ []) (party_of b w) go)
      ∙ one_more (value.Ref r) vs done (prints vs (done ++ printed_marks (marks_in w r) ∷ []))
  prints (value.Undefined ∷ vs) done = one_more value.Undefined vs done (prints vs (done ++ printed_in w value.Undefined ∷ []))
  prints (value.Null ∷ vs) done = one_more value.Null vs done (prints vs (done ++ printed_in w value.Null ∷ []))
  prints (value.Bool x ∷ vs) done = one_more (value.Bool x) vs done (prints vs (done ++ printed_in w (value.Bool x) ∷ []))
  prints (value.Int x ∷ vs) done = one_more (value.Int x) vs done (prints vs (done ++ printed_in w (value.Int x) ∷ []))
  prints (value.Text x ∷ vs) done = one_more (value.Text x) vs done (prints vs (done ++ printed_in w (value.Text x) ∷ []))
  prints (value.Symbol x ∷ vs) done = one_more (value.Symbol x) vs done (prints vs (done ++ printed_in w (value.Symbol x) ∷ []))

-- CALLS

abbrev Calls : Ref → View → Around → Act Ref MadeSymbol
Calls me w a = calls_host (naming_of w.me) a.shared me (arguments_in w.asked.ask) (party_of a w)

same_number : (names : Naming Ref MadeSymbol) (shared : Shared) (o : Origin) → number_at o ≡ number_there names shared o
same_number names shared (Own i) = refl
same_number names shared (Common c) = refl
same_number names shared Foreign = refl

asks_out : (me : Ref) (old : View) → LeadsTo (Calls me old) old (with_call (call_in old me) old) mode.Outside
asks_out me old =
    record {
      leads = λ a. (
          let b = fitting old a in
          let p = party_of b old in
          let o = (naming_of old.me).origin me in
          let n = number_there (naming_of old.me) b.shared o in
          ap (λ f. outside_point b (with_call (record { function = f; arguments = map (printed_in old) (arguments_in old.asked.ask) }) old)) (same_number (naming_of old.me) b.shared o)
          ∙ ap (settles b old old.values) (sym (prints old a (λ shown. calls_outside (naming_of old.me) b.shared (record { function = n; arguments = shown }) p) (arguments_in old.asked.ask) [])));
      keeps = (refl, (refl, (refl, (refl, refl))));
    }

pub called_out : (me : Ref) (f : ℕ) (ts : List (List ℕ)) (old new : View) → f ≡ number_at ((naming_of old.me).origin me) → ts ≡ map (printed_in old) (arguments_in old.asked.ask)
    → new ≡ with_call (record { function = f; arguments = ts }) old → LeadsTo (Calls me old) old new mode.Outside
called_out me f ts old new e g s =
    led (Calls me old) old (with_call (call_in old me) old) new mode.Outside mode.Outside (asks_out me old) (s ∙ (λ j. with_call (record { function = e j; arguments = g j }) old)) refl

-- A FUNCTION OF THE HOST

module _ (names : Naming Ref MadeSymbol) (shared : Shared) (me : Ref) (p : Party Ref MadeSymbol) where
  host_called : (s : Slot Ref MadeSymbol) (c : Bool) (this : Value Ref MadeSymbol) (args : Values) → way_called s c ≡ way.Host → called_at names shared me s c this args p ≡ calls_host names shared me args p
  host_called (slot.Held (held.Require n)) c this args e = cc
  host_called (slot.Held held.ModuleMap) c this args e = cc
  host_called slot.Plain true this args e = refl
  host_called slot.Plain false this args e = cc
  host_called s c this args e = cc

  host_asked : (s : Slot Ref MadeSymbol) (c : Bool) (x : Ask Ref MadeSymbol) → way_asked s c x ≡ way.Host → decides_ask names shared me s c x p ≡ calls_host names shared me (arguments_in x) p
  host_asked s c (ask.Call this args) e = host_called s c this args e
  host_asked s c x e = cc

  no_collection : (x : Ask Ref MadeSymbol) → way_collected x ≡ way.Host → ⊥
  no_collection (ask.Slot which args) e = cc
  no_collection x e = cc

  host_by_slot : (s : Slot Ref MadeSymbol) (c : Bool) (x : Ask Ref MadeSymbol) → way_of s c x ≡ way.Host → decides_by_slot names shared me s c x p ≡ calls_host names shared me (arguments_in x) p
  host_by_slot (slot.Proxy q) c x e = cc
  host_by_slot (slot.Table es) c x e = absurd (no_collection x e)
  host_by_slot s c x e = host_asked s c x e

pub as_host : {E : Type 0} (r : Result Mode E) (me : Ref) (w : Way) (old new : View) → w ≡ way_here old me → w ≡ way.Host → IfOk r (LeadsTo (Calls me old) old new)
    → IfOk r (LeadsTo (λ a. decides_object (naming_of old.me) a.shared me old.asked.ask (party_of a old)) old new)
as_host (Ok m) me w old new e f h =
    record {
      leads = λ a. (
          let b = fitting old a in
          let o = object_in old me in
          h.leads a ∙ ap (λ x. settles b old old.values (answered (naming_of old.me) b.env x)) (sym (host_by_slot (naming_of old.me) b.shared me (party_of b old) o.slot o.marks.callable old.asked.ask (sym e ∙ f))));
      keeps = h.keeps;
    }
as_host (Err x) me w old new e f h = tt

-- ANSWERS

-- the outside answers so
pub outside_told : {E : Type 0} (r : Result Mode E) (x : HostAnswer) (old new : View) → IfOk r (LeadsTo (λ a. outside_answers (naming_of old.me) a.shared (party_of a old) (answer_of x)) old new) → IfOk r (IsAnswered x old new)
outside_told (Ok m) x old new h =
    record {
      stands = λ a e. (let b = fitting old a in h.leads a ∙ ap (λ y. settles b old old.values (answered (naming_of old.me) b.env (outside_answers (naming_of old.me) b.shared (party_of b old) y))) (sym e));
      keeps = h.keeps;
    }
outside_told (Err z) x old new h = tt

abbrev Told : OutsideAnswer → View → View → Mode → Type 0
Told x old new m = LeadsTo (λ a. outside_answers (naming_of old.me) a.shared (party_of a old) x) old new m

pub told_so : {E : Type 0} (r : Result Mode E) (x y : HostAnswer) (old new : View) → x ≡ y → IfOk r (Told (answer_of y) old new) → IfOk r (Told (answer_of x) old new)
told_so r x y old new e h = subst (λ z. IfOk r (Told (answer_of z) old new)) (sym e) h

pub number_told : {E : Type 0} (r : Result Mode E) (v : Value Ref MadeSymbol) (n : ℕ) (x : HostAnswer) (old new : View) → v ≡ value.Int (pos n) → x ≡ host_answer.Number n → IfOk r (LeadsTo (λ a. give v (party_of a old)) old new)
    → IfOk r (Told (answer_of x) old new)
number_told r v n x old new e d h = subst (λ y. IfOk r (Told (answer_of y) old new)) (sym d) (subst (λ y. IfOk r (LeadsTo (λ a. give y (party_of a old)) old new)) e h)

pub failure_told : {E : Type 0} (r : Result Mode E) (t units slice : List ℕ) (x : HostAnswer) (old new : View) → units ≡ t → slice ≡ units → x ≡ host_answer.Fails t
    → IfOk r (LeadsTo (λ a. throws_plain_error (naming_of old.me) slice (party_of a old)) old new) → IfOk r (Told (answer_of x) old new)
failure_told r t units slice x old new e g d h =
    subst (λ y. IfOk r (Told (answer_of y) old new)) (sym d) (subst (λ y. IfOk r (LeadsTo (λ a. throws_plain_error (naming_of old.me) y (party_of a old)) old new)) (g ∙ e) h)

-- THE NEWEST CALL

below_last : (zs : List OutsideCall) (y x : OutsideCall) → newest_call (zs ++ y ∷ []) ≡ newest_call ((zs ++ y ∷ []) ++ x ∷ [])
below_last [] y x = refl
below_last (z ∷ zs) y x = refl

pub last_is : (cs : List OutsideCall) → slice_get cs (length cs - 1) ≡ newest_call (reverse cs)
last_is [] = refl
last_is (x ∷ []) = refl
last_is (x ∷ y ∷ cs) =
    let here : length (x ∷ y ∷ cs) - 1 ≡ suc (length (y ∷ cs) - 1) = omega arith in
    ap (slice_get (x ∷ y ∷ cs)) here
    ∙ last_is (y ∷ cs)
    ∙ ap newest_call (reverse-append (y ∷ []) cs)
    ∙ below_last (reverse cs) y x
    ∙ ap (λ l. newest_call (l ++ x ∷ [])) (sym (reverse-append (y ∷ []) cs))
    ∙ ap newest_call (sym (reverse-append (x ∷ []) (y ∷ cs)))
