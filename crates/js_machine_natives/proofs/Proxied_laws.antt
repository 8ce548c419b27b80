-- What proxies decide, seen by the machine.
use Rattle.std.proofs.Common.{◌≡◌, ℕ, Bool, true, false, List, [], length, nat_lt, Option, Some, None, refl, sym, ap, ◌∙◌, subst, Result, Ok, Err, IfOk, if◌then◌else◌}
use Rattle.std.specs.Prelude.{ℤ}
use Rattle.std.specs.Option.{option_map}
use Rattle.std.proofs.lemmas.Bool.{ltb-false}
use Rattle.lava_base.specs.declared.ids.MadeSymbol.{MadeSymbol}
use Rattle.lava_base.specs.declared.ids.Ref.{Ref}
use Rattle.lava_base.specs.declared.marks.Marks.{Marks}
use Rattle.js_text.specs.Naming.{Naming, Origin, Own, Common, Foreign, naming_of}
use Rattle.js_text.specs.declared.native.Native.{Native}
use Rattle.js_text.specs.declared.native.Native.TheVariants as native
use Rattle.js_text.specs.declared.value.Value.{Value}
use Rattle.js_text.specs.declared.value.Value.TheVariants as value
use Rattle.js_desc.specs.declared.ask.Ask.{Ask}
use Rattle.js_desc.specs.declared.ask.Ask.TheVariants as ask
use Rattle.js_desc.specs.declared.decision.Decision.TheVariants as decision
use Rattle.js_desc.specs.declared.descriptor.PartialDescriptor.{PartialDescriptor}
use Rattle.js_desc.specs.declared.fault.FaultText.TheVariants as fault
use Rattle.js_desc.specs.declared.reply.Reply.{Reply}
use Rattle.js_desc.specs.declared.reply.Reply.TheVariants as reply
use Rattle.js_machine.specs.js_operations.Descriptions.{description_resumed, field_come, field_given}
use Rattle.js_machine.specs.js_operations.Fields.{function_of_field, with_field, with_get, with_set}
use Rattle.js_machine.specs.js_operations.Looks.{marks_seen, marks_there}
use Rattle.js_machine.specs.js_operations.declared.descriptions.Description.{Description}
use Rattle.js_machine.specs.js_operations.declared.fields.FieldName.{FieldName}
use Rattle.js_machine.specs.js_operations.declared.fields.FieldName.TheVariants as field
use Rattle.js_ordinary.specs.Origins.{object_of, there}
use Rattle.js_ordinary.specs.Targets.{object_seen, origin_of_target}
use Rattle.js_ordinary.specs.declared.target.Target.{Target}
use Rattle.js_machine.specs.js_proxy.Decided.{decided, decided_by_slot, decided_there, resumed}
use Rattle.js_machine.specs.js_proxy.Traps.{array_by_class, call_with, decided_by_proxy, decided_slot_ask}
use Rattle.js_machine.specs.js_run.Acts.{Act, Proxy_decides}
use Rattle.js_machine.specs.js_run.Asking.{waits_for}
use Rattle.js_machine.specs.js_run.Conversions.{to_number}
use Rattle.js_machine.specs.js_run.Decisions.{decides_by_slot, decides_object}
use Rattle.js_machine.specs.js_run.Faults.{faults}
use Rattle.js_machine.specs.js_run.Following.{follows_by, see_come}
use Rattle.js_machine.specs.js_run.Parties.{Party}
use Rattle.js_machine.specs.js_run.Proxies.{follows_proxy, follows_proxy_with, proxy_decides, proxy_goes_on, proxy_has_number, see_target}
use Rattle.js_machine.specs.js_run.Runs.{answered}
use Rattle.js_store.specs.Foreign.{marks_of}
use Rattle.js_store.specs.Frozen.{CommonObject, as_read, common_ref}
use Rattle.js_store.specs.Objects.{Object, object_at, plain_marks}
use Rattle.js_store.specs.declared.slot.Entry.{Entry}
use Rattle.js_store.specs.declared.slot.Held.TheVariants as held
use Rattle.js_store.specs.declared.slot.Proxied.{Proxied}
use Rattle.js_store.specs.declared.slot.Slot.{Slot}
use Rattle.js_store.specs.declared.slot.Slot.TheVariants as slot
use Rattle.js_machine.specs.js_traps.PropertyTraps.{description_read}
use Rattle.js_machine.specs.js_traps.TrapDecisions.{ProxyDecision}
use Rattle.js_machine.specs.js_traps.declared.next.Next.{Next as ProxyNext}
use Rattle.js_machine.specs.js_traps.declared.next.Next.TheVariants as next
use Rattle.js_machine.specs.Decisions.{object_of_value}
use Rattle.js_machine.specs.Looks.{marks_at, marks_in}
use Rattle.js_machine.specs.Proxying.{known_at, known_if, known_of, marks_if, object_come, proxy_decided, target_of}
use Rattle.js_machine.specs.Steps.{LeadsTo, settles}
use Rattle.js_machine.specs.Views.{Around, View, fitting, next_of_wait, next_of_want, party_of}
use Rattle.js_machine.specs.Ways.{object_in, way_asked, way_called, way_collected, way_here, way_of}
use Rattle.js_machine.specs.Wanting.{goes_with}
use Rattle.js_machine.specs.declared.asked.NumberFor.TheVariants as number_for
use Rattle.js_machine.specs.declared.asked.Wait.TheVariants as wait
use Rattle.js_machine.specs.declared.frame.Mode.{Mode}
use Rattle.js_machine.specs.declared.ways.Way.{Way}
use Rattle.js_machine.specs.declared.ways.Way.TheVariants as way
use Rattle.js_machine.proofs.Looked.{looked, past_marks}
use Rattle.js_machine.proofs.Ways_laws.{nowhere, same_place, seen_there}

abbrev Objects : Type 0
Objects = List (Object Ref MadeSymbol)

-- THE TARGET OF A PROXY

pub target_there : (os : Objects) (cs : List CommonObject) (p : Origin) (o : Option Target) (t : Target) → option_map origin_of_target o ≡ there os cs p → o ≡ Some t
    → target_of (object_seen os cs t).slot ≡ target_of (object_of common_ref os cs p).slot
target_there os cs p o t e f = ap (λ (x : Object Ref MadeSymbol). target_of x.slot) (seen_there os cs t o p e f)

pub target_nowhere : (os : Objects) (cs : List CommonObject) (p : Origin) (o : Option Target) → option_map origin_of_target o ≡ there os cs p → o ≡ None → None ≡ target_of (object_of common_ref os cs p).slot
target_nowhere os cs p o e f = sym (ap target_of (nowhere os cs p (sym e ∙ ap (option_map origin_of_target) f)).0)

-- MARKS, AS A DECISION SEES THEM AND AS THE MACHINE DOES

module _ (names : Naming Ref MadeSymbol) (os : Objects) (cs : List CommonObject) (known : List (Ref × Marks)) (r : Ref) where
  own_seen : (b : Bool) (i : ℕ) → nat_lt i (length os) ≡ b → marks_there names os cs [] r (if b then Some (Own i) else None) ≡ (object_at os i).marks
  own_seen true i l = refl
  own_seen false i l = past_marks os i (ltb-false _ _ l)

  common_seen : (b : Bool) (c : ℕ) → nat_lt c (length cs) ≡ b → marks_there names os cs [] r (if b then Some (Common c) else None) ≡ (object_at cs c).marks
  common_seen true c l = refl
  common_seen false c l = past_marks cs c (ltb-false _ _ l)

seen_at : (w : View) (r : Ref) (o : Origin) → marks_there (naming_of w.me) w.objects w.common (known_at w.known [] o) r (there w.objects w.common o) ≡ marks_at w r o
seen_at w r (Own i) = own_seen (naming_of w.me) w.objects w.common w.known r (nat_lt i (length w.objects)) i refl
seen_at w r (Common c) = common_seen (naming_of w.me) w.objects w.common w.known r (nat_lt c (length w.common)) c refl
seen_at w r Foreign = refl

pub seen_as_known : (w : View) (o : Option Ref) (r : Ref) → o ≡ Some r → marks_seen (naming_of w.me) w.objects w.common (known_of w o) r ≡ marks_if w o
seen_as_known w None r e = cc
seen_as_known w (Some s) r e =
    let there : s ≡ r = cc in
    subst (λ x. marks_seen (naming_of w.me) w.objects w.common (known_of w (Some s)) x ≡ marks_if w (Some s)) there (seen_at w s ((naming_of w.me).origin s))

-- A PROXY DECIDES, AND KNOWS THE MARKS OF ITS TARGET ALONE

module _ (marks : Ref → Marks) (m : Marks) where
  abbrev KnowsTarget : Option (Proxied Ref) → Type 0
  KnowsTarget q = (r : Ref) → target_of (slot.Proxy q) ≡ Some r → marks r ≡ m

  array_alike : (q : Option (Proxied Ref)) → KnowsTarget q → decided_slot_ask {R = Ref} {S = MadeSymbol} marks q native.IsArray ≡ decided_slot_ask (λ o. m) q native.IsArray
  array_alike None e = refl
  array_alike (Some p) e = ap (λ (k : Marks). array_by_class p.target k.class) (e p.target refl)

  native_alike : (q : Option (Proxied Ref)) (n : Native) → KnowsTarget q → decided_slot_ask {R = Ref} {S = MadeSymbol} marks q n ≡ decided_slot_ask (λ o. m) q n
  native_alike q native.IsArray e = array_alike q e
  native_alike q n e = refl

  alike : (q : Option (Proxied Ref)) (x : Ask Ref MadeSymbol) → KnowsTarget q → decided_by_proxy marks q x ≡ decided_by_proxy (λ o. m) q x
  alike q (ask.Slot which args) e = native_alike q which e
  alike q x e = refl

  -- a decision goes on, and knows the marks of what comes alone
  abbrev KnowsCome : Reply Ref MadeSymbol → Type 0
  KnowsCome y = (r : Ref) → object_come y ≡ Some r → marks r ≡ m

  function_alike : (v : Value Ref MadeSymbol) → ((r : Ref) → object_of_value v ≡ Some r → marks r ≡ m) → function_of_field marks v ≡ function_of_field (λ o. m) v
  function_alike (value.Ref r) e = ap (λ (k : Marks). if k.callable then Some (Some r) else None) (e r refl)
  function_alike v e = refl

  field_alike : (d : PartialDescriptor Ref MadeSymbol) (f : FieldName) (v : Value Ref MadeSymbol) → ((r : Ref) → object_of_value v ≡ Some r → marks r ≡ m) → with_field marks d f v ≡ with_field (λ o. m) d f v
  field_alike d field.Get v e = ap (with_get d) (function_alike v e)
  field_alike d field.Set v e = ap (with_set d) (function_alike v e)
  field_alike d f v e = refl

  come_alike : (object : Ref) (f : FieldName) (is_there : Bool) (read : PartialDescriptor Ref MadeSymbol) (y : Reply Ref MadeSymbol) → KnowsCome y → field_come marks object f is_there read y ≡ field_come (λ o. m) object f is_there read y
  come_alike object f true read (reply.Value v) e = ap (field_given object f) (field_alike read f v e)
  come_alike object f is_there read y e = refl

  trap_alike : (names : Naming Ref MadeSymbol) (os : Objects) (p : Proxied Ref) (x : Ask Ref MadeSymbol) (y : Reply Ref MadeSymbol) → KnowsCome y → resumed names marks os (next.Trap p x) y ≡ resumed names (λ o. m) os (next.Trap p x) y
  trap_alike names os p x (reply.Value (value.Ref t)) e = ap (λ (k : Marks). if k.callable then call_with names os p t x else (decision.Fault fault.NotAFunction, os)) (e t refl)
  trap_alike names os p x (reply.Value v) e = refl
  trap_alike names os p x y e = refl

  pub resumed_alike : (names : Naming Ref MadeSymbol) (os : Objects) (n : ProxyNext Ref MadeSymbol) (y : Reply Ref MadeSymbol) → KnowsCome y → resumed names marks os n y ≡ resumed names (λ o. m) os n y
  resumed_alike names os (next.Trap p x) y e = trap_alike names os p x y e
  resumed_alike names os (next.DescriptionRead d there extensible) y e = ap (λ s. (description_read names.same names.same_symbol there extensible s, os)) (come_alike d.object d.field d.is_there d.read y e)
  resumed_alike names os n y e = refl

-- WHAT IS DECIDED

abbrev Ask_here : Type 0
Ask_here = Ask Ref MadeSymbol

abbrev pub proxied_in : Slot Ref MadeSymbol → Option (Proxied Ref)
proxied_in (slot.Proxy q) = q
proxied_in s = None

not_called : (s : Slot Ref MadeSymbol) (c : Bool) → way_called s c ≡ way.Proxy → ⊥
not_called (slot.Held (held.Require n)) c e = cc
not_called (slot.Held held.ModuleMap) c e = cc
not_called slot.Plain true e = cc
not_called slot.Plain false e = cc
not_called s c e = cc

not_asked : (s : Slot Ref MadeSymbol) (c : Bool) (x : Ask_here) → way_asked s c x ≡ way.Proxy → ⊥
not_asked s c (ask.Call this args) e = not_called s c e
not_asked s c x e = cc

not_collected : (x : Ask_here) → way_collected x ≡ way.Proxy → ⊥
not_collected (ask.Slot which args) e = cc
not_collected x e = cc

pub is_proxy : (s : Slot Ref MadeSymbol) (c : Bool) (x : Ask_here) → way_of s c x ≡ way.Proxy → s ≡ slot.Proxy (proxied_in s)
is_proxy (slot.Proxy q) c x e = refl
is_proxy (slot.Table es) c x e = absurd (not_collected x e)
is_proxy s c x e = absurd (not_asked s c x e)

-- an object that decides as a proxy is there
decided_at : (me : ℕ) (os : Objects) (cs : List CommonObject) (p : Origin) (marks : Ref → Marks) (x : Ask_here) (q : Option (Proxied Ref)) (t : Option Origin) → there os cs p ≡ t → (object_of common_ref os cs p).slot ≡ slot.Proxy q
    → decided_there (naming_of me) os cs marks x t ≡ decided_by_proxy marks q x
decided_at me os cs p marks x q None e s = let bare : slot.Plain ≡ slot.Proxy q = sym (nowhere os cs p e).0 ∙ s in cc
decided_at me os cs p marks x q (Some o) e s = ap (λ k. decided_by_slot marks k x) (ap (λ r. (object_of common_ref os cs r).slot) (sym (same_place os cs o p e)) ∙ s)

pub as_decided : (w : View) (me : Ref) (q : Option (Proxied Ref)) → (object_in w me).slot ≡ slot.Proxy q → proxy_decided w me ≡ decided_by_proxy (λ o. marks_if w (target_of (slot.Proxy q))) q w.asked.ask
as_decided w me q e =
    let names = naming_of w.me in
    let marks = marks_seen names w.objects w.common (known_of w (target_of (slot.Proxy q))) in
    ap (λ s. decided names w.objects w.common (known_of w (target_of s)) me w.asked.ask) e
    ∙ decided_at w.me w.objects w.common (names.origin me) marks w.asked.ask q (there w.objects w.common (names.origin me)) refl e
    ∙ alike marks (marks_if w (target_of (slot.Proxy q))) q w.asked.ask (λ r f. seen_as_known w (target_of (slot.Proxy q)) r f)

-- the target's marks are looked at
pub target_looked : (q : Option (Proxied Ref)) (w : View) (a : Around) (go : Marks → Act Ref MadeSymbol)
    → (let b = fitting w a in answered (naming_of w.me) b.env (see_target (naming_of w.me) b.shared q (party_of b w) go) ≡ answered (naming_of w.me) b.env (go (marks_if w (target_of (slot.Proxy q)))))
target_looked None w a go = refl
target_looked (Some p) w a go = looked p.target w a go

as_proxy_at : (me : Ref) (q : Option (Proxied Ref)) (m : Mode) (old new : View) → (object_in old me).slot ≡ slot.Proxy q
    → LeadsTo (λ a. follows_proxy (naming_of old.me) a.shared (proxy_decided old me) (party_of a old)) old new m
    → LeadsTo (λ a. decides_object (naming_of old.me) a.shared me old.asked.ask (party_of a old)) old new m
as_proxy_at me q m old new e h =
    record {
      leads = λ a. (
          let b = fitting old a in
          let names = naming_of old.me in
          let marks = marks_if old (target_of (slot.Proxy q)) in
          let callable = (object_in old me).marks.callable in
          h.leads a
          ∙ ap (λ d. settles b old old.values (answered names b.env (follows_proxy names b.shared d (party_of b old)))) (as_decided old me q e)
          ∙ ap (settles b old old.values) (sym (target_looked q old a (λ k. follows_proxy names b.shared (decided_by_proxy (λ o. k) q old.asked.ask) (party_of b old))))
          ∙ ap (λ s. settles b old old.values (answered names b.env (decides_by_slot names b.shared me s callable old.asked.ask (party_of b old)))) (sym e));
      keeps = h.keeps;
    }

pub as_proxy : {E : Type 0} (r : Result Mode E) (me : Ref) (k : Way) (old new : View) → k ≡ way_here old me → k ≡ way.Proxy
    → IfOk r (LeadsTo (λ a. follows_proxy (naming_of old.me) a.shared (proxy_decided old me) (party_of a old)) old new)
    → IfOk r (LeadsTo (λ a. decides_object (naming_of old.me) a.shared me old.asked.ask (party_of a old)) old new)
as_proxy (Ok m) me k old new e f h =
    let o = object_in old me in as_proxy_at me (proxied_in o.slot) m old new (is_proxy o.slot o.marks.callable old.asked.ask (sym e ∙ f)) h
as_proxy (Err x) me k old new e f h = tt

pub decided_so : {E : Type 0} (r : Result Mode E) (me : Ref) (d : ProxyDecision Ref MadeSymbol) (old new : View) → d ≡ proxy_decided old me
    → IfOk r (LeadsTo (λ a. follows_proxy (naming_of old.me) a.shared d (party_of a old)) old new) → IfOk r (LeadsTo (λ a. follows_proxy (naming_of old.me) a.shared (proxy_decided old me) (party_of a old)) old new)
decided_so r me d old new e h = subst (λ x. IfOk r (LeadsTo (λ a. follows_proxy (naming_of old.me) a.shared x (party_of a old)) old new)) e h

-- WHAT FOLLOWS

-- where no number is wanted
pub followed : {E : Type 0} (r : Result Mode E) (d : ProxyDecision Ref MadeSymbol) (old new : View) → ((v : Value Ref MadeSymbol) (n : ProxyNext Ref MadeSymbol) → d ≡ decision.Number v n → ⊥)
    → IfOk r (LeadsTo (λ a. follows_by (naming_of old.me) Proxy_decides d (party_of a old)) old new) → IfOk r (LeadsTo (λ a. follows_proxy (naming_of old.me) a.shared d (party_of a old)) old new)
followed r (decision.Number v n) old new f h = absurd (f v n refl)
followed r d old new f h = h

-- HOW A DECISION GOES ON

-- a decision, and the objects after it
abbrev pub Says : ProxyDecision Ref MadeSymbol → Objects → ProxyDecision Ref MadeSymbol × Objects → Type 0
Says d os q = (d, os) ≡ q

pub next_says : (w : View) (n : ProxyNext Ref MadeSymbol) (y : Reply Ref MadeSymbol) → resumed (naming_of w.me) (marks_seen (naming_of w.me) w.objects w.common (known_of w (object_come y))) w.objects n y ≡ resumed (naming_of w.me) (λ o. marks_if w (object_come y)) w.objects n y
next_says w n y = resumed_alike (marks_seen (naming_of w.me) w.objects w.common (known_of w (object_come y))) (marks_if w (object_come y)) (naming_of w.me) w.objects n y (λ r f. seen_as_known w (object_come y) r f)

-- the marks of what comes are looked at
come_looked : (y : Reply Ref MadeSymbol) (w : View) (a : Around) (go : Marks → Act Ref MadeSymbol)
    → (let b = fitting w a in answered (naming_of w.me) b.env (see_come (naming_of w.me) b.shared y (party_of b w) go) ≡ answered (naming_of w.me) b.env (go (marks_if w (object_come y))))
come_looked (reply.Value (value.Ref r)) w a go = looked r w a go
come_looked (reply.Value v) w a go = refl
come_looked y w a go = refl

pub resumed_so : {E : Type 0} (r : Result Mode E) (n : ProxyNext Ref MadeSymbol) (y : Reply Ref MadeSymbol) (d : ProxyDecision Ref MadeSymbol) (old mid new : View)
    → Says d mid.objects (resumed (naming_of old.me) (λ o. marks_if old (object_come y)) old.objects n y) → mid ≡ record old { objects = mid.objects }
    → IfOk r (LeadsTo (λ a. follows_proxy (naming_of mid.me) a.shared d (party_of a mid)) mid new) → IfOk r (LeadsTo (λ a. proxy_goes_on (naming_of old.me) a.shared n y (party_of a old)) old new)
resumed_so (Ok m) n y d old mid new e s h =
    let w = subst (λ (x : View). LeadsTo (λ a. follows_proxy (naming_of x.me) a.shared d (party_of a x)) x new m) s h in
    let pair : LeadsTo (λ a. follows_proxy_with (naming_of old.me) a.shared (d, mid.objects) (party_of a old)) old new m = record { leads = λ a. w.leads a; keeps = w.keeps } in
    let q = subst (λ q. LeadsTo (λ a. follows_proxy_with (naming_of old.me) a.shared q (party_of a old)) old new m) e pair in
    record {
      leads = λ a. (
          let b = fitting old a in
          let names = naming_of old.me in
          q.leads a ∙ ap (settles b old old.values) (sym (come_looked y old a (λ k. follows_proxy_with names b.shared (resumed names (λ o. k) old.objects n y) (party_of b old)))));
      keeps = q.keeps;
    }
resumed_so (Err x) n y d old mid new e s h = tt

abbrev with_objects : View → ProxyDecision Ref MadeSymbol × Objects → Around → Act Ref MadeSymbol
with_objects w q a = follows_by (naming_of w.me) Proxy_decides q.0 (record (party_of a w) { objects = q.1 })

had_so : {E : Type 0} (r : Result Mode E) (n : ProxyNext Ref MadeSymbol) (i : ℤ) (d : ProxyDecision Ref MadeSymbol) (old mid new : View)
    → Says d mid.objects (resumed (naming_of old.me) (λ o. plain_marks) old.objects n (reply.Value (value.Int i))) → mid ≡ record old { objects = mid.objects }
    → IfOk r (LeadsTo (λ a. follows_by (naming_of mid.me) Proxy_decides d (party_of a mid)) mid new) → IfOk r (LeadsTo (λ a. proxy_has_number (naming_of old.me) a.shared n i (party_of a old)) old new)
had_so (Ok m) n i d old mid new e s h =
    let w = subst (λ (x : View). LeadsTo (λ a. follows_by (naming_of x.me) Proxy_decides d (party_of a x)) x new m) s h in
    let pair : LeadsTo (with_objects old (d, mid.objects)) old new m = record { leads = λ a. w.leads a; keeps = w.keeps } in
    let q = subst (λ q. LeadsTo (with_objects old q) old new m) e pair in
    record { leads = λ a. q.leads a; keeps = q.keeps }
had_so (Err x) n i d old mid new e s h = tt

pub number_had : {E : Type 0} {j : ℤ} (r : Result Mode E) (n : ProxyNext Ref MadeSymbol) (i : ℤ) (d : ProxyDecision Ref MadeSymbol) (old mid new : View) → j ≡ i
    → Says d mid.objects (resumed (naming_of old.me) (λ o. plain_marks) old.objects n (reply.Value (value.Int j))) → mid ≡ record old { objects = mid.objects }
    → IfOk r (LeadsTo (λ a. follows_by (naming_of mid.me) Proxy_decides d (party_of a mid)) mid new) → IfOk r (LeadsTo (λ a. proxy_has_number (naming_of old.me) a.shared n i (party_of a old)) old new)
number_had r n i d old mid new q e s h = had_so r n i d old mid new (subst (λ x. Says d mid.objects (resumed (naming_of old.me) (λ o. plain_marks) old.objects n (reply.Value (value.Int x)))) q e) s h

-- a number is wanted
pub wants_number : {E : Type 0} (r : Result Mode E) (d : ProxyDecision Ref MadeSymbol) (v : Value Ref MadeSymbol) (n : ProxyNext Ref MadeSymbol) (old new : View) → d ≡ decision.Number v n
    → IfOk r (LeadsTo (λ a. to_number (naming_of old.me) a.shared (waits_for (naming_of old.me)) v (party_of a old) (goes_with (naming_of old.me) a.shared (number_for.Proxy n))) old new)
    → IfOk r (LeadsTo (λ a. follows_proxy (naming_of old.me) a.shared d (party_of a old)) old new)
unfolding goes_with
wants_number r d v n old new e h = subst (λ x. IfOk r (LeadsTo (λ a. follows_proxy (naming_of old.me) a.shared x (party_of a old)) old new)) (sym e) h

-- what is known of others, where the target is looked at
pub decided_knowing : {E : Type 0} (r : Result (ProxyDecision Ref MadeSymbol) E) (w : View) (me : Ref) (target : Option Ref) (known nothing : List (Ref × Marks)) → target ≡ target_of (object_in w me).slot → nothing ≡ []
    → known ≡ known_if (naming_of w.me) w.known nothing target → IfOk r (λ d. d ≡ decided (naming_of w.me) w.objects w.common known me w.asked.ask) → IfOk r (λ d. d ≡ proxy_decided w me)
decided_knowing r w me target known nothing e f g h =
    let there : known ≡ known_of w (target_of (object_in w me).slot) = g ∙ ap (λ l. known_if (naming_of w.me) w.known l target) f ∙ ap (known_of w) e in
    subst (λ l. IfOk r (λ d. d ≡ decided (naming_of w.me) w.objects w.common l me w.asked.ask)) there h

-- and where what comes is looked at
pub next_knowing : {E : Type 0} (r : Result (ProxyDecision Ref MadeSymbol) E) (w : View) (os : Objects) (n : ProxyNext Ref MadeSymbol) (y : Reply Ref MadeSymbol) (o : Option Ref) (known nothing : List (Ref × Marks)) → o ≡ object_come y → nothing ≡ []
    → known ≡ known_if (naming_of w.me) w.known nothing o → IfOk r (λ d. Says d os (resumed (naming_of w.me) (marks_seen (naming_of w.me) w.objects w.common known) w.objects n y))
    → IfOk r (λ d. Says d os (resumed (naming_of w.me) (λ k. marks_if w (object_come y)) w.objects n y))
next_knowing r w os n y o known nothing e f g h =
    let there : known ≡ known_of w (object_come y) = g ∙ ap (λ l. known_if (naming_of w.me) w.known l o) f ∙ ap (known_of w) e in
    let k = subst (λ l. IfOk r (λ d. Says d os (resumed (naming_of w.me) (marks_seen (naming_of w.me) w.objects w.common l) w.objects n y))) there h in
    subst (λ q. IfOk r (λ d. Says d os q)) (next_says w n y) k

-- a decision of a kind
pub follows_kind : {E : Type 0} (r : Result Mode E) (d e : ProxyDecision Ref MadeSymbol) (old new : View) → d ≡ e → IfOk r (LeadsTo (λ a. follows_by (naming_of old.me) Proxy_decides e (party_of a old)) old new)
    → IfOk r (LeadsTo (λ a. follows_by (naming_of old.me) Proxy_decides d (party_of a old)) old new)
follows_kind r d e old new f h = subst (λ x. IfOk r (LeadsTo (λ a. follows_by (naming_of old.me) Proxy_decides x (party_of a old)) old new)) (sym f) h

-- the ask of a decision, with its target and without one
pub asks_target : {E : Type 0} (r : Result Mode E) (o : Option Ref) (t : Ref) (x : Ask Ref MadeSymbol) (n : ProxyNext Ref MadeSymbol) (old new : View) → o ≡ Some t
    → IfOk r (LeadsTo (λ a. waits_for (naming_of old.me) t x (party_of a old) (next_of_wait (naming_of old.me) a.shared old.code (wait.Proxy n))) old new)
    → IfOk r (LeadsTo (λ a. follows_by (naming_of old.me) Proxy_decides (decision.Ask o x n) (party_of a old)) old new)
unfolding next_of_want
asks_target r o t x n old new e h = subst (λ q. IfOk r (LeadsTo (λ a. follows_by (naming_of old.me) Proxy_decides (decision.Ask q x n) (party_of a old)) old new)) (sym e) h

pub asks_nowhere : {E : Type 0} (r : Result Mode E) (o : Option Ref) (x : Ask Ref MadeSymbol) (n : ProxyNext Ref MadeSymbol) (old new : View) → o ≡ None
    → IfOk r (LeadsTo (λ a. faults (naming_of old.me) fault.WrongKind (party_of a old)) old new)
    → IfOk r (LeadsTo (λ a. follows_by (naming_of old.me) Proxy_decides (decision.Ask o x n) (party_of a old)) old new)
asks_nowhere r o x n old new e h = subst (λ q. IfOk r (LeadsTo (λ a. follows_by (naming_of old.me) Proxy_decides (decision.Ask q x n) (party_of a old)) old new)) (sym e) h
