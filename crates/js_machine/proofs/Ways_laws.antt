-- Which way an object decides.
use Rattle.std.proofs.Common.{◌≡◌, ℕ, Bool, true, false, List, length, nat_lt, Option, Result, Ok, Err, IfOk, Some, None, refl, sym, ap, ◌∙◌, if◌then◌else◌}
use Rattle.std.specs.Option.{option_map}
use Rattle.std.proofs.lemmas.Bool.{ltb-false}
use Rattle.std.proofs.lemmas.List.{get_or_past}
use Rattle.lava_base.specs.declared.ids.MadeSymbol.{MadeSymbol}
use Rattle.lava_base.specs.declared.ids.Ref.{Ref}
use Rattle.js_text.specs.Naming.{Naming, Origin, Own, Common, Foreign, naming_of}
use Rattle.js_text.specs.declared.value.Value.{Value}
use Rattle.js_desc.specs.declared.ask.Ask.{Ask}
use Rattle.js_desc.specs.declared.ask.Ask.TheVariants as ask
use Rattle.js_operation.specs.js_exotic.Decided.{decided}
use Rattle.js_ordinary.specs.Origins.{object_of, there}
use Rattle.js_ordinary.specs.Targets.{object_seen, origin_of_target}
use Rattle.js_ordinary.specs.declared.target.Target.{Target}
use Rattle.js_operation.specs.js_run.Acts.{Act}
use Rattle.js_operation.specs.js_run.Decisions.{called_at, decides_ask, decides_by_slot, decides_object, follows_with}
use Rattle.js_operation.specs.js_run.Parties.{Party, Shared}
use Rattle.js_store.specs.Frozen.{CommonObject, as_read, common_ref}
use Rattle.js_store.specs.Objects.{Object, fresh, object_at, plain_marks}
use Rattle.js_operation.specs.js_run.Runs.{answered}
use Rattle.js_store.specs.declared.slot.Entry.{Entry}
use Rattle.js_store.specs.declared.slot.Held.TheVariants as held
use Rattle.js_store.specs.declared.slot.Slot.{Slot}
use Rattle.js_store.specs.declared.slot.Slot.TheVariants as slot
use Rattle.js_machine.specs.Steps.{LeadsTo, settles}
use Rattle.js_machine.specs.Views.{View, fitting, party_of}
use Rattle.js_machine.specs.Ways.{object_in, way_asked, way_called, way_collected, way_here, way_of}
use Rattle.js_machine.specs.declared.frame.Mode.{Mode}
use Rattle.js_machine.specs.declared.ways.Way.{Way}
use Rattle.js_machine.specs.declared.ways.Way.TheVariants as way

-- WHERE AN OBJECT IS

module _ (os : List (Object Ref MadeSymbol)) (cs : List CommonObject) where
  found : (i : Bool) (o p : Origin) → (if i then Some p else None) ≡ Some o → p ≡ o
  found true o p e = cc
  found false o p e = cc

  pub same_place : (o p : Origin) → there os cs p ≡ Some o → p ≡ o
  same_place o (Own i) e = found (nat_lt i (length os)) o (Own i) e
  same_place o (Common c) e = found (nat_lt c (length cs)) o (Common c) e
  same_place o Foreign e = cc

  pub seen_there : (t : Target) (o : Option Target) (p : Origin) → option_map origin_of_target o ≡ there os cs p → o ≡ Some t → object_seen os cs t ≡ object_of common_ref os cs p
  seen_there t o p e f = ap (object_of common_ref os cs) (sym (same_place (origin_of_target t) p (sym e ∙ ap (option_map origin_of_target) f)))

  -- an object that is nowhere
  abbrev Bare : Object Ref MadeSymbol → Type 0
  Bare o = (o.slot ≡ slot.Plain) × (o.marks.callable ≡ false)

  past_own : (b : Bool) (i : ℕ) → nat_lt i (length os) ≡ b → (if b then Some (Own i) else None) ≡ None → Bare (object_at os i)
  past_own true i l e = cc
  past_own false i l e = let p = get_or_past os i (fresh None plain_marks slot.Plain) (ltb-false _ _ l) in (ap (λ (o : Object Ref MadeSymbol). o.slot) p, ap (λ (o : Object Ref MadeSymbol). o.marks.callable) p)

  past_common : (b : Bool) (c : ℕ) → nat_lt c (length cs) ≡ b → (if b then Some (Common c) else None) ≡ None → Bare (as_read common_ref (object_at cs c))
  past_common true c l e = cc
  past_common false c l e = let p = get_or_past cs c (fresh None plain_marks slot.Plain) (ltb-false _ _ l) in (ap (λ (o : CommonObject). (as_read {S = MadeSymbol} common_ref o).slot) p, ap (λ (o : CommonObject). (as_read {S = MadeSymbol} common_ref o).marks.callable) p)

  pub nowhere : (p : Origin) → there os cs p ≡ None → Bare (object_of common_ref os cs p)
  nowhere (Own i) e = past_own (nat_lt i (length os)) i refl e
  nowhere (Common c) e = past_common (nat_lt c (length cs)) c refl e
  nowhere Foreign e = (refl, refl)

plain_way : (x : Ask Ref MadeSymbol) → way.Object ≡ way_of slot.Plain false x
plain_way (ask.Call this args) = refl
plain_way x = refl

none_there : (o : Option Target) → option_map origin_of_target o ≡ None → o ≡ None
none_there None e = refl
none_there (Some t) e = cc

pub way_nowhere : (os : List (Object Ref MadeSymbol)) (cs : List CommonObject) (p : Origin) (x : Ask Ref MadeSymbol) (o : Option Target) → option_map origin_of_target o ≡ there os cs p → o ≡ None
    → way.Object ≡ (let b = object_of common_ref os cs p in way_of b.slot b.marks.callable x)
way_nowhere os cs p x o e f =
    let b = nowhere os cs p (sym e ∙ ap (option_map origin_of_target) f) in
    plain_way x ∙ (λ i. way_of (sym b.0 i) (sym b.1 i) x)

pub way_there : (os : List (Object Ref MadeSymbol)) (cs : List CommonObject) (p : Origin) (x : Ask Ref MadeSymbol) (o : Option Target) (t : Target) (s : Slot Ref MadeSymbol) (c : Bool) → option_map origin_of_target o ≡ there os cs p → o ≡ Some t
    → s ≡ (object_seen os cs t).slot → c ≡ (object_seen os cs t).marks.callable → way_of s c x ≡ (let b = object_of common_ref os cs p in way_of b.slot b.marks.callable x)
way_there os cs p x o t s c e f g h =
    let same = seen_there os cs t o p e f in
    (λ i. way_of (g i) (h i) x) ∙ ap (λ (b : Object Ref MadeSymbol). way_of b.slot b.marks.callable x) same

-- AS EVERY OBJECT DOES

module _ (names : Naming Ref MadeSymbol) (shared : Shared) (me : Ref) (p : Party Ref MadeSymbol) where
  abbrev by_table : Ask Ref MadeSymbol → Act Ref MadeSymbol
  by_table x = follows_with names shared me (decided names p.objects shared.objects me x) p

  called : (s : Slot Ref MadeSymbol) (c : Bool) (this : Value Ref MadeSymbol) (args : List (Value Ref MadeSymbol)) → way_called s c ≡ way.Object → called_at names shared me s c this args p ≡ by_table (ask.Call this args)
  called (slot.Held (held.Require n)) c this args e = cc
  called (slot.Held held.ModuleMap) c this args e = cc
  called slot.Plain true this args e = cc
  called slot.Plain false this args e = refl
  called s c this args e = refl

  asked : (s : Slot Ref MadeSymbol) (c : Bool) (x : Ask Ref MadeSymbol) → way_asked s c x ≡ way.Object → decides_ask names shared me s c x p ≡ by_table x
  asked s c (ask.Call this args) e = called s c this args e
  asked s c x e = refl

  collected : (es : List (Entry Ref MadeSymbol)) (c : Bool) (x : Ask Ref MadeSymbol) → way_collected x ≡ way.Object → decides_by_slot names shared me (slot.Table es) c x p ≡ by_table x
  collected es c (ask.Slot which args) e = cc
  collected es c x e = refl

  by_slot : (s : Slot Ref MadeSymbol) (c : Bool) (x : Ask Ref MadeSymbol) → way_of s c x ≡ way.Object → decides_by_slot names shared me s c x p ≡ by_table x
  by_slot (slot.Proxy q) c x e = cc
  by_slot (slot.Table es) c x e = collected es c x e
  by_slot s c x e = asked s c x e

pub as_object : {E : Type 0} (r : Result Mode E) (me : Ref) (w : Way) (old new : View) → w ≡ way_here old me → w ≡ way.Object
    → IfOk r (LeadsTo (λ a. follows_with (naming_of old.me) a.shared me (decided (naming_of old.me) old.objects a.shared.objects me old.asked.ask) (party_of a old)) old new)
    → IfOk r (LeadsTo (λ a. decides_object (naming_of old.me) a.shared me old.asked.ask (party_of a old)) old new)
as_object (Ok m) me w old new e f h =
    record {
      leads = λ a. (
          let b = fitting old a in
          let o = object_in old me in
          h.leads a ∙ ap (λ act. settles b old old.values (answered (naming_of old.me) b.env act)) (sym (by_slot (naming_of old.me) b.shared me (party_of b old) o.slot o.marks.callable old.asked.ask (sym e ∙ f))));
      keeps = h.keeps;
    }
as_object (Err x) me w old new e f h = tt
