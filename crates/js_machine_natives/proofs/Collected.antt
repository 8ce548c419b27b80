-- What keyed collections decide that a native looks into.
use Rattle.std.proofs.Common.{◌≡◌, Bool, List, Option, Some, sym, ap, ◌∙◌, subst, Result, Ok, Err, IfOk}
use Rattle.std.specs.Option.{option_map}
use Rattle.lava_base.specs.declared.ids.MadeSymbol.{MadeSymbol}
use Rattle.lava_base.specs.declared.ids.Ref.{Ref}
use Rattle.js_text.specs.Naming.{Origin, Own, Common, Foreign, naming_of}
use Rattle.js_text.specs.declared.value.Value.{Value}
use Rattle.js_desc.specs.declared.ask.Ask.{Ask}
use Rattle.js_desc.specs.declared.ask.Ask.TheVariants as ask
use Rattle.js_ordinary.specs.Origins.{object_of, there}
use Rattle.js_ordinary.specs.Targets.{object_seen, origin_of_target}
use Rattle.js_ordinary.specs.declared.target.Target.{Target}
use Rattle.js_machine.specs.js_run.Acts.{as_it_is}
use Rattle.js_machine.specs.js_run.Collections.{follows_table, with_table}
use Rattle.js_machine.specs.js_run.Decisions.{decides_by_slot, decides_object}
use Rattle.js_machine.specs.js_run.Following.{follows_by}
use Rattle.js_machine.specs.js_slot_natives.SlotNatives.{table_given}
use Rattle.js_slots.specs.declared.entry.TableEntry.{TableEntry}
use Rattle.js_store.specs.Frozen.{CommonObject, common_ref}
use Rattle.js_store.specs.Objects.{Object}
use Rattle.js_store.specs.Tables.{entries_of}
use Rattle.js_store.specs.declared.slot.Entry.{Entry}
use Rattle.js_store.specs.declared.slot.Held.TheVariants as held
use Rattle.js_store.specs.declared.slot.Slot.{Slot}
use Rattle.js_store.specs.declared.slot.Slot.TheVariants as slot
use Rattle.js_machine.specs.Collecting.{collected, table_by, with_entries}
use Rattle.js_machine.specs.Steps.{LeadsTo}
use Rattle.js_machine.specs.Views.{View, party_of}
use Rattle.js_machine.specs.Ways.{object_in, way_asked, way_called, way_collected, way_here, way_of}
use Rattle.js_machine.specs.declared.frame.Mode.{Mode}
use Rattle.js_machine.specs.declared.ways.Way.{Way}
use Rattle.js_machine.specs.declared.ways.Way.TheVariants as way
use Rattle.js_machine.proofs.Ways_laws.{seen_there}

abbrev Objects : Type 0
Objects = List (Object Ref MadeSymbol)

abbrev Entries : Type 0
Entries = List (Entry Ref MadeSymbol)

abbrev Told : Type 0
Told = Option (Value Ref MadeSymbol) × List (TableEntry Ref MadeSymbol)

pub answer_there : {E : Type 0} (r : Result (Option (Value Ref MadeSymbol)) E) (os : Objects) (cs : List CommonObject) (p : Origin) (o : Option Target) (t : Target) (s : Slot Ref MadeSymbol) (x : Ask Ref MadeSymbol)
    → option_map origin_of_target o ≡ there os cs p → o ≡ Some t → s ≡ (object_seen os cs t).slot
    → IfOk r (λ v. v ≡ (table_by (entries_of s) x).0) → IfOk r (λ v. v ≡ (table_by (entries_of (object_of common_ref os cs p).slot) x).0)
answer_there r os cs p o t s x e f g h = subst (λ k. IfOk r (λ v. v ≡ (table_by (entries_of k) x).0)) (g ∙ ap (λ (b : Object Ref MadeSymbol). b.slot) (seen_there os cs t o p e f)) h

-- WHAT IS DECIDED

pub given_so : {E : Type 0} (r : Result Mode E) (me : Ref) (told : Told) (v : Option (Value Ref MadeSymbol)) (old mid new : View) → v ≡ told.0
    → mid ≡ record old { objects = with_entries old.objects ((naming_of old.me).origin me) told.1 }
    → IfOk r (LeadsTo (λ a. follows_by (naming_of mid.me) (λ n. as_it_is) (table_given v) (party_of a mid)) mid new)
    → IfOk r (LeadsTo (λ a. follows_table (naming_of old.me) me (table_given told.0, told.1) (party_of a old)) old new)
given_so (Ok m) me told v old mid new e s h =
    let w = subst (λ (x : View). LeadsTo (λ a. follows_by (naming_of x.me) (λ n. as_it_is) (table_given v) (party_of a x)) x new m) s h in
    let low = record old { objects = with_entries old.objects ((naming_of old.me).origin me) told.1 } in
    let u = subst (λ y. LeadsTo (λ a. follows_by (naming_of old.me) (λ n. as_it_is) (table_given y) (party_of a low)) low new m) e w in
    by ((naming_of old.me).origin me) u where
      by : (o : Origin)
          → LeadsTo (λ a. follows_by (naming_of old.me) (λ n. as_it_is) (table_given told.0) (party_of a (record old { objects = with_entries old.objects o told.1 }))) (record old { objects = with_entries old.objects o told.1 }) new m
          → LeadsTo (λ a. follows_by (naming_of old.me) (λ n. as_it_is) (table_given told.0) (with_table o told.1 (party_of a old))) old new m
      by (Own i) g = record { leads = λ a. g.leads a; keeps = g.keeps }
      by (Common c) g = record { leads = λ a. g.leads a; keeps = g.keeps }
      by Foreign g = record { leads = λ a. g.leads a; keeps = g.keeps }
given_so (Err x) me told v old mid new e s h = tt

not_called : (s : Slot Ref MadeSymbol) (c : Bool) → way_called s c ≡ way.Collection → ⊥
not_called (slot.Held (held.Require n)) c e = cc
not_called (slot.Held held.ModuleMap) c e = cc
not_called slot.Plain Bool.true e = cc
not_called slot.Plain Bool.false e = cc
not_called s c e = cc

pub not_asked : (s : Slot Ref MadeSymbol) (c : Bool) (x : Ask Ref MadeSymbol) → way_asked s c x ≡ way.Collection → ⊥
not_asked s c (ask.Call this args) e = not_called s c e
not_asked s c x e = cc

abbrev Decides : Slot Ref MadeSymbol → Bool → Ask Ref MadeSymbol → Ref → View → View → Mode → Type 0
Decides s c x me old new m = LeadsTo (λ a. decides_by_slot (naming_of old.me) a.shared me s c x (party_of a old)) old new m

abbrev Follows_table : Slot Ref MadeSymbol → Ask Ref MadeSymbol → Ref → View → View → Mode → Type 0
Follows_table s x me old new m = LeadsTo (λ a. follows_table (naming_of old.me) me (table_given (table_by (entries_of s) x).0, (table_by (entries_of s) x).1) (party_of a old)) old new m

by_native : (es : Entries) (c : Bool) (x : Ask Ref MadeSymbol) (me : Ref) (old new : View) (m : Mode) → way_collected x ≡ way.Collection → Follows_table (slot.Table es) x me old new m → Decides (slot.Table es) c x me old new m
by_native es c (ask.Slot which args) me old new m e h = record { leads = λ a. h.leads a; keeps = h.keeps }
by_native es c x me old new m e h = cc

by_slot : (s : Slot Ref MadeSymbol) (c : Bool) (x : Ask Ref MadeSymbol) (me : Ref) (old new : View) (m : Mode) → way_of s c x ≡ way.Collection → Follows_table s x me old new m → Decides s c x me old new m
by_slot (slot.Table es) c x me old new m e h = by_native es c x me old new m e h
by_slot (slot.Proxy q) c x me old new m e h = cc
by_slot s c x me old new m e h = absurd (not_asked s c x e)

pub as_collection : {E : Type 0} (r : Result Mode E) (me : Ref) (k : Way) (old new : View) → k ≡ way_here old me → k ≡ way.Collection
    → IfOk r (LeadsTo (λ a. follows_table (naming_of old.me) me (table_given (collected old me).0, (collected old me).1) (party_of a old)) old new)
    → IfOk r (LeadsTo (λ a. decides_object (naming_of old.me) a.shared me old.asked.ask (party_of a old)) old new)
as_collection (Ok m) me k old new e f h =
    let o = object_in old me in
    let g = by_slot o.slot o.marks.callable old.asked.ask me old new m (sym e ∙ f) h in
    record { leads = λ a. g.leads a; keeps = g.keeps }
as_collection (Err x) me k old new e f h = tt
