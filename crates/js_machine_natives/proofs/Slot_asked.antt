-- Natives that ask a `Slot`.
use Rattle.std.proofs.Common.{◌≡◌, ℕ, suc, ◌+◌, ◌-◌, Bool, true, false, true≢false, ◌==◌, List, [], ◌∷◌, drop, length, nat_lt, Option, Some, None, refl, sym, ap, ◌∙◌, subst, arith, Result, Ok, Err, IfOk, OnOk, if◌then◌else◌}
use Rattle.std.specs.Prelude.{is_some}
use Rattle.lava_base.specs.declared.ids.MadeSymbol.{MadeSymbol}
use Rattle.lava_base.specs.declared.ids.Ref.{Ref}
use Rattle.lava_base.specs.declared.marks.Class.{Class}
use Rattle.lava_base.specs.declared.marks.Class.TheVariants as class
use Rattle.lava_base.specs.declared.marks.Marks.{Marks}
use Rattle.js_text.specs.Naming.{Naming, Origin, Own, Common, Foreign, naming_of}
use Rattle.js_text.specs.declared.native.Native.{Native}
use Rattle.js_text.specs.declared.native.Native.TheVariants as native
use Rattle.js_text.specs.declared.value.Value.{Value}
use Rattle.js_text.specs.declared.value.Value.TheVariants as value
use Rattle.js_desc.specs.declared.ask.Ask.{Ask}
use Rattle.js_desc.specs.declared.ask.Ask.TheVariants as ask
use Rattle.js_desc.specs.declared.decision.Decision.TheVariants as decision
use Rattle.js_desc.specs.declared.fault.FaultText.{FaultText}
use Rattle.js_desc.specs.declared.fault.FaultText.TheVariants as fault
use Rattle.js_desc.specs.declared.reply.Reply.{Reply}
use Rattle.js_machine.specs.js_maker_natives.Kinds.{array_of_class, is_array}
use Rattle.js_machine.specs.js_maker_natives.MakerDecisions.{MakerDecision}
use Rattle.js_native.specs.Costs.{native_cost}
use Rattle.js_machine.specs.js_native_steps.Steps.{waits_as}
use Rattle.js_machine.specs.js_native_steps.declared.next.NativeNext.{NativeNext}
use Rattle.js_machine.specs.js_operations.Lists.{list_items}
use Rattle.js_machine.specs.js_operations.Looks.{marks_seen}
use Rattle.js_machine.specs.js_run.Acts as acts
use Rattle.js_machine.specs.js_run.Acts.{Act, Closes, End, Native_decides, Of_maker, Of_slot, ask_there, give}
use Rattle.js_machine.specs.js_run.Asking.{open_one, waits_for}
use Rattle.js_machine.specs.js_run.Collections.{follows_table}
use Rattle.js_machine.specs.js_run.Completions as halt_kind
use Rattle.js_machine.specs.js_run.Faults.{faults}
use Rattle.js_machine.specs.js_run.Following.{see_value}
use Rattle.js_machine.specs.js_run.NativeTurns.{charged, listed_units, native_goes_on}
use Rattle.js_machine.specs.js_run.Natives.{runs_native}
use Rattle.js_machine.specs.js_run.Operators.{pays}
use Rattle.js_machine.specs.js_run.Parties.{Party, Shared, shallower}
use Rattle.js_machine.specs.js_run.Runs.{answered}
use Rattle.js_machine.specs.js_run.SlotNatives.{asks_collection, asks_slot, charged_unless_sent, follows_slot, proxy_tells, slot_tells}
use Rattle.js_machine.specs.js_run.declared.TheConstants.{MAX_DEPTH}
use Rattle.js_machine.specs.js_proxy.Traps.{decided_by_proxy}
use Rattle.js_machine.specs.js_slot_natives.Collections.{collection_class, is_of_class}
use Rattle.js_machine.specs.js_slot_natives.SlotNatives.{SlotDecision, ask_collection, slot_native, table_given, takes}
use Rattle.js_machine.specs.js_slot_natives.declared.next.Next.TheVariants as slot_next
use Rattle.js_store.specs.Tables.{entries_of}
use Rattle.js_store.specs.declared.slot.Entry.{Entry}
use Rattle.js_store.specs.declared.slot.Slot.{Slot}
use Rattle.js_store.specs.declared.slot.Slot.TheVariants as slot
use Rattle.js_machine.specs.js_traps.TrapDecisions.{ProxyDecision}
use Rattle.js_machine.specs.js_traps.declared.next.Next.{Next as ProxyNext}
use Rattle.js_machine.specs.js_traps.declared.next.Next.TheVariants as proxy_next
use Rattle.js_machine.specs.Collecting.{collected, table_by}
use Rattle.js_machine.specs.Decisions.{object_of_value}
use Rattle.js_machine.specs.Looks.{foreign_at}
use Rattle.js_machine.specs.Natives.{asks_slots}
use Rattle.js_machine.specs.Proxying.{known_if, known_of, marks_if, proxy_decided, target_of}
use Rattle.js_machine.specs.SlotAsks.{asks_by, asks_first, asks_foreign, charged_by, first_object, is_foreign, refusal, slot_leads, slot_step, slot_wait, step_of_maker, step_of_slot}
use Rattle.js_machine.specs.SlotSteps.{first_step}
use Rattle.js_machine.specs.Steps.{IsDelivered, LeadsTo, Pays, Wakes, settles, without_top}
use Rattle.js_machine.specs.Views.{Around, Values, View, args_on, fitting, next_of_wait, next_of_want, next_slot_of, party_of}
use Rattle.js_machine.specs.Ways.{object_in, way_asked, way_collected, way_here, way_of}
use Rattle.js_machine.specs.declared.asked.Asked.{Asked}
use Rattle.js_machine.specs.declared.asked.Wait.TheVariants as wait
use Rattle.js_machine.specs.declared.frame.Frame.TheVariants as frame
use Rattle.js_machine.specs.declared.frame.Mode.{Mode}
use Rattle.js_machine.specs.declared.frame.Mode.TheVariants as mode
use Rattle.js_machine.specs.declared.slot_asks.SlotStep.{SlotStep}
use Rattle.js_machine.specs.declared.slot_asks.SlotStep.TheVariants as step
use Rattle.js_machine.specs.declared.ways.Way.{Way}
use Rattle.js_machine.specs.declared.ways.Way.TheVariants as way
use Rattle.js_machine_natives.specs.Telling.{tells_waiting}
use Rattle.js_machine_natives.proofs.Collected.{not_asked}
use Rattle.js_machine.proofs.Leads.{delivered}
use Rattle.js_machine.proofs.Looked.{looked}
use Rattle.js_machine_natives.proofs.Native_deeds.{RunsNative}
use Rattle.js_machine_natives.proofs.Proxied_laws.{as_decided, is_proxy, proxied_in, seen_as_known, target_looked}

abbrev V : Type 0
V = Value Ref MadeSymbol

abbrev P : Type 0
P = Party Ref MadeSymbol

-- THE MARKS OF THE FIRST OPERAND ALONE

module _ (marks : Ref → Marks) (m : Marks) where
  abbrev Knows : V → Type 0
  Knows v = (r : Ref) → object_of_value v ≡ Some r → marks r ≡ m

  class_alike : (which : Native) (v : V) (vs : Values) → Knows v → slot_native marks which (v ∷ vs) ≡ slot_native (λ r. m) which (v ∷ vs)
  class_alike which (value.Ref r) (value.Text c ∷ rest) e = ap (λ (k : Marks). if is_of_class (collection_class c) k.class then ask_collection which r c rest else decision.Fault fault.WrongKind) (e r refl)
  class_alike which (value.Ref r) vs e = refl
  class_alike which v vs e = refl

  array_alike : (v : V) (vs : Values) → Knows v → is_array marks (v ∷ vs) ≡ is_array (λ r. m) (v ∷ vs)
  array_alike (value.Ref r) [] e = ap (λ (k : Marks). array_of_class r k.class) (e r refl)
  array_alike (value.Ref r) (w ∷ ws) e = refl
  array_alike v [] e = refl
  array_alike v (w ∷ ws) e = refl

  step_alike : (which : Native) (v : V) (vs : Values) → Knows v → slot_step marks which (v ∷ vs) ≡ slot_step (λ r. m) which (v ∷ vs)
  step_alike native.IsArray v vs e = ap step_of_maker (array_alike v vs e)
  step_alike which v vs e = ap step_of_slot (class_alike which v vs e)

-- what is decided by marks that are known, as the machine knows them
pub known_there : (w : View) (o : Option Ref) (known nothing : List (Ref × Marks)) → nothing ≡ [] → known ≡ known_if (naming_of w.me) w.known nothing o → known ≡ known_of w o
known_there w o known nothing e f = f ∙ ap (λ l. known_if (naming_of w.me) w.known l o) e

other_step : (marks : Ref → Marks) (which : Native) (vs : Values) → (which ≡ native.IsArray → ⊥) → step_of_slot (slot_native marks which vs) ≡ slot_step marks which vs
other_step marks native.IsArray vs f = absurd (f refl)
other_step marks which vs f = refl

pub array_step : (w : View) (which : Native) (o : Option Ref) (vs : Values) (known nothing : List (Ref × Marks)) (d : MakerDecision Ref MadeSymbol) (s : SlotStep) → which ≡ native.IsArray → nothing ≡ [] → known ≡ known_if (naming_of w.me) w.known nothing o
    → d ≡ is_array (marks_seen (naming_of w.me) w.objects w.common known) vs → s ≡ step_of_maker d → s ≡ slot_step (marks_seen (naming_of w.me) w.objects w.common (known_of w o)) which vs
array_step w which o vs known nothing d s e f g h k =
    let there = known_there w o known nothing f g in
    subst (λ n. s ≡ slot_step (marks_seen (naming_of w.me) w.objects w.common (known_of w o)) n vs) (sym e)
    (k ∙ ap step_of_maker (h ∙ ap (λ (l : List (Ref × Marks)). is_array (marks_seen (naming_of w.me) w.objects w.common l) vs) there))

pub collection_step : (w : View) (which : Native) (o : Option Ref) (vs : Values) (known nothing : List (Ref × Marks)) (d : SlotDecision Ref MadeSymbol) (s : SlotStep) → (which ≡ native.IsArray → ⊥) → nothing ≡ [] → known ≡ known_if (naming_of w.me) w.known nothing o
    → d ≡ slot_native (marks_seen (naming_of w.me) w.objects w.common known) which vs → s ≡ step_of_slot d → s ≡ slot_step (marks_seen (naming_of w.me) w.objects w.common (known_of w o)) which vs
collection_step w which o vs known nothing d s e f g h k =
    let there = known_there w o known nothing f g in
    k ∙ ap step_of_slot (h ∙ ap (λ (l : List (Ref × Marks)). slot_native (marks_seen (naming_of w.me) w.objects w.common l) which vs) there) ∙ other_step (marks_seen (naming_of w.me) w.objects w.common (known_of w o)) which vs e

-- what the marks that are known say
pub first_of : (v : V) (vs : Values) → first_object (v ∷ vs) ≡ object_of_value v
first_of (value.Ref r) vs = refl
first_of v vs = refl

step_at : (s : SlotStep) (w : View) (which : Native) (o : Option Ref) (ys : Values) → false ≡ (length ys == 0) → o ≡ first_object ys → s ≡ slot_step (marks_seen (naming_of w.me) w.objects w.common (known_of w o)) which ys
    → Some s ≡ first_step w which ys
step_at s w which o [] e f h = absurd (true≢false (sym e))
step_at s w which o (v ∷ vs) e f h =
    let marks = marks_seen (naming_of w.me) w.objects w.common (known_of w (object_of_value v)) in
    let there : s ≡ slot_step marks which (v ∷ vs) = h ∙ ap (λ q. slot_step (marks_seen (naming_of w.me) w.objects w.common (known_of w q)) which (v ∷ vs)) (f ∙ first_of v vs) in
    ap (λ (x : SlotStep). Some x) (there ∙ step_alike marks (marks_if w (object_of_value v)) which v vs (λ r q. seen_as_known w (object_of_value v) r q))

pub step_known : (s : SlotStep) (w : View) (which : Native) (o : Option Ref) (ys xs : Values) → ys ≡ xs → false ≡ (length ys == 0) → o ≡ first_object ys
    → s ≡ slot_step (marks_seen (naming_of w.me) w.objects w.common (known_of w o)) which ys → Some s ≡ first_step w which xs
step_known s w which o ys xs d e f h = subst (λ zs. Some s ≡ first_step w which zs) d (step_at s w which o ys e f h)

no_step_at : (w : View) (which : Native) (ys : Values) → true ≡ (length ys == 0) → None ≡ first_step w which ys
no_step_at w which [] e = refl
no_step_at w which (v ∷ vs) e = absurd (grind (arith, e))

pub no_step : (w : View) (which : Native) (ys xs : Values) → ys ≡ xs → true ≡ (length ys == 0) → None ≡ first_step w which xs
no_step w which ys xs d e = subst (λ zs. None ≡ first_step w which zs) d (no_step_at w which ys e)

-- WHAT A NATIVE DOES

module _ (names : Naming Ref MadeSymbol) (shared : Shared) (p : P) where
  module _ (which : Native) (h : Of_slot slot_next.Answer ≡ waits_as (slot_wait which)) (r : Ref) (c : List ℕ) (rest : Values) where
    abbrev operands : Values
    operands = value.Ref r ∷ value.Text c ∷ rest

    by_takes : (b : Bool)
        → (let d = if b then decision.Ask (Some r) (ask.Slot which (value.Text c ∷ rest)) slot_next.Answer else decision.Fault fault.CannotConvert in
        follows_slot names shared which operands Of_slot d p ≡ slot_leads names shared which operands (step_of_slot d) p)
    by_takes true = ap (λ n. charged_unless_sent names shared (names.origin r) operands r (ask.Slot which (value.Text c ∷ rest)) which n p) h
    by_takes false = refl

    by_class : (b : Bool) → (let d = if b then ask_collection which r c rest else decision.Fault fault.WrongKind in follows_slot names shared which operands Of_slot d p ≡ slot_leads names shared which operands (step_of_slot d) p)
    by_class true = by_takes (takes which rest)
    by_class false = refl

  abbrev Collects : Native → Marks → Values → Type 0
  Collects which m vs = follows_slot names shared which vs Of_slot (slot_native (λ r. m) which vs) p ≡ slot_leads names shared which vs (step_of_slot (slot_native (λ r. m) which vs)) p

  on_collection : (which : Native) → Of_slot slot_next.Answer ≡ waits_as (slot_wait which) → (m : Marks) (v : V) (vs : Values) → Collects which m (v ∷ vs)
  on_collection which h m (value.Ref r) (value.Text c ∷ rest) = by_class which h r c rest (is_of_class (collection_class c) m.class)
  on_collection which h m (value.Ref r) vs = refl
  on_collection which h m v vs = refl

  array_by : (r : Ref) (k : Class) → follows_slot names shared native.IsArray (value.Ref r ∷ []) Of_maker (array_of_class r k) p ≡ slot_leads names shared native.IsArray (value.Ref r ∷ []) (step_of_maker (array_of_class r k)) p
  array_by r class.Array = refl
  array_by r class.Proxy = refl
  array_by r k = refl

  on_value : (m : Marks) (v : V) (vs : Values) → follows_slot names shared native.IsArray (v ∷ vs) Of_maker (is_array (λ r. m) (v ∷ vs)) p ≡ slot_leads names shared native.IsArray (v ∷ vs) (step_of_maker (is_array (λ r. m) (v ∷ vs))) p
  on_value m (value.Ref r) [] = array_by r m.class
  on_value m (value.Ref r) (w ∷ ws) = refl
  on_value m v [] = refl
  on_value m v (w ∷ ws) = refl

  pub runs_so : (which : Native) (v : V) (vs : Values) → asks_slots which ≡ true → runs_native names shared which (v ∷ vs) p ≡ see_value names shared v p (λ m. slot_leads names shared which (v ∷ vs) (slot_step (λ r. m) which (v ∷ vs)) p)
  runs_so native.IsArray v vs e = λ i. see_value names shared v p (λ m. on_value m v vs i)
  runs_so native.MapGet v vs e = λ i. see_value names shared v p (λ m. on_collection native.MapGet refl m v vs i)
  runs_so native.MapSet v vs e = λ i. see_value names shared v p (λ m. on_collection native.MapSet refl m v vs i)
  runs_so native.MapHas v vs e = λ i. see_value names shared v p (λ m. on_collection native.MapHas refl m v vs i)
  runs_so native.MapDelete v vs e = λ i. see_value names shared v p (λ m. on_collection native.MapDelete refl m v vs i)
  runs_so native.MapClear v vs e = λ i. see_value names shared v p (λ m. on_collection native.MapClear refl m v vs i)
  runs_so native.MapNext v vs e = λ i. see_value names shared v p (λ m. on_collection native.MapNext refl m v vs i)
  runs_so native.MapKeyAt v vs e = λ i. see_value names shared v p (λ m. on_collection native.MapKeyAt refl m v vs i)
  runs_so native.MapSize v vs e = λ i. see_value names shared v p (λ m. on_collection native.MapSize refl m v vs i)
  runs_so which v vs e = cc

  pub runs_none : (which : Native) → asks_slots which ≡ true → faults names fault.WrongKind p ≡ runs_native names shared which [] p
  runs_none native.IsArray e = refl
  runs_none native.MapGet e = refl
  runs_none native.MapSet e = refl
  runs_none native.MapHas e = refl
  runs_none native.MapDelete e = refl
  runs_none native.MapClear e = refl
  runs_none native.MapNext e = refl
  runs_none native.MapKeyAt e = refl
  runs_none native.MapSize e = refl
  runs_none which e = cc

pub value_looked : (v : V) (w : View) (a : Around) (go : Marks → Act Ref MadeSymbol)
    → (let b = fitting w a in answered (naming_of w.me) b.env (see_value (naming_of w.me) b.shared v (party_of b w) go) ≡ answered (naming_of w.me) b.env (go (marks_if w (object_of_value v))))
value_looked (value.Ref r) w a go = looked r w a go
value_looked v w a go = refl

abbrev Rest : ℕ → View → View
Rest n w = record w { values = drop n w.values }

-- what operands lead to
abbrev Leads : Native → Values → SlotStep → ℕ → View → View → Mode → Type 0
Leads which xs s n old new m = LeadsTo (λ a. slot_leads (naming_of old.me) a.shared which xs s (party_of a old)) (Rest n old) new m

abbrev Runs : Native → Values → ℕ → View → View → Mode → Type 0
Runs which xs n old new m = LeadsTo (λ a. runs_native (naming_of old.me) a.shared which xs (party_of a old)) (Rest n old) new m

begins_with : (which : Native) (v : V) (vs : Values) (n : ℕ) (old new : View) (m : Mode) → asks_slots which ≡ true
    → Leads which (v ∷ vs) (let marks = marks_if old (object_of_value v) in slot_step (λ r. marks) which (v ∷ vs)) n old new m → Runs which (v ∷ vs) n old new m
begins_with which v vs n old new m e h =
    record {
      leads = λ a. (
          let b = fitting old a in
          let names = naming_of old.me in
          h.leads a
          ∙ ap (settles b (Rest n old) (drop n old.values)) (sym (value_looked v old a (λ k. slot_leads names b.shared which (v ∷ vs) (slot_step (λ r. k) which (v ∷ vs)) (party_of b old))))
          ∙ ap (λ act. settles b (Rest n old) (drop n old.values) (answered names b.env act)) (sym (runs_so names b.shared (party_of b old) which v vs e)));
      keeps = h.keeps;
    }

begins_by : (which : Native) (xs : Values) (s : SlotStep) (n : ℕ) (old new : View) (m : Mode) → asks_slots which ≡ true → Some s ≡ first_step old which xs → Leads which xs s n old new m → Runs which xs n old new m
begins_by which [] s n old new m e f h = cc
begins_by which (v ∷ vs) s n old new m e f h =
    let same : s ≡ (let marks = marks_if old (object_of_value v) in slot_step (λ r. marks) which (v ∷ vs)) = cc in
    begins_with which v vs n old new m e (subst (λ x. Leads which (v ∷ vs) x n old new m) same h)

pub slot_begun : {E : Type 0} (r : Result Mode E) (which : Native) (o : Option SlotStep) (s : SlotStep) (n : ℕ) (old new : View) → asks_slots which ≡ true → o ≡ first_step old which (args_on n old.values) → o ≡ Some s
    → IfOk r (Leads which (args_on n old.values) s n old new) → IfOk r (RunsNative which n old new)
slot_begun (Ok m) which o s n old new e f g h = begins_by which (args_on n old.values) s n old new m e (sym g ∙ f) h
slot_begun (Err x) which o s n old new e f g h = tt

fails_by : (which : Native) (xs : Values) (n : ℕ) (old new : View) (m : Mode) → asks_slots which ≡ true → None ≡ first_step old which xs → LeadsTo (λ a. faults (naming_of old.me) fault.WrongKind (party_of a (Rest n old))) (Rest n old) new m → Runs which xs n old new m
fails_by which (v ∷ vs) n old new m e f h = cc
fails_by which [] n old new m e f h =
    record { leads = λ a. (let b = fitting old a in h.leads a ∙ ap (λ act. settles b (Rest n old) (drop n old.values) (answered (naming_of old.me) b.env act)) (runs_none (naming_of old.me) b.shared (party_of b old) which e)); keeps = h.keeps }

pub none_begun : {E : Type 0} (r : Result Mode E) (which : Native) (o : Option SlotStep) (n : ℕ) (old mid new : View) → asks_slots which ≡ true → o ≡ first_step old which (args_on n old.values) → o ≡ None → mid ≡ Rest n old
    → IfOk r (LeadsTo (λ a. faults (naming_of mid.me) fault.WrongKind (party_of a mid)) mid new) → IfOk r (RunsNative which n old new)
none_begun (Ok m) which o n old mid new e f g s h = fails_by which (args_on n old.values) n old new m e (sym g ∙ f) (subst (λ (x : View). LeadsTo (λ a. faults (naming_of x.me) fault.WrongKind (party_of a x)) x new m) s h)
none_begun (Err x) which o n old mid new e f g s h = tt

-- THE CHARGE

abbrev Costs : Native → ℕ → ℕ → View → Type 0
Costs which n k old = native_cost which (args_on n old.values) (listed_units (λ v. list_items (naming_of old.me) old.objects old.common v) which (args_on n old.values)) ≡ suc k

charge_so : (which : Native) (n k : ℕ) (old new : View) (m : Mode) (go : Around → P → Act Ref MadeSymbol) → Costs which n k old → LeadsTo (λ a. pays (suc k) (party_of a old) (go a)) (Rest n old) new m
    → LeadsTo (λ a. charged (naming_of old.me) a.shared which (args_on n old.values) (party_of a old) (go a)) (Rest n old) new m
charge_so which n k old new m go e h =
    record { leads = λ a. (let b = fitting old a in h.leads a ∙ ap (λ j. settles b (Rest n old) (drop n old.values) (answered (naming_of old.me) b.env (pays j (party_of b old) (go b)))) (sym e)); keeps = h.keeps }

pub slot_charged : {E : Type 0} (r : Result Mode E) (which : Native) (n k : ℕ) (old new : View) → Costs which n k old → IfOk r (Pays k (frame.SlotCharged which n) old new)
    → IfOk r (LeadsTo (λ a. charged (naming_of old.me) a.shared which (args_on n old.values) (party_of a old) (λ p. asks_first (naming_of old.me) a.shared which (args_on n old.values) p)) (Rest n old) new)
unfolding next_slot_of
slot_charged (Ok m) which n k old new e h = charge_so which n k old new m (λ a p. asks_first (naming_of old.me) a.shared which (args_on n old.values) p) e (record { leads = λ a. h.leads a; keeps = h.keeps })
slot_charged (Err x) which n k old new e h = tt

pub told_charged : {E : Type 0} (r : Result Mode E) (which : Native) (n k : ℕ) (b : Bool) (old mid low new : View) → Costs which n k old → mid ≡ Rest n old → low ≡ record mid { values = value.Bool b ∷ mid.values } → IfOk r (Pays k frame.Made low new)
    → IfOk r (Leads which (args_on n old.values) (step.Tells b) n old new)
told_charged (Ok m) which n k b old mid low new e s t h =
    let w = subst (λ x. Pays k frame.Made x new m) (t ∙ ap (λ (x : View). record x { values = value.Bool b ∷ x.values }) s) h in
    let u = charge_so which n k old new m (λ a p. give (value.Bool b) p) e (record { leads = λ a. w.leads a; keeps = w.keeps }) in
    record { leads = λ a. u.leads a; keeps = u.keeps }
told_charged (Err x) which n k b old mid low new e s t h = tt

pub refused_charged : {E : Type 0} (r : Result Mode E) (which : Native) (n k : ℕ) (b : Bool) (old mid new : View) → Costs which n k old → mid ≡ Rest n old → IfOk r (Pays k (frame.Refused b) mid new)
    → IfOk r (Leads which (args_on n old.values) (step.Refuses b) n old new)
unfolding next_slot_of
refused_charged (Ok m) which n k b old mid new e s h =
    let w = subst (λ x. Pays k (frame.Refused b) x new m) s h in
    let u = charge_so which n k old new m (λ a p. faults (naming_of old.me) (refusal b) p) e (record { leads = λ a. w.leads a; keeps = w.keeps }) in
    record { leads = λ a. u.leads a; keeps = u.keeps }
refused_charged (Err x) which n k b old mid new e s h = tt

-- WHERE THE OBJECT IS FROM

module _ (names : Naming Ref MadeSymbol) (shared : Shared) (which : Native) (vs : Values) (p : P) where
  sent_by : (o : Origin) (r : Ref) (x : Ask Ref MadeSymbol) (n : acts.NativeNext Ref MadeSymbol) → is_foreign o ≡ true → asks_slot names shared o r x which n p ≡ charged_unless_sent names shared o vs r x which n p
  sent_by (Own i) r x n e = cc
  sent_by (Common c) r x n e = cc
  sent_by Foreign r x n e = refl

  kept_by : (o : Origin) (r : Ref) (x : Ask Ref MadeSymbol) (n : acts.NativeNext Ref MadeSymbol) → is_foreign o ≡ false → charged names shared which vs p (λ q. asks_slot names shared o r x which n q) ≡ charged_unless_sent names shared o vs r x which n p
  kept_by (Own i) r x n e = refl
  kept_by (Common c) r x n e = refl
  kept_by Foreign r x n e = cc

  sent_so : (o : Option Ref) → asks_foreign names o ≡ true → asks_by names shared which vs o p ≡ charged_by names shared which vs o p
  sent_so None e = cc
  sent_so (Some r) e = sent_by (names.origin r) r (ask.Slot which (drop 1 vs)) (waits_as (slot_wait which)) e

  kept_so : (o : Option Ref) → asks_foreign names o ≡ false → charged names shared which vs p (λ q. asks_by names shared which vs o q) ≡ charged_by names shared which vs o p
  kept_so None e = refl
  kept_so (Some r) e = kept_by (names.origin r) r (ask.Slot which (drop 1 vs)) (waits_as (slot_wait which)) e

pub asked_at_once : {E : Type 0} (r : Result Mode E) (which : Native) (n : ℕ) (b : Bool) (old new : View) → b ≡ asks_foreign (naming_of old.me) (first_object (args_on n old.values)) → b ≡ true
    → IfOk r (LeadsTo (λ a. asks_first (naming_of old.me) a.shared which (args_on n old.values) (party_of a old)) (Rest n old) new) → IfOk r (Leads which (args_on n old.values) step.Asks n old new)
asked_at_once (Ok m) which n b old new e f h =
    record {
      leads = λ a. (let d = fitting old a in
          h.leads a
          ∙ ap (λ act. settles d (Rest n old) (drop n old.values) (answered (naming_of old.me) d.env act)) (sent_so (naming_of old.me) d.shared which (args_on n old.values) (party_of d old) (first_object (args_on n old.values)) (sym e ∙ f)));
      keeps = h.keeps;
    }
asked_at_once (Err x) which n b old new e f h = tt

pub asked_once_paid : {E : Type 0} (r : Result Mode E) (which : Native) (n : ℕ) (b : Bool) (old new : View) → b ≡ asks_foreign (naming_of old.me) (first_object (args_on n old.values)) → b ≡ false
    → IfOk r (LeadsTo (λ a. charged (naming_of old.me) a.shared which (args_on n old.values) (party_of a old) (λ p. asks_first (naming_of old.me) a.shared which (args_on n old.values) p)) (Rest n old) new)
    → IfOk r (Leads which (args_on n old.values) step.Asks n old new)
asked_once_paid (Ok m) which n b old new e f h =
    record {
      leads = λ a. (let d = fitting old a in
          h.leads a
          ∙ ap (λ act. settles d (Rest n old) (drop n old.values) (answered (naming_of old.me) d.env act)) (kept_so (naming_of old.me) d.shared which (args_on n old.values) (party_of d old) (first_object (args_on n old.values)) (sym e ∙ f)));
      keeps = h.keeps;
    }
asked_once_paid (Err x) which n b old new e f h = tt

-- whether an object is foreign, as the machine tells
foreign_is : (r : Ref) (o : Origin) → is_some (foreign_at r o) ≡ is_foreign o
foreign_is r (Own i) = refl
foreign_is r (Common c) = refl
foreign_is r Foreign = refl

pub foreign_first : (names : Naming Ref MadeSymbol) (r : Ref) (o q : Option Ref) (b : Bool) → o ≡ q → q ≡ Some r → b ≡ is_some (foreign_at r (names.origin r)) → b ≡ asks_foreign names o
foreign_first names r o q b d e f = f ∙ foreign_is r (names.origin r) ∙ ap (asks_foreign names) (sym (d ∙ e))

pub none_first : (names : Naming Ref MadeSymbol) (o q : Option Ref) → o ≡ q → q ≡ None → false ≡ asks_foreign names o
none_first names o q d e = ap (asks_foreign names) (sym (d ∙ e))

-- THE FIRST OPERAND IS ASKED

pub first_asked : {E : Type 0} (r : Result Mode E) (which : Native) (n : ℕ) (vs : Values) (old mid new : View) → vs ≡ args_on n old.values → mid ≡ Rest n old → IfOk r (LeadsTo (λ a. asks_first (naming_of mid.me) a.shared which vs (party_of a mid)) mid new)
    → IfOk r (LeadsTo (λ a. asks_first (naming_of old.me) a.shared which (args_on n old.values) (party_of a old)) (Rest n old) new)
first_asked (Ok m) which n vs old mid new e s h =
    let w = subst (λ (x : View). LeadsTo (λ a. asks_first (naming_of x.me) a.shared which vs (party_of a x)) x new m) s h in
    let u = subst (λ xs. LeadsTo (λ a. asks_first (naming_of old.me) a.shared which xs (party_of a (Rest n old))) (Rest n old) new m) e w in
    record { leads = λ a. u.leads a; keeps = u.keeps }
first_asked (Err x) which n vs old mid new e s h = tt

pub by_first : {E : Type 0} (r : Result Mode E) (which : Native) (vs xs : Values) (o q : Option Ref) (old new : View) → xs ≡ vs → o ≡ first_object xs → o ≡ q → IfOk r (LeadsTo (λ a. asks_by (naming_of old.me) a.shared which vs q (party_of a old)) old new)
    → IfOk r (LeadsTo (λ a. asks_first (naming_of old.me) a.shared which vs (party_of a old)) old new)
by_first r which vs xs o q old new d e f h = subst (λ y. IfOk r (LeadsTo (λ a. asks_by (naming_of old.me) a.shared which vs y (party_of a old)) old new)) (sym f ∙ e ∙ ap first_object d) h

module _ (names : Naming Ref MadeSymbol) (shared : Shared) (which : Native) (wt : acts.NativeNext Ref MadeSymbol) (r : Ref) (x : Ask Ref MadeSymbol) (p : P) where
  away : (o : Origin) (s : Ref) → names.origin r ≡ o → foreign_at r o ≡ Some s → waits_for names r x p (Native_decides which wt) ≡ asks_slot names shared o r x which wt p
  away (Own i) s e f = cc
  away (Common c) s e f = cc
  away Foreign s e f = ap (λ o. open_one p (λ q. ask_there o r x q (Closes (Native_decides which wt)))) e

  here : (o : Origin) → foreign_at r o ≡ None → tells_waiting names shared which wt r x p ≡ asks_slot names shared o r x which wt p
  here (Own i) f = refl
  here (Common c) f = refl
  here Foreign f = cc

abbrev AsksSlot : Ref → Native → acts.NativeNext Ref MadeSymbol → Ask Ref MadeSymbol → View → View → Mode → Type 0
AsksSlot o which wt x old new m = LeadsTo (λ a. asks_slot (naming_of old.me) a.shared ((naming_of old.me).origin o) o x which wt (party_of a old)) old new m

pub slot_sent : {E : Type 0} (r : Result Mode E) (o s : Ref) (q : Option Ref) (which : Native) (wt : acts.NativeNext Ref MadeSymbol) (x : Ask Ref MadeSymbol) (old new : View) → q ≡ foreign_at o ((naming_of old.me).origin o) → q ≡ Some s
    → IfOk r (LeadsTo (λ a. waits_for (naming_of old.me) o x (party_of a old) (Native_decides which wt)) old new) → IfOk r (AsksSlot o which wt x old new)
slot_sent (Ok m) o s q which wt x old new e f h =
    record {
      leads = λ a. (let b = fitting old a in
          h.leads a ∙ ap (λ act. settles b old old.values (answered (naming_of old.me) b.env act)) (away (naming_of old.me) b.shared which wt o x (party_of b old) ((naming_of old.me).origin o) s refl (sym e ∙ f)));
      keeps = h.keeps;
    }
slot_sent (Err y) o s q which wt x old new e f h = tt

pub slot_here : {E : Type 0} (r : Result Mode E) (o : Ref) (q : Option Ref) (which : Native) (wt : acts.NativeNext Ref MadeSymbol) (x : Ask Ref MadeSymbol) (old new : View) → q ≡ foreign_at o ((naming_of old.me).origin o) → q ≡ None
    → IfOk r (LeadsTo (λ a. tells_waiting (naming_of old.me) a.shared which wt o x (party_of a old)) old new) → IfOk r (AsksSlot o which wt x old new)
slot_here (Ok m) o q which wt x old new e f h =
    record {
      leads = λ a. (let b = fitting old a in
          h.leads a ∙ ap (λ act. settles b old old.values (answered (naming_of old.me) b.env act)) (here (naming_of old.me) b.shared which wt o x (party_of b old) ((naming_of old.me).origin o) (sym e ∙ f)));
      keeps = h.keeps;
    }
slot_here (Err y) o q which wt x old new e f h = tt

-- the operands behind the first one are asked with
pub slot_asked : {E : Type 0} (r : Result Mode E) (o : Ref) (which : Native) (vs xs : Values) (old new : View) → xs ≡ vs → IfOk r (AsksSlot o which (waits_as (slot_wait which)) (ask.Slot which xs) old new)
    → IfOk r (AsksSlot o which (waits_as (slot_wait which)) (ask.Slot which vs) old new)
slot_asked r o which vs xs old new e h = subst (λ ys. IfOk r (AsksSlot o which (waits_as (slot_wait which)) (ask.Slot which ys) old new)) e h

-- AN OBJECT THAT IS NOT FOREIGN

abbrev Tells : Native → acts.NativeNext Ref MadeSymbol → Ref → Ask Ref MadeSymbol → View → View → Mode → Type 0
Tells which wt o x old new m = LeadsTo (λ a. tells_waiting (naming_of old.me) a.shared which wt o x (party_of a old)) old new m

abbrev TellsSlot : Native → acts.NativeNext Ref MadeSymbol → Ref → Slot Ref MadeSymbol → Ask Ref MadeSymbol → View → View → Mode → Type 0
TellsSlot which wt o s x old new m = LeadsTo (λ a. slot_tells (naming_of old.me) a.shared o s x which wt (party_of a old)) old new m

abbrev OpenedSlot : Bool → Native → acts.NativeNext Ref MadeSymbol → Ref → Ask Ref MadeSymbol → View → View → Mode → Type 0
OpenedSlot b which wt o x old new m =
    LeadsTo (λ a. if b then slot_tells (naming_of old.me) a.shared o (object_in old o).slot x which wt (party_of a (record old { depth = suc old.depth })) else End halt_kind.Depth) old new m

-- what stands around has the common objects that the machine knows
as_opened : (which : Native) (wt : acts.NativeNext Ref MadeSymbol) (o : Ref) (x : Ask Ref MadeSymbol) (old new : View) (m : Mode) → OpenedSlot (nat_lt old.depth MAX_DEPTH) which wt o x old new m → Tells which wt o x old new m
as_opened which wt o x old new m h = record { leads = λ a. h.leads a; keeps = h.keeps }

pub tells_too_deep : {E : Type 0} (r : Result Mode E) (b : Bool) (which : Native) (wt : acts.NativeNext Ref MadeSymbol) (o : Ref) (x : Ask Ref MadeSymbol) (old mid new : View) → b ≡ nat_lt old.depth MAX_DEPTH → b ≡ false → mid ≡ old → IfOk r (LeadsTo (λ a. End halt_kind.Depth) mid new)
    → IfOk r (Tells which wt o x old new)
tells_too_deep (Ok m) b which wt o x old mid new e f s h =
    let l = subst (λ w. LeadsTo (λ a. End halt_kind.Depth) w new m) s h in
    as_opened which wt o x old new m (subst (λ c. OpenedSlot c which wt o x old new m) (sym f ∙ e) l)
tells_too_deep (Err z) b which wt o x old mid new e f s h = tt

pub tells_opened : {E : Type 0} (r : Result Mode E) (b : Bool) (which : Native) (wt : acts.NativeNext Ref MadeSymbol) (o : Ref) (x : Ask Ref MadeSymbol) (t : Asked) (old mid low new : View) → b ≡ nat_lt old.depth MAX_DEPTH → b ≡ true → mid ≡ record old { depth = old.depth + 1 } → t.ask ≡ x
    → low ≡ record mid { asked = t } → IfOk r (TellsSlot which wt o (object_in low o).slot low.asked.ask low new) → IfOk r (Tells which wt o x old new)
tells_opened (Ok m) b which wt o x t old mid low new e f s y d h =
    let one : old.depth + 1 ≡ suc old.depth = omega arith in
    let w = subst (λ (z : View). TellsSlot which wt o (object_in z o).slot z.asked.ask z new m) (d ∙ ap (λ (z : View). record z { asked = t }) s ∙ ap (λ n. record old { depth = n; asked = t }) one) h in
    let u = subst (λ z. TellsSlot which wt o (object_in old o).slot z (record old { depth = suc old.depth; asked = t }) new m) y w in
    let v : OpenedSlot true which wt o x old new m = record { leads = λ a. u.leads a; keeps = u.keeps } in
    as_opened which wt o x old new m (subst (λ c. OpenedSlot c which wt o x old new m) (sym f ∙ e) v)
tells_opened (Err z) b which wt o x t old mid low new e f s y d h = tt

-- it tells by its slot
pub told_by_proxy : {E : Type 0} (r : Result Mode E) (which : Native) (wt : acts.NativeNext Ref MadeSymbol) (me : Ref) (k : Way) (old new : View) → k ≡ way_here old me → k ≡ way.Proxy
    → IfOk r (LeadsTo (λ a. proxy_tells (naming_of old.me) a.shared which wt (proxy_decided old me) (party_of a old)) old new) → IfOk r (TellsSlot which wt me (object_in old me).slot old.asked.ask old new)
told_by_proxy (Ok m) which wt me k old new e f h =
    let o = object_in old me in
    let q = proxied_in o.slot in
    let s = is_proxy o.slot o.marks.callable old.asked.ask (sym e ∙ f) in
    record {
      leads = λ a. (
          let b = fitting old a in
          let names = naming_of old.me in
          let n = wt in
          h.leads a
          ∙ ap (λ d. settles b old old.values (answered names b.env (proxy_tells names b.shared which n d (party_of b old)))) (as_decided old me q s)
          ∙ ap (settles b old old.values) (sym (target_looked q old a (λ k. proxy_tells names b.shared which n (decided_by_proxy (λ o. k) q old.asked.ask) (party_of b old))))
          ∙ ap (λ z. settles b old old.values (answered names b.env (slot_tells names b.shared me z old.asked.ask which n (party_of b old)))) (sym s));
      keeps = h.keeps;
    }
told_by_proxy (Err x) which wt me k old new e f h = tt

-- a collection
table_told : (s : Slot Ref MadeSymbol) (c : Bool) (x : Ask Ref MadeSymbol) (which : Native) (wt : acts.NativeNext Ref MadeSymbol) (me : Ref) (old new : View) (m : Mode) → way_of s c x ≡ way.Collection
    → LeadsTo (λ a. follows_table (naming_of old.me) me (table_given (table_by (entries_of s) x).0, (table_by (entries_of s) x).1) (shallower (party_of a old))) old new m → TellsSlot which wt me s x old new m
table_told (slot.Table es) c (ask.Slot n args) which wt me old new m e h = record { leads = λ a. h.leads a; keeps = h.keeps }
table_told (slot.Table es) c x which wt me old new m e h = cc
table_told (slot.Proxy q) c x which wt me old new m e h = cc
table_told s c x which wt me old new m e h = absurd (not_asked s c x e)

pub told_by_table : {E : Type 0} (r : Result Mode E) (which : Native) (wt : acts.NativeNext Ref MadeSymbol) (me : Ref) (k : Way) (old mid new : View) → k ≡ way_here old me → k ≡ way.Collection → mid ≡ record old { depth = old.depth - 1 }
    → IfOk r (LeadsTo (λ a. follows_table (naming_of mid.me) me (table_given (collected mid me).0, (collected mid me).1) (party_of a mid)) mid new) → IfOk r (TellsSlot which wt me (object_in old me).slot old.asked.ask old new)
told_by_table (Ok m) which wt me k old mid new e f s h =
    let o = object_in old me in
    let w = subst (λ (x : View). LeadsTo (λ a. follows_table (naming_of x.me) me (table_given (collected x me).0, (collected x me).1) (party_of a x)) x new m) s h in
    table_told o.slot o.marks.callable old.asked.ask which wt me old new m (sym e ∙ f) (record { leads = λ a. w.leads a; keeps = w.keeps })
told_by_table (Err x) which wt me k old mid new e f s h = tt

-- any other one has no answer
wrong_told : (s : Slot Ref MadeSymbol) (c : Bool) (x : Ask Ref MadeSymbol) (which : Native) (wt : acts.NativeNext Ref MadeSymbol) (me : Ref) (old new : View) (m : Mode) → (way_of s c x ≡ way.Proxy → ⊥) → (way_of s c x ≡ way.Collection → ⊥)
    → LeadsTo (λ a. faults (naming_of old.me) fault.WrongKind (shallower (party_of a old))) old new m → TellsSlot which wt me s x old new m
wrong_told (slot.Proxy q) c x which wt me old new m f g h = absurd (f refl)
wrong_told (slot.Table es) c (ask.Slot n args) which wt me old new m f g h = absurd (g refl)
wrong_told (slot.Table es) c x which wt me old new m f g h = record { leads = λ a. h.leads a; keeps = h.keeps }
wrong_told s c x which wt me old new m f g h = record { leads = λ a. h.leads a; keeps = h.keeps }

pub told_by_none : {E : Type 0} (r : Result Mode E) (which : Native) (wt : acts.NativeNext Ref MadeSymbol) (me : Ref) (k : Way) (old new : View) → k ≡ way_here old me → (k ≡ way.Proxy → ⊥) → (k ≡ way.Collection → ⊥)
    → IfOk r (LeadsTo (λ a. faults (naming_of old.me) fault.WrongKind (shallower (party_of a old))) old new) → IfOk r (TellsSlot which wt me (object_in old me).slot old.asked.ask old new)
told_by_none (Ok m) which wt me k old new e f g h = let o = object_in old me in wrong_told o.slot o.marks.callable old.asked.ask which wt me old new m (λ p. f (e ∙ p)) (λ p. g (e ∙ p)) h
told_by_none (Err x) which wt me k old new e f g h = tt

-- WHAT FOLLOWS WHAT A PROXY TELLS

-- something is done once the native is open no longer
pub after_closing : {E : Type 0} (r : Result Mode E) (deed : (w : View) → Around → Act Ref MadeSymbol) (old mid new : View) → mid ≡ record old { depth = old.depth - 1 } → IfOk r (LeadsTo (deed mid) mid new)
    → IfOk r (LeadsTo (deed (record old { depth = old.depth - 1 })) (record old { depth = old.depth - 1 }) new)
after_closing r deed old mid new s h = subst (λ w. IfOk r (LeadsTo (deed w) w new)) s h

abbrev Told : Native → acts.NativeNext Ref MadeSymbol → ProxyDecision Ref MadeSymbol → View → View → Mode → Type 0
Told which wt d old new m = LeadsTo (λ a. proxy_tells (naming_of old.me) a.shared which wt d (party_of a old)) old new m

pub told_done : {E : Type 0} (r : Result Mode E) (which : Native) (wt : acts.NativeNext Ref MadeSymbol) (next : NativeNext) (y : Reply Ref MadeSymbol) (d : ProxyDecision Ref MadeSymbol) (old mid new : View) → d ≡ decision.Done y → waits_as next ≡ wt → mid ≡ record old { depth = old.depth - 1 }
    → IfOk r (LeadsTo (λ a. native_goes_on (naming_of mid.me) a.shared which (waits_as next) y (party_of a mid)) mid new) → IfOk r (Told which wt d old new)
told_done (Ok m) which wt next y d old mid new e f s h =
    let w = subst (λ (x : View). LeadsTo (λ a. native_goes_on (naming_of x.me) a.shared which (waits_as next) y (party_of a x)) x new m) s h in
    let low = record old { depth = old.depth - 1 } in
    let u = subst (λ n. LeadsTo (λ a. native_goes_on (naming_of old.me) a.shared which n y (party_of a low)) low new m) f w in
    let v : Told which wt (decision.Done y) old new m = record { leads = λ a. u.leads a; keeps = u.keeps } in
    subst (λ x. Told which wt x old new m) (sym e) v
told_done (Err x) which wt next y d old mid new e f s h = tt

pub told_fault : {E : Type 0} (r : Result Mode E) (which : Native) (wt : acts.NativeNext Ref MadeSymbol) (t : FaultText) (d : ProxyDecision Ref MadeSymbol) (old mid new : View) → d ≡ decision.Fault t → mid ≡ record old { depth = old.depth - 1 }
    → IfOk r (LeadsTo (λ a. faults (naming_of mid.me) t (party_of a mid)) mid new) → IfOk r (Told which wt d old new)
told_fault (Ok m) which wt t d old mid new e s h =
    let w = subst (λ (x : View). LeadsTo (λ a. faults (naming_of x.me) t (party_of a x)) x new m) s h in
    let v : Told which wt (decision.Fault t) old new m = record { leads = λ a. w.leads a; keeps = w.keeps } in
    subst (λ x. Told which wt x old new m) (sym e) v
told_fault (Err x) which wt t d old mid new e s h = tt

pub told_by : {E : Type 0} (r : Result Mode E) (which : Native) (wt : acts.NativeNext Ref MadeSymbol) (d e : ProxyDecision Ref MadeSymbol) (old new : View) → d ≡ e → IfOk r (Told which wt e old new) → IfOk r (Told which wt d old new)
told_by r which wt d e old new f h = subst (λ x. IfOk r (Told which wt x old new)) (sym f) h

abbrev Wrong : View → View → Mode → Type 0
Wrong old new m = LeadsTo (λ a. faults (naming_of old.me) fault.WrongKind (shallower (party_of a old))) old new m

pub told_wrong : {E : Type 0} (r : Result Mode E) (old mid new : View) → mid ≡ record old { depth = old.depth - 1 } → IfOk r (LeadsTo (λ a. faults (naming_of mid.me) fault.WrongKind (party_of a mid)) mid new) → IfOk r (Wrong old new)
told_wrong (Ok m) old mid new s h =
    let w = subst (λ (x : View). LeadsTo (λ a. faults (naming_of x.me) fault.WrongKind (party_of a x)) x new m) s h in
    record { leads = λ a. w.leads a; keeps = w.keeps }
told_wrong (Err x) old mid new s h = tt

pub no_target : {E : Type 0} (r : Result Mode E) (which : Native) (wt : acts.NativeNext Ref MadeSymbol) (o : Option Ref) (x : Ask Ref MadeSymbol) (n : ProxyNext Ref MadeSymbol) (old new : View) → o ≡ None → IfOk r (Wrong old new) → IfOk r (Told which wt (decision.Ask o x n) old new)
no_target r which wt o x n old new e h = subst (λ y. IfOk r (Told which wt (decision.Ask y x n) old new)) (sym e) h

pub a_target : {E : Type 0} (r : Result Mode E) (which : Native) (wt : acts.NativeNext Ref MadeSymbol) (o : Option Ref) (t : Ref) (x : Ask Ref MadeSymbol) (n : ProxyNext Ref MadeSymbol) (old new : View) → o ≡ Some t → IfOk r (Told which wt (decision.Ask (Some t) x n) old new)
    → IfOk r (Told which wt (decision.Ask o x n) old new)
a_target r which wt o t x n old new e h = subst (λ y. IfOk r (Told which wt (decision.Ask y x n) old new)) (sym e) h

pub told_waits : {E : Type 0} (r : Result Mode E) (which : Native) (wt : acts.NativeNext Ref MadeSymbol) (next : NativeNext) (t : Ref) (x : Ask Ref MadeSymbol) (n : ProxyNext Ref MadeSymbol) (old new : View) → n ≡ proxy_next.Answer → waits_as next ≡ wt
    → IfOk r (LeadsTo (λ a. waits_for (naming_of old.me) t x (party_of a old) (next_of_wait (naming_of old.me) a.shared old.code (wait.SlotTold which next))) old new) → IfOk r (Told which wt (decision.Ask (Some t) x n) old new)
unfolding next_of_want
told_waits (Ok m) which wt next t x n old new e f h =
    let v : Told which (waits_as next) (decision.Ask (Some t) x proxy_next.Answer) old new m = record { leads = λ a. h.leads a; keeps = h.keeps } in
    subst (λ k. Told which wt (decision.Ask (Some t) x k) old new m) (sym e) (subst (λ k. Told which k (decision.Ask (Some t) x proxy_next.Answer) old new m) f v)
told_waits (Err y) which wt next t x n old new e f h = tt

pub other_next : {E : Type 0} (r : Result Mode E) (which : Native) (wt : acts.NativeNext Ref MadeSymbol) (t : Ref) (x : Ask Ref MadeSymbol) (n : ProxyNext Ref MadeSymbol) (old new : View) → (n ≡ proxy_next.Answer → ⊥) → IfOk r (Wrong old new) → IfOk r (Told which wt (decision.Ask (Some t) x n) old new)
other_next r which wt t x proxy_next.Answer old new f h = absurd (f refl)
other_next r which wt t x n old new f h = h

-- the answer comes to the native
pub told_comes : {E : Type 0} (r : Result Mode E) (which : Native) (n : NativeNext) (y : Reply Ref MadeSymbol) (old mid new : View) → mid ≡ record old { depth = old.depth - 1 }
    → IfOk r (LeadsTo (λ a. native_goes_on (naming_of mid.me) a.shared which (waits_as n) y (party_of a mid)) mid new) → IfOk r (Wakes (wait.SlotTold which n) y old new)
unfolding next_of_want
told_comes (Ok m) which n y old mid new s h =
    let w = subst (λ (x : View). LeadsTo (λ a. native_goes_on (naming_of x.me) a.shared which (waits_as n) y (party_of a x)) x new m) s h in
    record { leads = λ a. w.leads a; keeps = w.keeps }
told_comes (Err x) which n y old mid new s h = tt

-- WHAT WAS CHARGED FOR COMES

pub slot_comes : {E : Type 0} (r : Result Mode E) (which : Native) (n : ℕ) (old mid new : View) → mid ≡ without_top old
    → IfOk r (LeadsTo (λ a. asks_first (naming_of mid.me) a.shared which (args_on n mid.values) (party_of a mid)) (Rest n mid) new) → IfOk r (IsDelivered (frame.SlotCharged which n) mode.Value old new)
unfolding next_slot_of
slot_comes (Ok m) which n old mid new e h =
    let w = subst (λ (x : View). LeadsTo (λ a. asks_first (naming_of x.me) a.shared which (args_on n x.values) (party_of a x)) (Rest n x) new m) e h in
    delivered (frame.SlotCharged which n) old new m (record { leads = λ a. w.leads a; keeps = w.keeps })
slot_comes (Err x) which n old mid new e h = tt

pub refused_comes : {E : Type 0} (r : Result Mode E) (b : Bool) (t : FaultText) (old mid new : View) → t ≡ refusal b → mid ≡ without_top old → IfOk r (LeadsTo (λ a. faults (naming_of mid.me) t (party_of a mid)) mid new) → IfOk r (IsDelivered (frame.Refused b) mode.Value old new)
unfolding next_slot_of
refused_comes (Ok m) b t old mid new f e h =
    let w = subst (λ (x : View). LeadsTo (λ a. faults (naming_of x.me) t (party_of a x)) x new m) e h in
    let u = subst (λ x. LeadsTo (λ a. faults (naming_of old.me) x (party_of a (without_top old))) (without_top old) new m) f w in
    delivered (frame.Refused b) old new m (record { leads = λ a. u.leads a; keeps = u.keeps })
refused_comes (Err x) b t old mid new f e h = tt

pub told_from : {E : Type 0} (r : Result Mode E) (which : Native) (wt : acts.NativeNext Ref MadeSymbol) (d : ProxyDecision Ref MadeSymbol) (me : Ref) (old new : View) → d ≡ proxy_decided old me → IfOk r (Told which wt d old new) → IfOk r (Told which wt (proxy_decided old me) old new)
told_from r which wt d me old new e h = subst (λ x. IfOk r (Told which wt x old new)) e h
