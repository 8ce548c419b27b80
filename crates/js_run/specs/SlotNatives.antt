-- The natives that ask a `Slot`: where the object is from is seen first. At a foreign one the ask crosses, and costs its asker nothing;
-- at any other the native is charged, and the ask costs nothing more.
use Rattle.std.specs.Prelude.{List, [], ◌∷◌, Some}
use Rattle.lava_base.specs.declared.marks.Marks.{Marks}
use Rattle.js_text.specs.Naming.{Naming, Origin, Foreign}
use Rattle.js_text.specs.declared.native.Native.{Native}
use Rattle.js_text.specs.declared.native.Native.TheVariants as native
use Rattle.js_text.specs.declared.value.Value.{Value}
use Rattle.js_desc.specs.declared.ask.Ask as a
use Rattle.js_desc.specs.declared.ask.Ask.TheVariants as ask
use Rattle.js_desc.specs.declared.decision.Decision.{Decision}
use Rattle.js_desc.specs.declared.decision.Decision.TheVariants as decision
use Rattle.js_desc.specs.declared.fault.FaultText.TheVariants as fault
use Rattle.js_maker_natives.specs.Kinds.{class_of, is_array}
use Rattle.js_proxy.specs.Traps.{decided_by_proxy}
use Rattle.js_maker_natives.specs.js_slot_natives.SlotNatives.{slot_native}
use Rattle.js_store.specs.declared.slot.Entry.{Entry}
use Rattle.js_store.specs.declared.slot.Slot.{Slot}
use Rattle.js_store.specs.declared.slot.Slot.TheVariants as slot
use Rattle.js_proxy.specs.js_traps.TrapDecisions.{ProxyDecision}
use Rattle.js_proxy.specs.js_traps.declared.next.Next.TheVariants as wait
use Rattle.js_run.specs.Acts.{Act, Closes, NativeNext, Native_decides, Of_maker, Of_slot, Send}
use Rattle.js_run.specs.Asking.{object_here, open_one, waits_for}
use Rattle.js_run.specs.Collections.{collection_decides}
use Rattle.js_run.specs.Faults.{faults}
use Rattle.js_run.specs.Following.{see_value}
use Rattle.js_run.specs.NativeTurns.{charged, follows_native, native_goes_on}
use Rattle.js_run.specs.Parties.{Party, Shared, shallower}
use Rattle.js_run.specs.Proxies.{see_target}

module _ {R S : Type 0} (names : Naming R S) (shared : Shared) where
  -- the marks of the first operand
  abbrev pub see_first : List (Value R S) → Party R S → (Marks → Act R S) → Act R S
  see_first [] p go = faults names fault.WrongKind p
  see_first (v ∷ vs) p go = see_value names shared v p go

  -- AN OBJECT THAT IS NOT FOREIGN. The native waits, and is open, while the object decides

  -- a proxy tells at once, or asks its target, which has the answer for the native too
  abbrev pub proxy_tells : Native → NativeNext R S → ProxyDecision R S → Party R S → Act R S
  proxy_tells which n (decision.Done r) p = native_goes_on names shared which n r (shallower p)
  proxy_tells which n (decision.Ask (Some o) x wait.Answer) p = waits_for names o x p (Closes (Native_decides which n))
  proxy_tells which n (decision.Fault f) p = faults names f (shallower p)
  proxy_tells which n _ p = faults names fault.WrongKind (shallower p)

  abbrev pub asks_collection : R → List (Entry R S) → a.Ask R S → Party R S → Act R S
  asks_collection r es (ask.Slot which args) p = collection_decides names r es which args p
  asks_collection r es _ p = faults names fault.WrongKind p

  -- what a collection answers is what the native gives
  abbrev pub slot_tells : R → Slot R S → a.Ask R S → Native → NativeNext R S → Party R S → Act R S
  slot_tells r (slot.Proxy proxied) x which n p = see_target names shared proxied p (λ m. proxy_tells which n (decided_by_proxy (λ o. m) proxied x) p)
  slot_tells r (slot.Table es) x which n p = asks_collection r es x (shallower p)
  slot_tells r _ x which n p = faults names fault.WrongKind (shallower p)

  -- WHERE THE OBJECT IS FROM

  abbrev pub asks_slot : Origin → R → a.Ask R S → Native → NativeNext R S → Party R S → Act R S
  asks_slot Foreign r x which n p = open_one p (λ q. Send r x q (Closes (Native_decides which n)))
  asks_slot _ r x which n p = open_one p (λ q. slot_tells r (object_here names shared r q).slot x which n q)

  abbrev pub charged_unless_sent : Origin → List (Value R S) → R → a.Ask R S → Native → NativeNext R S → Party R S → Act R S
  charged_unless_sent Foreign vs r x which n p = asks_slot Foreign r x which n p
  charged_unless_sent origin vs r x which n p = charged names shared which vs p (λ q. asks_slot origin r x which n q)

  -- a native that asks nothing is charged to the party that runs it
  -- own: the steps of a native
  abbrev pub follows_slot : {N : Type 0} → Native → List (Value R S) → (waits : N → NativeNext R S) → Decision N R S → Party R S → Act R S
  follows_slot which vs waits (decision.Ask (Some r) x n) p = charged_unless_sent (names.origin r) vs r x which (waits n) p
  follows_slot which vs waits d p = charged names shared which vs p (λ q. follows_native names which waits d q)

  -- the natives on collections
  abbrev pub runs_on_collection : Native → List (Value R S) → Party R S → Act R S
  runs_on_collection which vs p = see_first vs p (λ m. follows_slot which vs Of_slot (slot_native (λ r. m) which vs) p)

  -- a proxy is asked whether it stands before an array
  -- ECMA-262 IsArray
  abbrev pub runs_is_array : List (Value R S) → Party R S → Act R S
  runs_is_array vs p = see_first vs p (λ m. follows_slot native.IsArray vs Of_maker (is_array (λ r. m) vs) p)

  -- `classOf` is charged to the party that runs it, wherever the object is from that it asks
  abbrev pub follows_kind : {N : Type 0} → (waits : N → NativeNext R S) → Decision N R S → Party R S → Act R S
  follows_kind waits (decision.Ask (Some r) x n) p = asks_slot (names.origin r) r x native.ClassOf (waits n) p
  follows_kind waits d p = follows_native names native.ClassOf waits d p

  abbrev pub tells_kind : List (Value R S) → Party R S → Act R S
  tells_kind vs p = see_first vs p (λ m. follows_kind Of_maker (class_of (λ r. m) vs) p)
