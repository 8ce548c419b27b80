-- What follows the decision of an object, and what a primitive value decides.
use Rattle.std.specs.Prelude.{Bool, true, not, is_some, List, Option, Some, None}
use Rattle.js_text.specs.Naming.{Naming}
use Rattle.js_text.specs.declared.value.Key.{Key}
use Rattle.js_text.specs.declared.value.Value.{Value}
use Rattle.js_text.specs.declared.value.Value.TheVariants as value
use Rattle.js_desc.specs.declared.ask.Ask as a
use Rattle.js_desc.specs.declared.ask.Ask.TheVariants as ask
use Rattle.js_desc.specs.declared.decision.Decision.TheVariants as decision
use Rattle.js_desc.specs.declared.fault.FaultText.TheVariants as fault
use Rattle.js_desc.specs.declared.reply.Reply.{Reply}
use Rattle.js_desc.specs.declared.reply.Reply.TheVariants as reply
use Rattle.js_exotic.specs.Decided.{decided, exotic_resumed}
use Rattle.js_exotic.specs.Verdicts.{ExoticDecision, as_exotic}
use Rattle.js_exotic.specs.declared.next.Next.{Next as ExoticNext}
use Rattle.js_ordinary.specs.Primitives.{base_of, get_v, text_property}
use Rattle.js_ordinary.specs.Verdicts.{OrdinaryDecision}
use Rattle.js_ordinary.specs.declared.next.Next.TheVariants as wait
use Rattle.js_store.specs.Objects.{Object}
use Rattle.js_store.specs.declared.slot.Entry.{Entry}
use Rattle.js_store.specs.declared.slot.Held.TheVariants as held
use Rattle.js_store.specs.declared.slot.Slot.{Slot}
use Rattle.js_store.specs.declared.slot.Slot.TheVariants as slot
use Rattle.js_run.specs.Acts.{Act, Decides_on, End, Give}
use Rattle.js_run.specs.Asking.{object_here, waits_for}
use Rattle.js_run.specs.Bodies.{run_function}
use Rattle.js_run.specs.Completions.{Replied}
use Rattle.js_run.specs.Collections.{collection_decides}
use Rattle.js_run.specs.Conversions as conversions
use Rattle.js_run.specs.Faults.{faults}
use Rattle.js_run.specs.Following.{halt_of}
use Rattle.js_run.specs.Hosts.{calls_host}
use Rattle.js_run.specs.Modules.{requires, requires_mapped}
use Rattle.js_run.specs.Parties.{Party, Shared}
use Rattle.js_run.specs.Proxies.{proxy_decides}

-- PRIMITIVE VALUES

-- the prototype is asked, with the value as the receiver
-- ECMA-262 PutValue, step 3.d
abbrev pub primitive_set : {R S : Type 0} → Key S → Value R S → (receiver : Value R S) → Option R → OrdinaryDecision R S
primitive_set k v receiver None = decision.Fault fault.CannotConvert
primitive_set k v receiver (Some o) = decision.Ask (Some o) (ask.Set k v receiver) wait.Answer

-- what a text has itself is not deleted
-- ECMA-262 String Exotic Objects, [[Delete]]
abbrev pub deletes : {R S : Type 0} → Value R S → Key S → Bool
deletes {R} {S} (value.Text t) k = not (is_some (text_property {R = R} t k))
deletes {R} {S} v k = true

-- what a value that is no object decides of a Get, a Set and a Delete. It is asked for nothing else
-- ECMA-262 ToObject
abbrev pub primitive_decided : {R S : Type 0} → Naming R S → Value R S → a.Ask R S → OrdinaryDecision R S
primitive_decided names v (ask.Get k receiver) = get_v names.common v k
primitive_decided names v (ask.Set k x receiver) = primitive_set k x receiver (base_of names.common v)
primitive_decided names v (ask.Delete k) = decision.Done (reply.Flag (deletes v k))
primitive_decided names v x = decision.Fault fault.CannotConvert

module _ {R S : Type 0} (names : Naming R S) (shared : Shared) where
  -- WHAT FOLLOWS A DECISION

  -- where no number is wanted
  abbrev pub follows_once : R → ExoticDecision R S → Party R S → Act R S
  follows_once me (decision.Done r) p = Give (Replied r) p
  follows_once me (decision.Fault f) p = faults names f p
  follows_once me (decision.Ask (Some o) x n) p = waits_for names o x p (Decides_on me n)
  follows_once me (decision.Ask None x n) p = faults names fault.WrongKind p
  follows_once me (decision.Number v n) p = faults names fault.WrongKind p
  follows_once me (decision.Run body this args target) p = run_function names shared me body this args target p
  follows_once me (decision.End e) p = End (halt_of e)

  -- a decision and the party's objects after it
  abbrev pub with_objects : R → ExoticDecision R S × List (Object R S) → Party R S → Act R S
  with_objects me d p = follows_once me d.0 (record p { objects = d.1 })

  -- the decision goes on with the answer that it waited for
  abbrev pub goes_on : R → ExoticNext R S → Reply R S → Party R S → Act R S
  goes_on me n r p = with_objects me (exotic_resumed names p.objects shared.objects n r) p

  -- a decision that wants a number waits for it
  -- ECMA-262 ArraySetLength, steps 3 and 4
  abbrev pub follows : R → ExoticDecision R S → Party R S → Act R S
  follows me (decision.Number v n) p = conversions.to_number names shared (waits_for names) v p (λ i q. goes_on me n (reply.Value (value.Int i)) q)
  follows me d p = follows_once me d p

  abbrev pub follows_with : R → ExoticDecision R S × List (Object R S) → Party R S → Act R S
  follows_with me d p = follows me d.0 (record p { objects = d.1 })

  -- DECISIONS

  -- the machine itself calls a `require`, a function that keeps nothing is the host's, and every other object decides
  abbrev pub called_at : R → Slot R S → (callable : Bool) → (this : Value R S) → List (Value R S) → Party R S → Act R S
  called_at me (slot.Held (held.Require n)) callable this args p = requires names n args p
  called_at me (slot.Held held.ModuleMap) callable this args p = requires_mapped names args p
  called_at me slot.Plain true this args p = calls_host names shared me args p
  called_at me s callable this args p = follows_with me (decided names p.objects shared.objects me (ask.Call this args)) p

  abbrev pub decides_ask : R → Slot R S → (callable : Bool) → a.Ask R S → Party R S → Act R S
  decides_ask me s callable (ask.Call this args) p = called_at me s callable this args p
  decides_ask me s callable x p = follows_with me (decided names p.objects shared.objects me x) p

  -- a collection is looked into by a native
  abbrev pub decides_collection : R → List (Entry R S) → (callable : Bool) → a.Ask R S → Party R S → Act R S
  decides_collection me es callable (ask.Slot which args) p = collection_decides names me es which args p
  decides_collection me es callable x p = decides_ask me (slot.Table es) callable x p

  -- a proxy and a collection decide in their own ways
  abbrev pub decides_by_slot : R → Slot R S → (callable : Bool) → a.Ask R S → Party R S → Act R S
  decides_by_slot me (slot.Proxy proxied) callable x p = proxy_decides names shared proxied x p
  decides_by_slot me (slot.Table es) callable x p = decides_collection me es callable x p
  decides_by_slot me s callable x p = decides_ask me s callable x p

  abbrev pub decides_object : R → a.Ask R S → Party R S → Act R S
  decides_object me x p = let o = object_here names shared me p in decides_by_slot me o.slot o.marks.callable x p

  -- what an object of the party or of the common part decides, or a primitive value
  abbrev pub decides : Value R S → a.Ask R S → Party R S → Act R S
  decides (value.Ref me) x p = decides_object me x p
  decides v x p = follows_once (names.own 0) (as_exotic (primitive_decided names v x)) p
