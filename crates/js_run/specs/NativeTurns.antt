-- What follows the decision of a native, what it costs, and how one that waits goes on.
use Rattle.std.specs.Prelude.{ℕ, ◌+◌, ◌-◌, Bool, List, [], ◌∷◌, Option, Some, None, if◌then◌else◌}
use Rattle.lava_base.specs.declared.marks.Marks.{Marks}
use Rattle.js_text.specs.Naming.{Naming}
use Rattle.js_text.specs.declared.native.Native.{Native}
use Rattle.js_text.specs.declared.native.Native.TheVariants as native
use Rattle.js_text.specs.declared.value.Value.{Value}
use Rattle.js_text.specs.declared.value.Value.TheVariants as value
use Rattle.js_desc.specs.declared.ask.Ask as a
use Rattle.js_desc.specs.declared.ask.Ask.TheVariants as ask
use Rattle.js_desc.specs.declared.decision.Decision.{Decision}
use Rattle.js_desc.specs.declared.decision.Decision.TheVariants as decision
use Rattle.js_desc.specs.declared.reply.Reply.{Reply}
use Rattle.js_desc.specs.declared.reply.Reply.TheVariants as reply
use Rattle.js_object_natives.specs.js_conversions.Conversions.{conversion_resumed}
use Rattle.js_maker_natives.specs.Resumed.{maker_resumed}
use Rattle.js_native.specs.Costs.{makes_text, native_cost, units_of_values}
use Rattle.js_object_natives.specs.Resumed.{native_resumed}
use Rattle.js_object_natives.specs.js_operations.Lists.{list_items}
use Rattle.js_maker_natives.specs.js_slot_natives.SlotNatives.{slot_native_resumed}
use Rattle.js_store.specs.Objects.{Object}
use Rattle.js_run.specs.Acts.{Act, Give, NativeNext, Native_decides, Of_conversion, Of_maker, Of_object, Of_slot, give}
use Rattle.js_run.specs.Completions.{Replied}
use Rattle.js_run.specs.Following.{follows_by, see_come}
use Rattle.js_run.specs.Operators.{given_text, pays}
use Rattle.js_run.specs.Parties.{Party, Shared}

-- WHAT A NATIVE GIVES

-- a text that a native makes is charged once it is known, and any other text that it gives is not
abbrev pub gives_text : {R S : Type 0} → (is_made : Bool) → List ℕ → Party R S → Act R S
gives_text is_made t p = if is_made then given_text t p else give (value.Text t) p

abbrev pub native_gives : {R S : Type 0} → Native → Reply R S → Party R S → Act R S
native_gives which (reply.Value (value.Text t)) p = gives_text (makes_text which) t p
native_gives which r p = Give (Replied r) p

-- what follows a native's decision
abbrev pub follows_native : {N R S : Type 0} → Naming R S → Native → (waits : N → NativeNext R S) → Decision N R S → Party R S → Act R S
follows_native names which waits (decision.Done r) p = native_gives which r p
follows_native names which waits d p = follows_by names (λ n. Native_decides which (waits n)) d p

-- and the party's objects after it
abbrev pub follows_native_with : {N R S : Type 0} → Naming R S → Native → (waits : N → NativeNext R S) → Decision N R S × List (Object R S) → Party R S → Act R S
follows_native_with names which waits d p = follows_native names which waits d.0 (record p { objects = d.1 })

-- WHAT A NATIVE COSTS

-- the items of a list that a native is given
abbrev pub given_items : {R S : Type 0} → Naming R S → Shared → Party R S → Value R S → Option (List (Value R S))
given_items names shared p v = list_items names p.objects shared.objects v

abbrev pub units_of_items : {R S : Type 0} → Option (List (Value R S)) → ℕ
units_of_items None = 0
units_of_items (Some vs) = units_of_values vs

abbrev pub units_of_lists : {R S : Type 0} → (items : Value R S → Option (List (Value R S))) → List (Value R S) → ℕ
units_of_lists items [] = 0
units_of_lists items (v ∷ vs) = units_of_items (items v) + units_of_lists items vs

-- how many units the texts in the arrays have that a native reads
abbrev pub listed_units : {R S : Type 0} → (items : Value R S → Option (List (Value R S))) → Native → List (Value R S) → ℕ
listed_units items native.Apply (f ∷ this ∷ list ∷ []) = units_of_items (items list)
listed_units items native.Construct (f ∷ list ∷ target ∷ []) = units_of_items (items list)
listed_units items native.Bind (f ∷ this ∷ list ∷ []) = units_of_items (items list)
listed_units items native.SortTexts (list ∷ []) = units_of_items (items list)
listed_units items native.MakeCompartment (proto ∷ lists) = units_of_lists items lists
listed_units items _ vs = 0

-- a native is charged, and then goes on
-- own: the steps of a native
abbrev pub charged : {R S : Type 0} → Naming R S → Shared → Native → List (Value R S) → Party R S → (Party R S → Act R S) → Act R S
charged names shared which vs p go = pays (native_cost which vs (listed_units (given_items names shared p) which vs)) p go

-- a native whose ask crosses is charged to the party that serves it: what this costs more than the one of a decision
-- own: the steps of a native
abbrev pub served_units : {R S : Type 0} → a.Ask R S → ℕ
served_units (ask.Slot which args) = native_cost which args 0 - 1
served_units x = 0

-- HOW A NATIVE GOES ON

module _ {R S : Type 0} (names : Naming R S) (shared : Shared) where
  -- with the marks of what comes
  abbrev pub native_turns : Native → NativeNext R S → Reply R S → Marks → Party R S → Act R S
  native_turns which (Of_object n) r m p = follows_native_with names which Of_object (native_resumed names (λ o. m) shared.number_of p.objects n r) p
  native_turns which (Of_maker n) r m p = follows_native_with names which Of_maker (maker_resumed names (λ o. m) shared.number_of p.objects n r) p
  native_turns which (Of_slot n) r m p = follows_native names which Of_slot (slot_native_resumed r) p
  native_turns which (Of_conversion n) r m p = follows_native names which Of_conversion (conversion_resumed (λ o. m) shared.number_of n r) p

  -- the native goes on with the answer that it waited for
  abbrev pub native_goes_on : Native → NativeNext R S → Reply R S → Party R S → Act R S
  native_goes_on which n r p = see_come names shared r p (λ m. native_turns which n r m p)
