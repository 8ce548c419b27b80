-- What others may know once something was sent: the marks of the sender's own objects in it.
use Rattle.std.specs.Prelude.{Bool, true, false, List, [], ◌∷◌, Option, Some, None}
use Rattle.lava_base.specs.declared.ids.MadeSymbol.{MadeSymbol}
use Rattle.lava_base.specs.declared.ids.Ref.{Ref}
use Rattle.lava_base.specs.declared.marks.Marks.{Marks}
use Rattle.js_text.specs.Identities.{Identity, Of_object, Of_symbol}
use Rattle.js_text.specs.declared.value.Value.{Value}
use Rattle.js_text.specs.declared.value.Value.TheVariants as value
use Rattle.js_desc.specs.declared.ask.Ask.{Ask}
use Rattle.js_desc.specs.declared.ask.Ask.TheVariants as ask
use Rattle.js_desc.specs.declared.descriptor.Descriptor.{Descriptor}
use Rattle.js_desc.specs.declared.descriptor.Descriptor.TheVariants.{Data, Accessor}
use Rattle.js_desc.specs.declared.descriptor.PartialDescriptor.{PartialDescriptor}
use Rattle.js_desc.specs.declared.reply.Reply.{Reply}
use Rattle.js_desc.specs.declared.reply.Reply.TheVariants as reply
use Rattle.js_machine.specs.Shown.{shown, with_known}
use Rattle.js_machine.specs.Views.{View}

-- the machine after these are shown
abbrev pub shows : List (Identity Ref MadeSymbol) → View → View
shows [] w = w
shows (Of_object r ∷ xs) w = shows xs (with_known (shown w r) w)
shows (Of_symbol s ∷ xs) w = shows xs w

abbrev pub shows_ref : Ref → View → View
shows_ref r w = with_known (shown w r) w

abbrev pub shows_option : Option Ref → View → View
shows_option None w = w
shows_option (Some r) w = shows_ref r w

abbrev pub shows_field : Option (Option Ref) → View → View
shows_field None w = w
shows_field (Some o) w = shows_option o w

abbrev pub shows_value : Value Ref MadeSymbol → View → View
shows_value (value.Ref r) w = shows_ref r w
shows_value v w = w

abbrev pub shows_maybe : Option (Value Ref MadeSymbol) → View → View
shows_maybe None w = w
shows_maybe (Some v) w = shows_value v w

abbrev pub shows_values : List (Value Ref MadeSymbol) → View → View
shows_values [] w = w
shows_values (v ∷ vs) w = shows_values vs (shows_value v w)

abbrev pub shows_descriptor : Descriptor Ref MadeSymbol → View → View
shows_descriptor (Data v w e c) m = shows_value v m
shows_descriptor (Accessor g s e c) m = shows_option s (shows_option g m)

abbrev pub shows_property : Option (Descriptor Ref MadeSymbol) → View → View
shows_property None w = w
shows_property (Some d) w = shows_descriptor d w

abbrev pub shows_partial : PartialDescriptor Ref MadeSymbol → View → View
shows_partial d w = shows_field d.set (shows_field d.get (shows_maybe d.value w))

-- an ask makes no party
abbrev pub makes_none : Ask Ref MadeSymbol → Bool
makes_none (ask.Make globals modules) = false
makes_none x = true

-- an ask that makes no party
abbrev pub shows_ask : Ask Ref MadeSymbol → View → View
shows_ask (ask.SetPrototypeOf p) w = shows_option p w
shows_ask (ask.DefineOwnProperty k d) w = shows_partial d w
shows_ask (ask.Get k receiver) w = shows_value receiver w
shows_ask (ask.Set k v receiver) w = shows_value receiver (shows_value v w)
shows_ask (ask.Call this args) w = shows_values args (shows_value this w)
shows_ask (ask.Construct target args) w = shows_values args (shows_ref target w)
shows_ask (ask.Slot which args) w = shows_values args w
shows_ask x w = w

abbrev pub shows_reply : Reply Ref MadeSymbol → View → View
shows_reply (reply.Value v) w = shows_value v w
shows_reply (reply.Proto p) w = shows_option p w
shows_reply (reply.Desc d) w = shows_property d w
shows_reply (reply.Throw v) w = shows_value v w
shows_reply r w = w

-- the machine that knows this of others
abbrev pub with_table : List (Ref × Marks) → View → View
with_table known w = record w { known = known }
