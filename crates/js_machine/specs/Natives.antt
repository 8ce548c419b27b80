-- Natives that the machine begins.
use Rattle.std.specs.Prelude.{Bool, true, false}
use Rattle.js_text.specs.declared.native.Native.{Native}
use Rattle.js_text.specs.declared.native.Native.TheVariants as native

-- a native asks a `Slot`, and sees first whether its ask crosses
abbrev pub asks_slots : Native → Bool
asks_slots native.IsArray = true
asks_slots native.MapGet = true
asks_slots native.MapSet = true
asks_slots native.MapHas = true
asks_slots native.MapDelete = true
asks_slots native.MapClear = true
asks_slots native.MapNext = true
asks_slots native.MapKeyAt = true
asks_slots native.MapSize = true
asks_slots which = false
