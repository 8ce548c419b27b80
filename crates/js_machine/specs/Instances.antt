-- Functions behind bound ones.
use Rattle.std.specs.Prelude.{ℕ, zero, suc, Option, Some, None}
use Rattle.std.specs.Option.{unwrap_or}
use Rattle.lava_base.specs.declared.ids.MadeSymbol.{MadeSymbol}
use Rattle.lava_base.specs.declared.ids.Ref.{Ref}
use Rattle.js_store.specs.declared.slot.Slot.{Slot}
use Rattle.js_store.specs.declared.slot.Slot.TheVariants as slot
use Rattle.js_machine.specs.Views.{View}
use Rattle.js_machine.specs.Ways.{object_in}

-- the function that a bound function stands for
-- ECMA-262 Bound Function Exotic Objects
abbrev pub bound_target : Slot Ref MadeSymbol → Option Ref
bound_target (slot.Bound target this args) = Some target
bound_target s = None

abbrev pub bound_target_in : View → Ref → Option Ref
bound_target_in w r = bound_target (object_in w r).slot

-- the function behind at most so many bound ones
-- ECMA-262 OrdinaryHasInstance, step 2
abbrev pub unbound_in : View → (at_most : ℕ) → Ref → Ref
unbound_in w zero r = r
unbound_in w (suc n) r = unbound_in w n (unwrap_or (bound_target_in w r) r)
