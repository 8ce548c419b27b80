-- What an object tells a native that waits.
use Rattle.std.specs.Prelude.{Bool, Option, Some, None}
use Rattle.lava_base.specs.declared.ids.MadeSymbol.{MadeSymbol}
use Rattle.lava_base.specs.declared.ids.Ref.{Ref}
use Rattle.js_text.specs.Naming.{Naming}
use Rattle.js_text.specs.declared.native.Native.{Native}
use Rattle.js_desc.specs.declared.ask.Ask.{Ask}
use Rattle.js_machine.specs.js_maker_natives.MakerDecisions.{MakerDecision}
use Rattle.js_machine.specs.js_maker_natives.declared.next.Next.TheVariants as maker
use Rattle.js_machine.specs.js_native_steps.declared.next.NativeNext.{NativeNext}
use Rattle.js_machine.specs.js_native_steps.declared.next.NativeNext.TheVariants as native_next
use Rattle.js_machine.specs.js_run.Acts as acts
use Rattle.js_machine.specs.js_run.Acts.{Act, Of_maker}
use Rattle.js_machine.specs.js_run.Asking.{object_here, open_one}
use Rattle.js_machine.specs.js_run.Parties.{Party, Shared}
use Rattle.js_machine.specs.js_run.SlotNatives.{follows_kind, slot_tells}
use Rattle.js_machine.specs.SlotAsks.{slot_wait}

-- what a native waits for whose object tells: `classOf` remembers whether that can be called
abbrev pub wait_of : Native → (kind : Option Bool) → NativeNext
wait_of which None = slot_wait which
wait_of which (Some callable) = native_next.Maker (maker.KindTold callable)

-- an object that is not foreign is asked, and the native is open meanwhile
abbrev pub tells_waiting : Naming Ref MadeSymbol → Shared → Native → acts.NativeNext Ref MadeSymbol → Ref → Ask Ref MadeSymbol → Party Ref MadeSymbol → Act Ref MadeSymbol
tells_waiting names shared which n r x p = open_one p (λ q. slot_tells names shared r (object_here names shared r q).slot x which n q)

-- what follows what `classOf` decides
abbrev pub kind_follows : Naming Ref MadeSymbol → Shared → MakerDecision Ref MadeSymbol → Party Ref MadeSymbol → Act Ref MadeSymbol
kind_follows names shared d p = follows_kind names shared Of_maker d p
