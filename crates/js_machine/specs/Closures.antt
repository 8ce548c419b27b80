-- Functions of a source that run.
use Rattle.std.specs.Prelude.{ℕ, List, Option, Some, None}
use Rattle.lava_base.specs.declared.ids.MadeSymbol.{MadeSymbol}
use Rattle.lava_base.specs.declared.ids.Ref.{Ref}
use Rattle.js_text.specs.Naming.{Naming, Origin, Own, Common, Foreign}
use Rattle.js_text.specs.declared.value.Value.{Value}
use Rattle.js_desc.specs.declared.decision.BodyId.{BodyId}
use Rattle.js_store.specs.declared.slot.Slot.{Slot}
use Rattle.js_store.specs.declared.slot.Slot.TheVariants as slot
use Rattle.js_operation.specs.js_run.Acts.{Act}
use Rattle.js_operation.specs.js_run.Bodies.{run_template}
use Rattle.js_operation.specs.js_run.Parties.{Party, Shared, template_at}
use Rattle.js_machine.specs.declared.closures.Closure.{Closure}

-- what a slot keeps for a function of a source
abbrev pub closure_in : Slot Ref MadeSymbol → Option Closure
closure_in (slot.Closure b home l) = Some (record { home = home; lexical = l })
closure_in _ = None

-- a function of the common part stands in the outermost scope
abbrev pub outer_of : Origin → ℕ → ℕ
outer_of (Own i) s = s
outer_of (Common c) s = 0
outer_of Foreign s = 0

-- a function of a source runs
abbrev pub runs_closure : Naming Ref MadeSymbol → Shared → Ref → BodyId → Closure → (this : Value Ref MadeSymbol) → List (Value Ref MadeSymbol) → (new_target : Option Ref) → Party Ref MadeSymbol → Act Ref MadeSymbol
runs_closure names shared f b c this args target p = run_template names shared f (template_at shared p b.template) (outer_of (names.origin f) b.scope) c.home c.lexical this args target p
