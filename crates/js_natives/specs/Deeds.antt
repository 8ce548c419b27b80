-- What of js_run's definitions a decision of a native stands for.
use Rattle.std.specs.Prelude.{◌≡◌, ℕ, Bool, true, false, List, Some}
use Rattle.lava_base.specs.Ids.{same_ref}
use Rattle.lava_base.specs.declared.ids.MadeSymbol.{MadeSymbol}
use Rattle.lava_base.specs.declared.ids.Ref.{Ref}
use Rattle.lava_base.specs.declared.marks.Marks.{Marks}
use Rattle.js_text.specs.Naming.{Naming, Origin, Own, Common, Foreign, naming_of}
use Rattle.js_text.specs.declared.native.Native.{Native}
use Rattle.js_text.specs.declared.native.Native.TheVariants as native
use Rattle.js_desc.specs.declared.decision.Decision.TheVariants as decision
use Rattle.js_desc.specs.declared.reply.Reply.{Reply}
use Rattle.js_run_laws.specs.js_conversions.Primitives.{ReadsNumbers}
use Rattle.js_native.specs.TextNatives.{FindsFirst}
use Rattle.js_store.specs.Foreign.{marks_of}
use Rattle.js_store.specs.Frozen.{CommonObject}
use Rattle.js_run_laws.specs.js_run.Acts.{Act}
use Rattle.js_run_laws.specs.js_run.NativeTurns.{follows_native_with, native_goes_on}
use Rattle.js_run_laws.specs.js_run.Natives.{native_acts}
use Rattle.js_run_laws.specs.js_run.Parties as parties
use Rattle.js_run_laws.specs.js_run.Parties.{Shared}
use Rattle.js_run_laws.specs.js_run.Runs.{Env, answered}
use Rattle.js_native_steps.specs.Steps.{MachineObjects, MachineValue, NativeStep, waits_as}
use Rattle.js_native_steps.specs.declared.next.NativeNext.{NativeNext}

abbrev pub MachineNaming : Type 0
MachineNaming = Naming Ref MadeSymbol

abbrev pub MachineParty : Type 0
MachineParty = parties.Party Ref MadeSymbol

abbrev pub MachineAct : Type 0
MachineAct = Act Ref MadeSymbol

-- what a party does
abbrev pub NativeDeed : Type 0
NativeDeed = MachineNaming → Shared → MachineParty → MachineAct

-- a native does what it does with its operands
abbrev pub acts_with : Native → List MachineValue → NativeDeed
acts_with which vs names shared p = native_acts names shared which vs p

-- a native goes on with an answer
abbrev pub goes_on_with : Native → NativeNext → Reply Ref MadeSymbol → NativeDeed
goes_on_with which n r names shared p = native_goes_on names shared which (waits_as n) r p

-- what all share, with these common objects
abbrev pub sharing : List CommonObject → Shared → Shared
sharing common shared = record shared { objects = common }

-- surroundings where these marks of foreign objects are known
abbrev pub knowing : List (Ref × Marks) → Env Ref → Env Ref
knowing known env = record env { marks = λ r. marks_of same_ref r known }

-- a party with these objects
abbrev pub having : MachineObjects → MachineParty → MachineParty
having objects p = record p { objects = objects }

-- the deed of a native is what follows this decision, where these objects come to be, in each party with these objects that knows these marks
pub record Does (me : ℕ) (objects : MachineObjects) (common : List CommonObject) (known : List (Ref × Marks)) (which : Native) (deed : NativeDeed) (d : NativeStep) (after : MachineObjects) : Type 0 where
  pub does : (shared : Shared) → ReadsNumbers shared.number_of → FindsFirst shared.find → (env : Env Ref) (p : MachineParty)
      → answered (naming_of me) (knowing known env) (deed (naming_of me) (sharing common shared) (having objects p))
      ≡ answered (naming_of me) (knowing known env) (follows_native_with (naming_of me) which waits_as (d, after) (having objects p))

-- an own object or one of the common part is asked
abbrev pub is_here : Origin → Bool
is_here (Own i) = true
is_here (Common c) = true
is_here Foreign = false

abbrev pub asks_here : MachineNaming → NativeStep → Bool
asks_here names (decision.Ask (Some r) x n) = is_here (names.origin r)
asks_here names _ = false

-- `classOf` asks a proxy that is not a foreign one
abbrev pub asks_kind : MachineNaming → Native → NativeStep → Bool
asks_kind names native.ClassOf d = asks_here names d
asks_kind names which d = false
