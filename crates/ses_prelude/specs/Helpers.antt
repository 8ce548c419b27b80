-- How the code's values stand for those of the definitions.
use Rattle.std.specs.Prelude.{◌≡◌, ℕ, List, Option, Some, Result, Ok, Err, codes, ◌⊎◌}
use Rattle.js_fault.specs.declared.fault.SyntaxFault.{SyntaxFault}
use Rattle.js_fault.specs.declared.fault.SyntaxFault.TheVariants as fault
use Rattle.js_fault.specs.declared.fault.SyntaxWhat.TheVariants as what
use Rattle.js_frames.specs.Frames.{Frame}
use Rattle.ses_lockdown.specs.declared.intrinsics.Intrinsics.{Intrinsics}
use Rattle.ses_prelude.specs.Functions.{PreludeFunction, places_of, frame_of, added_all}
use Rattle.ses_prelude.specs.Preludes.{AreValid, MakesNone, first_place}
use Rattle.ses_prelude.specs.declared.functions.FoundFunction.{FoundFunction}

abbrev pub seen : FoundFunction → PreludeFunction
seen f = record { name = f.name.now; place = f.place; kind = f.kind; function = f.function.now }

-- the places of the functions, and the scope of their names
abbrev pub shape_of : List PreludeFunction → List ℕ × Frame
shape_of ds = (places_of ds, frame_of ds)

-- the intrinsics with the functions of a list
abbrev pub added_to : Frame → Intrinsics → List PreludeFunction → Intrinsics
added_to frame i ds = added_all frame ds i

-- what is told of a program that makes no intrinsics
abbrev pub IsNoPreludeFault : SyntaxFault → Type 0
IsNoPreludeFault f = (f ≡ fault.At first_place (what.Early (codes "prelude"))) ⊎ (f ≡ fault.OutOfMemory)

-- what is answered to a program that makes these intrinsics, or none
abbrev pub IsMadeOf : Option Intrinsics → Result Intrinsics SyntaxFault → Type 0
IsMadeOf o (Ok i) = (o ≡ Some i) × AreValid i.templates
IsMadeOf o (Err f) = (MakesNone o × (f ≡ fault.At first_place (what.Early (codes "prelude")))) ⊎ (f ≡ fault.OutOfMemory)
