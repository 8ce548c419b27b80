-- What bytes are read as, as a prelude.
use Rattle.std.specs.Prelude.{◌≡◌, ℕ, List, [], ◌∷◌, Option, ◌⊎◌, Some, None, codes}
use Rattle.js_fault.specs.declared.fault.SyntaxFault.{SyntaxFault}
use Rattle.js_fault.specs.declared.fault.SyntaxFault.TheVariants as fault
use Rattle.js_fault.specs.declared.fault.SyntaxWhat.{SyntaxWhat}
use Rattle.js_fault.specs.declared.fault.SyntaxWhat.TheVariants as what
use Rattle.js_program.specs.Programs.{IsProgram, IsProgramFault}
use Rattle.js_term.specs.declared.term.Template.{Template}
use Rattle.js_tree.specs.declared.tree.Module.{Module as Tree}
use Rattle.js_tree.specs.declared.tree.SourceKind.TheVariants.{Module as AsModule}
use Rattle.js_valid.specs.Valid.{IsValid}
use Rattle.lava_base.specs.declared.place.Place.{Place}
use Rattle.ses_lockdown.specs.declared.intrinsics.Intrinsics.{Intrinsics}
use Rattle.ses_prelude.specs.Functions.{intrinsics_of}
use Rattle.ses_prelude.specs.declared.text.TheConstants.{PRELUDE}

-- the bytes of the one prelude that the product has
unfoldable pub prelude : List ℕ
prelude = PRELUDE.now

-- each template is a valid one, with all templates inside
-- own: what the machine's steps rely on
abbrev pub AreValid : List Template → Type 0
AreValid [] = Unit {0}
AreValid (t ∷ ts) = IsValid t × AreValid ts

-- the intrinsics that a program makes, whose templates are valid
-- own: the common part is what the text of its functions says
abbrev pub IsPrelude : List ℕ → Intrinsics → Type 0
IsPrelude source i = (m : Tree) × IsProgram AsModule source m × (intrinsics_of m.body ≡ Some i) × AreValid i.templates

abbrev pub HasIntrinsics : List ℕ → Type 0
HasIntrinsics source = (i : Intrinsics) × IsPrelude source i

-- where a program that makes no intrinsics is told to be none
abbrev pub first_place : Place
first_place = record { line = 1; unit = 1 }

-- what a program makes is no prelude: nothing, or a template that is not valid, as where it calls a native with too few operands
abbrev pub MakesNone : Option Intrinsics → Type 0
MakesNone None = Unit {0}
MakesNone (Some i) = AreValid i.templates → ⊥

-- a program that declares anything but functions of the common part, lacks one of them, or has one that is no valid template
-- own: what else is wrong with a prelude
abbrev pub IsNoPrelude : List ℕ → Place → SyntaxWhat → Type 0
IsNoPrelude source place w =
    (m : Tree) × IsProgram AsModule source m × MakesNone (intrinsics_of m.body) × (place ≡ first_place) × (w ≡ what.Early (codes "prelude"))

-- what is wrong with a prelude, and at which place
abbrev pub IsPreludeFault : List ℕ → Place → SyntaxWhat → Type 0
IsPreludeFault source place w = IsProgramFault AsModule source place w ⊎ IsNoPrelude source place w

-- a refusal has its cause; want of memory may come anywhere
abbrev pub HasPreludeCause : List ℕ → SyntaxFault → Type 0
HasPreludeCause source (fault.At place w) = IsPreludeFault source place w
HasPreludeCause source fault.OutOfMemory = Unit {0}
