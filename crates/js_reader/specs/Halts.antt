-- Why a reading stops, and what is told of it.
use Rattle.std.specs.Prelude.{◌≡◌, ℕ, Bool, true, false, List, Option, Some, None, ◌⊎◌, codes}
use Rattle.lava_base.specs.declared.place.Place.{Place}
use Rattle.js_grammar.specs.declared.left_out.LeftOut.{LeftOut}
use Rattle.js_grammar.specs.declared.left_out.LeftOut.TheVariants as form
use Rattle.js_grammar.specs.Flat.{Flat}
use Rattle.js_grammar.specs.Profile.{is_too_deep, left_out}
use Rattle.js_fault.specs.declared.fault.SyntaxFault.{SyntaxFault}
use Rattle.js_fault.specs.declared.fault.SyntaxFault.TheVariants as fault
use Rattle.js_fault.specs.declared.fault.SyntaxWhat.TheVariants as what
use Rattle.js_reader.specs.declared.halt.HaltCause.{HaltCause}
use Rattle.js_reader.specs.declared.halt.HaltCause.TheVariants as cause
use Rattle.js_reader.specs.declared.halt.Halt.{Halt}

-- the name by which a form that is left out is told
-- own: the profile refuses these forms by name
abbrev pub form_name : LeftOut → List ℕ
form_name form.Export = codes "export"
form_name form.Field = codes "field"
form_name form.Generator = codes "generator"
form_name form.Import = codes "import"
form_name form.Proto = codes "proto"
form_name form.Regexp = codes "regexp"
form_name form.Static = codes "static"
form_name form.Super = codes "super"
form_name form.Tag = codes "tag"
form_name form.With = codes "with"

-- the fault that a stop at a place is, or want of memory for its name
abbrev pub IsFaultOf : Place → HaltCause → SyntaxFault → Type 0
IsFaultOf place cause.Unexpected f = f ≡ fault.At place what.Unexpected
IsFaultOf place cause.TooDeep f = f ≡ fault.At place what.TooDeep
IsFaultOf place (cause.LeftOut x) f = (f ≡ fault.At place (what.Unsupported (form_name x))) ⊎ (f ≡ fault.OutOfMemory)

abbrev pub halt : Place → HaltCause → Halt
halt p s = record { place = p; cause = s }

-- what stops a reading where the tokens so far stand: a form first, and then levels
-- own: which of several faults is told
abbrev pub told_by : Option LeftOut → Bool → Option HaltCause
told_by (Some x) deep = Some (cause.LeftOut x)
told_by None true = Some cause.TooDeep
told_by None false = None

abbrev pub told_of : Flat → Option HaltCause
told_of q = told_by (left_out q) (is_too_deep q)

abbrev pub at_place : Place → Option HaltCause → Option Halt
at_place p None = None
at_place p (Some s) = Some (halt p s)

-- where a token that stands at a place comes to: a stop, or none
abbrev pub stopped : Place → Option Flat → Option Halt
stopped p None = Some (halt p cause.Unexpected)
stopped p (Some q) = at_place p (told_of q)

abbrev pub Ends_step : Place → Option Flat → Flat → Option Halt → Type 0
Ends_step p o new None = (o ≡ Some new) × (told_of new ≡ None)
Ends_step p o new (Some h) = stopped p o ≡ Some h
