-- What a prelude declares: the functions of common objects, each lowered in the scope of all their names.
use Rattle.std.specs.Prelude.{ℕ, zero, suc, Bool, true, false, ◌&&◌, nat_eq, List, [], ◌∷◌, ◌++◌, map, codes, length, Option, Some, None, if◌then◌else◌}
use Rattle.js_text.specs.Natives.{native_name}
use Rattle.js_text.specs.Texts.{utf8_of}
use Rattle.js_text.specs.declared.native.Native.{Native}
use Rattle.js_tree.specs.Layers.{StmtLayer}
use Rattle.js_tree.specs.declared.tree.Argument.TheOpen.{Stmt-F}
use Rattle.js_tree.specs.declared.tree.Function.{Function, out-Function}
use Rattle.js_tree.specs.declared.tree.Identifier.{Identifier}
use Rattle.js_tree.specs.declared.tree.Stmt.{Stmt, out-Stmt}
use Rattle.js_term.specs.declared.term.Template.{Template, out-Template}
use Rattle.js_term.specs.declared.term.TemplateKind.{TemplateKind}
use Rattle.js_term.specs.declared.term.TemplateKind.TheVariants as template
use Rattle.js_frames.specs.Frames.{Frame}
use Rattle.js_frames.specs.declared.frame.Referent.TheVariants as referent
use Rattle.js_frames.specs.declared.frame.SlotName.{SlotName}
use Rattle.js_lower_table.specs.Table.{built_template}
use Rattle.ses_lockdown.specs.Intrinsics.{initial_objects, name_at, with_function}
use Rattle.ses_lockdown.specs.Permits.{count, place_at}
use Rattle.ses_lockdown.specs.declared.intrinsics.Intrinsics.{Intrinsics}
use Rattle.ses_lockdown.specs.declared.table.Kind.{Kind}
use Rattle.ses_lockdown.specs.declared.table.Kind.TheVariants as kind
use Rattle.ses_lockdown.specs.declared.table.Role.{Role}
use Rattle.ses_lockdown.specs.declared.table.Role.TheVariants as role
use Rattle.ses_prelude.specs.Paths.{path_of, place_of}
use Rattle.ses_prelude.specs.declared.operations.TheConstants.{OPERATIONS}

-- WHAT A STATEMENT DECLARES

-- a function of the common part: its name in the text, the place of its common object, the kind of its template, and its tree
pub record PreludeFunction : Type 0 where
  pub name : List ℕ
  pub place : ℕ
  pub kind : TemplateKind
  pub function : Function

-- the kind of the template of a function that the text gives its body: one that is a constructor gives what its body gives
-- ECMA-262 CreateBuiltinFunction
abbrev pub body_kind : Kind → Role → Option TemplateKind
body_kind kind.Ordinary r = None
body_kind kind.Function role.Given = Some template.Method
body_kind kind.Function (role.Getter n) = None
body_kind kind.Function (role.Setter n) = None
body_kind kind.Constructor role.Given = Some template.Built
body_kind kind.Constructor (role.Getter n) = None
body_kind kind.Constructor (role.Setter n) = None

-- the same of the common object of a place; none where the text gives it no body
abbrev pub kind_at : ℕ → Option TemplateKind
kind_at place = body_kind (place_at place).0 (place_at place).2

abbrev pub of_kind : List ℕ → ℕ → Function → Option TemplateKind → Option PreludeFunction
of_kind name place f None = None
of_kind name place f (Some k) = Some (record { name = name; place = place; kind = k; function = f })

abbrev pub of_place : List ℕ → Function → Option ℕ → Option PreludeFunction
of_place name f None = None
of_place name f (Some place) = of_kind name place f (kind_at place)

abbrev pub of_name : Function → Option Identifier → Option PreludeFunction
of_name f None = None
of_name f (Some i) = of_place i.name f (place_of (path_of (utf8_of i.name)))

abbrev pub declared_at : StmtLayer → Option PreludeFunction
declared_at (Stmt-F.FunctionDeclaration f) = of_name f (out-Function f).name
declared_at _ = None

-- the function of the common part that a statement declares
abbrev pub declared : Stmt → Option PreludeFunction
declared s = declared_at (out-Stmt s)

abbrev pub both : Option PreludeFunction → Option (List PreludeFunction) → Option (List PreludeFunction)
both None ds = None
both (Some d) None = None
both (Some d) (Some ds) = Some (d ∷ ds)

-- the functions that a text declares, in order; none where one of its statements is anything else
-- own: a prelude declares the functions of the common objects, and nothing else
abbrev pub functions_in : List Stmt → Option (List PreludeFunction)
functions_in [] = Some []
functions_in (s ∷ ss) = both (declared s) (functions_in ss)

-- WHAT ITS NAMES STAND FOR

-- `$` and the name of a native is that operation
-- own: how the prelude asks for an operation of the machine
abbrev pub operation_slot : Native → SlotName
operation_slot n = record { name = codes "$" ++ native_name n; referent = referent.Operation n }

abbrev pub iterator_slot : SlotName
iterator_slot = record { name = codes "$iterator"; referent = referent.IteratorSymbol }

-- the natives that a prelude may name
unfoldable pub operations : List Native
operations = OPERATIONS

unfoldable pub machine_frame : Frame
machine_frame = map operation_slot operations ++ iterator_slot ∷ []

-- a declared name is the common object
abbrev pub function_slot : PreludeFunction → SlotName
function_slot d = record { name = d.name; referent = referent.CommonObject (record { 0 = d.place }) }

-- what the names of a text stand for, in each of its functions
-- own: the scope of the prelude
abbrev pub frame_of : List PreludeFunction → Frame
frame_of ds = machine_frame ++ map function_slot ds

-- THE INTRINSICS THAT IT MAKES

-- each function has the name that its common object has
-- ECMA-262 SetFunctionName
abbrev pub template_of : Frame → PreludeFunction → Template
template_of frame d = built_template frame d.kind (name_at d.place) d.function

abbrev pub with_template : ℕ → Template → Intrinsics → Intrinsics
with_template place t i = record {
  objects = with_function place (length i.templates) (out-Template t).length i.objects;
  templates = i.templates ++ t ∷ [];
}

abbrev pub added : Frame → PreludeFunction → Intrinsics → Intrinsics
added frame d i = with_template d.place (template_of frame d) i

abbrev pub added_all : Frame → List PreludeFunction → Intrinsics → Intrinsics
added_all frame [] i = i
added_all frame (d ∷ ds) i = added_all frame ds (added frame d i)

-- the common objects before the text gives them their bodies
abbrev pub bodiless : Intrinsics
bodiless = record { objects = initial_objects; templates = [] }

abbrev pub is_in : ℕ → List ℕ → Bool
is_in p [] = false
is_in p (q ∷ qs) = if nat_eq q p then true else is_in p qs

abbrev pub is_met_at : Option TemplateKind → Bool → Bool
is_met_at None found = true
is_met_at (Some k) found = found

-- a common object to which a text gives a body is among these places
abbrev pub is_met : List ℕ → ℕ → Bool
is_met places p = is_met_at (kind_at p) (is_in p places)

abbrev pub all_met : List ℕ → ℕ → Bool
all_met places zero = true
all_met places (suc n) = is_met places n && all_met places n

abbrev pub places_of : List PreludeFunction → List ℕ
places_of ds = map (λ d. d.place) ds

-- the functions are those of all common objects that have a body
abbrev pub is_whole : List PreludeFunction → Bool
is_whole ds = all_met (places_of ds) count

abbrev pub intrinsics_by : Option (List PreludeFunction) → Option Intrinsics
intrinsics_by None = None
intrinsics_by (Some ds) = if is_whole ds then Some (added_all (frame_of ds) ds bodiless) else None

-- the intrinsics that the statements of a text make: each common object that has a body has that of its function. None where the text
-- declares anything else, or lacks one of them
-- ECMA-262 CreateIntrinsics
abbrev pub intrinsics_of : List Stmt → Option Intrinsics
intrinsics_of l = intrinsics_by (functions_in l)
