-- What the bytes of a module are read as.
use Rattle.std.specs.Prelude.{◌≡◌, ℕ, List, [], map, take, IsUtf8}
use Rattle.std.specs.Str.{IsValidUpTo}
use Rattle.js_fault.specs.declared.fault.SyntaxFault.{SyntaxFault}
use Rattle.js_fault.specs.declared.fault.SyntaxFault.TheVariants.{At, OutOfMemory}
use Rattle.js_fault.specs.declared.fault.SyntaxWhat.{SyntaxWhat}
use Rattle.js_fault.specs.declared.fault.SyntaxWhat.TheVariants.{NotUtf8}
use Rattle.js_lexer.specs.Sources.{end_place}
use Rattle.js_names.specs.Lists.{flat}
use Rattle.js_program.specs.Programs.{IsProgram, HasProgram, IsProgramFault}
use Rattle.js_reader.specs.Reading.{IsRefusal}
use Rattle.js_scope.specs.Resolutions.{resolved, request_in}
use Rattle.js_scope.specs.declared.finding.ModuleRequest.{ModuleRequest}
use Rattle.js_scope.specs.declared.resolve.Resolved.{Resolved}
use Rattle.js_text.specs.Texts.{utf8_of}
use Rattle.js_tree.specs.declared.tree.Module.{Module as Tree}
use Rattle.js_tree.specs.declared.tree.SourceKind.TheVariants.{Module as AsModule}
use Rattle.lava_base.specs.declared.place.Place.{Place}
use Rattle.pkg_load.specs.declared.reader.ModuleKind.{ModuleKind}
use Rattle.pkg_load.specs.declared.reader.ModuleKind.TheVariants.{Source, Json}
use Rattle.pkg_load.specs.declared.reader.ModuleRead.{ModuleRead}
use Rattle.pkg_load.specs.declared.reader.ModuleRead.TheVariants.{Module as Good, Refused}
use Rattle.pkg_source.specs.declared.code.ModuleCode.{ModuleCode}
use Rattle.pkg_source.specs.declared.code.ModuleCode.TheVariants as code

abbrev pub Read : Type 0
Read = ModuleRead ModuleCode

-- SOURCES

-- the text of a request as a name, in which a lone surrogate is U+FFFD
-- own: what a module requests
abbrev pub request_name : ModuleRequest → List ℕ
request_name r = utf8_of r.text

abbrev pub request_names : List ModuleRequest → List (List ℕ)
request_names rs = map request_name rs

-- the literal requests of a source, in the order of its text
abbrev pub requests_of : Resolved → List (List ℕ)
requests_of r = request_names (flat request_in r.findings)

-- the module that a source is
abbrev pub module_of : Resolved → Read
module_of r = Good (requests_of r) (code.Source r)

-- nothing is wrong with a source
abbrev pub IsFaultless : List ℕ → Type 0
IsFaultless bytes = (place : Place) (what : SyntaxWhat) → ¬ IsProgramFault AsModule bytes place what

-- no other fault is told of a source, but for another form that is left out at the same token
abbrev pub IsOnlyFault : List ℕ → Place → SyntaxWhat → Type 0
IsOnlyFault bytes place what = (other : Place) (w : SyntaxWhat) → IsProgramFault AsModule bytes other w → IsRefusal other w (At place what)

-- a source is the module of its program; what is no program is refused with its fault
-- ECMA-262 ParseModule
abbrev pub IsSourceRead : List ℕ → Read → Type 0
IsSourceRead bytes (Good requests c) =
    (tree : Tree) × IsProgram AsModule bytes tree × IsFaultless bytes × (requests ≡ requests_of (resolved tree)) × (c ≡ code.Source (resolved tree))
IsSourceRead bytes (Refused place what) = IsProgramFault AsModule bytes place what × (¬ HasProgram AsModule bytes) × IsOnlyFault bytes place what

-- what is told of a fault
abbrev pub IsRefusedBy : SyntaxFault → Read → Type 0
IsRefusedBy (At place what) r = r ≡ Refused place what
IsRefusedBy OutOfMemory r = ⊥

-- JSON

-- the place behind the characters in front of the first bytes that are no character
-- own: at which place a text of JSON is refused
abbrev pub IsBrokenPlace : List ℕ → Place → Type 0
IsBrokenPlace bytes place = (n : ℕ) × IsValidUpTo bytes n × (place ≡ end_place (take n bytes))

-- a text of JSON requests nothing, and is refused exactly where its bytes are not UTF-8: it is read as JSON when it is evaluated
-- own: which texts of JSON are modules
abbrev pub IsJsonRead : List ℕ → Read → Type 0
IsJsonRead bytes (Good requests c) = IsUtf8 bytes × (requests ≡ []) × (c ≡ code.Json)
IsJsonRead bytes (Refused place what) = (¬ IsUtf8 bytes) × IsBrokenPlace bytes place × (what ≡ NotUtf8)

-- BOTH

-- what bytes are read as, as a module of a kind
abbrev pub IsRead : ModuleKind → List ℕ → Read → Type 0
IsRead Source bytes r = IsSourceRead bytes r
IsRead Json bytes r = IsJsonRead bytes r
