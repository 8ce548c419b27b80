-- What the literal requests of a package's modules import, as far as a policy decides it.
use Rattle.std.specs.Prelude.{ℕ, List, [], fold, Option, Some, None}
use Rattle.std.specs.Option.{option_map}
use Rattle.pkg_graph.specs.declared.graph.Package.{Package}
use Rattle.pkg_load.specs.Applications.{Application as App}
use Rattle.pkg_load.specs.Requests.{request_kind, package_request}
use Rattle.pkg_load.specs.Requirements.{package_at, linked_to}
use Rattle.pkg_load.specs.declared.request.RequestKind.{RequestKind}
use Rattle.pkg_load.specs.declared.request.RequestKind.TheVariants.{Relative, Builtin as OfBuiltin, Package as OfPackage}
use Rattle.pkg_load.specs.declared.requirement.Lookup.{Lookup}
use Rattle.pkg_source.specs.declared.code.ModuleCode.{ModuleCode}
use Rattle.policy_row.specs.Rows.{with_entry}
use Rattle.policy_gen.specs.Uses.{modules_of}
use Rattle.policy_gen.specs.declared.imports.Import.{Import}
use Rattle.policy_gen.specs.declared.imports.Import.TheVariants.{Builtin, Linked}

-- imports by the texts of their requests
abbrev pub Imports : Type 0
Imports = List (List ℕ × Import)

-- the package to which the link of a request leads, if it has one
abbrev pub linked_import : List Package → (owner : ℕ) → (request : List ℕ) → Option Import
linked_import packages owner request = option_map Linked (linked_to (package_at packages owner).links (package_request request).link)

abbrev pub import_of_kind : List Package → (owner : ℕ) → (request : List ℕ) → RequestKind → Option Import
import_of_kind packages owner request Relative = None
import_of_kind packages owner request OfBuiltin = Some Builtin
import_of_kind packages owner request OfPackage = linked_import packages owner request

-- What a request of a package imports that a policy decides: the built-in module, or a package that is linked. A path imports nothing of another package.
-- LavaMoat policy generation
abbrev pub import_of : List Package → (owner : ℕ) → (request : List ℕ) → Option Import
import_of packages owner request = import_of_kind packages owner request (request_kind request)

abbrev pub with_import : Imports → (request : List ℕ) → Option Import → Imports
with_import imports request None = imports
with_import imports request (Some import) = with_entry imports request import

abbrev pub with_request : List Package → (owner : ℕ) → Imports → (request : List ℕ) → Imports
with_request packages owner imports request = with_import imports request (import_of packages owner request)

abbrev pub with_requests : List Package → (owner : ℕ) → Imports → List (List ℕ) → Imports
with_requests packages owner imports requests = fold (with_request packages owner) imports requests

-- the literal requests of a package's modules that a policy decides, in byte order, each with what it imports
-- LavaMoat policy generation
abbrev pub imports_of : App ModuleCode → (owner : ℕ) → Imports
imports_of app owner = fold (λ imports m. with_requests app.packages owner imports m.requests) [] (modules_of app owner)

-- the package to which a look-up leads
abbrev pub looked_up : Option Lookup → Option Import
looked_up None = None
looked_up (Some lookup) = Some (Linked lookup.owner)
