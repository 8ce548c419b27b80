-- What a generated policy grants, and what a policy denies, in the words of policies.
use Rattle.std.specs.Prelude.{◌≡◌, ◌<◌, ℕ, Bool, true, false, ◌&&◌, ◌||◌, not, List, [], ◌∷◌, map, length, Option, Some, None, is_some, bytes_eq, if◌then◌else◌}
use Rattle.std.specs.List.{list_all, list_any, range_with_len}
use Rattle.std.specs.Ordering.{is_lt}
use Rattle.pkg_graph.specs.Graphs.{IsGraph}
use Rattle.pkg_graph.specs.Worlds.{World}
use Rattle.pkg_graph.specs.declared.graph.Package.{Package}
use Rattle.pkg_load.specs.Applications.{Application as App}
use Rattle.pkg_load.specs.Requirements.{package_at}
use Rattle.pkg_load.specs.declared.module.LoadedModule.{LoadedModule}
use Rattle.pkg_source.specs.declared.code.ModuleCode.{ModuleCode}
use Rattle.policy_globals.specs.Hosts.{host_name}
use Rattle.policy_globals.specs.Keys.{first_name}
use Rattle.policy_globals.specs.declared.host.HostObject.TheVariants.{Fs}
use Rattle.policy_row.specs.Laws.{entries_of_kind, entry_at, is_policy}
use Rattle.policy_row.specs.Rows.{Rows, order_of_names, are_in_order, at_name, root_name}
use Rattle.policy_row.specs.Writing.{IsPolicy}
use Rattle.policy_row.specs.declared.fault.PolicyFile.{PolicyFile}
use Rattle.policy_row.specs.declared.grade.Grade.{Grade}
use Rattle.policy_row.specs.declared.grade.Grade.TheVariants.{No, Yes, Write}
use Rattle.policy_row.specs.declared.grade.Kind.{Kind}
use Rattle.policy_row.specs.declared.grade.Kind.TheVariants.{Builtin, Globals, Packages}
use Rattle.policy_row.specs.declared.row.Row.{Row}
use Rattle.policy_gen.specs.Denials.{denies, denied_in}
use Rattle.policy_gen.specs.Generated.{generated, other_places}
use Rattle.policy_gen.specs.Imports.{import_of}
use Rattle.policy_gen.specs.Needs.{Use, OfKey, OfBuiltin, OfPackage, uses_of, grants, covers, is_covered, is_given}
use Rattle.policy_gen.specs.Uses.{modules_of, write_grade}
use Rattle.policy_gen.specs.declared.denial.Denied.{Denied}
use Rattle.policy_gen.specs.declared.imports.Import.{Import}

-- PACKAGES

-- The packages of an application: in byte order of their names, without repeats, the application's own first.
pub record AreNamedInOrder (packages : List Package) : Type 0 where
  pub own : (package_at packages 0).name ≡ root_name
  pub order : are_in_order (map (λ (p : Package). p.name) packages) ≡ true

-- So are those of each folder that is read.
abbrev pub Graphs_are_named_in_order : Type 0
Graphs_are_named_in_order = (world : World) (packages : List Package) → IsGraph world packages → AreNamedInOrder packages

-- the name of the package at a place
abbrev pub owner_name : App ModuleCode → (owner : ℕ) → List ℕ
owner_name app owner = (package_at app.packages owner).name

-- a package of the application, but not its own
pub record IsOther (packages : List Package) (owner : ℕ) : Type 0 where
  pub other : 0 < owner
  pub there : owner < length packages

-- THE POLICY IS EXACT

abbrev pub uses_key : (key : List ℕ) → Use → Bool
uses_key key (OfKey used grade) = bytes_eq key used
uses_key key OfBuiltin = false
uses_key key (OfPackage name) = false

-- a key is this one, or a longer one that begins with its name
abbrev pub begins_with : (key : List ℕ) → (used : List ℕ) → Bool
begins_with key used = bytes_eq key used || bytes_eq key (first_name used)

abbrev pub is_assignment : Grade → Bool
is_assignment No = false
is_assignment Yes = false
is_assignment Write = true

abbrev pub assigns_below : (key : List ℕ) → Use → Bool
assigns_below key (OfKey used grade) = is_assignment grade && begins_with key used
assigns_below key OfBuiltin = false
assigns_below key (OfPackage name) = false

abbrev pub uses_builtin : Use → Bool
uses_builtin (OfKey used grade) = false
uses_builtin OfBuiltin = true
uses_builtin (OfPackage name) = false

abbrev pub uses_package : (name : List ℕ) → Use → Bool
uses_package name (OfKey used grade) = false
uses_package name OfBuiltin = false
uses_package name (OfPackage used) = bytes_eq name used

-- a proper prefix of the key is used itself
abbrev pub has_used_prefix : List Use → (key : List ℕ) → Bool
has_used_prefix uses key = list_any (uses_key (first_name key)) uses && not (bytes_eq (first_name key) key)

-- A key stands in a row exactly where it is used and no proper prefix of it is. It grants writing exactly where a path that begins with it is assigned.
abbrev pub exact_key : List Use → (key : List ℕ) → Option Grade
exact_key uses key =
    if list_any (uses_key key) uses && not (has_used_prefix uses key) then Some (write_grade (list_any (assigns_below key) uses)) else None

-- The built-in module stands in a row exactly where it is requested, and no member of it does.
abbrev pub exact_builtin : List Use → (key : List ℕ) → Option Grade
exact_builtin uses key = if bytes_eq key (host_name Fs) && list_any uses_builtin uses then Some Yes else None

-- A package stands in a row exactly where a link to it is requested.
abbrev pub exact_package : List Use → (name : List ℕ) → Option Grade
exact_package uses name = if list_any (uses_package name) uses then Some Yes else None

abbrev pub exact_entry : List Use → Kind → (key : List ℕ) → Option Grade
exact_entry uses Globals key = exact_key uses key
exact_entry uses Builtin key = exact_builtin uses key
exact_entry uses Packages key = exact_package uses key

-- What the policy says of a package, at each key of each kind, is exactly what its uses show.
abbrev pub Entries_are_exact : Type 0
Entries_are_exact =
    (app : App ModuleCode) (owner : ℕ) (kind : Kind) (key : List ℕ) → AreNamedInOrder app.packages → IsOther app.packages owner
    → entry_at (generated app) (owner_name app owner) kind key ≡ exact_entry (uses_of app owner) kind key

-- It has a row for each package but the application's own, also for one that uses nothing, and no other row.
abbrev pub Rows_are_exact : Type 0
Rows_are_exact =
    (app : App ModuleCode) (name : List ℕ)
    → is_some (at_name name (generated app)) ≡ list_any (λ owner. bytes_eq name (owner_name app owner)) (other_places app.packages)

abbrev pub No_row_of_its_own : Type 0
No_row_of_its_own = (app : App ModuleCode) → AreNamedInOrder app.packages → at_name root_name (generated app) ≡ None

-- IT COVERS

-- The row of a package covers each use of its modules.
abbrev pub Each_use_is_covered : Type 0
Each_use_is_covered =
    (app : App ModuleCode) (owner : ℕ) → AreNamedInOrder app.packages → IsOther app.packages owner
    → list_all (is_covered (generated app) (owner_name app owner)) (uses_of app owner) ≡ true

-- So the package starts with all that its uses are of, as far as the host has it.
abbrev pub Each_use_is_given : Type 0
Each_use_is_given =
    (app : App ModuleCode) (owner : ℕ) → AreNamedInOrder app.packages → IsOther app.packages owner
    → list_all (is_given (generated app) (owner_name app owner)) (uses_of app owner) ≡ true

-- IT IS LEAST

-- an entry grants no more than another one
abbrev pub grants_no_more : (entry other : Option Grade) → Bool
grants_no_more None other = true
grants_no_more (Some grade) other = grants grade other

-- a row grants no more than another one at any key
abbrev pub GrantsNoMore : (row other : Row) → Type 0
GrantsNoMore row other =
    (kind : Kind) (key : List ℕ) → grants_no_more (at_name key (entries_of_kind kind row)) (at_name key (entries_of_kind kind other)) ≡ true

-- A row that grants no more than that of the policy, and at some key less, leaves a use uncovered: so does one that has an entry fewer, and one that lowers an entry.
abbrev pub No_less_covers : Type 0
No_less_covers =
    (app : App ModuleCode) (owner : ℕ) (row less : Row) → AreNamedInOrder app.packages → IsOther app.packages owner
    → at_name (owner_name app owner) (generated app) ≡ Some row → GrantsNoMore less row
    → (kind : Kind) (key : List ℕ) → grants_no_more (at_name key (entries_of_kind kind row)) (at_name key (entries_of_kind kind less)) ≡ false
    → list_all (covers less) (uses_of app owner) ≡ false

-- IT IS A POLICY

-- Rows stand in byte order without repeats, and so do the entries of each.
abbrev pub It_is_a_policy : Type 0
It_is_a_policy = (app : App ModuleCode) → is_policy (generated app) ≡ true

-- A file that is this policy is read as it, and as no other one.
abbrev pub Its_text_is_read_as_it : Type 0
Its_text_is_read_as_it =
    (app : App ModuleCode) (file : PolicyFile) (bytes : List ℕ) (rows : Rows) → IsPolicy file bytes (generated app) → IsPolicy file bytes rows
    → rows ≡ generated app

-- DENIALS

abbrev pub is_denial : (name request : List ℕ) → Denied → Bool
is_denial name request d = bytes_eq name d.package && bytes_eq request d.request

-- a reached module of a package has a literal request
abbrev pub requests_it : App ModuleCode → (owner : ℕ) → (request : List ℕ) → Bool
requests_it app owner request = list_any (λ (m : LoadedModule ModuleCode). list_any (bytes_eq request) m.requests) (modules_of app owner)

abbrev pub denies_import : List Package → Rows → (owner : ℕ) → Option Import → Bool
denies_import packages rows owner None = false
denies_import packages rows owner (Some import) = denies packages rows owner import

abbrev pub is_denied : App ModuleCode → Rows → (name request : List ℕ) → (owner : ℕ) → Bool
is_denied app rows name request owner =
    bytes_eq name (owner_name app owner) && (requests_it app owner request && denies_import app.packages rows owner (import_of app.packages owner request))

-- A package and a request are listed exactly where a reached module of the package has the literal request, and the policy denies what that imports.
abbrev pub Denials_are_exact : Type 0
Denials_are_exact =
    (app : App ModuleCode) (rows : Rows) (name request : List ℕ)
    → list_any (is_denial name request) (denied_in app rows) ≡ list_any (is_denied app rows name request) (range_with_len 0 (length app.packages))

abbrev pub is_before : (d other : Denied) → Bool
is_before d other =
    is_lt (order_of_names d.package other.package) || (bytes_eq d.package other.package && is_lt (order_of_names d.request other.request))

abbrev pub are_each_before : List Denied → Bool
are_each_before [] = true
are_each_before (d ∷ ds) = list_all (is_before d) ds && are_each_before ds

-- They are listed by package, then request, in byte order, each once.
abbrev pub Denials_are_in_order : Type 0
Denials_are_in_order = (app : App ModuleCode) (rows : Rows) → AreNamedInOrder app.packages → are_each_before (denied_in app rows) ≡ true

-- The policy that the sources show denies them nothing.
abbrev pub Nothing_is_denied : Type 0
Nothing_is_denied = (app : App ModuleCode) → AreNamedInOrder app.packages → denied_in app (generated app) ≡ []
