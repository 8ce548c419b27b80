-- What the modules of a package need of a policy, one use after the other, and which rows cover a use.
use Rattle.std.specs.Prelude.{ℕ, nat_eq, Bool, true, false, ◌&&◌, ◌||◌, not, List, ◌++◌, filter_map, Option, Some, None, bytes_eq, if◌then◌else◌}
use Rattle.std.specs.List.{flat_map, list_any}
use Rattle.std.specs.Option.{option_map}
use Rattle.js_desc.specs.declared.start.Grant.{Grant}
use Rattle.js_desc.specs.declared.start.Grant.TheVariants.{Whole, Part, Live, LivePart}
use Rattle.js_scope.specs.declared.free_paths.FreePath.{FreePath}
use Rattle.pkg_graph.specs.declared.graph.Package.{Package}
use Rattle.pkg_load.specs.Applications.{Application as App}
use Rattle.pkg_load.specs.Requirements.{package_at}
use Rattle.pkg_load.specs.declared.module.LoadedModule.{LoadedModule}
use Rattle.pkg_source.specs.declared.code.ModuleCode.{ModuleCode}
use Rattle.policy_globals.specs.Hosts.{host_name, host_number, host_members, host_global, is_intrinsic}
use Rattle.policy_globals.specs.Keys.{first_name, second_name}
use Rattle.policy_globals.specs.Laws.{is_among}
use Rattle.policy_globals.specs.Starts.{Grants, start_for}
use Rattle.policy_globals.specs.declared.host.HostObject.{HostObject}
use Rattle.policy_globals.specs.declared.host.HostObject.TheVariants.{Fs}
use Rattle.policy_row.specs.Rows.{Rows, at_name, is_granted, is_write, may_reach}
use Rattle.policy_row.specs.declared.grade.Grade.{Grade}
use Rattle.policy_row.specs.declared.grade.Grade.TheVariants.{No, Yes, Write}
use Rattle.policy_row.specs.declared.row.Row.{Row}
use Rattle.policy_gen.specs.Imports.{import_of}
use Rattle.policy_gen.specs.Uses.{modules_of, paths_in, path_key, write_grade}
use Rattle.policy_gen.specs.declared.imports.Import.{Import}
use Rattle.policy_gen.specs.declared.imports.Import.TheVariants.{Builtin, Linked}

-- USES

-- A use: of a global, by its key and the grade that it wants; of the built-in module; or of a package, by its canonical name.
pub data Use : Type 0 where
  OfKey : (key : List ℕ) → Grade → Use
  OfBuiltin : Use
  OfPackage : (name : List ℕ) → Use

-- a free path is a use, unless its first name is an intrinsic's
-- LavaMoat policy generation
abbrev pub path_use : FreePath → Option Use
path_use p = if is_intrinsic (first_name (path_key p)) then None else Some (OfKey (path_key p) (write_grade p.write))

abbrev pub import_use : List Package → Import → Use
import_use packages Builtin = OfBuiltin
import_use packages (Linked to) = OfPackage (package_at packages to).name

-- a literal request is a use where it imports the built-in module or a linked package
-- LavaMoat policy generation
abbrev pub request_use : List Package → (owner : ℕ) → (request : List ℕ) → Option Use
request_use packages owner request = option_map (import_use packages) (import_of packages owner request)

abbrev pub path_uses : LoadedModule ModuleCode → List Use
path_uses m = filter_map path_use (paths_in m.code)

abbrev pub request_uses : List Package → (owner : ℕ) → LoadedModule ModuleCode → List Use
request_uses packages owner m = filter_map (request_use packages owner) m.requests

abbrev pub uses_in : List Package → (owner : ℕ) → LoadedModule ModuleCode → List Use
uses_in packages owner m = path_uses m ++ request_uses packages owner m

-- the uses of all reached modules of a package
abbrev pub uses_of : App ModuleCode → (owner : ℕ) → List Use
uses_of app owner = flat_map (uses_in app.packages owner) (modules_of app owner)

-- ROWS

-- an entry grants at least so much
abbrev pub grants : Grade → Option Grade → Bool
grants No entry = true
grants Yes entry = is_granted entry
grants Write None = false
grants Write (Some grade) = is_write grade

-- A row covers the use of a global if it grants its key, or the first name of that; and the use of the built-in module or of a package if it grants that.
-- own: a prefix of a path is its first name, or its first two
abbrev pub covers : Row → Use → Bool
covers row (OfKey key grade) = grants grade (at_name key row.globals) || grants grade (at_name (first_name key) row.globals)
covers row OfBuiltin = grants Yes (at_name (host_name Fs) row.builtin)
covers row (OfPackage name) = grants Yes (at_name name row.packages)

abbrev pub covered_by : Option Row → Use → Bool
covered_by None use_ = false
covered_by (Some row) use_ = covers row use_

-- the row of a package in a policy covers a use
abbrev pub is_covered : Rows → (name : List ℕ) → Use → Bool
is_covered rows name use_ = covered_by (at_name name rows) use_

-- STARTS

-- the host's object of a name has the member that a key names, if it names one; another name may have any
abbrev pub host_has : Option HostObject → (member : Option (List ℕ)) → Bool
host_has None member = true
host_has (Some object) None = true
host_has (Some object) (Some member) = is_among member (host_members object)

-- writing is granted where it is wanted
abbrev pub writes_enough : Grade → (write : Bool) → Bool
writes_enough No write = true
writes_enough Yes write = true
writes_enough Write write = write

-- An object of the host is given whole, or, where a member is named, with that member. The host's objects are frozen, so that no start gives leave to write to them.
abbrev pub gives_host : HostObject → (member : Option (List ℕ)) → Grant → Bool
gives_host object None (Whole number) = nat_eq number (host_number object)
gives_host object (Some member) (Whole number) = nat_eq number (host_number object)
gives_host object None (Part ms) = false
gives_host object (Some member) (Part ms) = is_among member ms
gives_host object member (Live write) = false
gives_host object member (LivePart ms) = false

-- a live global is given whole, or, where a member is named, with that member; and may be written where that is wanted
abbrev pub gives_live : Grade → (member : Option (List ℕ)) → Grant → Bool
gives_live grade member (Whole number) = false
gives_live grade member (Part ms) = false
gives_live grade member (Live write) = writes_enough grade write
gives_live grade None (LivePart ms) = false
gives_live grade (Some member) (LivePart ms) = list_any (λ m. bytes_eq member m.0 && writes_enough grade m.1) ms

abbrev pub gives_key : Grade → Option HostObject → (member : Option (List ℕ)) → Grant → Bool
gives_key grade None member grant = gives_live grade member grant
gives_key grade (Some object) member grant = gives_host object member grant

-- grants by name give what a key names
abbrev pub give_key : Grade → (key : List ℕ) → Grants → Bool
give_key grade key grants =
    list_any (λ g. bytes_eq (first_name key) g.0 && gives_key grade (host_global (first_name key)) (second_name key) g.1) grants

-- A package starts with what a use is of: with the global or the member of it, where the host has that; with the whole of the built-in module; and with leave to import the package.
-- LavaMoat policy
abbrev pub is_given : Rows → (name : List ℕ) → Use → Bool
is_given rows name (OfKey key grade) =
    not (host_has (host_global (first_name key)) (second_name key)) || give_key grade key (start_for (at_name name rows) false).globals
is_given rows name OfBuiltin =
    list_any (λ g. bytes_eq (host_name Fs) g.0 && gives_host Fs None g.1) (start_for (at_name name rows) false).builtins
is_given rows name (OfPackage linked) = may_reach rows name linked
