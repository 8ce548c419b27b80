-- What a manifest says. A text is the list of its bytes.
use Rattle.std.specs.Prelude.{ℕ, ◌++◌, List, [], ◌∷◌, Option, Some, None, option_and_then, is_some, if◌then◌else◌}
use Rattle.std.specs.List.{list_all}
use Rattle.std.specs.Str.{is_utf8}
use Rattle.serde_json.specs.Data.{Data, Members, no_members, member}
use Rattle.serde_json.specs.Read.{read}
use Rattle.serde_json.specs.Find.{get, as_object, as_str}
use Rattle.lava_streams.specs.Files.{in_order}
use Rattle.pkg_graph.specs.PackageNames.{is_package_name}
use Rattle.pkg_graph.specs.declared.field.TheConstants.{MAIN, DEPENDENCIES, OPTIONAL_DEPENDENCIES, PEER_DEPENDENCIES}
use Rattle.pkg_graph.specs.declared.field.Field.{Field}
use Rattle.pkg_graph.specs.declared.field.Field.TheVariants.{Whole, Main, Dependencies, OptionalDependencies, PeerDependencies}
use Rattle.pkg_graph.specs.declared.manifest.TheConstants.{DEFAULT_MAIN}
use Rattle.pkg_graph.specs.declared.manifest.ManifestRead.{ManifestRead}
use Rattle.pkg_graph.specs.declared.manifest.ManifestRead.TheVariants.{Manifest as Good, Refused}

-- the name of a field, which is empty for the manifest itself
abbrev pub field_text : Field → List ℕ
field_text Whole = []
field_text Main = MAIN.now
field_text Dependencies = DEPENDENCIES.now
field_text OptionalDependencies = OPTIONAL_DEPENDENCIES.now
field_text PeerDependencies = PEER_DEPENDENCIES.now

-- the JSON value that bytes are, as `serde_json` reads them
abbrev pub document : List ℕ → Option Data
document bytes = if is_utf8 bytes then read bytes else None

-- the keys of an object, in order
abbrev pub member_names : Members → List (List ℕ)
member_names no_members = []
member_names (member key value rest) = key ∷ member_names rest

-- the keys of an object, where all of them are names of packages
abbrev pub package_names : Members → Option (List (List ℕ))
package_names ms = if list_all is_package_name (member_names ms) then Some (member_names ms) else None

-- the names that a field gives: none where it is missing; it must be an object whose keys are names
-- LavaMoat policy, dependencies of a package
abbrev pub names_given : Option Data → Option (List (List ℕ))
names_given None = Some []
names_given (Some value) = option_and_then package_names (as_object value)

-- the path that `main` gives; it must be a string
abbrev pub main_given : Option Data → Option (List ℕ)
main_given None = Some DEFAULT_MAIN.now
main_given (Some value) = as_str value

-- the fields in the order in which they are looked at; the first that has not its form is told
abbrev pub judged : Option (List ℕ) → (needed optional peers : Option (List (List ℕ))) → ManifestRead
judged None needed optional peers = Refused Main
judged (Some main) None optional peers = Refused Dependencies
judged (Some main) (Some needed) None peers = Refused OptionalDependencies
judged (Some main) (Some needed) (Some optional) None = Refused PeerDependencies
judged (Some main) (Some needed) (Some optional) (Some peers) =
    Good (record { main = main; names = in_order ((needed ++ optional) ++ peers) })

abbrev pub judged_value : Data → ManifestRead
judged_value value =
    judged (main_given (get MAIN.now value)) (names_given (get DEPENDENCIES.now value)) (names_given (get OPTIONAL_DEPENDENCIES.now value)) (names_given (get PEER_DEPENDENCIES.now value))

-- a manifest is an object
abbrev pub judged_document : Option Data → ManifestRead
judged_document None = Refused Whole
judged_document (Some value) = if is_some (as_object value) then judged_value value else Refused Whole

-- What the bytes of a manifest give: its `main` and the names of its dependencies, in byte order and each once, or the first field that has not the form that is asked of it.
-- LavaMoat policy, dependencies of a package
abbrev pub manifest_read : List ℕ → ManifestRead
manifest_read bytes = judged_document (document bytes)
