-- The manifests of a folder name packages, and what is read of them is what the application is.
use Rattle.std.proofs.Common.{◌≡◌, ℕ, ◌++◌, Bool, true, false, cond, List, [], ◌∷◌, Option, Some, None, is_some, Result, Ok, Err, refl, sym, ap, ◌∙◌, subst, arith}
use Rattle.std.specs.List.{list_all}
use Rattle.std.proofs.lemmas.Bool.{and_parts, and_from}
use Rattle.std.proofs.lemmas.Option.{cond_some, same_Some, option_and_then_some}
use Rattle.serde_json.specs.Data.{Data, Members}
use Rattle.serde_json.specs.Find.{get, as_object}
use Rattle.lava_streams.specs.Files.{Files}
use Rattle.lava_streams.specs.Folders.{file_read}
use Rattle.lava_streams.specs.declared.folder.FileRead.{FileRead}
use Rattle.lava_streams.specs.declared.folder.FileRead.TheVariants.{Bytes, Absent, Longer as TooLong}
use Rattle.pkg_graph.specs.PackageNames.{is_package_name}
use Rattle.pkg_graph.specs.Worlds.{World, standing_read, standing_of, world_of, manifest_path}
use Rattle.pkg_graph.specs.Manifests.{document, member_names, package_names, names_given, main_given, judged, judged_value, judged_document}
use Rattle.pkg_graph.specs.Reading.{own_standing, started, then_on, read_on}
use Rattle.pkg_graph.specs.Naming.{packages_when_done, read_from, graph_of}
use Rattle.pkg_graph.specs.Paths.{names_said}
use Rattle.pkg_graph.specs.Graphs.{IsCause}
use Rattle.pkg_graph.specs.Graphs.{IsGraphAnswer}
use Rattle.pkg_graph.specs.Faults.{Agrees}
use Rattle.pkg_graph.specs.declared.fault.GraphFault.{GraphFault}
use Rattle.pkg_graph.specs.declared.fault.GraphFault.TheVariants.{Manifest as ManifestFault, Folder, TooMany, OutOfMemory}
use Rattle.pkg_graph.specs.declared.graph.Package.{Package}
use Rattle.pkg_graph.specs.declared.limits.TheConstants.{PACKAGE_LIMIT}
use Rattle.pkg_graph.specs.declared.field.TheConstants.{MAIN, DEPENDENCIES, OPTIONAL_DEPENDENCIES, PEER_DEPENDENCIES}
use Rattle.pkg_graph.specs.declared.field.Field.TheVariants.{Whole}
use Rattle.pkg_graph.specs.declared.manifest.ManifestRead.{ManifestRead}
use Rattle.pkg_graph.specs.declared.manifest.ManifestRead.TheVariants.{Refused as Refuses}
use Rattle.pkg_graph.specs.declared.standing.TheConstants.{FILE_LIMIT}
use Rattle.pkg_graph.proofs.PathLemmas.{Lawful}
use Rattle.pkg_graph.proofs.OrderedLemmas.{passes_in_order}
use Rattle.pkg_graph.proofs.HeldLemmas.{Completes, Starts, all_packages, own_package}
use Rattle.pkg_graph.proofs.PartyLemmas.{is_graph}

-- THE NAMES OF A MANIFEST

abbrev AreNames : List (List ℕ) → Type 0
AreNames names = list_all is_package_name names ≡ true

members_named : (ms : Members) (names : List (List ℕ)) → package_names ms ≡ Some names → AreNames names
members_named ms names e =
    let parts = cond_some (list_all is_package_name (member_names ms)) (member_names ms) names e in
    ap (list_all is_package_name) (sym parts.1) ∙ parts.0

given_named : (o : Option Data) (names : List (List ℕ)) → names_given o ≡ Some names → AreNames names
given_named None names e = ap (list_all is_package_name) (sym (same_Some [] names e))
given_named (Some value) names e =
    option_and_then_some package_names (as_object value) names e (λ ms is named. members_named ms names named)

all-append : (p : List ℕ → Bool) (xs ys : List (List ℕ)) → list_all p xs ≡ true → list_all p ys ≡ true → list_all p (xs ++ ys) ≡ true
all-append p [] ys a b = b
all-append p (x ∷ xs) ys a b = let parts = and_parts (p x) (list_all p xs) a in and_from (p x) (list_all p (xs ++ ys)) parts.0 (all-append p xs ys parts.1 b)

abbrev SaysNames : ManifestRead → Type 0
SaysNames read = AreNames (names_said (standing_read read))

judged_named : (main : Option (List ℕ)) (needed optional peers : Option (List (List ℕ))) → ((l : List (List ℕ)) → needed ≡ Some l → AreNames l) → ((l : List (List ℕ)) → optional ≡ Some l → AreNames l) → ((l : List (List ℕ)) → peers ≡ Some l → AreNames l) → SaysNames (judged main needed optional peers)
judged_named None needed optional peers a b c = refl
judged_named (Some main) None optional peers a b c = refl
judged_named (Some main) (Some needed) None peers a b c = refl
judged_named (Some main) (Some needed) (Some optional) None a b c = refl
judged_named (Some main) (Some needed) (Some optional) (Some peers) a b c =
    passes_in_order is_package_name ((needed ++ optional) ++ peers)
    (all-append is_package_name (needed ++ optional) peers (all-append is_package_name needed optional (a needed refl) (b optional refl)) (c peers refl))

value_named : (value : Data) → SaysNames (judged_value value)
value_named value =
    judged_named (main_given (get MAIN.now value)) (names_given (get DEPENDENCIES.now value)) (names_given (get OPTIONAL_DEPENDENCIES.now value)) (names_given (get PEER_DEPENDENCIES.now value))
    (given_named (get DEPENDENCIES.now value)) (given_named (get OPTIONAL_DEPENDENCIES.now value)) (given_named (get PEER_DEPENDENCIES.now value))

document_named : (o : Option Data) → SaysNames (judged_document o)
document_named None = refl
document_named (Some value) =
    elim (is_some (as_object value)) as (λ b. SaysNames (cond b (judged_value value) (Refuses Whole))) [
      | true ↦ value_named value
      | false ↦ refl
    ]

standing_named : (read : FileRead) → AreNames (names_said (own_standing (standing_of read)))
standing_named Absent = refl
standing_named TooLong = refl
standing_named (Bytes bytes) = document_named (document bytes)

pub lawful : (files : Files) (root : List ℕ) → Lawful (world_of files root)
lawful files root dir = standing_named (file_read files (manifest_path root dir) FILE_LIMIT)

-- WHAT IS READ

causes : (world : World) (f : GraphFault) → IsCause world f → IsGraphAnswer world (Err f)
causes world (ManifestFault dir field) c = c
causes world Folder c = tt
causes world (TooMany what count) c = c
causes world OutOfMemory c = tt

pub graph_read : (world : World) → Lawful world → IsGraphAnswer world (graph_of world)
graph_read world law =
    elim (started (world [])) as (λ x. Starts world x → IsGraphAnswer world (then_on x (read_from world))) [
      | Err f ↦ λ c. causes world f c
      | Ok r ↦ λ h.
          let none = h.2 in
          elim (read_on world PACKAGE_LIMIT r) as (λ y. Completes world y → IsGraphAnswer world (then_on y packages_when_done)) [
            | Err f ↦ λ c. causes world f c
            | Ok s ↦ λ k. is_graph world s.0 k.0 law k.1 k.2
          ] (all_packages world PACKAGE_LIMIT r h.0 h.1 (omega (arith, none)))
    ] (own_package world)

-- an answer that agrees with what is read is right
pub answered : (files : Files) (root : List ℕ) (answer : Result (List Package) GraphFault) → Agrees (graph_of (world_of files root)) answer → IsGraphAnswer (world_of files root) answer
answered files root (Ok packages) agrees = subst (IsGraphAnswer (world_of files root)) agrees (graph_read (world_of files root) (lawful files root))
answered files root (Err (ManifestFault dir field)) agrees = subst (IsGraphAnswer (world_of files root)) agrees (graph_read (world_of files root) (lawful files root))
answered files root (Err Folder) agrees = tt
answered files root (Err (TooMany what count)) agrees = subst (IsGraphAnswer (world_of files root)) agrees (graph_read (world_of files root) (lawful files root))
answered files root (Err OutOfMemory) agrees = tt
