-- The packages that are read of a folder: their links lead to packages that are there, under names that manifests may say.
use Rattle.std.proofs.Common.{◌≡◌, ◌<◌, ℕ, suc, Bool, true, List, [], ◌∷◌, ◌++◌, length, map, Option, Some, None, refl, ◌∙◌, sym, subst, ⊎_elim, arith, if◌then◌else◌}
use Rattle.std.proofs.lemmas.Bool.{and_from, and_parts, cases_Bool}
use Rattle.std.proofs.lemmas.List.Folds.{list_all-append}
use Rattle.std.specs.List.{All, AllByRecursion, cons_option, list_all}
use Rattle.std.specs.Ordering.{match_ordering, nat_cmp}
use Rattle.std.specs.Cmp.Lexicographic.{slice_cmp}
use Rattle.std.specs.declared.cmp.Ordering.{Ordering}
use Rattle.std.specs.declared.cmp.Ordering.TheVariants.{Less, Equal, Greater}
use Rattle.std.specs.Prelude.{filter_map, fold, option_and_then, option_map, is_some}
use Rattle.serde_json.specs.Data.{Data, Members}
use Rattle.serde_json.specs.Find.{as_object, get}
use Rattle.lava_streams.specs.Files.{Files, with_name}
use Rattle.lava_streams.specs.Folders.{file_read}
use Rattle.lava_streams.specs.declared.folder.FileRead.{FileRead}
use Rattle.lava_streams.specs.declared.folder.FileRead.TheVariants.{Absent, Bytes, Longer}
use Rattle.pkg_graph.specs.Graphs.{IsPackage, told_link}
use Rattle.pkg_graph.specs.Manifests.{document, judged, judged_document, judged_value, main_given, member_names, names_given, package_names}
use Rattle.pkg_graph.specs.PackageNames.{is_package_name}
use Rattle.pkg_graph.specs.Paths.{found_dependency, led_to, names_at, names_said}
use Rattle.pkg_graph.specs.Reading.{own_standing}
use Rattle.pkg_graph.specs.Worlds.{World, manifest_path, standing_of, standing_read, world_of}
use Rattle.pkg_graph.specs.declared.field.Field.TheVariants.{Whole}
use Rattle.pkg_graph.specs.declared.field.TheConstants.{MAIN, DEPENDENCIES, OPTIONAL_DEPENDENCIES, PEER_DEPENDENCIES}
use Rattle.pkg_graph.specs.declared.graph.Package.{Package}
use Rattle.pkg_graph.specs.declared.link.Link.{Link}
use Rattle.pkg_graph.specs.declared.manifest.ManifestRead.TheVariants.{Refused}
use Rattle.pkg_graph.specs.declared.standing.TheConstants.{FILE_LIMIT}
use Rattle.policy_gen.specs.Laws.{Graphs_are_named_in_order}
use Rattle.lava_granted.specs.ReadPackages.{Graphs_are_read, HasReadLinks, IsReadLink}

-- NAMES

abbrev are_names : List (List ℕ) → Bool
are_names names = list_all is_package_name names

name_put : (other name : List ℕ) (names more : List (List ℕ)) → are_names (other ∷ names) ≡ true → is_package_name name ≡ true → are_names more ≡ true
    → (o : Ordering) → are_names (match_ordering o (name ∷ other ∷ names) (other ∷ names) (other ∷ more)) ≡ true
name_put other name names more h e k Less = and_from (is_package_name name) (are_names (other ∷ names)) e h
name_put other name names more h e k Equal = h
name_put other name names more h e k Greater = and_from (is_package_name other) (are_names more) (and_parts (is_package_name other) (are_names names) h).0 k

name_in : (names : List (List ℕ)) (name : List ℕ) → are_names names ≡ true → is_package_name name ≡ true → are_names (with_name names name) ≡ true
name_in [] name h e = and_from (is_package_name name) true e refl
name_in (other ∷ names) name h e =
    name_put other name names (with_name names name) h e (name_in names name (and_parts (is_package_name other) (are_names names) h).1 e) (slice_cmp nat_cmp name other)

names_in : (begun names : List (List ℕ)) → are_names begun ≡ true → are_names names ≡ true → are_names (fold with_name begun names) ≡ true
names_in begun [] h k = h
names_in begun (name ∷ names) h k =
    let both = and_parts (is_package_name name) (are_names names) k in names_in (with_name begun name) names (name_in begun name h both.0) both.1

-- MANIFESTS

abbrev IfNames : Option (List (List ℕ)) → Type 0
IfNames None = Unit {0}
IfNames (Some names) = are_names names ≡ true

names_of_members : (ms : Members) → IfNames (package_names ms)
names_of_members ms =
    let given : Bool → Option (List (List ℕ)) = λ b. if b then Some (member_names ms) else None in
    ⊎_elim (λ e. subst (λ b. IfNames (given b)) (sym e) e) (λ e. subst (λ b. IfNames (given b)) (sym e) tt) (cases_Bool (are_names (member_names ms)))

names_of_object : (o : Option Members) → IfNames (option_and_then package_names o)
names_of_object None = tt
names_of_object (Some ms) = names_of_members ms

names_of_field : (o : Option Data) → IfNames (names_given o)
names_of_field None = refl
names_of_field (Some value) = names_of_object (as_object value)

judged_names : (main : Option (List ℕ)) (needed optional peers : Option (List (List ℕ))) → IfNames needed → IfNames optional → IfNames peers
    → are_names (names_said (standing_read (judged main needed optional peers))) ≡ true
judged_names None a b c h k m = refl
judged_names (Some main) None b c h k m = refl
judged_names (Some main) (Some a) None c h k m = refl
judged_names (Some main) (Some a) (Some b) None h k m = refl
judged_names (Some main) (Some a) (Some b) (Some c) h k m =
    let two = list_all-append is_package_name a b ∙ and_from (are_names a) (are_names b) h k in
    names_in [] ((a ++ b) ++ c) refl (list_all-append is_package_name (a ++ b) c ∙ and_from (are_names (a ++ b)) (are_names c) two m)

value_names : (value : Data) → are_names (names_said (standing_read (judged_value value))) ≡ true
value_names value =
    judged_names (main_given (get MAIN.now value)) (names_given (get DEPENDENCIES.now value)) (names_given (get OPTIONAL_DEPENDENCIES.now value)) (names_given (get PEER_DEPENDENCIES.now value))
    (names_of_field (get DEPENDENCIES.now value)) (names_of_field (get OPTIONAL_DEPENDENCIES.now value)) (names_of_field (get PEER_DEPENDENCIES.now value))

document_names : (o : Option Data) → are_names (names_said (standing_read (judged_document o))) ≡ true
document_names None = refl
document_names (Some value) =
    let told : Bool → Type 0 = λ b. are_names (names_said (standing_read (if b then judged_value value else Refused Whole))) ≡ true in
    ⊎_elim (λ e. subst told (sym e) (value_names value)) (λ e. subst told (sym e) refl) (cases_Bool (is_some (as_object value)))

read_names : (r : FileRead) → are_names (names_said (own_standing (standing_of r))) ≡ true
read_names Absent = refl
read_names Longer = refl
read_names (Bytes bytes) = document_names (document bytes)

world_names : (files : Files) (root dir : List ℕ) → are_names (names_at (world_of files root) dir) ≡ true
world_names files root dir = read_names (file_read files (manifest_path root dir) FILE_LIMIT)

-- LINKS

abbrev IsNamedEntry : List ℕ × List ℕ → Type 0
IsNamedEntry e = is_package_name e.0 ≡ true

found_names : (world : World) (dir : List ℕ) (names : List (List ℕ)) → are_names names ≡ true → AllByRecursion IsNamedEntry (filter_map (found_dependency world dir) names)
found_names world dir [] h = tt
found_names world dir (name ∷ names) h =
    let both = and_parts (is_package_name name) (are_names names) h in
    one name (led_to world dir name) (filter_map (found_dependency world dir) names) both.0 (found_names world dir names both.1)
  where
    one : (name : List ℕ) (o : Option (List ℕ)) (es : List (List ℕ × List ℕ)) → is_package_name name ≡ true → AllByRecursion IsNamedEntry es → AllByRecursion IsNamedEntry (cons_option (option_map (λ to. (name, to)) o) es)
    one name None es e h = h
    one name (Some to) es e h = (e, h)

each_link : (packages : List Package) (ls : List Link) (n : ℕ) → All (λ (l : Link). l.target < n) ls → AllByRecursion IsNamedEntry (map (told_link packages) ls) → AllByRecursion (IsReadLink n) ls
each_link packages [] n h k = tt
each_link packages (l ∷ ls) n h k =
    (record { there = h 0 l (omega arith); name = k.0 }, each_link packages ls n (λ i d lt. h (suc i) d (omega (arith, lt))) k.1)

package_links : (files : Files) (root : List ℕ) (packages : List Package) (p : Package) → IsPackage (world_of files root) packages p → HasReadLinks (length packages) p
package_links files root packages p h =
    let named = found_names (world_of files root) p.dir (names_at (world_of files root) p.dir) (world_names files root p.dir) in
    each_link packages p.links (length packages) h.within (subst (AllByRecursion IsNamedEntry) (sym h.links) named)

all_links : (files : Files) (root : List ℕ) (packages ps : List Package) → All (IsPackage (world_of files root) packages) ps → AllByRecursion (HasReadLinks (length packages)) ps
all_links files root packages [] h = tt
all_links files root packages (p ∷ ps) h =
    (package_links files root packages p (h 0 p (omega arith)), all_links files root packages ps (λ k d lt. h (suc k) d (omega (arith, lt))))

pub graphs_are_read : Graphs_are_named_in_order → Graphs_are_read
graphs_are_read ordered files root packages g =
    record { names = ordered (world_of files root) packages g; links = all_links files root packages packages g.each }
