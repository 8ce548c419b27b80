-- The links of packages that were read lead on.
use Rattle.std.proofs.Common.{◌≡◌, ◌≢◌, ℕ, zero, suc, ◌+◌, ◌<◌, ◌≤◌, Bool, true, false, List, [], ◌∷◌, length, map, get_or, Option, Some, None, refl, ap, ◌∙◌, sym, subst, ⊎_elim, arith, if◌then◌else◌}
use Rattle.std.proofs.lemmas.Bool.{cases_Bool, true≢false}
use Rattle.std.proofs.lemmas.Slice.Eq.{bytes_eq-Decides}
use Rattle.std.specs.List.{All, AllByRecursion}
use Rattle.std.specs.Prelude.{bytes_eq, filter_map, option_map, ⊤}
use Rattle.std.specs.List.{cons_option}
use Rattle.lava_packages.specs.Packages.{link_of, parts_from, run_parts}
use Rattle.lava_packages.specs.declared.common.CommonPart.{CommonPart}
use Rattle.lava_packages.specs.lava_start.Applications.{PackageParts, PartyLink}
use Rattle.lava_packages.specs.pkg_source.declared.code.ModuleCode.{ModuleCode}
use Rattle.pkg_graph.specs.Graphs.{IsGraph, IsPackage, dirs_of, told_link}
use Rattle.pkg_graph.specs.Paths.{another, found_dependency, names_at, package_under}
use Rattle.pkg_graph.specs.Worlds.{World, directories_above}
use Rattle.pkg_graph.specs.declared.graph.Package.{Package}
use Rattle.pkg_graph.specs.declared.link.Link.{Link}
use Rattle.pkg_load.specs.declared.module.LoadedModule.{LoadedModule}
use Rattle.policy_row.specs.Rows.{Rows}
use Rattle.lava_connected.specs.Links.{AllLeadOn, AreLinked, LeadsOn}

-- LISTS

each_of : {X : Type 0} (P : X → Type 0) (xs : List X) → All P xs → AllByRecursion P xs
each_of P [] h = tt
each_of P (x ∷ xs) h = (h 0 x (omega arith), each_of P xs (λ k d lt. h (suc k) d (omega (arith, lt))))

each_behind : {X Y : Type 0} (f : X → Y) (P : Y → Type 0) (xs : List X) → AllByRecursion P (map f xs) → AllByRecursion (λ x. P (f x)) xs
each_behind f P [] h = tt
each_behind f P (x ∷ xs) h = (h.0, each_behind f P xs h.1)

-- DEPENDENCIES

-- what a dependency leads to is another package
abbrev Other : List ℕ → List ℕ × List ℕ → Type 0
Other dir e = e.1 ≢ dir

one_other : (dir name : List ℕ) (o : Option (List ℕ)) (names : List (List ℕ)) (f : List ℕ → Option (List ℕ × List ℕ)) → f name ≡ option_map (λ to. (name, to)) (another dir o)
    → AllByRecursion (Other dir) (filter_map f names) → AllByRecursion (Other dir) (filter_map f (name ∷ names))
one_other dir name None names f is h = subst (λ z. AllByRecursion (Other dir) (cons_option z (filter_map f names))) (sym is) h
one_other dir name (Some found) names f is h =
    let more : Option (List ℕ × List ℕ) → Type 0 = λ z. AllByRecursion (Other dir) (cons_option z (filter_map f names)) in
    let by : Bool → Option (List ℕ × List ℕ) = λ b. option_map (λ to. (name, to)) (if b then None else Some found) in
    ⊎_elim
    (λ e. subst more (sym (is ∙ ap by e)) h)
    (λ e. subst more (sym (is ∙ ap by e)) ((λ k. true≢false (sym ((bytes_eq-Decides found dir).1 k) ∙ e)), h))
    (cases_Bool (bytes_eq found dir))

all_others : (world : World) (dir : List ℕ) (names : List (List ℕ)) → AllByRecursion (Other dir) (filter_map (found_dependency world dir) names)
all_others world dir [] = tt
all_others world dir (name ∷ names) = one_other dir name (package_under world (directories_above dir) name) names (found_dependency world dir) refl (all_others world dir names)

-- PLACES

module _ (world : World) (all : List Package) where
  -- packages at their places, from one on
  abbrev AtPlaces : ℕ → List Package → Type 0
  AtPlaces i [] = ⊤
  AtPlaces i (p ∷ ps) = IsPackage world all p × (get_or (dirs_of all) i [] ≡ p.dir) × AtPlaces (suc i) ps

  at_places : (i : ℕ) (ps : List Package) → All (IsPackage world all) ps → ((k : ℕ) → k < length ps → get_or (dirs_of all) (k + i) [] ≡ get_or (dirs_of ps) k []) → AtPlaces i ps
  at_places i [] h dirs = tt
  at_places i (p ∷ ps) h dirs =
      let here : (zero + i) ≡ i = omega arith in (
        h 0 p (omega arith),
        subst (λ (n : ℕ). get_or (dirs_of all) n [] ≡ p.dir) here (dirs 0 (omega arith)),
        at_places (suc i) ps (λ k d lt. h (suc k) d (omega (arith, lt)))
            (λ k lt. (let next : (k + suc i) ≡ (suc k + i) = omega arith in ap (λ (n : ℕ). get_or (dirs_of all) n []) next ∙ dirs (suc k) (omega (arith, lt)))),
      )

  -- LINKS

  link_leads : (policy : Rows) (name : List ℕ) (i : ℕ) (dir : List ℕ) → get_or (dirs_of all) i [] ≡ dir → (l : Link) → l.target < length all → get_or (dirs_of all) l.target [] ≢ dir
      → LeadsOn (suc (length all)) (suc i) (link_of all policy name l)
  link_leads policy name i dir at l lt other = record {
    there = omega (arith, lt);
    apart = λ e. other (let same : l.target ≡ i = omega (arith, e) in ap (λ (n : ℕ). get_or (dirs_of all) n []) same ∙ at);
  }

  links_lead : (policy : Rows) (name : List ℕ) (i : ℕ) (dir : List ℕ) → get_or (dirs_of all) i [] ≡ dir → (ls : List Link) → AllByRecursion (λ (l : Link). l.target < length all) ls
      → AllByRecursion (λ (l : Link). get_or (dirs_of all) l.target [] ≢ dir) ls → AllByRecursion (LeadsOn (suc (length all)) (suc i)) (map (link_of all policy name) ls)
  links_lead policy name i dir at [] within others = tt
  links_lead policy name i dir at (l ∷ ls) within others = (link_leads policy name i dir at l within.0 others.0, links_lead policy name i dir at ls within.1 others.1)

  package_leads : (policy : Rows) (i : ℕ) (p : Package) → IsPackage world all p → get_or (dirs_of all) i [] ≡ p.dir → AllByRecursion (LeadsOn (suc (length all)) (suc i)) (map (link_of all policy p.name) p.links)
  package_leads policy i p h at =
      let others = each_behind (told_link all) (Other p.dir) p.links (subst (AllByRecursion (Other p.dir)) (sym h.links) (all_others world p.dir (names_at world p.dir))) in
      links_lead policy p.name i p.dir at p.links (each_of (λ (l : Link). l.target < length all) p.links h.within) others

  packages_lead : (ms : List (LoadedModule ModuleCode)) (policy : Rows) (i : ℕ) (ps : List Package) → AtPlaces i ps → AllLeadOn (suc (length all)) (suc i) (parts_from all ms policy i ps)
  packages_lead ms policy i [] h = tt
  packages_lead ms policy i (p ∷ ps) h = (package_leads policy i p h.0 h.1, packages_lead ms policy (suc i) ps h.2)

  as_many_parts : (ms : List (LoadedModule ModuleCode)) (policy : Rows) (i : ℕ) (ps : List Package) → length (parts_from all ms policy i ps) ≡ length ps
  as_many_parts ms policy i [] = refl
  as_many_parts ms policy i (p ∷ ps) = ap suc (as_many_parts ms policy (suc i) ps)

-- THE LAW

pub graphs_are_linked : (world : World) (packages : List Package) → IsGraph world packages → (c : CommonPart) (ms : List (LoadedModule ModuleCode)) (policy : Rows) → AreLinked (run_parts c packages ms policy).packages
graphs_are_linked world packages g c ms policy =
    let many = as_many_parts world packages ms policy 0 packages in
    let some : 1 ≤ length packages = subst (λ (ps : List Package). 1 ≤ length ps) (sym g.first.2) (omega arith) in
    let places = at_places world packages 0 packages g.each (λ k lt. (let same : (k + 0) ≡ k = omega arith in ap (λ (n : ℕ). get_or (dirs_of packages) n []) same)) in
    record {
      own = omega (arith, many, some);
      links = subst (λ (n : ℕ). AllLeadOn (suc n) 1 (parts_from packages ms policy 0 packages)) (sym many) (packages_lead world packages ms policy 0 packages places);
    }
