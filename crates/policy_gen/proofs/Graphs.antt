-- The packages of a folder that is read are in byte order of their names.
use Rattle.std.proofs.Common.{◌≡◌, inl, inr, ℕ, ◌<◌, suc, List, [], ◌∷◌, Bool, true, Some, length, map, get_or, refl, sym, ap, ◌∙◌, subst, arith}
use Rattle.std.specs.Cmp.Lexicographic.{slice_cmp}
use Rattle.std.specs.List.{list_all, AllPairs}
use Rattle.std.specs.Ordering.{nat_cmp, is_lt}
use Rattle.std.specs.declared.cmp.Ordering.TheVariants.{Less}
use Rattle.pkg_graph.specs.Graphs.{IsPackage}
use Rattle.pkg_graph.specs.Paths.{IsCanonicalName, IsNoLater, path_text}
use Rattle.pkg_graph.specs.Worlds.{World}
use Rattle.pkg_graph.specs.declared.graph.Package.{Package}
use Rattle.pkg_load.specs.Requirements.{package_at}
use Rattle.policy_row.specs.Rows.{order_of_names, are_in_order, root_name}
use Rattle.policy_gen.specs.Laws.{Graphs_are_named_in_order}
use Rattle.policy_gen.proofs.Anys.{and_both}

names_all : (q : List ℕ → Bool) (ps : List Package) → ((j : ℕ) (d : Package) → j < length ps → q (get_or ps j d).name ≡ true) → list_all q (map (λ (p : Package). p.name) ps) ≡ true
names_all q [] each = refl
names_all q (p ∷ ps) each =
    and_both (q p.name) _ (each 0 p (omega arith)) (names_all q ps (λ j d there. each (suc j) d (omega (arith, there))))

pairs_order : (ps : List Package) → AllPairs (λ (a b : Package). slice_cmp nat_cmp a.name b.name ≡ Less) ps → are_in_order (map (λ (p : Package). p.name) ps) ≡ true
pairs_order [] pairs = refl
pairs_order (p ∷ ps) pairs =
    and_both _ _ (names_all (λ n. is_lt (order_of_names p.name n)) ps (λ j d there. ap is_lt (pairs 0 (suc j) d (omega arith) (omega (arith, there)))))
    (pairs_order ps (λ i j d less there. pairs (suc i) (suc j) d (omega (arith, less)) (omega (arith, there))))

-- the package of the application's own folder has its name
no_path_text : (path : List (List ℕ)) → (IsNoLater path []) → path_text path ≡ root_name
no_path_text [] least = refl
no_path_text (n ∷ path) (inl less) = absurd (omega (arith, less))
no_path_text (n ∷ path) (inr same) = let none = same.0 in absurd (omega (arith, none))

own_name : (world : World) (dir name : List ℕ) → dir ≡ [] → IsCanonicalName world dir name → name ≡ root_name
own_name world dir name own is = is.2 ∙ no_path_text is.0 (is.3 [] (ap (λ d. Some d) (sym own)))

pub graphs_are_named_in_order : Graphs_are_named_in_order
graphs_are_named_in_order world packages graph =
    let own = graph.first.0 in
    let others = graph.first.1 in
    let are : packages ≡ own ∷ others = graph.first.2 in
    let P : List Package → Type 0 = λ ps. (0 < length ps → IsPackage world packages (get_or ps 0 own)) in
    let is : IsPackage world packages own = subst P are (λ there. graph.each 0 own there) (omega arith) in
    record {
      own = ap (λ ps. (package_at ps 0).name) are ∙ own_name world own.dir own.name graph.first.3 is.name;
      order = pairs_order packages graph.order;
    }
