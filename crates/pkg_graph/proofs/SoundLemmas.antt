-- What holds of the packages that are found so far, and still holds with one more link, or one more package.
use Rattle.std.proofs.Common.{◌≡◌, ◌≢◌, ◌⊎◌, ⊎_elim, ℕ, suc, ◌+◌, ◌<◌, ◌≤◌, true, List, [], ◌∷◌, ◌++◌, length, get_or, Some, is_some, refl, sym, ap, ◌∙◌, subst, arith}
use Rattle.std.proofs.lemmas.Bool.{cases_lt}
use Rattle.std.proofs.lemmas.List.{length_push, get_or_append_left, get_or_push}
use Rattle.pkg_graph.specs.Worlds.{World}
use Rattle.pkg_graph.specs.Paths.{said_at, dependency, end_of}
use Rattle.pkg_graph.specs.declared.limits.TheConstants.{PACKAGE_LIMIT}
use Rattle.pkg_graph.specs.declared.link.Link.{Link}
use Rattle.pkg_graph.specs.declared.manifest.Manifest.{Manifest}
use Rattle.pkg_graph.specs.declared.standing.Standing.TheVariants.{Manifest as Says}
use Rattle.pkg_graph.proofs.PathLemmas.{end_more}

-- The directories of packages, the `main` of each, how many names the shortest path to each has, and the links, each with the place of its package.
pub record Sound (world : World) (D M : List (List ℕ)) (lev : List ℕ) (R : ℕ → Link → Type 0) : Type 0 where
  pub some : 0 < length D
  pub first : get_or D 0 [] ≡ []
  pub mains : length M ≡ length D
  pub levels : length lev ≡ length D
  pub size : length D ≤ PACKAGE_LIMIT
  pub said : (i : ℕ) → i < length D → (m : Manifest) × (said_at world (get_or D i []) ≡ Says m) × (get_or M i [] ≡ m.main)
  pub stands : (i : ℕ) → 0 < i → i < length D → is_some (world (get_or D i [])) ≡ true
  pub once : (i j : ℕ) → i < length D → j < length D → get_or D i [] ≡ get_or D j [] → i ≡ j
  pub reached : (i : ℕ) → i < length D → (path : List (List ℕ)) × (end_of world path ≡ Some (get_or D i [])) × (length path ≡ get_or lev i 0)
  pub rises : (i j : ℕ) → i ≤ j → j < length D → get_or lev i 0 ≤ get_or lev j 0
  pub sources : (i : ℕ) (l : Link) → R i l → i < length D
  pub targets : (i : ℕ) (l : Link) → R i l → l.target < length D
  pub near : (i : ℕ) (l : Link) → R i l → get_or lev l.target 0 ≤ get_or lev i 0 + 1
  pub steps : (i : ℕ) (l : Link) → R i l → dependency world (get_or D i []) l.name ≡ Some (get_or D l.target [])
  pub origin : (j : ℕ) → 0 < j → j < length D → (i : ℕ) × (l : Link) × R i l × (l.target ≡ j) × (get_or lev j 0 ≡ get_or lev i 0 + 1)

-- what holds of the links, and of a new one, holds of all
for_new : (R R' P : ℕ → Link → Type 0) (at : ℕ) (new : Link) → ((i : ℕ) (l : Link) → R' i l → R i l ⊎ ((i ≡ at) × (l ≡ new))) → ((i : ℕ) (l : Link) → R i l → P i l) → P at new → (i : ℕ) (l : Link) → R' i l → P i l
for_new R R' P at new split old here i l is =
    ⊎_elim
    (λ (h : R i l). old i l h)
    (λ (e : (i ≡ at) × (l ≡ new)). subst (λ (x : ℕ). P x l) (sym e.0) (subst (λ (y : Link). P at y) (sym e.1) here))
    (split i l is)

-- one more link
pub sound_link : (world : World) (D M : List (List ℕ)) (lev : List ℕ) (R R' : ℕ → Link → Type 0) (at : ℕ) (new : Link) → Sound world D M lev R → ((i : ℕ) (l : Link) → R' i l → R i l ⊎ ((i ≡ at) × (l ≡ new))) → ((i : ℕ) (l : Link) → R i l → R' i l) → at < length D → new.target < length D → get_or lev new.target 0 ≤ get_or lev at 0 + 1 → dependency world (get_or D at []) new.name ≡ Some (get_or D new.target []) → Sound world D M lev R'
sound_link world D M lev R R' at new s split keeps source target near leads = record {
  some = s.some;
  first = s.first;
  mains = s.mains;
  levels = s.levels;
  size = s.size;
  said = s.said;
  stands = s.stands;
  once = s.once;
  reached = s.reached;
  rises = s.rises;
  sources = for_new R R' (λ i l. i < length D) at new split s.sources source;
  targets = for_new R R' (λ i l. l.target < length D) at new split s.targets target;
  near = for_new R R' (λ i l. get_or lev l.target 0 ≤ get_or lev i 0 + 1) at new split s.near near;
  steps = for_new R R' (λ i l. dependency world (get_or D i []) l.name ≡ Some (get_or D l.target [])) at new split s.steps leads;
  origin = λ j pos lt. let o = s.origin j pos lt in (o.0, o.1, keeps o.0 o.1 o.2, o.3, o.4);
}

-- links that are the same
pub sound_same : (world : World) (D M : List (List ℕ)) (lev : List ℕ) (R R' : ℕ → Link → Type 0) → Sound world D M lev R → ((i : ℕ) (l : Link) → R' i l → R i l) → ((i : ℕ) (l : Link) → R i l → R' i l) → Sound world D M lev R'
sound_same world D M lev R R' s back keeps = record {
  some = s.some;
  first = s.first;
  mains = s.mains;
  levels = s.levels;
  size = s.size;
  said = s.said;
  stands = s.stands;
  once = s.once;
  reached = s.reached;
  rises = s.rises;
  sources = λ i l h. s.sources i l (back i l h);
  targets = λ i l h. s.targets i l (back i l h);
  near = λ i l h. s.near i l (back i l h);
  steps = λ i l h. s.steps i l (back i l h);
  origin = λ j pos lt. let o = s.origin j pos lt in (o.0, o.1, keeps o.0 o.1 o.2, o.3, o.4);
}

-- each place, with one more at the end
pub each : {A : Type 0} (xs : List A) (y : A) (P : ℕ → Type 0) → ((i : ℕ) → i < length xs → P i) → P (length xs) → (i : ℕ) → i < length (xs ++ y ∷ []) → P i
each xs y P old here i lt =
    let more = length_push xs y in
    ⊎_elim
    (λ (h : i < length xs). old i h)
    (λ (h : length xs ≤ i). let e : length xs ≡ i = omega (arith, more, h, lt) in subst P e here)
    (cases_lt i (length xs))

pub old_at : {A : Type 0} (xs : List A) (y d : A) (i : ℕ) → i < length xs → get_or (xs ++ y ∷ []) i d ≡ get_or xs i d
old_at xs y d i lt = get_or_append_left xs (y ∷ []) d i lt

pub new_at : {A : Type 0} (xs : List A) (y d : A) (i : ℕ) → length xs ≡ i → get_or (xs ++ y ∷ []) i d ≡ y
new_at xs y d i e = get_or_push xs y d i e

longer_by : (name : List ℕ) (path : List (List ℕ)) (n : ℕ) → length path ≡ n → length (name ∷ path) ≡ n + 1
longer_by name path n e = let more : length (name ∷ path) ≡ suc (length path) = refl in omega (arith, more, e)

-- one more package, to which a new link leads
pub sound_package : (world : World) (D M : List (List ℕ)) (lev : List ℕ) (R R' : ℕ → Link → Type 0) (at : ℕ) (new : Link) (d : List ℕ) (m : Manifest) → Sound world D M lev R → ((i : ℕ) (l : Link) → R' i l → R i l ⊎ ((i ≡ at) × (l ≡ new))) → ((i : ℕ) (l : Link) → R i l → R' i l) → R' at new → at < length D → new.target ≡ length D → ((i : ℕ) → i < length D → get_or D i [] ≢ d) → said_at world d ≡ Says m → is_some (world d) ≡ true → dependency world (get_or D at []) new.name ≡ Some d → length D < PACKAGE_LIMIT → ((j : ℕ) → j < length D → get_or lev j 0 ≤ get_or lev at 0 + 1) → Sound world (D ++ d ∷ []) (M ++ m.main ∷ []) (lev ++ (get_or lev at 0 + 1) ∷ []) R'
sound_package world D M lev R R' at new d m s split keeps is_new source target apart says there leads room top =
    let v : ℕ = get_or lev at 0 + 1 in
    let n = length_push D d in
    let nm = length_push M m.main in
    let nl = length_push lev v in
    let levels = s.levels in
    let mains = s.mains in
    let dir : (i : ℕ) → i < length D → get_or (D ++ d ∷ []) i [] ≡ get_or D i [] = λ i lt. old_at D d [] i lt in
    let dir_new : get_or (D ++ d ∷ []) (length D) [] ≡ d = new_at D d [] (length D) refl in
    let main : (i : ℕ) → i < length D → get_or (M ++ m.main ∷ []) i [] ≡ get_or M i [] = λ i lt. old_at M m.main [] i (omega (arith, mains, lt)) in
    let main_new : get_or (M ++ m.main ∷ []) (length D) [] ≡ m.main = new_at M m.main [] (length D) mains in
    let level : (i : ℕ) → i < length D → get_or (lev ++ v ∷ []) i 0 ≡ get_or lev i 0 = λ i lt. old_at lev v 0 i (omega (arith, levels, lt)) in
    let level_new : get_or (lev ++ v ∷ []) (length D) 0 ≡ v = new_at lev v 0 (length D) levels in
    let wider : (i : ℕ) → i < length D → i < length (D ++ d ∷ []) = λ i lt. omega (arith, n, lt) in
    let path = s.reached at source in
    record {
      some = omega (arith, n, s.some);
      first = dir 0 s.some ∙ s.first;
      mains = omega (arith, n, nm, mains);
      levels = omega (arith, n, nl, levels);
      size = omega (arith, n, room);
      said = each D d (λ i. (w : Manifest) × (said_at world (get_or (D ++ d ∷ []) i []) ≡ Says w) × (get_or (M ++ m.main ∷ []) i [] ≡ w.main))
          (λ i lt. let old = s.said i lt in (old.0, ap (said_at world) (dir i lt) ∙ old.1, main i lt ∙ old.2))
          (m, ap (said_at world) dir_new ∙ says, main_new);
      stands = λ i pos lt. each D d (λ i. 0 < i → is_some (world (get_or (D ++ d ∷ []) i [])) ≡ true)
          (λ i lt pos. ap (λ (x : List ℕ). is_some (world x)) (dir i lt) ∙ s.stands i pos lt)
          (λ pos. ap (λ (x : List ℕ). is_some (world x)) dir_new ∙ there) i lt pos;
      once = λ i j li lj. each D d (λ i. (j : ℕ) → j < length (D ++ d ∷ []) → get_or (D ++ d ∷ []) i [] ≡ get_or (D ++ d ∷ []) j [] → i ≡ j)
          (λ i li. each D d (λ j. get_or (D ++ d ∷ []) i [] ≡ get_or (D ++ d ∷ []) j [] → i ≡ j)
          (λ j lj e. s.once i j li lj (sym (dir i li) ∙ e ∙ dir j lj))
          (λ e. absurd (apart i li (sym (dir i li) ∙ e ∙ dir_new))))
          (each D d (λ j. get_or (D ++ d ∷ []) (length D) [] ≡ get_or (D ++ d ∷ []) j [] → length D ≡ j)
          (λ j lj e. absurd (apart j lj (sym (dir j lj) ∙ sym e ∙ dir_new)))
          (λ e. refl)) i li j lj;
      reached = each D d (λ i. (path : List (List ℕ)) × (end_of world path ≡ Some (get_or (D ++ d ∷ []) i [])) × (length path ≡ get_or (lev ++ v ∷ []) i 0))
          (λ i lt. let old = s.reached i lt in (old.0, old.1 ∙ ap (λ (x : List ℕ). Some x) (sym (dir i lt)), old.2 ∙ sym (level i lt)))
          (new.name ∷ path.0, end_more world new.name path.0 (get_or D at []) d path.1 leads ∙ ap (λ (x : List ℕ). Some x) (sym dir_new), longer_by new.name path.0 (get_or lev at 0) path.2 ∙ sym level_new);
      rises = λ i j le lj. each D d (λ j. i ≤ j → get_or (lev ++ v ∷ []) i 0 ≤ get_or (lev ++ v ∷ []) j 0)
          (λ j lj le. let a = level i (omega (arith, le, lj)) in let b = level j lj in let c = s.rises i j le lj in omega (arith, a, b, c))
          (λ le. each D d (λ i. get_or (lev ++ v ∷ []) i 0 ≤ get_or (lev ++ v ∷ []) (length D) 0)
          (λ i li. let a = level i li in let c = top i li in omega (arith, a, level_new, c))
          (omega arith) i (omega (arith, n, le))) j lj le;
      sources = for_new R R' (λ i l. i < length (D ++ d ∷ [])) at new split (λ i l h. wider i (s.sources i l h)) (wider at source);
      targets = for_new R R' (λ i l. l.target < length (D ++ d ∷ [])) at new split (λ i l h. wider l.target (s.targets i l h)) (omega (arith, n, target));
      near = for_new R R' (λ i l. get_or (lev ++ v ∷ []) l.target 0 ≤ get_or (lev ++ v ∷ []) i 0 + 1) at new split
          (λ i l h. let a = level l.target (s.targets i l h) in let b = level i (s.sources i l h) in let c = s.near i l h in omega (arith, a, b, c))
          (let a : get_or (lev ++ v ∷ []) new.target 0 ≡ v = ap (λ (x : ℕ). get_or (lev ++ v ∷ []) x 0) target ∙ level_new in let b = level at source in omega (arith, a, b));
      steps = for_new R R' (λ i l. dependency world (get_or (D ++ d ∷ []) i []) l.name ≡ Some (get_or (D ++ d ∷ []) l.target [])) at new split
          (λ i l h. ap (λ (x : List ℕ). dependency world x l.name) (dir i (s.sources i l h)) ∙ s.steps i l h ∙ ap (λ (x : List ℕ). Some x) (sym (dir l.target (s.targets i l h))))
          (ap (λ (x : List ℕ). dependency world x new.name) (dir at source) ∙ leads ∙ ap (λ (x : List ℕ). Some x) (sym (ap (λ (x : ℕ). get_or (D ++ d ∷ []) x []) target ∙ dir_new)));
      origin = λ j pos lj. each D d (λ j. 0 < j → (i : ℕ) × (l : Link) × R' i l × (l.target ≡ j) × (get_or (lev ++ v ∷ []) j 0 ≡ get_or (lev ++ v ∷ []) i 0 + 1))
          (λ j lj pos. let o = s.origin j pos lj in (o.0, o.1, keeps o.0 o.1 o.2, o.3, level j lj ∙ o.4 ∙ ap (λ (x : ℕ). x + 1) (sym (level o.0 (s.sources o.0 o.1 o.2)))))
          (λ pos. (at, new, is_new, target, level_new ∙ ap (λ (x : ℕ). x + 1) (sym (level at source)))) j lj pos;
    }
