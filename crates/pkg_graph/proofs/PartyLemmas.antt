-- The packages of a reading that is done, in party order, are those of the application.
use Rattle.std.proofs.Common.{◌≡◌, ◌⊎◌, inl, inr, ⊎_elim, ℕ, zero, suc, ◌<◌, List, [], ◌∷◌, length, get_or, drop, map, Some, Ordering, refl, sym, ◌∙◌, ap, subst, arith}
use Rattle.std.specs.List.{All}
use Rattle.std.specs.Cmp.Lexicographic.{slice_cmp}
use Rattle.std.specs.Ordering.{nat_cmp, ordering_then}
use Rattle.std.specs.declared.cmp.Ordering.TheVariants.{Less, Greater}
use Rattle.std.proofs.lemmas.Bool.{cases_eq, cases_order, le-ltb, ne_eqb}
use Rattle.std.proofs.lemmas.List.{length-map, get_or-map, get_or_default}
use Rattle.std.proofs.lemmas.Option.{same_Some}
use Rattle.pkg_graph.specs.Worlds.{World}
use Rattle.pkg_graph.specs.Naming.{names_by, first_places, place_in, placed_link, package_of, arranged, packages_of}
use Rattle.pkg_graph.specs.Reading.{Reading}
use Rattle.pkg_graph.specs.Paths.{names_at, end_of, path_text, IsReached, IsCanonicalName}
use Rattle.pkg_graph.specs.Graphs.{dirs_of, told_link, IsPackage, IsGraph}
use Rattle.pkg_graph.specs.declared.graph.Package.{Package}
use Rattle.pkg_graph.specs.declared.limits.TheConstants.{APPLICATION_NAME}
use Rattle.pkg_graph.specs.declared.link.Link.{Link}
use Rattle.lava_streams.specs.Files.{in_order}
use Rattle.pkg_graph.proofs.PathLemmas.{Lawful, valid_path, text_tells, first_of_text}
use Rattle.pkg_graph.proofs.SoundLemmas.{Sound}
use Rattle.pkg_graph.proofs.FoundLemmas.{Exact, In, told}
use Rattle.pkg_graph.proofs.HeldLemmas.{LinkIn, Held}
use Rattle.pkg_graph.proofs.LeastLemmas.{names_passed, least, canonical}
use Rattle.pkg_graph.proofs.OrderedLemmas.{ascends, not_itself, from_order, to_order, no_more_names, in_at, place_found, Apart, first_places_same}

-- different packages have different canonical names
apart : (world : World) (D M : List (List ℕ)) (lev : List ℕ) (L : List (List Link)) (names : List (List ℕ)) → Lawful world → Sound world D M lev (LinkIn L) → length names ≡ length D → ((j : ℕ) → j < length D → IsCanonicalName world (get_or D j []) (get_or names j [])) → Apart names
apart world D M lev L names lawful s count named i j li lj e =
    let di : i < length D = omega (arith, count, li) in
    let dj : j < length D = omega (arith, count, lj) in
    let a = named i di in
    let b = named j dj in
    let paths : a.0 ≡ b.0 = text_tells a.0 b.0 (valid_path world a.0 (get_or D i []) lawful a.1) (valid_path world b.0 (get_or D j []) lawful b.1) (sym a.2 ∙ e ∙ b.2) in
    s.once i j di dj (same_Some (get_or D i []) (get_or D j []) (sym a.1 ∙ ap (end_of world) paths ∙ b.1))

map_map : {A B C : Type 0} (f : B → C) (g : A → B) (h : A → C) (xs : List A) → ((x : A) → In x xs → f (g x) ≡ h x) → map f (map g xs) ≡ map h xs
map_map f g h [] e = refl
map_map {C = C} f g h (x ∷ xs) e =
    let rest = map_map f g h xs (λ y k. e y (inr k)) in
    let more : List C = map f (map g xs) in
    ap (λ (c : C). c ∷ more) (e x (inl refl)) ∙ ap (λ (l : List C). h x ∷ l) rest

in_map : {A B : Type 0} (g : A → B) (P : B → Type 0) (xs : List A) → ((x : A) → In x xs → P (g x)) → All P (map g xs)
in_map g P [] e k d lt = absurd (omega (arith, lt))
in_map g P (x ∷ xs) e zero d lt = e x (inl refl)
in_map g P (x ∷ xs) e (suc k) d lt = in_map g P xs (λ y h. e y (inr h)) k d (omega (arith, lt))

-- THE PACKAGES IN ORDER

-- What is known of a reading that is done, and of its names.
record Finished (world : World) (r : Reading) (lev : List ℕ) (names : List (List ℕ)) : Type 0 where
  sound : Sound world r.dirs r.mains lev (LinkIn r.links)
  exact : (i : ℕ) → i < length r.dirs → Exact world r.dirs (get_or r.links i []) (get_or r.dirs i []) (names_at world (get_or r.dirs i []))
  full : length r.links ≡ length r.dirs
  count : length names ≡ length r.dirs
  named : (j : ℕ) → j < length r.dirs → IsCanonicalName world (get_or r.dirs j []) (get_or names j [])
  apart : Apart names
  reached : (dir : List ℕ) → IsReached world dir → (j : ℕ) × (j < length r.dirs) × (get_or r.dirs j [] ≡ dir)
  root : get_or names 0 [] ≡ APPLICATION_NAME.now

finished : (world : World) (r : Reading) (lev : List ℕ) → Lawful world → Held world r lev → length r.links ≡ length r.dirs → Finished world r lev (names_by (length r.dirs) r.links)
finished world r lev lawful h full =
    let s = h.sound in
    let exact : (i : ℕ) → i < length r.dirs → Exact world r.dirs (get_or r.links i []) (get_or r.dirs i []) (names_at world (get_or r.dirs i [])) = λ i lt. h.exact i (omega (arith, full, lt)) in
    let names : List (List ℕ) = names_by (length r.dirs) r.links in
    let p = names_passed world r.dirs r.mains lev r.links lawful s full in
    let named = canonical world r.dirs r.mains lev r.links names lawful s exact full p in
    record {
      sound = s;
      exact = exact;
      full = full;
      count = p.count;
      named = named;
      apart = apart world r.dirs r.mains lev r.links names lawful s p.count named;
      reached = λ dir path. (let l = least world r.dirs r.mains lev r.links names path.0 dir lawful s exact full p path.1 in (l.0, l.1, l.2));
      root = p.root;
    }

abbrev order_of : List (List ℕ) → List (List ℕ)
order_of names = in_order names

-- the place in reading order of the package at a place in party order
abbrev origin_of : List (List ℕ) → ℕ → ℕ
origin_of names k = place_in (first_places names) (get_or (in_order names) k [])

-- the place in party order of the package at a place in reading order
abbrev rank_of : List (List ℕ) → ℕ → ℕ
rank_of names j = place_in (first_places (in_order names)) (get_or names j [])

order_apart : (names : List (List ℕ)) → Apart (in_order names)
order_apart names i j li lj e =
    ⊎_elim
    (λ (is : i ≡ j). is)
    (λ (ne : (i < j) ⊎ (j < i)). absurd (⊎_elim
    (λ (lt : i < j). not_itself (get_or (in_order names) j []) (subst (λ (x : List ℕ). slice_cmp nat_cmp x (get_or (in_order names) j []) ≡ Less) e (ascends names i j [] lt lj)))
    (λ (lt : j < i). not_itself (get_or (in_order names) i []) (subst (λ (x : List ℕ). slice_cmp nat_cmp x (get_or (in_order names) i []) ≡ Less) (sym e) (ascends names j i [] lt li)))
    ne))
    (cases_order i j)

origin_found : (names : List (List ℕ)) (k : ℕ) → Apart names → k < length (in_order names) → (origin_of names k < length names) × (get_or names (origin_of names k) [] ≡ get_or (in_order names) k [])
origin_found names k one lt =
    let name : List ℕ = get_or (in_order names) k [] in
    let there = place_found names name (from_order names name (in_at (in_order names) k lt)) in
    subst (λ (l : List (List ℕ)). (place_in l name < length names) × (get_or names (place_in l name) [] ≡ name)) (sym (first_places_same names one)) there

rank_found : (names : List (List ℕ)) (j : ℕ) → j < length names → (rank_of names j < length (in_order names)) × (get_or (in_order names) (rank_of names j) [] ≡ get_or names j [])
rank_found names j lt =
    let name : List ℕ = get_or names j [] in
    let there = place_found (in_order names) name (to_order names name (in_at names j lt)) in
    subst (λ (l : List (List ℕ)). (place_in l name < length (in_order names)) × (get_or (in_order names) (place_in l name) [] ≡ name)) (sym (first_places_same (in_order names) (order_apart names))) there

origin_rank : (names : List (List ℕ)) (j : ℕ) → Apart names → j < length names → origin_of names (rank_of names j) ≡ j
origin_rank names j one lt =
    let r = rank_found names j lt in
    let o = origin_found names (rank_of names j) one r.0 in
    one (origin_of names (rank_of names j)) j o.0 lt (o.1 ∙ r.1)

-- a package of the order, by its place
package_is : (r : Reading) (names : List (List ℕ)) (k : ℕ) (d : Package) → k < length (in_order names) → get_or (arranged r names) k d ≡ package_of r names (in_order names) (get_or (in_order names) k [])
package_is r names k d lt = get_or-map (package_of r names (in_order names)) (in_order names) k [] d lt

dir_is : (r : Reading) (names : List (List ℕ)) (k : ℕ) → k < length (in_order names) → get_or (dirs_of (arranged r names)) k [] ≡ get_or r.dirs (origin_of names k) []
dir_is r names k lt =
    let made : List ℕ → Package = package_of r names (in_order names) in
    let p : Package = made (get_or (in_order names) k []) in
    let long = length-map (in_order names) made in
    get_or-map (λ (q : Package). q.dir) (arranged r names) k p [] (omega (arith, long, lt)) ∙ ap (λ (q : Package). q.dir) (package_is r names k p lt)

-- the directory of the package that is ranked
rank_dir : (r : Reading) (names : List (List ℕ)) (j : ℕ) → Apart names → j < length names → get_or (dirs_of (arranged r names)) (rank_of names j) [] ≡ get_or r.dirs j []
rank_dir r names j one lt =
    dir_is r names (rank_of names j) (rank_found names j lt).0 ∙ ap (λ (i : ℕ). get_or r.dirs i []) (origin_rank names j one lt)

package_good : (world : World) (r : Reading) (lev : List ℕ) (names : List (List ℕ)) (k : ℕ) → Finished world r lev names → k < length (in_order names) → IsPackage world (arranged r names) (package_of r names (in_order names) (get_or (in_order names) k []))
package_good world r lev names k f lt =
    let o = origin_found names k f.apart lt in
    let i : ℕ = origin_of names k in
    let count = f.count in
    let inside : i < length r.dirs = (let a = o.0 in omega (arith, a, count)) in
    let said = f.sound.said i inside in
    let placed : Link → Link = placed_link names (first_places (in_order names)) in
    let target : (l : Link) → In l (get_or r.links i []) → l.target < length names = λ l h. (let t = f.sound.targets i l h in omega (arith, t, count)) in
    let long = length-map (in_order names) (package_of r names (in_order names)) in
    record {
      main = said;
      links = map_map (told_link (arranged r names)) placed (told r.dirs) (get_or r.links i []) (λ l h. ap (λ (d : List ℕ). (l.name, d)) (rank_dir r names l.target f.apart (target l h))) ∙ f.exact i inside;
      within = in_map placed (λ (l : Link). l.target < length (arranged r names)) (get_or r.links i []) (λ l h. (let t = (rank_found names l.target (target l h)).0 in omega (arith, t, long)));
      name = subst (IsCanonicalName world (get_or r.dirs i [])) o.1 (f.named i inside);
    }

greater_first : (b : ℕ) (t : List ℕ) → 36 < b → slice_cmp nat_cmp (b ∷ t) APPLICATION_NAME.now ≡ Less → ⊥
greater_first b t high less =
    let greater : nat_cmp b 36 ≡ Greater = rw (le-ltb b 36 (omega (arith, high)), ne_eqb b 36 (λ e. omega (arith, high, e))) refl in
    let e : Greater ≡ Less = ap (λ (o : Ordering). ordering_then o (slice_cmp nat_cmp t (drop 1 APPLICATION_NAME.now))) (sym greater) ∙ less in
    grind (arith, e)

first_is : (packages : List Package) (p : Package) → ((d : Package) → get_or packages 0 d ≡ p) → 0 < length packages → p.dir ≡ [] → (own : Package) × (others : List Package) × (packages ≡ own ∷ others) × (own.dir ≡ [])
first_is [] p at some own = absurd (omega (arith, some))
first_is (q ∷ qs) p at some own = (q, qs, refl, ap (λ (x : Package). x.dir) (at q) ∙ own)

positive : (n : ℕ) → (n ≡ 0 → ⊥) → 0 < n
positive zero some = absurd (some refl)
positive (suc n) some = omega arith

-- no name comes before the application's own
own_least : (world : World) (path : List (List ℕ)) (dir : List ℕ) → Lawful world → end_of world path ≡ Some dir → slice_cmp nat_cmp (path_text path) APPLICATION_NAME.now ≡ Less → dir ≡ []
own_least world [] dir lawful e less = sym (same_Some [] dir e)
own_least world (name ∷ path) dir lawful e less =
    let b = first_of_text name path (valid_path world (name ∷ path) dir lawful e) in
    let more : slice_cmp nat_cmp (b.0 ∷ b.1) APPLICATION_NAME.now ≡ Less = subst (λ (t : List ℕ). slice_cmp nat_cmp t APPLICATION_NAME.now ≡ Less) b.2 less in
    absurd (greater_first b.0 b.1 b.3 more)

own_first : (world : World) (r : Reading) (lev : List ℕ) (names : List (List ℕ)) → Lawful world → Finished world r lev names → 0 < length (in_order names) → get_or r.dirs (origin_of names 0) [] ≡ []
own_first world r lev names lawful f some =
    let s = f.sound in
    let count = f.count in
    let has = s.some in
    let zero_in : 0 < length names = omega (arith, count, has) in
    let root = rank_found names 0 zero_in in
    let k : ℕ = rank_of names 0 in
    let o = origin_found names 0 f.apart some in
    let i : ℕ = origin_of names 0 in
    let inside : i < length r.dirs = (let a = o.0 in omega (arith, a, count)) in
    ⊎_elim
    (λ (e : k ≡ 0).
    let is : i ≡ 0 = ap (origin_of names) (sym e) ∙ origin_rank names 0 f.apart zero_in in
    ap (λ (x : ℕ). get_or r.dirs x []) is ∙ s.first)
    (λ (ne : k ≡ 0 → ⊥).
    let less : slice_cmp nat_cmp (get_or (in_order names) 0 []) (get_or (in_order names) k []) ≡ Less = ascends names 0 k [] (positive k ne) root.0 in
    let c = f.named i inside in
    own_least world c.0 (get_or r.dirs i []) lawful c.1 (subst (λ (x : List ℕ). slice_cmp nat_cmp x APPLICATION_NAME.now ≡ Less) (sym o.1 ∙ c.2) (subst (λ (x : List ℕ). slice_cmp nat_cmp (get_or (in_order names) 0 []) x ≡ Less) (root.1 ∙ f.root) less)))
    (cases_eq k 0)

pub is_graph : (world : World) (r : Reading) (lev : List ℕ) → Lawful world → Held world r lev → length r.links ≡ length r.dirs → IsGraph world (packages_of r)
is_graph world r lev lawful h full =
    let names : List (List ℕ) = names_by (length r.dirs) r.links in
    let f = finished world r lev lawful h full in
    let made : List ℕ → Package = package_of r names (in_order names) in
    let long = length-map (in_order names) made in
    let dirs_long = length-map (arranged r names) (λ (q : Package). q.dir) in
    let at : (k : ℕ) (d : Package) → k < length (arranged r names) → get_or (arranged r names) k d ≡ made (get_or (in_order names) k []) = λ k d lt. package_is r names k d (omega (arith, long, lt)) in
    let count = f.count in
    let has = f.sound.some in
    let most = f.sound.size in
    let few = no_more_names names in
    let own_rank = rank_found names 0 (omega (arith, count, has)) in
    let some : 0 < length (in_order names) = (let a = own_rank.0 in omega (arith, a)) in
    record {
      each = λ k d lt. subst (IsPackage world (arranged r names)) (sym (at k d lt)) (package_good world r lev names k f (omega (arith, long, lt)));
      all = λ dir reached.
          let j = f.reached dir reached in
          let lj = j.1 in
          let inside : j.0 < length names = omega (arith, lj, count) in
          let there = rank_found names j.0 inside in
          let a = there.0 in
          let wide : rank_of names j.0 < length (dirs_of (arranged r names)) = omega (arith, a, long, dirs_long) in
          (rank_of names j.0, wide, get_or_default (dirs_of (arranged r names)) (rank_of names j.0) dir [] wide ∙ rank_dir r names j.0 f.apart inside ∙ j.2);
      once = λ i j d lt lj e.
          let lo : i < length (in_order names) = omega (arith, long, lt, lj) in
          let hi : j < length (in_order names) = omega (arith, long, lj) in
          let oi = origin_found names i f.apart lo in
          let oj = origin_found names j f.apart hi in
          let a = oi.0 in
          let b = oj.0 in
          let same = f.sound.once (origin_of names i) (origin_of names j) (omega (arith, a, count)) (omega (arith, b, count)) (sym (ap (λ (q : Package). q.dir) (package_is r names i d lo)) ∙ e ∙ ap (λ (q : Package). q.dir) (package_is r names j d hi)) in
          let is = order_apart names i j lo hi (sym oi.1 ∙ ap (λ (x : ℕ). get_or names x []) same ∙ oj.1) in
          omega (arith, lt, is);
      order = λ i j d lt lj.
          let lo : i < length (in_order names) = omega (arith, long, lt, lj) in
          let hi : j < length (in_order names) = omega (arith, long, lj) in
          subst (λ (x : List ℕ). slice_cmp nat_cmp x (get_or (arranged r names) j d).name ≡ Less) (sym (ap (λ (q : Package). q.name) (package_is r names i d lo)))
          (subst (λ (x : List ℕ). slice_cmp nat_cmp (get_or (in_order names) i []) x ≡ Less) (sym (ap (λ (q : Package). q.name) (package_is r names j d hi))) (ascends names i j [] lt hi));
      first = first_is (arranged r names) (made (get_or (in_order names) 0 [])) (λ d. package_is r names 0 d some) (omega (arith, long, some)) (own_first world r lev names lawful f some);
      size = omega (arith, long, few, count, most);
    }
