-- Where the search for a package ends, and what the links say.
use Rattle.std.proofs.Common.{◌≡◌, ◌≢◌, ◌⊎◌, inl, inr, ⊎_elim, ℕ, zero, suc, ◌<◌, ◌≤◌, Bool, true, false, cond, List, [], ◌∷◌, ◌++◌, length, get_or, map, bytes_eq, position, nat_lt, Option, Some, None, is_some, filter_map, refl, sym, ap, ◌∙◌, arith}
use Rattle.std.specs.List.{list_any, position_or_len}
use Rattle.std.proofs.lemmas.Bool.{cases_lt, cases_eq, both_ways, lt-ltb, or_left, or_right, cond-true}
use Rattle.std.proofs.lemmas.List.{map-append, append-nil, get_or_append_left}
use Rattle.std.proofs.lemmas.List.Elements.{filter_map-append}
use Rattle.std.proofs.lemmas.List.Quantifiers.{position-Some}
use Rattle.std.proofs.lemmas.List.Sums.{fails_before_first}
use Rattle.std.proofs.lemmas.Option.{none-some}
use Rattle.std.proofs.lemmas.Slice.Eq.{bytes_eq-Decides}
use Rattle.pkg_graph.specs.Worlds.{World, package_dir}
use Rattle.pkg_graph.specs.Reading.{nearest, nearest_at, nearest_new}
use Rattle.pkg_graph.specs.Paths.{package_under, led_to, dependency, names_at, found_dependency}
use Rattle.pkg_graph.specs.declared.link.Link.{Link}
use Rattle.pkg_graph.specs.declared.nearest.Nearest.{Nearest}
use Rattle.pkg_graph.specs.declared.nearest.Nearest.TheVariants.{Nowhere, Known, New}
use Rattle.pkg_graph.specs.declared.standing.Standing.{Standing}
use Rattle.pkg_graph.proofs.NameLemmas.{dir_some}

pub bytes_same : (a : List ℕ) → bytes_eq a a ≡ true
bytes_same a = (bytes_eq-Decides a a).1 refl

-- THE NEAREST PACKAGE

abbrev pub Tells : World → (dirs above : List (List ℕ)) → (name : List ℕ) → Nearest → Type 0
Tells world dirs above name Nowhere = package_under world above name ≡ None
Tells world dirs above name (Known place) = (place < length dirs) × (package_under world above name ≡ Some (get_or dirs place []))
Tells world dirs above name (New dir standing) =
    (package_under world above name ≡ Some dir) × (world dir ≡ Some standing) × ((i : ℕ) → i < length dirs → get_or dirs i [] ≢ dir)

tells_same : (world : World) (dirs a b : List (List ℕ)) (name : List ℕ) (n : Nearest) → package_under world b name ≡ package_under world a name → Tells world dirs a name n → Tells world dirs b name n
tells_same world dirs a b name Nowhere e t = e ∙ t
tells_same world dirs a b name (Known place) e t = (t.0, e ∙ t.1)
tells_same world dirs a b name (New dir standing) e t = (e ∙ t.0, t.1, t.2)

pub nowhere_else : (p : List ℕ → Bool) (dirs : List (List ℕ)) → position p dirs ≡ None → (i : ℕ) → i < length dirs → p (get_or dirs i []) ≡ false
nowhere_else p dirs none i lt =
    ⊎_elim
    (λ (h : position_or_len p dirs < length dirs). absurd (none-some (position_or_len p dirs) (sym none ∙ cond-true (nat_lt (position_or_len p dirs) (length dirs)) (Some (position_or_len p dirs)) None (lt-ltb _ _ h))))
    (λ (h : length dirs ≤ position_or_len p dirs). fails_before_first p dirs i [] (omega (arith, h, lt)))
    (cases_lt (position_or_len p dirs) (length dirs))

positive : (n : ℕ) → (n ≡ 0 → ⊥) → 0 < n
positive zero some = absurd (some refl)
positive (suc n) some = omega arith

pub tells : (world : World) (dirs above : List (List ℕ)) (name : List ℕ) → get_or dirs 0 [] ≡ [] → ((i : ℕ) → 0 < i → i < length dirs → is_some (world (get_or dirs i [])) ≡ true) → Tells world dirs above name (nearest world dirs above name)
tells world dirs [] name first stands = refl
tells world dirs (under ∷ above) name first stands =
    let p : List ℕ = package_dir under name in
    let rest : Nearest = nearest world dirs above name in
    let on = tells world dirs above name first stands in
    elim (position (bytes_eq p) dirs) as (λ o. position (bytes_eq p) dirs ≡ o → Tells world dirs (under ∷ above) name (nearest_at o (world p) p rest)) [
      | None ↦ λ absent.
          elim (world p) as (λ w. world p ≡ w → Tells world dirs (under ∷ above) name (nearest_new w p rest)) [
            | None ↦ λ e. tells_same world dirs above (under ∷ above) name rest (ap (λ (w : Option Standing). cond (is_some w) (Some p) (package_under world above name)) e) on
            | Some standing ↦ λ e. (
              ap (λ (w : Option Standing). cond (is_some w) (Some p) (package_under world above name)) e,
              e,
              λ i lt is. both_ways (bytes_eq p (get_or dirs i [])) (nowhere_else (bytes_eq p) dirs absent i lt) ((bytes_eq-Decides p (get_or dirs i [])).1 (sym is)),
            )
          ] refl
      | Some place ↦ λ there.
          let at = position-Some (bytes_eq p) dirs place [] there in
          let is : p ≡ get_or dirs place [] = (bytes_eq-Decides p (get_or dirs place [])).0 at.1 in
          let stood : is_some (world p) ≡ true =
          ⊎_elim
          (λ (z : place ≡ 0). absurd (dir_some under name (is ∙ ap (λ (i : ℕ). get_or dirs i []) z ∙ first)))
          (λ (z : place ≡ 0 → ⊥). ap (λ (d : List ℕ). is_some (world d)) is ∙ stands place (positive place z) at.0)
          (cases_eq place 0) in
          (at.0, cond-true (is_some (world p)) (Some p) (package_under world above name) stood ∙ ap (λ (d : List ℕ). Some d) is)
    ] refl

-- WHAT LINKS SAY

-- the links say where the names lead
abbrev pub Exact : World → (dirs : List (List ℕ)) → List Link → (dir : List ℕ) → (names : List (List ℕ)) → Type 0
Exact world dirs links dir names = map (λ (l : Link). (l.name, get_or dirs l.target [])) links ≡ filter_map (found_dependency world dir) names

abbrev pub In : {A : Type 0} → A → List A → Type 0
In x [] = ⊥
In x (y ∷ ys) = (x ≡ y) ⊎ In x ys

pub In-push : {A : Type 0} (x : A) (xs : List A) (y : A) → In x (xs ++ y ∷ []) → In x xs ⊎ (x ≡ y)
In-push x [] y (inl e) = inr e
In-push x [] y (inr h) = absurd h
In-push x (z ∷ xs) y (inl e) = inl (inl e)
In-push x (z ∷ xs) y (inr h) = ⊎_elim (λ (k : In x xs). inl (inr k)) (λ (e : x ≡ y). inr e) (In-push x xs y h)

pub In-left : {A : Type 0} (x : A) (xs : List A) (y : A) → In x xs → In x (xs ++ y ∷ [])
In-left x [] y h = absurd h
In-left x (z ∷ xs) y (inl e) = inl e
In-left x (z ∷ xs) y (inr h) = inr (In-left x xs y h)

pub In-last : {A : Type 0} (xs : List A) (y : A) → In y (xs ++ y ∷ [])
In-last [] y = inl refl
In-last (z ∷ xs) y = inr (In-last xs y)

pub exact_none : (world : World) (dirs : List (List ℕ)) (links : List Link) (dir : List ℕ) (names : List (List ℕ)) (name : List ℕ) → Exact world dirs links dir names → led_to world dir name ≡ None → Exact world dirs links dir (names ++ name ∷ [])
exact_none world dirs links dir names name e none =
    let last : filter_map (found_dependency world dir) (name ∷ []) ≡ [] = rw none refl in
    e ∙ sym (filter_map-append (found_dependency world dir) names (name ∷ []) ∙ ap (λ (l : List (List ℕ × List ℕ)). filter_map (found_dependency world dir) names ++ l) last ∙ append-nil (filter_map (found_dependency world dir) names))

pub exact_some : (world : World) (dirs : List (List ℕ)) (links : List Link) (dir : List ℕ) (names : List (List ℕ)) (name : List ℕ) (target : ℕ) (to : List ℕ) → Exact world dirs links dir names → led_to world dir name ≡ Some to → get_or dirs target [] ≡ to → Exact world dirs (links ++ record { name = name; target = target } ∷ []) dir (names ++ name ∷ [])
exact_some world dirs links dir names name target to e leads is =
    let last : filter_map (found_dependency world dir) (name ∷ []) ≡ (name, to) ∷ [] = rw leads refl in
    let told : Link → List ℕ × List ℕ = λ l. (l.name, get_or dirs l.target []) in
    let new : Link = record { name = name; target = target } in
    let here : told new ≡ (name, to) = ap (λ (d : List ℕ). (name, d)) is in
    map-append told links (new ∷ [])
    ∙ ap (λ (l : List (List ℕ × List ℕ)). l ++ told new ∷ []) e
    ∙ ap (λ (t : List ℕ × List ℕ). filter_map (found_dependency world dir) names ++ t ∷ []) here
    ∙ ap (λ (l : List (List ℕ × List ℕ)). filter_map (found_dependency world dir) names ++ l) (sym last)
    ∙ sym (filter_map-append (found_dependency world dir) names (name ∷ []))

-- a link with its package's directory
abbrev pub told : List (List ℕ) → Link → List ℕ × List ℕ
told dirs link = (link.name, get_or dirs link.target [])

told_wider : (dirs : List (List ℕ)) (d : List ℕ) (links : List Link) → ((l : Link) → In l links → l.target < length dirs) → map (told (dirs ++ d ∷ [])) links ≡ map (told dirs) links
told_wider dirs d [] within = refl
told_wider dirs d (l ∷ links) within =
    let here : get_or (dirs ++ d ∷ []) l.target [] ≡ get_or dirs l.target [] = get_or_append_left dirs (d ∷ []) [] l.target (within l (inl refl)) in
    let rest = told_wider dirs d links (λ m h. within m (inr h)) in
    let more : List (List ℕ × List ℕ) = map (told (dirs ++ d ∷ [])) links in
    ap (λ (x : List ℕ). (l.name, x) ∷ more) here ∙ ap (λ (x : List (List ℕ × List ℕ)). (l.name, get_or dirs l.target []) ∷ x) rest

pub exact_wider : (world : World) (dirs : List (List ℕ)) (d : List ℕ) (links : List Link) (dir : List ℕ) (names : List (List ℕ)) → Exact world dirs links dir names → ((l : Link) → In l links → l.target < length dirs) → Exact world (dirs ++ d ∷ []) links dir names
exact_wider world dirs d links dir names e within = told_wider dirs d links within ∙ e

-- a name among the names
pub any_in : (done rest : List (List ℕ)) (name : List ℕ) → list_any (bytes_eq name) (done ++ name ∷ rest) ≡ true
any_in [] rest name = or_left (bytes_eq name name) (list_any (bytes_eq name) rest) (bytes_same name)
any_in (n ∷ done) rest name = or_right (bytes_eq name n) (list_any (bytes_eq name) (done ++ name ∷ rest)) (any_in done rest name)

pub dependency_is : (world : World) (dir name to : List ℕ) (done rest : List (List ℕ)) → names_at world dir ≡ done ++ name ∷ rest → led_to world dir name ≡ Some to → dependency world dir name ≡ Some to
dependency_is world dir name to done rest names leads =
    cond-true (list_any (bytes_eq name) (names_at world dir)) (led_to world dir name) None (ap (list_any (bytes_eq name)) names ∙ any_in done rest name) ∙ leads
