-- Dependency paths: where they lead, and their texts.
use Rattle.std.proofs.Common.{◌≡◌, ◌≢◌, inl, inr, ⊎_elim, ℕ, suc, ◌<◌, Bool, true, false, cond, List, [], ◌∷◌, ◌++◌, length, bytes_eq, Option, Some, None, is_some, option_and_then, Ordering, refl, sym, ap, ◌∙◌, subst, arith, append_assoc}
use Rattle.std.specs.List.{list_any, list_all}
use Rattle.std.specs.Cmp.Lexicographic.{slice_cmp}
use Rattle.std.specs.Ordering.{nat_cmp, ordering_then, ordering_reverse, is_lt, is_gt}
use Rattle.std.specs.declared.cmp.Ordering.TheVariants.{Less, Equal, Greater}
use Rattle.std.proofs.lemmas.Bool.{and_parts, or_cases, cond-false, true≢false, false_from_ne_true}
use Rattle.std.proofs.lemmas.Cmp.{nat_list_cmp_total, ranked}
use Rattle.std.proofs.lemmas.List.{append-nil, append_cancel_left}
use Rattle.std.proofs.lemmas.Option.{none-some, same_Some, option_and_then_some}
use Rattle.std.proofs.lemmas.Slice.Eq.{bytes_eq-Decides}
use Rattle.pkg_graph.specs.PackageNames.{is_package_name}
use Rattle.pkg_graph.specs.Worlds.{World, package_dir, directories_above}
use Rattle.pkg_graph.specs.Naming.{depth, longer}
use Rattle.pkg_graph.specs.Paths.{said_at, names_said, package_under, another, led_to, dependency, end_of, path_text, IsNoLater}
use Rattle.pkg_graph.specs.declared.limits.TheConstants.{APPLICATION_NAME}
use Rattle.pkg_graph.proofs.SplitLemmas.{Lacks, Lacks-append, not_nil, last_split, lacks_not}
use Rattle.pkg_graph.proofs.NameLemmas.{name_lacks, name_some, first_of_name, dir_tells_name, dir_some}
use Rattle.pkg_graph.proofs.RankLemmas.{NoLater, NoLater-refl, NoLater-behind, depth-append, depth_lacks, lacks_depth, depth_behind, front_apart}

-- A world whose manifests name packages.
abbrev pub Lawful : World → Type 0
Lawful world = (dir : List ℕ) → list_all is_package_name (names_said (said_at world dir)) ≡ true

any_passes : (p : List ℕ → Bool) (name : List ℕ) (names : List (List ℕ)) → list_all p names ≡ true → list_any (bytes_eq name) names ≡ true → p name ≡ true
any_passes p name [] all any = absurd (true≢false (sym any))
any_passes p name (n ∷ names) all any =
    let parts = and_parts (p n) (list_all p names) all in
    ⊎_elim
    (λ (here : bytes_eq name n ≡ true). ap p ((bytes_eq-Decides name n).0 here) ∙ parts.0)
    (λ (there : list_any (bytes_eq name) names ≡ true). any_passes p name names parts.1 there)
    (or_cases (bytes_eq name n) (list_any (bytes_eq name) names) any)

-- DEPENDENCIES

pub guarded : (b : Bool) (o : Option (List ℕ)) (to : List ℕ) → cond b o None ≡ Some to → (b ≡ true) × (o ≡ Some to)
guarded true o to e = (refl, e)
guarded false o to e = absurd (none-some to e)

other : (dir : List ℕ) (o : Option (List ℕ)) (to : List ℕ) → another dir o ≡ Some to → (o ≡ Some to) × (bytes_eq to dir ≡ false)
other dir None to e = absurd (none-some to e)
other dir (Some found) to e =
    elim (bytes_eq found dir) as (λ b. bytes_eq found dir ≡ b → cond b None (Some found) ≡ Some to → (Some found ≡ Some to) × (bytes_eq to dir ≡ false)) [
      | true ↦ λ h k. absurd (none-some to k)
      | false ↦ λ h k. (k, ap (λ (t : List ℕ). bytes_eq t dir) (sym (same_Some found to k)) ∙ h)
    ] refl e

-- a package that a name leads to stands under some directory
pub under_some : (world : World) (above : List (List ℕ)) (name to : List ℕ) → package_under world above name ≡ Some to → (under : List ℕ) × (to ≡ package_dir under name) × (is_some (world to) ≡ true)
under_some world [] name to e = absurd (none-some to e)
under_some world (under ∷ above) name to e =
    elim (is_some (world (package_dir under name))) as (λ b. is_some (world (package_dir under name)) ≡ b → cond b (Some (package_dir under name)) (package_under world above name) ≡ Some to → (u : List ℕ) × (to ≡ package_dir u name) × (is_some (world to) ≡ true)) [
      | true ↦ λ h k.
          let is : to ≡ package_dir under name = sym (same_Some (package_dir under name) to k) in
          (under, is, ap (λ (t : List ℕ). is_some (world t)) is ∙ h)
      | false ↦ λ h k. under_some world above name to k
    ] refl e

pub dependency_parts : (world : World) (dir name to : List ℕ) → dependency world dir name ≡ Some to → (list_any (bytes_eq name) (names_said (said_at world dir)) ≡ true) × (package_under world (directories_above dir) name ≡ Some to) × (bytes_eq to dir ≡ false)
dependency_parts world dir name to e =
    let g = guarded (list_any (bytes_eq name) (names_said (said_at world dir))) (led_to world dir name) to e in
    let o = other dir (package_under world (directories_above dir) name) to g.1 in
    (g.0, o.0, o.1)

pub dependency_name : (world : World) (dir name to : List ℕ) → Lawful world → dependency world dir name ≡ Some to → is_package_name name ≡ true
dependency_name world dir name to lawful e =
    any_passes is_package_name name (names_said (said_at world dir)) (lawful dir) ((dependency_parts world dir name to e).0)

pub dependency_dir : (world : World) (dir name to : List ℕ) → dependency world dir name ≡ Some to → (under : List ℕ) × (to ≡ package_dir under name) × (is_some (world to) ≡ true)
dependency_dir world dir name to e = under_some world (directories_above dir) name to ((dependency_parts world dir name to e).1)

-- PATHS

abbrev pub Valid : List (List ℕ) → Type 0
Valid [] = Unit {0}
Valid (name ∷ path) = (is_package_name name ≡ true) × Valid path

-- the last step of a path
pub end_parts : (world : World) (name : List ℕ) (path : List (List ℕ)) (to : List ℕ) → end_of world (name ∷ path) ≡ Some to → (from : List ℕ) × (end_of world path ≡ Some from) × (dependency world from name ≡ Some to)
end_parts world name path to e =
    option_and_then_some (λ from. dependency world from name) (end_of world path) to e (λ from is leads. (from, is, leads))

pub end_more : (world : World) (name : List ℕ) (path : List (List ℕ)) (from to : List ℕ) → end_of world path ≡ Some from → dependency world from name ≡ Some to → end_of world (name ∷ path) ≡ Some to
end_more world name path from to is leads = ap (option_and_then (λ from. dependency world from name)) is ∙ leads

pub valid_path : (world : World) (path : List (List ℕ)) (to : List ℕ) → Lawful world → end_of world path ≡ Some to → Valid path
valid_path world [] to lawful e = tt
valid_path world (name ∷ path) to lawful e =
    let parts = end_parts world name path to e in
    (dependency_name world parts.0 name to lawful parts.2, valid_path world path parts.0 lawful parts.1)

-- no path but the one of no name leads to the application
pub end_some : (world : World) (name : List ℕ) (path : List (List ℕ)) (to : List ℕ) → end_of world (name ∷ path) ≡ Some to → to ≢ []
end_some world name path to e =
    let parts = end_parts world name path to e in
    let dir = dependency_dir world parts.0 name to parts.2 in
    λ is. dir_some dir.0 name (sym dir.1 ∙ is)

-- paths to one package end with one name
pub same_end : (world : World) (n m : List ℕ) (p q : List (List ℕ)) (to : List ℕ) → Lawful world → end_of world (n ∷ p) ≡ Some to → end_of world (m ∷ q) ≡ Some to → n ≡ m
same_end world n m p q to lawful e f =
    let a = end_parts world n p to e in
    let b = end_parts world m q to f in
    let c = dependency_dir world a.0 n to a.2 in
    let d = dependency_dir world b.0 m to b.2 in
    dir_tells_name c.0 d.0 n m (dependency_name world a.0 n to lawful a.2) (dependency_name world b.0 m to lawful b.2) (sym c.1 ∙ d.1)

-- TEXTS

-- `$` is 36
pub text_lacks : (name : List ℕ) (path : List (List ℕ)) → Valid (name ∷ path) → Lacks 36 (path_text (name ∷ path))
text_lacks name [] valid = name_lacks 36 name refl (λ e. omega (arith, e)) (λ e. omega (arith, e)) valid.0
text_lacks name (other ∷ path) valid =
    Lacks-append 36 (path_text (other ∷ path) ++ 62 ∷ []) name
    (Lacks-append 36 (path_text (other ∷ path)) (62 ∷ []) (text_lacks other path valid.1) (λ e. omega (arith, e), tt))
    (name_lacks 36 name refl (λ e. omega (arith, e)) (λ e. omega (arith, e)) valid.0)

pub not_application : (name : List ℕ) (path : List (List ℕ)) → Valid (name ∷ path) → path_text (name ∷ path) ≢ APPLICATION_NAME.now
not_application name path valid e = (subst (Lacks 36) e (text_lacks name path valid)).0 refl

pub no_more : (name : List ℕ) → is_package_name name ≡ true → Lacks 62 name
no_more name is = name_lacks 62 name refl (λ e. omega (arith, e)) (λ e. omega (arith, e)) is

-- the text of a path that is one name longer
pub longer_text : (name : List ℕ) (path : List (List ℕ)) → Valid path → longer (path_text path) name ≡ path_text (name ∷ path)
longer_text name [] valid = refl
longer_text name (other ∷ path) valid =
    let apart : bytes_eq (path_text (other ∷ path)) APPLICATION_NAME.now ≡ false =
    false_from_ne_true _ (λ is. not_application other path valid ((bytes_eq-Decides (path_text (other ∷ path)) APPLICATION_NAME.now).0 is)) in
    cond-false (bytes_eq (path_text (other ∷ path)) APPLICATION_NAME.now) name ((path_text (other ∷ path) ++ 62 ∷ []) ++ name) apart

-- how many names stand behind the first
pub depth_text : (name : List ℕ) (path : List (List ℕ)) → Valid (name ∷ path) → depth (path_text (name ∷ path)) ≡ length path
depth_text name [] valid = depth_lacks name (no_more name valid.0)
depth_text name (other ∷ path) valid =
    let rest = depth_text other path valid.1 in
    let more = depth_behind (path_text (other ∷ path)) name (no_more name valid.0) in
    let count : length (other ∷ path) ≡ suc (length path) = refl in
    omega (arith, rest, more, count)

append_some : (s t : List ℕ) → s ≢ [] → s ++ t ≢ []
append_some [] t some e = some refl
append_some (b ∷ s) t some e = not_nil b (s ++ t) e

pub text_some : (path : List (List ℕ)) → Valid path → path_text path ≢ []
text_some [] valid e = not_nil 36 _ e
text_some (name ∷ []) valid e = name_some name valid.0 e
text_some (name ∷ (other ∷ path)) valid e =
    append_some (path_text (other ∷ path) ++ 62 ∷ []) name (append_some (path_text (other ∷ path)) (62 ∷ []) (text_some (other ∷ path) valid.1)) e

-- what a text begins with comes behind `$`
pub first_of_text : (name : List ℕ) (path : List (List ℕ)) → Valid (name ∷ path) → (b : ℕ) × (rest : List ℕ) × (path_text (name ∷ path) ≡ b ∷ rest) × (36 < b)
first_of_text name [] valid = first_of_name name valid.0
first_of_text name (other ∷ path) valid =
    let f = first_of_text other path valid.1 in
    (f.0, (f.1 ++ 62 ∷ []) ++ name, ap (λ (t : List ℕ). (t ++ 62 ∷ []) ++ name) f.2, f.3)

-- a text tells its path
behind_is : (x m : List ℕ) → (x ++ 62 ∷ []) ++ m ≡ x ++ 62 ∷ m
behind_is x m = append_assoc x (62 ∷ []) m

pub text_tells : (p q : List (List ℕ)) → Valid p → Valid q → path_text p ≡ path_text q → p ≡ q
text_tells [] [] vp vq e = refl
text_tells [] (m ∷ q) vp vq e = absurd (not_application m q vq (sym e))
text_tells (n ∷ p) [] vp vq e = absurd (not_application n p vp e)
text_tells (n ∷ []) (m ∷ []) vp vq e = ap (λ (x : List ℕ). x ∷ []) e
text_tells (n ∷ []) (m ∷ (o ∷ q)) vp vq e =
    absurd (lacks_not 62 (path_text (o ∷ q)) m (subst (Lacks 62) (e ∙ behind_is (path_text (o ∷ q)) m) (no_more n vp.0)))
text_tells (n ∷ (o ∷ p)) (m ∷ []) vp vq e =
    absurd (lacks_not 62 (path_text (o ∷ p)) n (subst (Lacks 62) (sym e ∙ behind_is (path_text (o ∷ p)) n) (no_more m vq.0)))
text_tells (n ∷ (o ∷ p)) (m ∷ (r ∷ q)) vp vq e =
    let parts = last_split 62 (path_text (o ∷ p)) n (path_text (r ∷ q)) m (no_more n vp.0) (no_more m vq.0) (sym (behind_is (path_text (o ∷ p)) n) ∙ e ∙ behind_is (path_text (r ∷ q)) m) in
    let rest = text_tells (o ∷ p) (r ∷ q) vp.1 vq.1 parts.0 in
    ap (λ (x : List ℕ). x ∷ (o ∷ p)) parts.1 ∙ ap (λ (l : List (List ℕ)). m ∷ l) rest

-- THE ORDER OF PATHS

no_front : (n m : List ℕ) (p q : List (List ℕ)) (s : List ℕ) → Valid (n ∷ p) → Valid (m ∷ q) → n ≡ m → length p ≡ length q → Lacks 62 s → path_text (m ∷ q) ≡ path_text (n ∷ p) ++ s → s ≡ []
no_front n m [] [] s vp vq same count l e = sym (append_cancel_left n [] s (append-nil n ∙ same ∙ e))
no_front n m [] (o ∷ q) s vp vq same count l e = let none : 0 ≡ suc (length q) = count in absurd (omega (arith, none))
no_front n m (o ∷ p) [] s vp vq same count l e = let none : suc (length p) ≡ 0 = count in absurd (omega (arith, none))
no_front n m (o ∷ p) (r ∷ q) s vp vq same count l e =
    front_apart (path_text (o ∷ p)) (path_text (r ∷ q)) n s (no_more n vp.0) l (ap (λ (x : List ℕ). (path_text (r ∷ q) ++ 62 ∷ []) ++ x) same ∙ e)

-- of two paths to one package, the one that comes no later does so with one more name too
pub NoLater-more : (world : World) (p q : List (List ℕ)) (to name : List ℕ) → Lawful world → end_of world p ≡ Some to → end_of world q ≡ Some to → is_package_name name ≡ true → NoLater (path_text p) (path_text q) → NoLater (path_text (name ∷ p)) (path_text (name ∷ q))
NoLater-more world [] [] to name lawful e f is no_later = NoLater-refl name
NoLater-more world [] (m ∷ q) to name lawful e f is no_later = absurd (end_some world m q to f (sym (same_Some [] to e)))
NoLater-more world (n ∷ p) [] to name lawful e f is no_later = absurd (end_some world n p to e (sym (same_Some [] to f)))
NoLater-more world (n ∷ p) (m ∷ q) to name lawful e f is no_later =
    let vp = valid_path world (n ∷ p) to lawful e in
    let vq = valid_path world (m ∷ q) to lawful f in
    let a : List ℕ = path_text (n ∷ p) in
    let b : List ℕ = path_text (m ∷ q) in
    NoLater-behind a b name (no_more name is) no_later
    (λ same s some front.
    let da = depth_text n p vp in
    let db = depth_text m q vq in
    let whole = ap depth front ∙ depth-append a s in
    let rest : Lacks 62 s = lacks_depth s (omega (arith, same, whole)) in
    some (no_front n m p q s vp vq (same_end world n m p q to lawful e f) (sym da ∙ same ∙ db) rest front))

no_earlier : (o : Ordering) → is_gt (ordering_reverse o) ≡ is_lt o
no_earlier Less = refl
no_earlier Equal = refl
no_earlier Greater = refl

-- the order of texts is that of their paths
pub IsNoLater-from : (world : World) (p q : List (List ℕ)) (to : List ℕ) → Lawful world → end_of world p ≡ Some to → end_of world q ≡ Some to → NoLater (path_text p) (path_text q) → IsNoLater p q
IsNoLater-from world [] [] to lawful e f no_later = inr (refl, refl)
IsNoLater-from world [] (m ∷ q) to lawful e f no_later = absurd (end_some world m q to f (sym (same_Some [] to e)))
IsNoLater-from world (n ∷ p) [] to lawful e f no_later = absurd (end_some world n p to e (sym (same_Some [] to f)))
IsNoLater-from world (n ∷ p) (m ∷ q) to lawful e f no_later =
    let da = depth_text n p (valid_path world (n ∷ p) to lawful e) in
    let db = depth_text m q (valid_path world (m ∷ q) to lawful f) in
    let a : List ℕ = path_text (n ∷ p) in
    let b : List ℕ = path_text (m ∷ q) in
    elim (nat_cmp (depth a) (depth b)) as (λ r. nat_cmp (depth a) (depth b) ≡ r → is_gt (ordering_then r (slice_cmp nat_cmp a b)) ≡ false → IsNoLater (n ∷ p) (m ∷ q)) [
      | Less ↦ λ h k.
          let less : depth a < depth b = ranked (depth a) (depth b) Less (sym h) in
          inl (omega (arith, da, db, less))
      | Equal ↦ λ h k.
          let same : depth a ≡ depth b = ranked (depth a) (depth b) Equal (sym h) in
          inr (ap suc (sym da ∙ same ∙ db), sym (no_earlier (slice_cmp nat_cmp b a)) ∙ ap is_gt (sym (nat_list_cmp_total.antisymm a b)) ∙ k)
      | Greater ↦ λ h k. absurd (true≢false k)
    ] refl no_later
