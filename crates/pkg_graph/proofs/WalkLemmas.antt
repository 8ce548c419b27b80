-- What holds while the packages are read, one name after the other, and one package after the other.
use Rattle.std.proofs.Common.{◌≡◌, ◌≢◌, ◌⊎◌, inl, inr, ⊎_elim, ℕ, ◌+◌, ◌<◌, ◌≤◌, Bool, true, false, cond, List, [], ◌∷◌, ◌++◌, length, get_or, drop, map, bytes_eq, Option, Some, None, is_some, Result, Ok, Err, refl, sym, ap, ◌∙◌, subst, arith, append_assoc}
use Rattle.std.proofs.lemmas.Bool.{cases_eq, eq-eqb, ne_eqb, leb-true, leb-false, cond-true, cond-false, false_from_ne_true}
use Rattle.std.proofs.lemmas.List.{length_push, map-append, append-nil, drop-append-le}
use Rattle.std.proofs.lemmas.Slice.Eq.{bytes_eq-Decides}
use Rattle.pkg_graph.specs.Worlds.{World, directories_above}
use Rattle.pkg_graph.specs.Reading.{Reading, own_standing, is_full, taken_in, with_package, linked, linked_to, with_link, links_from, then_on, nearest, too_many_packages, too_long_file}
use Rattle.pkg_graph.specs.Paths.{said_at, names_said, names_at, package_under, another, led_to, IsReached}
use Rattle.pkg_graph.specs.Graphs.{IsCause}
use Rattle.pkg_graph.specs.declared.limits.TheConstants.{PACKAGE_LIMIT}
use Rattle.pkg_graph.specs.declared.fault.GraphFault.{GraphFault}
use Rattle.pkg_graph.specs.declared.link.Link.{Link}
use Rattle.pkg_graph.specs.declared.manifest.Manifest.{Manifest}
use Rattle.pkg_graph.specs.declared.nearest.Nearest.{Nearest}
use Rattle.pkg_graph.specs.declared.nearest.Nearest.TheVariants.{Nowhere, Known, New}
use Rattle.pkg_graph.specs.declared.standing.Standing.{Standing}
use Rattle.pkg_graph.specs.declared.standing.Standing.TheVariants.{Longer, Refused, Manifest as Says}
use Rattle.pkg_graph.specs.declared.waiting.Waiting.{Waiting}
use Rattle.pkg_graph.proofs.PathLemmas.{end_more}
use Rattle.pkg_graph.proofs.SoundLemmas.{Sound, sound_link, sound_package, each, old_at, new_at}
use Rattle.pkg_graph.proofs.FoundLemmas.{Tells, tells, Exact, In, In-push, In-left, In-last, exact_none, exact_some, exact_wider, dependency_is, bytes_same}

-- the links of packages, and those of the package at a place so far
abbrev pub LinkOf : List (List Link) → ℕ → List Link → ℕ → Link → Type 0
LinkOf all at links i l = In l (get_or all i []) ⊎ ((i ≡ at) × In l links)

-- those that wait have the names of their manifests
abbrev pub AsSaid : World → List Waiting → Type 0
AsSaid world [] = Unit {0}
AsSaid world (w ∷ ws) = (w.names ≡ names_at world w.dir) × AsSaid world ws

said_more : (world : World) (ws : List Waiting) (w : Waiting) → AsSaid world ws → w.names ≡ names_at world w.dir → AsSaid world (ws ++ w ∷ [])
said_more world [] w all is = (is, tt)
said_more world (v ∷ ws) w all is = (all.0, said_more world ws w all.1 is)

-- The links of the package at a place are looked for: those of some names are found, and the rest is left.
pub record Midway (world : World) (r : Reading) (at : ℕ) (links : List Link) (lev : List ℕ) (done rest : List (List ℕ)) : Type 0 where
  pub place : length r.links ≡ at
  pub inside : at < length r.dirs
  pub sound : Sound world r.dirs r.mains lev (LinkOf r.links at links)
  pub exact : (i : ℕ) → i < at → Exact world r.dirs (get_or r.links i []) (get_or r.dirs i []) (names_at world (get_or r.dirs i []))
  pub now : Exact world r.dirs links (get_or r.dirs at []) done
  pub names : names_at world (get_or r.dirs at []) ≡ done ++ rest
  pub waits : map (λ (w : Waiting). w.dir) r.waiting ≡ drop (at + 1) r.dirs
  pub waiting : AsSaid world r.waiting
  pub top : (j : ℕ) → j < length r.dirs → get_or lev j 0 ≤ get_or lev at 0 + 1

moved : (done rest : List (List ℕ)) (name : List ℕ) → done ++ name ∷ rest ≡ (done ++ name ∷ []) ++ rest
moved done rest name = sym (append_assoc done (name ∷ []) rest)

-- a name that gives no link
skipped : (world : World) (r : Reading) (at : ℕ) (links : List Link) (lev : List ℕ) (done rest : List (List ℕ)) (name : List ℕ) → Midway world r at links lev done (name ∷ rest) → led_to world (get_or r.dirs at []) name ≡ None → Midway world r at links lev (done ++ name ∷ []) rest
skipped world r at links lev done rest name m none = record {
  place = m.place;
  inside = m.inside;
  sound = m.sound;
  exact = m.exact;
  now = exact_none world r.dirs links (get_or r.dirs at []) done name m.now none;
  names = m.names ∙ moved done rest name;
  waits = m.waits;
  waiting = m.waiting;
  top = m.top;
}

split_links : (all : List (List Link)) (at : ℕ) (links : List Link) (new : Link) (i : ℕ) (l : Link) → LinkOf all at (links ++ new ∷ []) i l → LinkOf all at links i l ⊎ ((i ≡ at) × (l ≡ new))
split_links all at links new i l (inl h) = inl (inl h)
split_links all at links new i l (inr h) =
    ⊎_elim (λ (k : In l links). inl (inr (h.0, k))) (λ (e : l ≡ new). inr (h.0, e)) (In-push l links new h.1)

kept_links : (all : List (List Link)) (at : ℕ) (links : List Link) (new : Link) (i : ℕ) (l : Link) → LinkOf all at links i l → LinkOf all at (links ++ new ∷ []) i l
kept_links all at links new i l (inl h) = inl h
kept_links all at links new i l (inr h) = inr (h.0, In-left l links new h.1)

-- a name that leads to a package that is known
joined : (world : World) (r : Reading) (at : ℕ) (links : List Link) (lev : List ℕ) (done rest : List (List ℕ)) (name : List ℕ) (place : ℕ) → Midway world r at links lev done (name ∷ rest) → place < length r.dirs → led_to world (get_or r.dirs at []) name ≡ Some (get_or r.dirs place []) → Midway world r at (links ++ record { name = name; target = place } ∷ []) lev (done ++ name ∷ []) rest
joined world r at links lev done rest name place m lt leads =
    let new : Link = record { name = name; target = place } in
    record {
      place = m.place;
      inside = m.inside;
      sound = sound_link world r.dirs r.mains lev (LinkOf r.links at links) (LinkOf r.links at (links ++ new ∷ [])) at new m.sound (split_links r.links at links new) (kept_links r.links at links new) m.inside lt (m.top place lt)
          (dependency_is world (get_or r.dirs at []) name (get_or r.dirs place []) done rest m.names leads);
      exact = m.exact;
      now = exact_some world r.dirs links (get_or r.dirs at []) done name place (get_or r.dirs place []) m.now leads refl;
      names = m.names ∙ moved done rest name;
      waits = m.waits;
      waiting = m.waiting;
      top = m.top;
    }

-- a name that leads to a package that is new
added : (world : World) (r : Reading) (at : ℕ) (links : List Link) (lev : List ℕ) (done rest : List (List ℕ)) (name d : List ℕ) (manifest : Manifest) → Midway world r at links lev done (name ∷ rest) → ((i : ℕ) → i < length r.dirs → get_or r.dirs i [] ≢ d) → world d ≡ Some (Says manifest) → led_to world (get_or r.dirs at []) name ≡ Some d → length r.dirs < PACKAGE_LIMIT → Midway world (with_package r d manifest) at (links ++ record { name = name; target = length r.dirs } ∷ []) (lev ++ (get_or lev at 0 + 1) ∷ []) (done ++ name ∷ []) rest
added world r at links lev done rest name d manifest m apart stands leads room =
    let new : Link = record { name = name; target = length r.dirs } in
    let D : List (List ℕ) = r.dirs ++ d ∷ [] in
    let s = m.sound in
    let says : said_at world d ≡ Says manifest = ap own_standing stands in
    let here : get_or D at [] ≡ get_or r.dirs at [] = old_at r.dirs d [] at m.inside in
    let level : get_or (lev ++ (get_or lev at 0 + 1) ∷ []) at 0 ≡ get_or lev at 0 = let levels = s.levels in let inside = m.inside in old_at lev (get_or lev at 0 + 1) 0 at (omega (arith, levels, inside)) in
    let more = length_push r.dirs d in
    let inside = m.inside in
    record {
      place = m.place;
      inside = omega (arith, more, inside);
      sound = sound_package world r.dirs r.mains lev (LinkOf r.links at links) (LinkOf r.links at (links ++ new ∷ [])) at new d manifest s (split_links r.links at links new) (kept_links r.links at links new) (inr (refl, In-last links new)) m.inside refl apart says (ap is_some stands)
          (dependency_is world (get_or r.dirs at []) name d done rest m.names leads) room m.top;
      exact = λ i lt.
          let wide : i < length r.dirs = omega (arith, inside, lt) in
          let old : get_or D i [] ≡ get_or r.dirs i [] = old_at r.dirs d [] i wide in
          subst (λ (x : List ℕ). Exact world D (get_or r.links i []) x (names_at world x)) (sym old)
          (exact_wider world r.dirs d (get_or r.links i []) (get_or r.dirs i []) (names_at world (get_or r.dirs i [])) (m.exact i lt) (λ l h. s.targets i l (inl h)));
      now = subst (λ (x : List ℕ). Exact world D (links ++ new ∷ []) x (done ++ name ∷ [])) (sym here)
          (exact_some world D links (get_or r.dirs at []) done name (length r.dirs) d (exact_wider world r.dirs d links (get_or r.dirs at []) done m.now (λ l h. s.targets at l (inr (refl, h)))) leads (new_at r.dirs d [] (length r.dirs) refl));
      names = ap (names_at world) here ∙ m.names ∙ moved done rest name;
      waits = map-append (λ (w : Waiting). w.dir) r.waiting (record { dir = d; names = manifest.names } ∷ [])
          ∙ ap (λ (l : List (List ℕ)). l ++ d ∷ []) m.waits ∙ sym (drop-append-le (at + 1) r.dirs (d ∷ []) (omega (arith, inside)));
      waiting = said_more world r.waiting (record { dir = d; names = manifest.names }) m.waiting (sym (ap names_said says));
      top = λ j lj. let old : (i : ℕ) → i < length r.dirs → get_or (lev ++ (get_or lev at 0 + 1) ∷ []) i 0 ≡ get_or lev i 0 = λ i lt. (let levels = s.levels in old_at lev (get_or lev at 0 + 1) 0 i (omega (arith, levels, lt))) in
          each r.dirs d (λ j. get_or (lev ++ (get_or lev at 0 + 1) ∷ []) j 0 ≤ get_or (lev ++ (get_or lev at 0 + 1) ∷ []) at 0 + 1)
          (λ j lj. let a = old j lj in let t = m.top j lj in omega (arith, a, level, t))
          (let last : get_or (lev ++ (get_or lev at 0 + 1) ∷ []) (length r.dirs) 0 ≡ get_or lev at 0 + 1 = new_at lev (get_or lev at 0 + 1) 0 (length r.dirs) s.levels in omega (arith, last, level)) j lj;
    }

-- THE CAUSES OF REFUSALS

-- the package that a name leads to is reached
reached_by : (world : World) (r : Reading) (at : ℕ) (links : List Link) (lev : List ℕ) (done rest : List (List ℕ)) (name d : List ℕ) → Midway world r at links lev done (name ∷ rest) → led_to world (get_or r.dirs at []) name ≡ Some d → IsReached world d
reached_by world r at links lev done rest name d m leads =
    let path = m.sound.reached at m.inside in
    (name ∷ path.0, end_more world name path.0 (get_or r.dirs at []) d path.1 (dependency_is world (get_or r.dirs at []) name d done rest m.names leads))

too_many : (world : World) (r : Reading) (at : ℕ) (links : List Link) (lev : List ℕ) (done rest : List (List ℕ)) (name d : List ℕ) → Midway world r at links lev done (name ∷ rest) → ((i : ℕ) → i < length r.dirs → get_or r.dirs i [] ≢ d) → led_to world (get_or r.dirs at []) name ≡ Some d → is_full r ≡ true → IsCause world too_many_packages
too_many world r at links lev done rest name d m apart leads full =
    let s = m.sound in
    let D : List (List ℕ) = r.dirs ++ d ∷ [] in
    let least : PACKAGE_LIMIT ≤ length r.dirs = leb-true PACKAGE_LIMIT (length r.dirs) full in
    let most = s.size in
    let more = length_push r.dirs d in
    let dir : (i : ℕ) → i < length r.dirs → get_or D i [] ≡ get_or r.dirs i [] = λ i lt. old_at r.dirs d [] i lt in
    let last : get_or D (length r.dirs) [] ≡ d = new_at r.dirs d [] (length r.dirs) refl in
    let once : (i j : ℕ) → i < length D → j < length D → get_or D i [] ≡ get_or D j [] → i ≡ j = λ i j li lj.
    each r.dirs d (λ i. (j : ℕ) → j < length D → get_or D i [] ≡ get_or D j [] → i ≡ j)
    (λ i li. each r.dirs d (λ j. get_or D i [] ≡ get_or D j [] → i ≡ j)
    (λ j lj e. s.once i j li lj (sym (dir i li) ∙ e ∙ dir j lj))
    (λ e. absurd (apart i li (sym (dir i li) ∙ e ∙ last))))
    (each r.dirs d (λ j. get_or D (length r.dirs) [] ≡ get_or D j [] → length r.dirs ≡ j)
    (λ j lj e. absurd (apart j lj (sym (dir j lj) ∙ sym e ∙ last)))
    (λ e. refl)) i li j lj in
    let reached : (i : ℕ) → i < length D → IsReached world (get_or D i []) =
    each r.dirs d (λ i. IsReached world (get_or D i []))
    (λ i lt. let path = s.reached i lt in (path.0, path.1 ∙ ap (λ (x : List ℕ). Some x) (sym (dir i lt))))
    (let path = reached_by world r at links lev done rest name d m leads in (path.0, path.1 ∙ ap (λ (x : List ℕ). Some x) (sym last))) in
    inl (refl, refl, (D, omega (arith, least, most, more), once, reached))

-- ONE NAME

-- what comes of one name: the links are as far as it, or there is a cause of the refusal
abbrev Goes : World → ℕ → List Link → (done rest : List (List ℕ)) → (dir name : List ℕ) → Result (Reading × Option ℕ) GraphFault → Type 0
Goes world at links done rest dir name (Err fault) = IsCause world fault
Goes world at links done rest dir name (Ok s) =
    (lev : List ℕ) × Midway world s.0 at (with_link links name s.1) lev (done ++ name ∷ []) rest × (dir ≡ get_or s.0.dirs at [])

other_than : (dir to : List ℕ) → bytes_eq to dir ≡ false → another dir (Some to) ≡ Some to
other_than dir to apart = cond-false (bytes_eq to dir) None (Some to) apart

known_goes : (world : World) (r : Reading) (at : ℕ) (links : List Link) (lev : List ℕ) (done rest : List (List ℕ)) (dir name : List ℕ) (place : ℕ) → Midway world r at links lev done (name ∷ rest) → dir ≡ get_or r.dirs at [] → place < length r.dirs → package_under world (directories_above dir) name ≡ Some (get_or r.dirs place []) → Goes world at links done rest dir name (linked_to at r (Known place))
known_goes world r at links lev done rest dir name place m is lt under =
    let here : led_to world (get_or r.dirs at []) name ≡ another dir (Some (get_or r.dirs place [])) = ap (λ (d : List ℕ). led_to world d name) (sym is) ∙ ap (another dir) under in
    ⊎_elim
    (λ (e : place ≡ at).
    let itself : bytes_eq (get_or r.dirs place []) dir ≡ true = ap (λ (i : ℕ). bytes_eq (get_or r.dirs i []) dir) e ∙ ap (bytes_eq (get_or r.dirs at [])) is ∙ bytes_same (get_or r.dirs at []) in
    let none : led_to world (get_or r.dirs at []) name ≡ None = here ∙ cond-true (bytes_eq (get_or r.dirs place []) dir) None (Some (get_or r.dirs place [])) itself in
    subst (λ (b : Bool). Goes world at links done rest dir name (Ok (r, cond b None (Some place)))) (sym (eq-eqb place at e))
    (lev, skipped world r at links lev done rest name m none, is))
    (λ (e : place ≡ at → ⊥).
    let apart : bytes_eq (get_or r.dirs place []) dir ≡ false =
    false_from_ne_true (bytes_eq (get_or r.dirs place []) dir) (λ same. e (m.sound.once place at lt m.inside ((bytes_eq-Decides (get_or r.dirs place []) dir).0 same ∙ is))) in
    let leads = here ∙ other_than dir (get_or r.dirs place []) apart in
    subst (λ (b : Bool). Goes world at links done rest dir name (Ok (r, cond b None (Some place)))) (sym (ne_eqb place at e))
    (lev, joined world r at links lev done rest name place m lt leads, is))
    (cases_eq place at)

new_goes : (world : World) (r : Reading) (at : ℕ) (links : List Link) (lev : List ℕ) (done rest : List (List ℕ)) (dir name d : List ℕ) (standing : Standing) → Midway world r at links lev done (name ∷ rest) → dir ≡ get_or r.dirs at [] → world d ≡ Some standing → ((i : ℕ) → i < length r.dirs → get_or r.dirs i [] ≢ d) → led_to world (get_or r.dirs at []) name ≡ Some d → Goes world at links done rest dir name (taken_in r d standing)
new_goes world r at links lev done rest dir name d Longer m is stands apart leads =
    elim (is_full r) as (λ b. is_full r ≡ b → Goes world at links done rest dir name (Err (cond b too_many_packages too_long_file))) [
      | true ↦ λ full. too_many world r at links lev done rest name d m apart leads full
      | false ↦ λ full. inr (refl, refl, (d, reached_by world r at links lev done rest name d m leads, ap own_standing stands))
    ] refl
new_goes world r at links lev done rest dir name d (Refused field) m is stands apart leads =
    (d, field, reached_by world r at links lev done rest name d m leads, ap own_standing stands, refl, refl)
new_goes world r at links lev done rest dir name d (Says manifest) m is stands apart leads =
    let inside = m.inside in
    elim (is_full r) as (λ b. is_full r ≡ b → Goes world at links done rest dir name (cond b (Err too_many_packages) (Ok (with_package r d manifest, Some (length r.dirs))))) [
      | true ↦ λ full. too_many world r at links lev done rest name d m apart leads full
      | false ↦ λ full. (
        lev ++ (get_or lev at 0 + 1) ∷ [],
        added world r at links lev done rest name d manifest m apart stands leads (leb-false PACKAGE_LIMIT (length r.dirs) full),
        is ∙ sym (old_at r.dirs d [] at inside),
      )
    ] refl

tells_goes : (world : World) (r : Reading) (at : ℕ) (links : List Link) (lev : List ℕ) (done rest : List (List ℕ)) (dir name : List ℕ) (n : Nearest) → Midway world r at links lev done (name ∷ rest) → dir ≡ get_or r.dirs at [] → Tells world r.dirs (directories_above dir) name n → Goes world at links done rest dir name (linked_to at r n)
tells_goes world r at links lev done rest dir name Nowhere m is t =
    (lev, skipped world r at links lev done rest name m (ap (λ (d : List ℕ). led_to world d name) (sym is) ∙ ap (another dir) t), is)
tells_goes world r at links lev done rest dir name (Known place) m is t =
    known_goes world r at links lev done rest dir name place m is t.0 t.1
tells_goes world r at links lev done rest dir name (New d standing) m is t =
    let apart : bytes_eq d dir ≡ false = false_from_ne_true (bytes_eq d dir) (λ same. t.2 at m.inside (sym is ∙ sym ((bytes_eq-Decides d dir).0 same))) in
    let leads : led_to world (get_or r.dirs at []) name ≡ Some d = ap (λ (x : List ℕ). led_to world x name) (sym is) ∙ ap (another dir) t.0 ∙ other_than dir d apart in
    new_goes world r at links lev done rest dir name d standing m is t.1 t.2 leads

one_name : (world : World) (r : Reading) (at : ℕ) (links : List Link) (lev : List ℕ) (done rest : List (List ℕ)) (dir name : List ℕ) → Midway world r at links lev done (name ∷ rest) → dir ≡ get_or r.dirs at [] → Goes world at links done rest dir name (linked world at dir r name)
one_name world r at links lev done rest dir name m is =
    tells_goes world r at links lev done rest dir name (nearest world r.dirs (directories_above dir) name) m is (tells world r.dirs (directories_above dir) name m.sound.first m.sound.stands)

-- ALL NAMES OF A PACKAGE

-- what comes of the names: all links, or a cause of the refusal
abbrev pub Finishes : World → ℕ → (all : List (List ℕ)) → Result (Reading × List Link) GraphFault → Type 0
Finishes world at all (Err fault) = IsCause world fault
Finishes world at all (Ok s) = (lev : List ℕ) × Midway world s.0 at s.1 lev all []

pub all_names : (world : World) (r : Reading) (at : ℕ) (links : List Link) (lev : List ℕ) (done rest : List (List ℕ)) (dir : List ℕ) → Midway world r at links lev done rest → dir ≡ get_or r.dirs at [] → Finishes world at (done ++ rest) (links_from world at dir r links rest)
all_names world r at links lev done [] dir m is =
    (lev, subst (λ (l : List (List ℕ)). Midway world r at links lev l []) (sym (append-nil done)) m)
all_names world r at links lev done (name ∷ rest) dir m is =
    elim (linked world at dir r name) as (λ x. Goes world at links done rest dir name x → Finishes world at (done ++ name ∷ rest) (then_on x (λ s. links_from world at dir s.0 (with_link links name s.1) rest))) [
      | Err fault ↦ λ h. h
      | Ok s ↦ λ h.
          subst (λ (l : List (List ℕ)). Finishes world at l (links_from world at dir s.0 (with_link links name s.1) rest)) (sym (moved done rest name))
          (all_names world s.0 at (with_link links name s.1) h.0 (done ++ name ∷ []) rest dir h.1 h.2)
    ] (one_name world r at links lev done rest dir name m is)
