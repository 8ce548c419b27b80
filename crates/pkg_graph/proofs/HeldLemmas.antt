-- What holds when a package's links are found, and when no package waits any more.
use Rattle.std.proofs.Common.{◌≡◌, inl, inr, ⊎_elim, ℕ, zero, suc, ◌+◌, ◌-◌, ◌<◌, ◌≤◌, List, [], ◌∷◌, ◌++◌, length, get_or, drop, map, Some, Result, Ok, Err, refl, sym, ap, ◌∙◌, subst, arith}
use Rattle.std.proofs.lemmas.Bool.{cases_lt}
use Rattle.std.proofs.lemmas.List.{length_push, length-drop, append-nil, get_or_append_left, get_or_push, get_or_past, drop_more}
use Rattle.pkg_graph.specs.Worlds.{World}
use Rattle.pkg_graph.specs.Reading.{Reading, empty_reading, with_package, taken_in, first_of, started, with_links, links_from, then_on, read_next, read_on}
use Rattle.pkg_graph.specs.Paths.{said_at, names_said, names_at, end_of}
use Rattle.pkg_graph.specs.Graphs.{IsCause}
use Rattle.pkg_graph.specs.declared.limits.TheConstants.{PACKAGE_LIMIT}
use Rattle.pkg_graph.specs.declared.fault.GraphFault.{GraphFault}
use Rattle.pkg_graph.specs.declared.link.Link.{Link}
use Rattle.pkg_graph.specs.declared.manifest.Manifest.{Manifest}
use Rattle.pkg_graph.specs.declared.standing.Standing.{Standing}
use Rattle.pkg_graph.specs.declared.standing.Standing.TheVariants.{Longer, Refused, Manifest as Says}
use Rattle.pkg_graph.specs.declared.waiting.Waiting.{Waiting}
use Rattle.pkg_graph.proofs.SoundLemmas.{Sound, sound_same, each}
use Rattle.pkg_graph.proofs.FoundLemmas.{Exact, In}
use Rattle.pkg_graph.proofs.WalkLemmas.{LinkOf, AsSaid, Midway, Finishes, all_names}

abbrev pub LinkIn : List (List Link) → ℕ → Link → Type 0
LinkIn all i l = In l (get_or all i [])

-- The first packages have their links, and the others wait.
pub record Held (world : World) (r : Reading) (lev : List ℕ) : Type 0 where
  pub sound : Sound world r.dirs r.mains lev (LinkIn r.links)
  pub exact : (i : ℕ) → i < length r.links → Exact world r.dirs (get_or r.links i []) (get_or r.dirs i []) (names_at world (get_or r.dirs i []))
  pub count : length r.links ≤ length r.dirs
  pub waits : map (λ (w : Waiting). w.dir) r.waiting ≡ drop (length r.links) r.dirs
  pub waiting : AsSaid world r.waiting
  pub top : (j : ℕ) → length r.links < length r.dirs → j < length r.dirs → get_or lev j 0 ≤ get_or lev (length r.links) 0 + 1

first_dir : (a b : List ℕ) (s t : List (List ℕ)) → a ∷ s ≡ b ∷ t → a ≡ b
first_dir a b s t e = ap (λ (l : List (List ℕ)). get_or l 0 []) e

other_dirs : (a b : List ℕ) (s t : List (List ℕ)) → a ∷ s ≡ b ∷ t → s ≡ t
other_dirs a b s t e = ap (λ (l : List (List ℕ)). drop 1 l) e

-- no link of a place past the end
no_links : (all : List (List Link)) (i : ℕ) (l : Link) → length all ≤ i → In l (get_or all i []) → ⊥
no_links all i l past h = subst (In l) (get_or_past all i [] past) h

-- the next package is taken
pub begun : (world : World) (r : Reading) (lev : List ℕ) (next : Waiting) (waiting : List Waiting) → Held world r lev → r.waiting ≡ next ∷ waiting → Midway world (record r { waiting = waiting }) (length r.links) [] lev [] next.names × (next.dir ≡ get_or r.dirs (length r.links) [])
begun world r lev next waiting h e =
    let at : ℕ = length r.links in
    let waits : next.dir ∷ map (λ (w : Waiting). w.dir) waiting ≡ drop at r.dirs = ap (map (λ (w : Waiting). w.dir)) (sym e) ∙ h.waits in
    let lengths : suc (length (map (λ (w : Waiting). w.dir) waiting)) ≡ length r.dirs - at = ap length waits ∙ length-drop at r.dirs in
    let inside : at < length r.dirs = omega (arith, lengths) in
    let more = waits ∙ drop_more r.dirs at [] inside in
    let dir = first_dir next.dir (get_or r.dirs at []) (map (λ (w : Waiting). w.dir) waiting) (drop (at + 1) r.dirs) more in
    let said : AsSaid world (next ∷ waiting) = subst (AsSaid world) e h.waiting in (
      record {
        place = refl;
        inside = inside;
        sound = sound_same world r.dirs r.mains lev (LinkIn r.links) (LinkOf r.links at []) h.sound
            (λ i l k. ⊎_elim (λ (m : In l (get_or r.links i [])). m) (λ (m : (i ≡ at) × ⊥). absurd m.1) k)
            (λ i l k. inl k);
        exact = h.exact;
        now = refl;
        names = sym (said.0 ∙ ap (names_at world) dir);
        waits = other_dirs next.dir (get_or r.dirs at []) (map (λ (w : Waiting). w.dir) waiting) (drop (at + 1) r.dirs) more;
        waiting = said.1;
        top = λ j lj. h.top j inside lj;
      },
      dir,
    )

-- the package's links are found
pub ended : (world : World) (r : Reading) (at : ℕ) (links : List Link) (lev : List ℕ) (all : List (List ℕ)) → Midway world r at links lev all [] → Held world (with_links r links) lev
ended world r at links lev all m =
    let place = m.place in
    let inside = m.inside in
    let L : List (List Link) = r.links ++ links ∷ [] in
    let count = length_push r.links links in
    let next : length L ≡ at + 1 = omega (arith, count, place) in
    let old : (i : ℕ) → i < length r.links → get_or L i [] ≡ get_or r.links i [] = λ i lt. get_or_append_left r.links (links ∷ []) [] i lt in
    let last : get_or L at [] ≡ links = get_or_push r.links links [] at place in
    record {
      sound = sound_same world r.dirs r.mains lev (LinkOf r.links at links) (LinkIn L) m.sound
          (λ i l k. ⊎_elim
          (λ (lt : i < length r.links). inl (subst (In l) (old i lt) k))
          (λ (ge : length r.links ≤ i). ⊎_elim
          (λ (lt : i < length L). let is : i ≡ at = omega (arith, count, place, ge, lt) in inr (is, subst (In l) (ap (λ (x : ℕ). get_or L x []) is ∙ last) k))
          (λ (past : length L ≤ i). absurd (no_links L i l past k))
          (cases_lt i (length L)))
          (cases_lt i (length r.links)))
          (λ i l k. ⊎_elim
          (λ (h : In l (get_or r.links i [])). ⊎_elim
          (λ (lt : i < length r.links). subst (In l) (sym (old i lt)) h)
          (λ (past : length r.links ≤ i). absurd (no_links r.links i l past h))
          (cases_lt i (length r.links)))
          (λ (h : (i ≡ at) × In l links). subst (In l) (sym (ap (λ (x : ℕ). get_or L x []) h.0 ∙ last)) h.1)
          k);
      exact = each r.links links (λ i. Exact world r.dirs (get_or L i []) (get_or r.dirs i []) (names_at world (get_or r.dirs i [])))
          (λ i lt. subst (λ (x : List Link). Exact world r.dirs x (get_or r.dirs i []) (names_at world (get_or r.dirs i []))) (sym (old i lt)) (m.exact i (omega (arith, place, lt))))
          (subst (λ (i : ℕ). Exact world r.dirs (get_or L i []) (get_or r.dirs i []) (names_at world (get_or r.dirs i []))) (sym place)
          (subst (λ (x : List Link). Exact world r.dirs x (get_or r.dirs at []) (names_at world (get_or r.dirs at []))) (sym last)
          (subst (λ (x : List (List ℕ)). Exact world r.dirs links (get_or r.dirs at []) x) (sym (m.names ∙ append-nil all)) m.now)));
      count = omega (arith, next, inside);
      waits = m.waits ∙ ap (λ (n : ℕ). drop n r.dirs) (sym next);
      waiting = m.waiting;
      top = λ j lt lj.
          let a = m.top j lj in
          let b = m.sound.rises at (length L) (omega (arith, next)) lt in
          omega (arith, a, b);
    }

-- what comes of the packages that wait: all have their links, or there is a cause of the refusal
abbrev pub Completes : World → Result (Reading × Unit {0}) GraphFault → Type 0
Completes world (Err fault) = IsCause world fault
Completes world (Ok s) = (lev : List ℕ) × Held world s.0 lev × (length s.0.links ≡ length s.0.dirs)

pub all_packages : (world : World) (count : ℕ) (r : Reading) (lev : List ℕ) → Held world r lev → length r.links + count ≡ PACKAGE_LIMIT → Completes world (read_on world count r)
unfolding read_on
all_packages world zero r lev h e =
    let most = h.sound.size in
    let least = h.count in
    (lev, h, omega (arith, e, most, least))
all_packages world (suc count) r lev h e =
    elim r.waiting as (λ w. r.waiting ≡ w → Completes world (read_next (read_on world count) world r w)) [
      | [] ↦ λ none.
          let nothing : [] ≡ drop (length r.links) r.dirs = ap (map (λ (w : Waiting). w.dir)) (sym none) ∙ h.waits in
          let lengths : 0 ≡ length r.dirs - length r.links = ap length nothing ∙ length-drop (length r.links) r.dirs in
          let least = h.count in
          (lev, h, omega (arith, lengths, least))
      | next ∷ waiting ↦ λ is.
          let b = begun world r lev next waiting h is in
          let taken : Reading = record r { waiting = waiting } in
          elim (links_from world (length r.links) next.dir taken [] next.names) as (λ x. Finishes world (length r.links) next.names x → Completes world (then_on x (λ s. read_on world count (with_links s.0 s.1)))) [
            | Err fault ↦ λ k. k
            | Ok s ↦ λ k.
                let place = k.1.place in
                let more = length_push s.0.links s.1 in
                all_packages world count (with_links s.0 s.1) k.0 (ended world s.0 (length r.links) s.1 k.0 next.names k.1) (omega (arith, more, place, e))
          ] (all_names world taken (length r.links) [] lev [] next.names next.dir b.0 b.1)
    ] refl

-- what comes of the application's own package
abbrev pub Starts : World → Result Reading GraphFault → Type 0
Starts world (Err fault) = IsCause world fault
Starts world (Ok r) = (lev : List ℕ) × Held world r lev × (length r.links ≡ 0)

only : (P : ℕ → Type 0) → P 0 → (i : ℕ) → i < 1 → P i
only P here i lt = let e : 0 ≡ i = omega (arith, lt) in subst P e here

abbrev own_level : ℕ → ℕ
own_level i = get_or (0 ∷ []) i 0

level_zero : (i : ℕ) → i < 1 → own_level i ≡ 0
level_zero = only (λ i. own_level i ≡ 0) refl

own_held : (world : World) (m : Manifest) → said_at world [] ≡ Says m → Held world (with_package empty_reading [] m) (0 ∷ [])
own_held world m says = record {
  sound = record {
    some = omega arith;
    first = refl;
    mains = refl;
    levels = refl;
    size = omega arith;
    said = only (λ i. (w : Manifest) × (said_at world (get_or ([] ∷ []) i []) ≡ Says w) × (get_or (m.main ∷ []) i [] ≡ w.main)) (m, says, refl);
    stands = λ i pos lt. let p : 0 < i = pos in let l : i < 1 = lt in absurd (omega (arith, p, l));
    once = λ i j li lj e. let a : i < 1 = li in let b : j < 1 = lj in omega (arith, a, b);
    reached = only (λ i. (path : List (List ℕ)) × (end_of world path ≡ Some (get_or ([] ∷ []) i [])) × (length path ≡ get_or (0 ∷ []) i 0)) ([], refl, refl);
    rises = λ i j le lj. let b : j < 1 = lj in let ei = level_zero i (omega (arith, le, b)) in let ej = level_zero j b in omega (arith, ei, ej);
    sources = λ i l h. absurd h;
    targets = λ i l h. absurd h;
    near = λ i l h. absurd h;
    steps = λ i l h. absurd h;
    origin = λ j pos lt. let p : 0 < j = pos in let l : j < 1 = lt in absurd (omega (arith, p, l));
  };
  exact = λ i lt. let none : i < 0 = lt in absurd (omega (arith, none));
  count = omega arith;
  waits = refl;
  waiting = (sym (ap names_said says), tt);
  top = λ j lt lj. let b : j < 1 = lj in let ej = level_zero j b in omega (arith, ej);
}

own_goes : (world : World) (standing : Standing) → said_at world [] ≡ standing → Starts world (first_of (taken_in empty_reading [] standing))
own_goes world Longer says = inr (refl, refl, ([], ([], refl), says))
own_goes world (Refused field) says = ([], field, ([], refl), says, refl, refl)
own_goes world (Says m) says = (0 ∷ [], own_held world m says, refl)

pub own_package : (world : World) → Starts world (started (world []))
own_package world = own_goes world (said_at world []) refl
