-- One pass over the links gives each package its canonical name.
use Rattle.std.proofs.Common.{◌≡◌, ◌≢◌, ◌⊎◌, inl, inr, ⊎_elim, ℕ, zero, suc, ◌+◌, ◌-◌, ◌==◌, ◌<◌, ◌≤◌, ◌&&◌, ◌||◌, Bool, true, false, List, [], ◌∷◌, length, get_or, set, drop, map, replicate, bytes_eq, nat_lt, Some, None, option_map, filter_map, refl, sym, ap, ◌∙◌, subst, arith}
use Rattle.std.specs.List.{list_any, cons_option}
use Rattle.std.specs.Cmp.Lexicographic.{slice_cmp}
use Rattle.std.specs.Ordering.{nat_cmp, is_lt}
use Rattle.std.proofs.lemmas.Bool.{cases_lt, cases_eq, cases_Bool, and_parts, and_cases, or_cases, or_parts, eqb-true, lt-ltb, le-ltb, ne_eqb, cond-true, cond-false, true≢false, both_ways}
use Rattle.std.proofs.lemmas.List.{length-set, get_or-set_same, get_or-set_other, length-replicate, drop_more, length-drop, nil_from_length}
use Rattle.std.proofs.lemmas.Option.{none-some, same_Some}
use Rattle.std.proofs.lemmas.Slice.Eq.{bytes_eq-Decides}
use Rattle.pkg_graph.specs.Worlds.{World}
use Rattle.pkg_graph.specs.Naming.{depth, longer, is_earlier, replaces, named_as, named_by, named_by_all, named_from, names_by}
use Rattle.pkg_graph.specs.Paths.{names_at, led_to, found_dependency, dependency, end_of, path_text, IsCanonicalName}
use Rattle.pkg_graph.specs.declared.limits.TheConstants.{APPLICATION_NAME}
use Rattle.pkg_graph.specs.declared.link.Link.{Link}
use Rattle.pkg_graph.proofs.PathLemmas.{Lawful, dependency_name, valid_path, end_parts, end_more, end_some, longer_text, depth_text, text_some, NoLater-more, IsNoLater-from, guarded}
use Rattle.pkg_graph.proofs.SplitLemmas.{not_nil}
use Rattle.pkg_graph.proofs.RankLemmas.{NoLater, NoLater-refl, NoLater-trans, NoLater-from, NoLater-earlier}
use Rattle.pkg_graph.proofs.SoundLemmas.{Sound}
use Rattle.pkg_graph.proofs.FoundLemmas.{Exact, In, told}
use Rattle.pkg_graph.proofs.HeldLemmas.{LinkIn}

abbrev at_place : List (List ℕ) → ℕ → List ℕ
at_place names j = get_or names j []

-- the text of a shortest path to the package at a place
abbrev pub Named : World → (D : List (List ℕ)) → (lev : List ℕ) → ℕ → List ℕ → Type 0
Named world D lev j text =
    (path : List (List ℕ)) × (end_of world path ≡ Some (get_or D j [])) × (length path ≡ get_or lev j 0) × (text ≡ path_text path)

-- a link's package has a name, and no later one than by this link
abbrev Done : List (List ℕ) → List ℕ → Link → Type 0
Done names from link = (get_or names link.target [] ≢ []) × NoLater (get_or names link.target []) (longer from link.name)

-- What the links of the package at a place leave of names.
record Kept (world : World) (D : List (List ℕ)) (lev : List ℕ) (at : ℕ) (names more : List (List ℕ)) : Type 0 where
  count : length more ≡ length D
  root : get_or more 0 [] ≡ APPLICATION_NAME.now
  named : (j : ℕ) → j < length D → (get_or more j [] ≡ []) ⊎ Named world D lev j (get_or more j [])
  better : (j : ℕ) → j < length D → get_or names j [] ≢ [] → (get_or more j [] ≢ []) × NoLater (get_or more j []) (get_or names j [])
  same : (j : ℕ) → j < length D → get_or lev j 0 ≤ get_or lev at 0 → get_or more j [] ≡ get_or names j []

-- The names after the links of the packages before a place.
pub record Passed (world : World) (D : List (List ℕ)) (lev : List ℕ) (L : List (List Link)) (at : ℕ) (names : List (List ℕ)) : Type 0 where
  pub count : length names ≡ length D
  pub root : get_or names 0 [] ≡ APPLICATION_NAME.now
  pub named : (j : ℕ) → j < length D → (get_or names j [] ≡ []) ⊎ Named world D lev j (get_or names j [])
  pub done : (i : ℕ) (l : Link) → i < at → LinkIn L i l → (get_or names l.target [] ≢ []) × NoLater (get_or names l.target []) (longer (get_or names i []) l.name)

positive : (n : ℕ) → (n ≡ 0 → ⊥) → 0 < n
positive zero some = absurd (some refl)
positive (suc n) some = omega arith

-- a text with more names is not earlier
not_earlier : (text old : List ℕ) → depth old < depth text → is_earlier text old ≡ false
not_earlier text old less =
    let lt : nat_lt (depth text) (depth old) ≡ false = le-ltb (depth text) (depth old) (omega (arith, less)) in
    let eq : (depth text == depth old) ≡ false = ne_eqb (depth text) (depth old) (λ e. omega (arith, less, e)) in
    let rest : Bool = is_lt (slice_cmp nat_cmp text old) in
    ap (λ (b : Bool). b || ((depth text == depth old) && rest)) lt ∙ ap (λ (b : Bool). b && rest) eq

empty : (s : List ℕ) → (length s == 0) ≡ true → s ≡ []
empty s e = nil_from_length s (eqb-true (length s) 0 e)

some_length : (s : List ℕ) → (length s == 0) ≡ false → s ≢ []
some_length s e is = both_ways (length s == 0) e (ap (λ (t : List ℕ). length t == 0) is)

longer_by : (name : List ℕ) (path : List (List ℕ)) (n : ℕ) → length path ≡ n → length (name ∷ path) ≡ n + 1
longer_by name path n e = let more : length (name ∷ path) ≡ suc (length path) = refl in omega (arith, more, e)

some_root : APPLICATION_NAME.now ≢ []
some_root e = not_nil 36 _ e

-- a path to a package that is not the application has names
deeper : (world : World) (path : List (List ℕ)) (to : List ℕ) → Lawful world → end_of world path ≡ Some to → to ≢ [] → depth (path_text path) + 1 ≡ length path
deeper world [] to lawful e some = absurd (some (sym (same_Some [] to e)))
deeper world (name ∷ path) to lawful e some =
    let d = depth_text name path (valid_path world (name ∷ path) to lawful e) in
    let n : length (name ∷ path) ≡ suc (length path) = refl in
    omega (arith, d, n)

-- ONE LINK

one_link : (world : World) (D M : List (List ℕ)) (lev : List ℕ) (L : List (List Link)) (at place : ℕ) (names : List (List ℕ)) (text : List ℕ) (path : List (List ℕ)) → Lawful world → Sound world D M lev (LinkIn L) → length names ≡ length D → get_or names 0 [] ≡ APPLICATION_NAME.now → ((j : ℕ) → j < length D → (get_or names j [] ≡ []) ⊎ Named world D lev j (get_or names j [])) → 0 < place → place < length D → get_or lev place 0 ≤ get_or lev at 0 + 1 → (get_or lev place 0 ≤ get_or lev at 0 → get_or names place [] ≢ []) → end_of world path ≡ Some (get_or D place []) → length path ≡ get_or lev at 0 + 1 → text ≡ path_text path → Kept world D lev at names (named_as names place text) × (get_or (named_as names place text) place [] ≢ []) × NoLater (get_or (named_as names place text) place []) text
one_link world D M lev L at place names text path lawful s count root named pos lt near settled ends long is =
    let old : List ℕ = get_or names place [] in
    let inside : place < length names = omega (arith, count, lt) in
    let test : Bool = nat_lt place (length names) && replaces text old in
    let apart : get_or D place [] ≢ [] = λ e. (let z = s.once place 0 lt s.some (e ∙ sym s.first) in omega (arith, pos, z)) in
    let text_is_some : text ≢ [] = λ e. text_some path (valid_path world path (get_or D place []) lawful ends) (sym is ∙ e) in
    ⊎_elim
    (λ (yes : test ≡ true).
    let parts = and_parts (nat_lt place (length names)) (replaces text old) yes in
    let next : get_or lev place 0 ≡ get_or lev at 0 + 1 =
    ⊎_elim
    (λ (less : get_or lev place 0 < get_or lev at 0 + 1).
    let low : get_or lev place 0 ≤ get_or lev at 0 = omega (arith, less) in
    let has : old ≢ [] = settled low in
    absurd (⊎_elim
    (λ (none : old ≡ []). has none)
    (λ (n : Named world D lev place old).
    let a = deeper world n.0 (get_or D place []) lawful n.1 apart in
    let b = deeper world path (get_or D place []) lawful ends apart in
    let da = ap depth n.3 in
    let db = ap depth is in
    let la = n.2 in
    let not = not_earlier text old (omega (arith, a, b, da, db, la, long, low)) in
    ⊎_elim
    (λ (e : (length old == 0) ≡ true). has (empty old e))
    (λ (e : is_earlier text old ≡ true). both_ways (is_earlier text old) not e)
    (or_cases (length old == 0) (is_earlier text old) parts.1))
    (named place lt)))
    (λ (ge : get_or lev at 0 + 1 ≤ get_or lev place 0). omega (arith, ge, near))
    (cases_lt (get_or lev place 0) (get_or lev at 0 + 1)) in
    let put : named_as names place text ≡ set names place text = cond-true test (set names place text) names yes in
    let here : get_or (set names place text) place [] ≡ text = get_or-set_same names place text [] inside in
    let there : (j : ℕ) → (j ≡ place → ⊥) → get_or (set names place text) j [] ≡ get_or names j [] = λ j ne. get_or-set_other names place j text [] ne in
    subst (λ (more : List (List ℕ)). Kept world D lev at names more × (get_or more place [] ≢ []) × NoLater (get_or more place []) text) (sym put) (
      record {
        count = length-set names place text ∙ count;
        root = there 0 (λ z. omega (arith, pos, z)) ∙ root;
        named = λ j lj. ⊎_elim
            (λ (e : j ≡ place). inr (subst (λ (x : ℕ). Named world D lev x (get_or (set names place text) x [])) (sym e) (path, ends, long ∙ sym next, here ∙ is)))
            (λ (ne : j ≡ place → ⊥). subst (λ (x : List ℕ). (x ≡ []) ⊎ Named world D lev j x) (sym (there j ne)) (named j lj))
            (cases_eq j place);
        better = λ j lj has. ⊎_elim
            (λ (e : j ≡ place).
            let has_old : old ≢ [] = λ none. has (ap (λ (x : ℕ). get_or names x []) e ∙ none) in
            let earlier : is_earlier text old ≡ true =
            ⊎_elim
            (λ (z : (length old == 0) ≡ true). absurd (has_old (empty old z)))
            (λ (z : is_earlier text old ≡ true). z)
            (or_cases (length old == 0) (is_earlier text old) parts.1) in
            let at_j : get_or (set names place text) j [] ≡ text = ap (λ (x : ℕ). get_or (set names place text) x []) e ∙ here in
            (λ none. text_is_some (sym at_j ∙ none), subst (λ (x : List ℕ). NoLater x (get_or names j [])) (sym at_j) (subst (λ (x : ℕ). NoLater text (get_or names x [])) (sym e) (NoLater-earlier text old earlier))))
            (λ (ne : j ≡ place → ⊥). (λ none. has (sym (there j ne) ∙ none), subst (λ (x : List ℕ). NoLater x (get_or names j [])) (sym (there j ne)) (NoLater-refl (get_or names j []))))
            (cases_eq j place);
        same = λ j lj low. there j (λ e. (let l = ap (λ (x : ℕ). get_or lev x 0) e in omega (arith, l, next, low)));
      },
      λ none. text_is_some (sym here ∙ none),
      subst (λ (x : List ℕ). NoLater x text) (sym here) (NoLater-refl text),
    ))
    (λ (nay : test ≡ false).
    let stays : named_as names place text ≡ names = cond-false test (set names place text) names nay in
    let kept : replaces text old ≡ false =
    ⊎_elim
    (λ (e : nat_lt place (length names) ≡ false). absurd (both_ways (nat_lt place (length names)) e (lt-ltb place (length names) inside)))
    (λ (e : replaces text old ≡ false). e)
    (and_cases (nat_lt place (length names)) (replaces text old) nay) in
    let parts = or_parts (length old == 0) (is_earlier text old) kept in
    subst (λ (more : List (List ℕ)). Kept world D lev at names more × (get_or more place [] ≢ []) × NoLater (get_or more place []) text) (sym stays) (
      record {
        count = count;
        root = root;
        named = named;
        better = λ j lj has. (has, NoLater-refl (get_or names j []));
        same = λ j lj low. refl;
      },
      some_length old parts.0,
      NoLater-from old text parts.1,
    ))
    (cases_Bool test)

-- ALL LINKS OF A PACKAGE

kept_on : (world : World) (D : List (List ℕ)) (lev : List ℕ) (at : ℕ) (a b c : List (List ℕ)) → Kept world D lev at a b → Kept world D lev at b c → Kept world D lev at a c
kept_on world D lev at a b c k h = record {
  count = h.count;
  root = h.root;
  named = h.named;
  better = λ j lj has.
      let one = k.better j lj has in
      let two = h.better j lj one.0 in
      (two.0, NoLater-trans (get_or c j []) (get_or b j []) (get_or a j []) two.1 one.1);
  same = λ j lj low. h.same j lj low ∙ k.same j lj low;
}

-- a link never leads to the application's own package
target_some : (world : World) (D M : List (List ℕ)) (lev : List ℕ) (L : List (List Link)) (i : ℕ) (l : Link) → Sound world D M lev (LinkIn L) → LinkIn L i l → 0 < l.target
target_some world D M lev L i l s h =
    let path = s.reached i (s.sources i l h) in
    let some = end_some world l.name path.0 (get_or D l.target []) (end_more world l.name path.0 (get_or D i []) (get_or D l.target []) path.1 (s.steps i l h)) in
    positive l.target (λ z. some (ap (λ (x : ℕ). get_or D x []) z ∙ s.first))

all_links : (world : World) (D M : List (List ℕ)) (lev : List ℕ) (L : List (List Link)) (at : ℕ) (names : List (List ℕ)) (from : List ℕ) (links : List Link) → Lawful world → Sound world D M lev (LinkIn L) → length names ≡ length D → get_or names 0 [] ≡ APPLICATION_NAME.now → ((j : ℕ) → j < length D → (get_or names j [] ≡ []) ⊎ Named world D lev j (get_or names j [])) → ((j : ℕ) → j < length D → get_or lev j 0 ≤ get_or lev at 0 → get_or names j [] ≢ []) → Named world D lev at from → ((l : Link) → In l links → LinkIn L at l) → Kept world D lev at names (named_by_all names from links) × ((l : Link) → In l links → Done (named_by_all names from links) from l)
all_links world D M lev L at names from [] lawful s count root named settled is of = (
  record {
    count = count;
    root = root;
    named = named;
    better = λ j lj has. (has, NoLater-refl (get_or names j []));
    same = λ j lj low. refl;
  },
  λ l h. absurd h,
)
all_links world D M lev L at names from (link ∷ links) lawful s count root named settled is of =
    let h : LinkIn L at link = of link (inl refl) in
    let path : List (List ℕ) = link.name ∷ is.0 in
    let text : List ℕ = longer from link.name in
    let target = s.targets at link h in
    let ends = end_more world link.name is.0 (get_or D at []) (get_or D link.target []) is.1 (s.steps at link h) in
    let text_is : text ≡ path_text path = ap (λ (t : List ℕ). longer t link.name) is.3 ∙ longer_text link.name is.0 (valid_path world is.0 (get_or D at []) lawful is.1) in
    let one = one_link world D M lev L at link.target names text path lawful s count root named (target_some world D M lev L at link s h) target (s.near at link h) (settled link.target target) ends (longer_by link.name is.0 (get_or lev at 0) is.2) text_is in
    let next : List (List ℕ) = named_by names from link in
    let rest = all_links world D M lev L at next from links lawful s one.0.count one.0.root one.0.named (λ j lj low none. settled j lj low (sym (one.0.same j lj low) ∙ none)) is (λ l k. of l (inr k)) in
    let more : List (List ℕ) = named_by_all next from links in (
      kept_on world D lev at names next more one.0 rest.0,
      λ l k. ⊎_elim
          (λ (e : l ≡ link).
          let b = rest.0.better link.target target one.1 in
          subst (λ (x : Link). Done more from x) (sym e) (b.0, NoLater-trans (get_or more link.target []) (get_or next link.target []) text b.1 one.2))
          (λ (m : In l links). rest.1 l m)
          k,
    )

-- ALL PACKAGES

has_name : (world : World) (D : List (List ℕ)) (lev : List ℕ) (j : ℕ) (t : List ℕ) → t ≢ [] → (t ≡ []) ⊎ Named world D lev j t → Named world D lev j t
has_name world D lev j t some (inl none) = absurd (some none)
has_name world D lev j t some (inr n) = n

all_passed : (world : World) (D M : List (List ℕ)) (lev : List ℕ) (L : List (List Link)) (left : List (List Link)) (at : ℕ) (names : List (List ℕ)) → Lawful world → Sound world D M lev (LinkIn L) → length L ≡ length D → left ≡ drop at L → Passed world D lev L at names → Passed world D lev L (length L) (named_from names at left)
all_passed world D M lev L [] at names lawful s full is p =
    let lengths : 0 ≡ length L - at = ap length is ∙ length-drop at L in
    record {
      count = p.count;
      root = p.root;
      named = p.named;
      done = λ i l lt h. p.done i l (omega (arith, lengths, lt)) h;
    }
all_passed world D M lev L (links ∷ left) at names lawful s full is p =
    let lengths : suc (length left) ≡ length L - at = ap length is ∙ length-drop at L in
    let inside : at < length L = omega (arith, lengths) in
    let within : at < length D = omega (arith, inside, full) in
    let here : links ∷ left ≡ get_or L at [] ∷ drop (at + 1) L = is ∙ drop_more L at [] inside in
    let links_are : links ≡ get_or L at [] = ap (λ (l : List (List Link)). get_or l 0 []) here in
    let left_is : left ≡ drop (at + 1) L = ap (λ (l : List (List Link)). drop 1 l) here in
    let settled : (j : ℕ) → j < length D → get_or lev j 0 ≤ get_or lev at 0 → get_or names j [] ≢ [] = λ j lj low. ⊎_elim
    (λ (z : j ≡ 0). λ none. some_root (sym p.root ∙ ap (λ (x : ℕ). get_or names x []) (sym z) ∙ none))
    (λ (ne : j ≡ 0 → ⊥).
    let o = s.origin j (positive j ne) lj in
    let before : o.0 < at = ⊎_elim
    (λ (lt : o.0 < at). lt)
    (λ (ge : at ≤ o.0). let r = s.rises at o.0 ge (s.sources o.0 o.1 o.2) in let l = o.4 in absurd (omega (arith, r, l, low)))
    (cases_lt o.0 at) in
    λ none. (p.done o.0 o.1 before o.2).0 (ap (λ (x : ℕ). get_or names x []) o.3 ∙ none))
    (cases_eq j 0) in
    let from : List ℕ = get_or names at [] in
    let own = has_name world D lev at from (settled at within (omega arith)) (p.named at within) in
    let of : (l : Link) → In l links → LinkIn L at l = λ l h. subst (In l) links_are h in
    let all = all_links world D M lev L at names from links lawful s p.count p.root p.named settled own of in
    let next : List (List ℕ) = named_by_all names from links in
    let kept = all.0 in
    all_passed world D M lev L left (at + 1) next lawful s full left_is (record {
      count = kept.count;
      root = kept.root;
      named = kept.named;
      done = λ i l lt h. ⊎_elim
          (λ (before : i < at).
          let old = p.done i l before h in
          let b = kept.better l.target (s.targets i l h) old.0 in
          let same = kept.same i (s.sources i l h) (s.rises i at (omega (arith, before)) within) in
          (b.0, subst (λ (f : List ℕ). NoLater (get_or next l.target []) (longer f l.name)) (sym same) (NoLater-trans (get_or next l.target []) (get_or names l.target []) (longer (get_or names i []) l.name) b.1 old.1)))
          (λ (ge : at ≤ i).
          let e : i ≡ at = omega (arith, ge, lt) in
          let d = all.1 l (subst (In l) (sym links_are) (subst (λ (x : ℕ). LinkIn L x l) e h)) in
          let same = kept.same at within (omega arith) in
          (d.0, subst (λ (f : List ℕ). NoLater (get_or next l.target []) (longer f l.name)) (sym (ap (λ (x : ℕ). get_or next x []) e ∙ same)) d.1))
          (cases_lt i at);
    })

abbrev no_text : List ℕ
no_text = []

none_at : (n j : ℕ) → get_or (replicate n no_text) j no_text ≡ no_text
none_at zero j = refl
none_at (suc n) zero = refl
none_at (suc n) (suc j) = none_at n j

own_or_none : (world : World) (D : List (List ℕ)) (lev : List ℕ) (n : ℕ) (path : List (List ℕ)) → end_of world path ≡ Some [] → get_or D 0 [] ≡ [] → length path ≡ get_or lev 0 0 → (0 < length D) → (j : ℕ) → j < length D → (get_or (APPLICATION_NAME.now ∷ replicate n []) j [] ≡ []) ⊎ Named world D lev j (get_or (APPLICATION_NAME.now ∷ replicate n []) j [])
own_or_none world D lev n [] ends first long some zero lj = inr ([], ap (λ (x : List ℕ). Some x) (sym first), long, refl)
own_or_none world D lev n (name ∷ path) ends first long some zero lj = absurd (end_some world name path [] ends refl)
own_or_none world D lev n path ends first long some (suc j) lj = inl (none_at n j)

-- the names before any link is looked at
first_named : (world : World) (D M : List (List ℕ)) (lev : List ℕ) (L : List (List Link)) → Sound world D M lev (LinkIn L) → Passed world D lev L 0 (APPLICATION_NAME.now ∷ replicate (length D - 1) [])
first_named world D M lev L s =
    let n = length-replicate (length D - 1) no_text in
    let some = s.some in
    let path = s.reached 0 s.some in
    record {
      count = let more : length (APPLICATION_NAME.now ∷ replicate (length D - 1) []) ≡ suc (length (replicate (length D - 1) no_text)) = refl in omega (arith, more, n, some);
      root = refl;
      named = own_or_none world D lev (length D - 1) path.0 (path.1 ∙ ap (λ (x : List ℕ). Some x) s.first) s.first path.2 some;
      done = λ i l lt h. absurd (omega (arith, lt));
    }

pub names_passed : (world : World) (D M : List (List ℕ)) (lev : List ℕ) (L : List (List Link)) → Lawful world → Sound world D M lev (LinkIn L) → length L ≡ length D → Passed world D lev L (length L) (names_by (length D) L)
names_passed world D M lev L lawful s full =
    all_passed world D M lev L L 0 (APPLICATION_NAME.now ∷ replicate (length D - 1) []) lawful s full refl (first_named world D M lev L s)

-- WHICH PACKAGES ARE REACHED, AND THE LEAST NAMES

-- a name that leads somewhere is among those that are told
told_in : (world : World) (dir name to : List ℕ) (names : List (List ℕ)) → list_any (bytes_eq name) names ≡ true → led_to world dir name ≡ Some to → In (name, to) (filter_map (found_dependency world dir) names)
told_in world dir name to [] any leads = absurd (true≢false (sym any))
told_in world dir name to (n ∷ names) any leads =
    let pairs : List (List ℕ × List ℕ) = filter_map (found_dependency world dir) names in
    elim (led_to world dir n) as (λ o. led_to world dir n ≡ o → In (name, to) (cons_option (option_map (λ (t : List ℕ). (n, t)) o) pairs)) [
      | None ↦ λ none. ⊎_elim
          (λ (here : bytes_eq name n ≡ true). absurd (none-some to (sym none ∙ ap (led_to world dir) (sym ((bytes_eq-Decides name n).0 here)) ∙ leads)))
          (λ (there : list_any (bytes_eq name) names ≡ true). told_in world dir name to names there leads)
          (or_cases (bytes_eq name n) (list_any (bytes_eq name) names) any)
      | Some other ↦ λ some. ⊎_elim
          (λ (here : bytes_eq name n ≡ true).
          let is : name ≡ n = (bytes_eq-Decides name n).0 here in
          let same : other ≡ to = same_Some other to (sym some ∙ ap (led_to world dir) (sym is) ∙ leads) in
          inl (λ i. (is i, sym same i)))
          (λ (there : list_any (bytes_eq name) names ≡ true). inr (told_in world dir name to names there leads))
          (or_cases (bytes_eq name n) (list_any (bytes_eq name) names) any)
    ] refl

-- what is told is told of a link
link_told : (D : List (List ℕ)) (links : List Link) (pair : List ℕ × List ℕ) → In pair (map (told D) links) → (l : Link) × In l links × (pair ≡ told D l)
link_told D [] pair h = absurd h
link_told D (link ∷ links) pair (inl e) = (link, inl refl, e)
link_told D (link ∷ links) pair (inr h) = let rest = link_told D links pair h in (rest.0, inr rest.1, rest.2)

-- each dependency of a package has its link
complete : (world : World) (D : List (List ℕ)) (links : List Link) (dir name to : List ℕ) → Exact world D links dir (names_at world dir) → dependency world dir name ≡ Some to → (l : Link) × In l links × (name ≡ l.name) × (to ≡ get_or D l.target [])
complete world D links dir name to exact leads =
    let g = guarded (list_any (bytes_eq name) (names_at world dir)) (led_to world dir name) to leads in
    let pair = subst (In (name, to)) (sym exact) (told_in world dir name to (names_at world dir) g.0 g.1) in
    let l = link_told D links (name, to) pair in
    (l.0, l.1, ap (λ (p : List ℕ × List ℕ). p.0) l.2, ap (λ (p : List ℕ × List ℕ). p.1) l.2)

-- what a path leads to is a package with a name, and no later one than the path's text
pub least : (world : World) (D M : List (List ℕ)) (lev : List ℕ) (L : List (List Link)) (names : List (List ℕ)) (path : List (List ℕ)) (to : List ℕ) → Lawful world → Sound world D M lev (LinkIn L) → ((i : ℕ) → i < length D → Exact world D (get_or L i []) (get_or D i []) (names_at world (get_or D i []))) → length L ≡ length D → Passed world D lev L (length L) names → end_of world path ≡ Some to → (j : ℕ) × (j < length D) × (get_or D j [] ≡ to) × (get_or names j [] ≢ []) × NoLater (get_or names j []) (path_text path)
least world D M lev L names [] to lawful s exact full p ends =
    (0, s.some, s.first ∙ same_Some [] to ends, λ none. some_root (sym p.root ∙ none), subst (λ (x : List ℕ). NoLater x APPLICATION_NAME.now) (sym p.root) (NoLater-refl APPLICATION_NAME.now))
least world D M lev L names (name ∷ path) to lawful s exact full p ends =
    let parts = end_parts world name path to ends in
    let from = least world D M lev L names path parts.0 lawful s exact full p parts.1 in
    let i = from.0 in
    let leads : dependency world (get_or D i []) name ≡ Some to = ap (λ (x : List ℕ). dependency world x name) from.2 ∙ parts.2 in
    let l = complete world D (get_or L i []) (get_or D i []) name to (exact i from.1) leads in
    let lt = from.1 in
    let d = p.done i l.0 (omega (arith, lt, full)) l.1 in
    let own = has_name world D lev i (get_or names i []) from.3 (p.named i from.1) in
    let text : longer (get_or names i []) l.0.name ≡ path_text (name ∷ own.0) = ap (longer (get_or names i [])) (sym l.2) ∙ ap (λ (t : List ℕ). longer t name) own.3 ∙ longer_text name own.0 (valid_path world own.0 (get_or D i []) lawful own.1) in
    let path_ends : end_of world path ≡ Some (get_or D i []) = parts.1 ∙ ap (λ (x : List ℕ). Some x) (sym from.2) in
    let more = NoLater-more world own.0 path (get_or D i []) name lawful own.1 path_ends (dependency_name world (get_or D i []) name to lawful leads) (subst (λ (t : List ℕ). NoLater t (path_text path)) own.3 from.4) in
    (l.0.target, s.targets i l.0 l.1, sym l.3, d.0, NoLater-trans (get_or names l.0.target []) (path_text (name ∷ own.0)) (path_text (name ∷ path)) (subst (NoLater (get_or names l.0.target [])) text d.1) more)

-- each package has its canonical name
pub canonical : (world : World) (D M : List (List ℕ)) (lev : List ℕ) (L : List (List Link)) (names : List (List ℕ)) → Lawful world → Sound world D M lev (LinkIn L) → ((i : ℕ) → i < length D → Exact world D (get_or L i []) (get_or D i []) (names_at world (get_or D i []))) → length L ≡ length D → Passed world D lev L (length L) names → (j : ℕ) → j < length D → IsCanonicalName world (get_or D j []) (get_or names j [])
canonical world D M lev L names lawful s exact full p j lj =
    let path = s.reached j lj in
    let here = least world D M lev L names path.0 (get_or D j []) lawful s exact full p path.1 in
    let is = s.once here.0 j here.1 lj here.2 in
    let has : get_or names j [] ≢ [] = λ none. here.3 (ap (λ (x : ℕ). get_or names x []) is ∙ none) in
    let own = has_name world D lev j (get_or names j []) has (p.named j lj) in (
      own.0,
      own.1,
      own.3,
      λ other ends.
          (let found_there = least world D M lev L names other (get_or D j []) lawful s exact full p ends in
          let same = s.once found_there.0 j found_there.1 lj found_there.2 in
          let no_later : NoLater (get_or names j []) (path_text other) = subst (λ (x : ℕ). NoLater (get_or names x []) (path_text other)) same found_there.4 in
          IsNoLater-from world own.0 other (get_or D j []) lawful own.1 ends (subst (λ (t : List ℕ). NoLater t (path_text other)) own.3 no_later)),
    )
