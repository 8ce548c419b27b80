-- The links of a package that was read, as its party has them.
use Rattle.std.proofs.Common.{◌≡◌, ◌<◌, ℕ, suc, ◌&&◌, ◌||◌, Bool, true, false, not, cond, nat_eq, List, [], ◌∷◌, map, Option, Some, refl, ap, ◌∙◌, sym, subst, ⊎_elim, arith, unwrap_or, if◌then◌else◌, true≢false}
use Rattle.std.proofs.lemmas.Bool.{and_from, and_left, and_right, both_ways, cases_Bool, cond-true, cond-false, eq-eqb, ne_eqb, or_cases, or_left, or_right}
use Rattle.std.proofs.lemmas.Slice.Eq.{bytes_eq-Decides}
use Rattle.std.specs.List.{AllByRecursion, find, list_any}
use Rattle.std.specs.Map.{lookup}
use Rattle.std.specs.Option.{option_map}
use Rattle.std.specs.Prelude.{bytes_eq, slice_get}
use Rattle.js_text.specs.Texts.{same_units}
use Rattle.js_text.specs.Utf8.{units_of}
use Rattle.lava_packages.specs.Packages.{link_of, may_link}
use Rattle.lava_packages.specs.lava_start.Applications.{PartyLink, allowed_links, leads_there, link_name, link_target, link_to, may_cross, may_import}
use Rattle.lava_packages.specs.lava_start.js_run.Requests.{is_link}
use Rattle.pkg_graph.specs.PackageNames.{is_package_name}
use Rattle.pkg_graph.specs.declared.graph.Package.{Package}
use Rattle.pkg_graph.specs.declared.link.Link.{Link}
use Rattle.pkg_load.specs.Requirements.{linked_to}
use Rattle.policy_row.specs.Rows.{Rows}
use Rattle.lava_granted.specs.ReadPackages.{IsReadLink}
use Rattle.lava_granted.proofs.Name_laws.{name_ascii}
use Rattle.lava_granted.proofs.Text_laws.{ascii_units}

same_texts : (a b : List ℕ) → a ≡ b → same_units a b ≡ true
same_texts a b e = (bytes_eq-Decides a b).1 e

name_units : (name : List ℕ) → is_package_name name ≡ true → units_of name ≡ name
name_units name e = ascii_units name (name_ascii name e)

-- A LINK OF A NAME

-- a package has a link of a name
pub record HasLink (l : List ℕ) (count : ℕ) (ls : List Link) : Type 0 where
  pub to : ℕ
  pub leads : linked_to ls l ≡ Some to
  pub there : to < count
  pub name : is_package_name l ≡ true

abbrev target_of : Option Link → Option ℕ
target_of o = option_map (λ (k : Link). k.target) o

link_here : (l : List ℕ) (count : ℕ) (k : Link) (ls : List Link) → IsReadLink count k → bytes_eq k.name l ≡ true → HasLink l count (k ∷ ls)
link_here l count k ls h e = record {
  to = k.target;
  leads = ap target_of (cond-true (bytes_eq k.name l) (Some k) (find (λ (m : Link). bytes_eq m.name l) ls) e);
  there = h.there;
  name = subst (λ name. is_package_name name ≡ true) ((bytes_eq-Decides k.name l).0 e) h.name;
}

link_behind : (l : List ℕ) (count : ℕ) (k : Link) (ls : List Link) → bytes_eq k.name l ≡ false → HasLink l count ls → HasLink l count (k ∷ ls)
link_behind l count k ls e h = record {
  to = h.to;
  leads = ap target_of (cond-false (bytes_eq k.name l) (Some k) (find (λ (m : Link). bytes_eq m.name l) ls) e) ∙ h.leads;
  there = h.there;
  name = h.name;
}

module _ (packages : List Package) (policy : Rows) (name : List ℕ) where
  abbrev pub party_links : List Link → List PartyLink
  party_links ls = map (link_of packages policy name) ls

  pub has_link : (l : List ℕ) (count : ℕ) (ls : List Link) → is_link l (map link_name (party_links ls)) ≡ true → AllByRecursion (IsReadLink count) ls → HasLink l count ls
  has_link l count [] e h = absurd (true≢false (sym e))
  has_link l count (k ∷ ls) e h =
      ⊎_elim
      (link_here l count k ls h.0)
      (λ other. link_behind l count k ls other
      (⊎_elim
      (λ same. absurd (both_ways (bytes_eq k.name l) other ((bytes_eq-Decides k.name l).1 (sym ((bytes_eq-Decides l (units_of k.name)).0 same ∙ name_units k.name h.0.name)))))
      (λ rest. has_link l count ls rest h.1)
      (or_cases (same_units l (units_of k.name)) (is_link l (map link_name (party_links ls))) e)))
      (cases_Bool (bytes_eq k.name l))

  -- LINKS THAT MAY BE IMPORTED OVER

  abbrev pub crosses : (l : List ℕ) → PartyLink → Bool
  crosses l k = may_cross k && same_units l k.name

  link_crosses : (l : List ℕ) (count to : ℕ) (k : Link) → IsReadLink count k → bytes_eq k.name l ≡ true → k.target ≡ to → may_link policy name (slice_get packages to) ≡ true
      → crosses l (link_of packages policy name k) ≡ true
  link_crosses l count to k h same at e =
      let some : nat_eq (suc k.target) 0 ≡ false = ne_eqb (suc k.target) 0 (λ d. absurd (omega (arith, d))) in
      let may : may_link policy name (slice_get packages k.target) ≡ true = ap (λ (n : ℕ). may_link policy name (slice_get packages n)) at ∙ e in
      let crossing = and_from (may_link policy name (slice_get packages k.target)) (not (nat_eq (suc k.target) 0)) may (ap not some) in
      and_from (may_cross (link_of packages policy name k)) (same_units l (units_of k.name)) crossing
      (same_texts l (units_of k.name) (sym (name_units k.name h.name ∙ (bytes_eq-Decides k.name l).0 same)))

  target_here : (l : List ℕ) (to : ℕ) (k : Link) (ls : List Link) → bytes_eq k.name l ≡ true → linked_to (k ∷ ls) l ≡ Some to → k.target ≡ to
  target_here l to k ls same e =
      let here : Some k.target ≡ Some to = sym (ap target_of (cond-true (bytes_eq k.name l) (Some k) (find (λ (m : Link). bytes_eq m.name l) ls) same)) ∙ e in cc

  pub some_crosses : (l : List ℕ) (count to : ℕ) (ls : List Link) → AllByRecursion (IsReadLink count) ls → linked_to ls l ≡ Some to → may_link policy name (slice_get packages to) ≡ true
      → list_any (crosses l) (party_links ls) ≡ true
  some_crosses l count to [] h e may = absurd (cc)
  some_crosses l count to (k ∷ ls) h e may =
      let first = crosses l (link_of packages policy name k) in
      let rest = list_any (crosses l) (party_links ls) in
      ⊎_elim
      (λ same. or_left first rest (link_crosses l count to k h.0 same (target_here l to k ls same e) may))
      (λ other. or_right first rest (some_crosses l count to ls h.1 (sym (ap target_of (cond-false (bytes_eq k.name l) (Some k) (find (λ (m : Link). bytes_eq m.name l) ls) other)) ∙ e) may))
      (cases_Bool (bytes_eq k.name l))

abbrev target_among : List PartyLink → (l : List ℕ) → ℕ
target_among ks l = unwrap_or (lookup (same_units l) (map link_to ks)) 0

-- where a name leads, a link leads
abbrev Leads : (l : List ℕ) → List PartyLink → Type 0
Leads l ks = leads_there ks (target_among ks l) ≡ true

leads_by : (l : List ℕ) (k : PartyLink) (ks : List PartyLink) (same : Bool) → (same ≡ false → Leads l ks) → leads_there (k ∷ ks) (unwrap_or (cond same (Some k.party) (lookup (same_units l) (map link_to ks))) 0) ≡ true
leads_by l k ks true h = or_left (nat_eq k.party k.party) (leads_there ks k.party) (eq-eqb k.party k.party refl)
leads_by l k ks false h = let q = target_among ks l in or_right (nat_eq k.party q) (leads_there ks q) (h refl)

-- where some link that may be crossed has a name, that leads to a party that may be imported
pub may_be_imported : (l : List ℕ) (ks : List PartyLink) → list_any (λ k. may_cross k && same_units l k.name) ks ≡ true → may_import ks (link_target ks l) ≡ true
may_be_imported l [] e = absurd (true≢false (sym e))
may_be_imported l (k ∷ ks) e =
    let kept : Bool → List PartyLink = λ b. if b then k ∷ allowed_links ks else allowed_links ks in
    let this : Bool = may_cross k && same_units l k.name in
    let others : this ≡ false → Leads l (allowed_links ks) = λ none. may_be_imported l ks (sym (ap (λ c. c || list_any (λ m. may_cross m && same_units l m.name) ks) none) ∙ e) in
    ⊎_elim
    (λ may. subst (λ b. Leads l (kept b)) (sym may) (leads_by l k (allowed_links ks) (same_units l k.name) (λ other. others (and_right (may_cross k) (same_units l k.name) other))))
    (λ none. subst (λ b. Leads l (kept b)) (sym none) (others (and_left (may_cross k) (same_units l k.name) none)))
    (cases_Bool (may_cross k))
