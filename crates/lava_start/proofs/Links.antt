-- The links that may be imported over, and where they lead.
use Rattle.std.proofs.Common.{◌≡◌, ℕ, zero, suc, ◌<◌, ◌+◌, Bool, true, false, not, ◌&&◌, ◌||◌, List, [], ◌∷◌, ◌++◌, length, map, get_or, take, nat_eq, slice_get, Some, None, Option, cond, unwrap_or, if◌then◌else◌, refl, sym, ap, ◌∙◌, subst, arith}
use Rattle.std.specs.Map.{lookup}
use Rattle.std.proofs.lemmas.List.{take_more}
use Rattle.js_text.specs.Texts.{same_units}
use Rattle.js_world.specs.js_run.Requests.{is_link}
use Rattle.js_world.specs.js_crossing.Leads.{leads_among, leads_by}
use Rattle.js_world.specs.js_crossing.declared.leads.Lead.{Lead}
use Rattle.js_world.proofs.of_js_crossing.Shown_laws.{choose}
use Rattle.lava_start.specs.Applications.{PartyLink, allowed_links, leads_there, link_name, link_target, link_to, may_cross, may_import, no_start, package_starts}
use Rattle.lava_start.specs.Firsts.{allowed_names, host_leads, lead_of, leads_in, leads_of, link_names, part_of_link, parts_of}
use Rattle.lava_start.specs.declared.packages.PackageLink.{PackageLink}
use Rattle.lava_start.specs.declared.packages.PackageSource.{PackageSource}
use Rattle.lava_start.proofs.Kept_laws.{map_both}

-- no link leads to the host over which a party may import
none_there : (links : List PartyLink) → leads_there (allowed_links links) 0 ≡ false
none_there [] = refl
none_there (l ∷ links) = by l.allowed (nat_eq l.party 0) refl (none_there links)
  where
    by : (a b : Bool) → nat_eq l.party 0 ≡ b → leads_there (allowed_links links) 0 ≡ false → leads_there (if a && not b then l ∷ allowed_links links else allowed_links links) 0 ≡ false
    by true true e h = h
    by true false e h = ap (λ b. b || leads_there (allowed_links links) 0) e ∙ h
    by false b e h = h

at_itself : (n : ℕ) → nat_eq n n ≡ true
at_itself n = choose n n (λ b. b ≡ true) (λ e. refl) (λ z. absurd (z refl))

allowed_from : (all links : List PartyLink) (l : List ℕ) → ((q : ℕ) → leads_there links q ≡ true → leads_there all q ≡ true) → leads_there all 0 ≡ false
    → is_link l (map link_name links) ≡ leads_there all (unwrap_or (lookup (same_units l) (map link_to links)) 0)
allowed_from all [] l within none = sym none
allowed_from all (m ∷ ms) l within none = by (same_units l m.name) (allowed_from all ms l (λ q h. within q (later q h)) none)
  where
    later : (q : ℕ) → leads_there ms q ≡ true → leads_there (m ∷ ms) q ≡ true
    later q h = elim (nat_eq m.party q) as (λ b. (b || leads_there ms q) ≡ true) [ true ↦ refl | false ↦ h ]

    by : (b : Bool) → is_link l (map link_name ms) ≡ leads_there all (unwrap_or (lookup (same_units l) (map link_to ms)) 0)
        → (b || is_link l (map link_name ms)) ≡ leads_there all (unwrap_or (cond b (Some m.party) (lookup (same_units l) (map link_to ms))) 0)
    by true h = sym (within m.party (ap (λ b. b || leads_there ms m.party) (at_itself m.party)))
    by false h = h

-- the names of these links are those of which the application says that they may be imported over
pub allowed_so : (links : List PartyLink) (l : List ℕ) → is_link l (map link_name (allowed_links links)) ≡ may_import links (link_target links l)
allowed_so links l = allowed_from (allowed_links links) (allowed_links links) l (λ q h. h) (none_there links)

-- LEADS

led_by : (links : List PartyLink) (l : List ℕ) → leads_by (map lead_of links) l ≡ lookup (same_units l) (map link_to links)
led_by [] l = refl
led_by (m ∷ ms) l = elim (same_units l m.name) as (λ b. (if b then Some m.party else leads_by (map lead_of ms) l) ≡ cond b (Some m.party) (lookup (same_units l) (map link_to ms))) [ true ↦ refl | false ↦ led_by ms l ]

led_to : (links : List PartyLink) (l : List ℕ) (n : ℕ) → leads_by (map lead_of (allowed_links links)) l ≡ Some n → link_target links l ≡ n
led_to links l n e = ap (λ (o : Option ℕ). unwrap_or o 0) (sym (led_by (allowed_links links) l) ∙ e)

abbrev source_leads : PackageSource → List Lead
source_leads x = leads_of x.links.items

-- each package's leads go where its start says
pub led_so : (p : ℕ) (xs : List PackageSource) (k : ℕ) (l : List ℕ) (n : ℕ) → leads_among (slice_get (map source_leads xs) k) l ≡ Some n → link_target (get_or (package_starts p (map parts_of xs)) k no_start).links l ≡ n
led_so p [] k l n e = absurd (cc e)
led_so p (x ∷ xs) zero l n e = led_to (map part_of_link x.links.items) l n e
led_so p (x ∷ xs) (suc k) l n e = led_so (suc p) xs k l n e

-- ONE MORE

links_append : (xs ys : List PartyLink) → allowed_links (xs ++ ys) ≡ allowed_links xs ++ allowed_links ys
links_append [] ys = refl
links_append (x ∷ xs) ys = by (may_cross x) (links_append xs ys)
  where
    by : (b : Bool) → allowed_links (xs ++ ys) ≡ allowed_links xs ++ allowed_links ys
        → (if b then x ∷ allowed_links (xs ++ ys) else allowed_links (xs ++ ys)) ≡ (if b then x ∷ allowed_links xs else allowed_links xs) ++ allowed_links ys
    by true h = ap (λ ls. x ∷ ls) h
    by false h = h

allowed_append : (xs ys : List PackageLink) → allowed_links (map part_of_link (xs ++ ys)) ≡ allowed_links (map part_of_link xs) ++ allowed_links (map part_of_link ys)
allowed_append xs ys = ap allowed_links (map_both part_of_link xs ys) ∙ links_append (map part_of_link xs) (map part_of_link ys)

names_append : (xs ys : List PackageLink) → link_names (xs ++ ys) ≡ link_names xs ++ link_names ys
names_append xs ys = ap (map link_name) (map_both part_of_link xs ys) ∙ map_both link_name (map part_of_link xs) (map part_of_link ys)

allowed_names_append : (xs ys : List PackageLink) → allowed_names (xs ++ ys) ≡ allowed_names xs ++ allowed_names ys
allowed_names_append xs ys = ap (map link_name) (allowed_append xs ys) ∙ map_both link_name (allowed_links (map part_of_link xs)) (allowed_links (map part_of_link ys))

leads_append : (xs ys : List PackageLink) → leads_of (xs ++ ys) ≡ leads_of xs ++ leads_of ys
leads_append xs ys = ap (map lead_of) (allowed_append xs ys) ∙ map_both lead_of (allowed_links (map part_of_link xs)) (allowed_links (map part_of_link ys))

all_append : (xs ys : List PackageSource) → leads_in (xs ++ ys) ≡ leads_in xs ++ map source_leads ys
all_append xs ys = ap (λ ls. host_leads ∷ ls) (map_both source_leads xs ys)

-- a list that is made item by item: what is made of the items so far, and of the next one
module _ {X B : Type 0} (f : List X → List B) (g : List X → List B) (append : (xs ys : List X) → f (xs ++ ys) ≡ f xs ++ g ys) where
  taken_more : (all : List X) (i : ℕ) (x : X) (old new : List B) → old ≡ f (take i all) → new ≡ old ++ g (x ∷ []) → i < length all → x ≡ get_or all i x → new ≡ f (take (i + 1) all)
  taken_more all i x old new is pushed within item =
      pushed ∙ ap (λ bs. bs ++ g (x ∷ [])) is ∙ sym (append (take i all) (x ∷ [])) ∙ ap (λ y. f (take i all ++ y ∷ [])) item ∙ ap f (sym (take_more all i x within))

pub names_more : (all : List PackageLink) (i : ℕ) (x : PackageLink) (old new : List (List ℕ)) → old ≡ link_names (take i all) → new ≡ old ++ x.name ∷ [] → i < length all → x ≡ get_or all i x → new ≡ link_names (take (i + 1) all)
names_more = taken_more link_names link_names names_append

pub allowed_more : (all : List PackageLink) (i : ℕ) (x : PackageLink) (old new : List (List ℕ)) → old ≡ allowed_names (take i all) → new ≡ old ++ allowed_names (x ∷ []) → i < length all → x ≡ get_or all i x → new ≡ allowed_names (take (i + 1) all)
allowed_more = taken_more allowed_names allowed_names allowed_names_append

pub leads_more : (all : List PackageLink) (i : ℕ) (x : PackageLink) (old new : List Lead) → old ≡ leads_of (take i all) → new ≡ old ++ leads_of (x ∷ []) → i < length all → x ≡ get_or all i x → new ≡ leads_of (take (i + 1) all)
leads_more = taken_more leads_of leads_of leads_append

pub all_more : (all : List PackageSource) (i : ℕ) (x : PackageSource) (old new : List (List Lead)) → old ≡ leads_in (take i all) → new ≡ old ++ leads_of x.links.items ∷ [] → i < length all → x ≡ get_or all i x → new ≡ leads_in (take (i + 1) all)
all_more = taken_more leads_in (map source_leads) all_append
