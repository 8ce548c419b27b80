-- That the machine of all parties stands where a run begins.
use Rattle.std.proofs.Common.{◌≡◌, ℕ, zero, suc, ◌<◌, ◌+◌, Bool, true, false, List, [], ◌∷◌, ◌++◌, length, map, get_or, nat_eq, slice_get, take, Some, None, Option, cond, unwrap_or, Result, Ok, Err, IfOk, if◌then◌else◌, refl, sym, ap, ◌∙◌, subst, ne_eqb, arith}
use Rattle.std.proofs.lemmas.List.{append_assoc, length-take-le, take_more}
use Rattle.lava_base.specs.declared.ids.Ref.{Ref}
use Rattle.lava_base.specs.declared.marks.Marks.{Marks}
use Rattle.js_text.specs.Naming.{naming_of}
use Rattle.js_text.specs.Texts.{same_units}
use Rattle.js_code.specs.Settled.{Extends}
use Rattle.js_code.specs.Tables.{Tables}
use Rattle.js_store.specs.Frozen.{CommonObject}
use Rattle.js_store.specs.Objects.{Owned}
use Rattle.js_world.specs.js_run.Hosts.{host_objects}
use Rattle.js_world.specs.js_run.Journal.{foreign_of, root_link}
use Rattle.js_world.specs.js_run.Parties.{Loaded}
use Rattle.js_world.specs.js_run.Starts.{host_party}
use Rattle.js_term.specs.declared.term.Template.{Template}
use Rattle.js_world.specs.js_machine.Begun as begun
use Rattle.js_world.specs.js_machine.Begun.{Own, left_of, new_own, own_of}
use Rattle.js_world.specs.js_machine.Packages.{Package, loaded_of}
use Rattle.js_world.specs.js_machine.Views.{View, templates_at}
use Rattle.js_world.specs.First.{IsFirst, RestsFirst, as_new}
use Rattle.js_world.specs.js_crossing.Leads.{leads_by}
use Rattle.js_world.specs.Worlds.{leads_to, Reads, WorldView, no_own, own_here}
use Rattle.js_world.proofs.Kept.{at_home, elsewhere}
use Rattle.js_world.specs.js_crossing.declared.leads.Lead.{Lead}
use Rattle.lava_start.specs.Applications.{RunParts, Surroundings, all_starts, host_start, link_target, no_start, package_start, package_starts, run_application, start_at}
use Rattle.lava_start.specs.Firsts.{AreAppended, AreOthers, ArePackagesOver, IsFirstWorld, IsHostMachine, IsPackageOver, IsPlace, IsWorldOver, StandsAs, allowed_names, host_leads, host_things, known_first, leads_in, part_of_link, package_with, parts_of, run_parts_of}
use Rattle.lava_start.specs.Grants.{package_builtin, package_objects}
use Rattle.lava_start.specs.Making.{Thing}
use Rattle.lava_start.specs.Templates.{HaveSources, HaveTemplates, KeepsTemplates, loaded_source}
use Rattle.lava_start.specs.declared.first.Prepared.{Prepared}
use Rattle.lava_start.specs.declared.packages.PackageSource.{PackageSource}
use Rattle.lava_start.proofs.Kept_laws.{extended, have_still, sources_still}
use Rattle.lava_start.proofs.Links.{allowed_so, led_so}

-- THE HOST

host_party_stands : (c : Tables) (s : Owned) → s.party.0 ≡ 0 → s.objects ≡ host_objects (naming_of 0) → StandsAs host_start 0 c (new_own s host_things (root_link ∷ []))
host_party_stands c s party objects = record {
  me = party;
  own = λ j. record host_party { objects = sym objects j; frozen_errors = nat_eq (sym party j) 0 };
  links = λ l. allowed_so host_start.links l;
  meter = refl;
}

-- A PACKAGE

package_own : (p : ℕ) (x : PackageSource) (loaded : List Loaded) (objects : List Thing) (party : ℕ) → 0 < p → map loaded_source x.modules.items ≡ loaded → package_objects p x.globals x.builtins ≡ objects → party ≡ p
    → (package_start p (parts_of x)).own ≡ record (package_start p (parts_of x)).own { modules = loaded; objects = objects; frozen_errors = nat_eq party 0 }
package_own p x loaded objects party l e d f =
    let extensible : false ≡ nat_eq party 0 = sym (ap (λ n. nat_eq n 0) f ∙ ne_eqb p 0 (λ z. absurd (omega (arith, l, z)))) in
    λ j. record (package_start p (parts_of x)).own { modules = e j; objects = d j; frozen_errors = extensible j }

-- over a code that has grown
pub package_stands : (c d : Tables) (p : ℕ) (x : PackageSource) (o : Own) → 0 < p → KeepsTemplates c d → IsPackageOver c p x o → StandsAs (package_start p (parts_of x)) p d o
package_stands c d p x o l keeps over =
    let s = over.own.store in
    let have : HaveSources d over.modules x.modules.items = sources_still c d over.modules x.modules.items keeps over.have in
    let builtin = package_builtin p x.globals x.builtins in
    let so : StandsAs (package_start p (parts_of x)) p d (new_own s (package_with x over.modules builtin) (allowed_names x.links.items)) = record {
      me = over.own.party;
      own = package_own p x (map (loaded_of d) over.modules) s.objects s.party.0 l (sym have.are) (sym over.own.objects) over.own.party;
      links = λ l. allowed_so (map part_of_link x.links.items) l;
      meter = refl;
    } in
    subst (StandsAs (package_start p (parts_of x)) p d) (sym over.own.is) so

-- each package, by its place behind the first one
pub packages_stand : (c d : Tables) (p : ℕ) (xs : List PackageSource) (os : List Own) → 0 < p → KeepsTemplates c d → ArePackagesOver c p xs os → (k : ℕ) → k < length os → StandsAs (get_or (package_starts p (map parts_of xs)) k no_start) (p + k) d (get_or os k no_own)
packages_stand c d p [] [] l keeps over k lt = absurd (omega (arith, lt))
packages_stand c d p [] (o ∷ os) l keeps over k lt = absurd over
packages_stand c d p (x ∷ xs) [] l keeps over k lt = absurd over
packages_stand c d p (x ∷ xs) (o ∷ os) l keeps over zero lt = subst (λ n. StandsAs (package_start p (parts_of x)) n d o) (omega arith) (package_stands c d p x o l keeps over.0)
packages_stand c d p (x ∷ xs) (o ∷ os) l keeps over (suc k) lt = subst (λ n. StandsAs (get_or (package_starts (suc p) (map parts_of xs)) k no_start) n d (get_or os k no_own)) (omega arith) (packages_stand c d (suc p) xs os (omega arith) keeps over.1 k (omega (arith, lt)))

pub as_many : (c : Tables) (p : ℕ) (xs : List PackageSource) (os : List Own) → ArePackagesOver c p xs os → length os ≡ length (map parts_of xs)
as_many c p [] [] over = refl
as_many c p [] (o ∷ os) over = absurd over
as_many c p (x ∷ xs) [] over = absurd over
as_many c p (x ∷ xs) (o ∷ os) over = ap suc (as_many c (suc p) xs os over.1)

-- WHERE THE LINK OF THE HOST LEADS

host_led : (l : List ℕ) (n : ℕ) → leads_by host_leads l ≡ Some n → link_target host_start.links l ≡ n
host_led l n e = by (same_units l root_link) n e
  where
    by : (b : Bool) (n : ℕ) → (if b then Some 1 else None) ≡ Some n → unwrap_or (cond b (Some 1) None) 0 ≡ n
    by true n e = cc e
    by false n e = absurd (cc e)

-- ALL PARTIES

-- the marks of the host's objects, and that of the application's own global, are what a run knows at its beginning
first_known : (r : RunParts) (s : Surroundings) → known_first ≡ foreign_of (run_application r s) []
first_known r s = refl

module _ (common : List CommonObject) (templates : List Template) (xs : List PackageSource) (p : Prepared) (m : View) (place : Own) (owns : List Own) (budget : ℕ)
    (have : HaveTemplates p.code p.places.items templates) (over : ArePackagesOver p.code 1 xs owns) (host : IsHostMachine common p.code p.places.items m) where
  abbrev parts : RunParts
  parts = run_parts_of common templates xs

  abbrev world : WorldView
  world = as_new m (place ∷ owns) (leads_in xs) budget

  abbrev keeps : KeepsTemplates p.code m.code
  keeps = extended p.code m.code host.extends

  here : m.me ≡ 0
  here = ap (λ (w : View). w.me) host.new ∙ host.party

  own_there : own_of m ≡ new_own host.store host_things (root_link ∷ [])
  own_there = ap own_of host.new

  -- each party has its place
  stands : (q : ℕ) → q < length (place ∷ owns) → StandsAs (start_at (all_starts (map parts_of xs)) q) q m.code (own_here world q)
  stands zero lt =
      let e : own_here world 0 ≡ new_own host.store host_things (root_link ∷ []) = at_home m.me 0 (own_of m) place here ∙ own_there in
      subst (λ (o : Own). StandsAs host_start 0 m.code o) (sym e) (host_party_stands m.code host.store host.party host.objects)
  stands (suc q) lt =
      let e : own_here world (suc q) ≡ get_or owns q no_own = elsewhere m.me (suc q) (own_of m) (get_or owns q no_own) (λ z. absurd (let bad : suc q ≡ 0 = sym z ∙ here in omega (arith, bad))) in
      let so : StandsAs (start_at (all_starts (map parts_of xs)) (suc q)) (suc q) m.code (get_or owns q no_own) =
      subst (λ n. StandsAs (get_or (package_starts 1 (map parts_of xs)) q no_start) n m.code (get_or owns q no_own)) (omega arith) (packages_stand p.code m.code 1 xs owns (omega arith) keeps over q (omega (arith, lt)))
      in
      subst (λ (o : Own). StandsAs (start_at (all_starts (map parts_of xs)) (suc q)) (suc q) m.code o) (sym e) so

  -- links lead where the starts say
  lead_so : (q : ℕ) (l : List ℕ) (n : ℕ) → leads_to world q l ≡ Some n → link_target (start_at (all_starts (map parts_of xs)) q).links l ≡ n
  lead_so zero l n e = host_led l n e
  lead_so (suc q) l n e = led_so 1 xs q l n e

  view_common : m.common ≡ common
  view_common = ap (λ (w : View). w.common) host.new

  view_templates : templates_at m.code m.common_templates ≡ templates
  view_templates = ap (λ (w : View). templates_at m.code w.common_templates) host.new ∙ (have_still p.code m.code p.places.items templates keeps have).are

  view_known : m.known ≡ known_first
  view_known = ap (λ (w : View). w.known) host.new

  first_of : (s : Surroundings) → Reads (run_application parts s) → IsFirst (run_application parts s) world
  first_of s reads =
      record {
        suits = record {
          reads = reads;
          objects = view_common;
          templates = view_templates;
          me = λ q lt. (stands q lt).me;
          links = λ q lt l. (stands q lt).links l;
          meters = λ q lt. (stands q lt).meter;
          leads = lead_so;
        };
        own = λ q lt. (stands q lt).own;
        known = view_known ∙ first_known parts s;
      }

  begun_so : RestsFirst world → IsFirstWorld parts budget world
  begun_so law =
      record {
        first = λ s reads. first_of s reads;
        rests = λ s reads. law.rests (run_application parts s) (first_of s reads);
        parties = ap suc (as_many p.code 1 xs owns over);
        idle = ap left_of host.new;
        limit = refl;
      }

pub world_begun : {E : Type 0} → (w : Result WorldView E) (common : List CommonObject) (templates : List Template) (xs : List PackageSource) (p : Prepared) (leads : List (List Lead)) (budget : ℕ)
    → HaveTemplates p.code p.places.items templates → AreOthers p.code xs p.others.items → leads ≡ leads_in xs → IfOk w (IsWorldOver common p leads budget) → IfOk w (IsFirstWorld (run_parts_of common templates xs) budget)
world_begun (Ok v) common templates xs p leads budget have others led over =
    let so : v ≡ as_new over.machine (others.place ∷ others.owns) (leads_in xs) budget = over.new ∙ ap (λ os. as_new over.machine os leads budget) others.are ∙ ap (λ ls. as_new over.machine (others.place ∷ others.owns) ls budget) led in
    subst (IsFirstWorld (run_parts_of common templates xs) budget) (sym so) (begun_so common templates xs p over.machine others.place others.owns budget have others.stand over.host (subst RestsFirst so over.rests))
world_begun (Err e) common templates xs p leads budget have others led over = over

-- A PACKAGE MORE

over_still : (c d : Tables) (p : ℕ) (xs : List PackageSource) (os : List Own) → KeepsTemplates c d → ArePackagesOver c p xs os → ArePackagesOver d p xs os
over_still c d p [] [] more over = tt
over_still c d p [] (o ∷ os) more over = absurd over
over_still c d p (x ∷ xs) [] more over = absurd over
over_still c d p (x ∷ xs) (o ∷ os) more over = (record { modules = over.0.modules; have = sources_still c d over.0.modules x.modules.items more over.0.have; own = over.0.own }, over_still c d (suc p) xs os more over.1)

over_more : (c : Tables) (p n : ℕ) (xs : List PackageSource) (os : List Own) (x : PackageSource) (o : Own) → ArePackagesOver c p xs os → n ≡ p + length xs → IsPackageOver c n x o → ArePackagesOver c p (xs ++ x ∷ []) (os ++ o ∷ [])
over_more c p n [] [] x o over e one = (subst (λ k. IsPackageOver c k x o) (e ∙ omega arith) one, tt)
over_more c p n [] (y ∷ os) x o over e one = absurd over
over_more c p n (y ∷ xs) [] x o over e one = absurd over
over_more c p n (y ∷ xs) (z ∷ os) x o over e one = (over.0, over_more c (suc p) n xs os x o over.1 (e ∙ omega arith) one)

-- the things of the first packages of a list, and those of the next one
pub package_pushed : (old : List Own) (c d : Tables) (all : List PackageSource) (i p : ℕ) (now after : List Own) (x : PackageSource) (o : Own) → AreAppended old c (take i all) now → KeepsTemplates c d → IsPackageOver d p x o → after ≡ now ++ o ∷ []
    → p ≡ suc i → i < length all → x ≡ get_or all i x → AreAppended old d (take (i + 1) all) after
package_pushed old c d all i p now after x o h more one pushed number within item =
    let front : take (i + 1) all ≡ take i all ++ x ∷ [] = take_more all i x within ∙ ap (λ u. take i all ++ u ∷ []) (sym item) in
    let size : length (take i all) ≡ i = length-take-le i all (omega (arith, within)) in
    let n : p ≡ 1 + length (take i all) = number ∙ ap suc (sym size) ∙ omega arith in
    record {
      owns = h.owns ++ o ∷ [];
      are = pushed ∙ ap (λ os. os ++ o ∷ []) h.are ∙ append_assoc old h.owns (o ∷ []);
      stand = subst (λ us. ArePackagesOver d 1 us (h.owns ++ o ∷ [])) (sym front) (over_more d 1 p (take i all) h.owns x o (over_still c d 1 (take i all) h.owns more h.stand) n one);
    }

pub others_are : (c : Tables) (xs : List PackageSource) (before others : List Own) → IsPlace before → AreAppended before c xs others → AreOthers c xs others
others_are c xs before others place h = record {
  place = place.place;
  owns = h.owns;
  are = h.are ∙ ap (λ os. os ++ h.owns) place.are;
  stand = h.stand;
}

-- THE MACHINE OF THE HOST

pub machine_made : {E : Type 0} → (r : Result View E) (c : Tables) (s : Owned) (own_package : Package) (allowed : List (List ℕ)) (common : List CommonObject) (places : List ℕ) (known : List (Ref × Marks)) → s.party.0 ≡ 0 → s.objects ≡ host_objects (naming_of 0)
    → own_package ≡ host_things → allowed ≡ root_link ∷ [] → known ≡ known_first → IfOk r (λ m. Extends c m.code)
    → IfOk r (λ m. m ≡ begun.as_new m.code s own_package allowed common places known m.asked m.answer m.imported) → IfOk r (IsHostMachine common c places)
machine_made (Ok m) c s own_package allowed common places known party objects things links marks extends new =
    record {
      extends = extends;
      store = s;
      party = party;
      objects = objects;
      new = new ∙ (λ j. begun.as_new m.code s (things j) (links j) common places (marks j) m.asked m.answer m.imported);
    }
machine_made (Err e) c s own_package allowed common places known party objects things links marks extends new = new
