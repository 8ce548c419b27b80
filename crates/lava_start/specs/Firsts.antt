-- How the machine of all parties stands before anything has happened.
use Rattle.std.specs.Prelude.{◌≡◌, ℕ, suc, List, [], ◌∷◌, ◌++◌, Option, None, length, map, ⊤}
use Rattle.lava_base.specs.Ids.{same_ref}
use Rattle.lava_base.specs.declared.ids.MadeSymbol.{MadeSymbol}
use Rattle.lava_base.specs.declared.ids.Ref.{Ref}
use Rattle.lava_base.specs.declared.marks.Marks.{Marks}
use Rattle.js_text.specs.Naming.{naming_of}
use Rattle.js_text.specs.declared.value.Value.{Value}
use Rattle.js_code.specs.Settled.{Extends}
use Rattle.js_code.specs.Tables.{Tables}
use Rattle.js_store.specs.Foreign.{with_marks}
use Rattle.js_store.specs.Frozen.{CommonObject}
use Rattle.js_store.specs.Objects.{Owned}
use Rattle.js_world.specs.js_run.Globals.{global_marks}
use Rattle.js_world.specs.js_run.Heap.{begins}
use Rattle.js_world.specs.js_run.Hosts.{host_objects}
use Rattle.js_world.specs.js_run.Journal.{root_link}
use Rattle.js_world.specs.js_run.Requests.{is_link}
use Rattle.js_term.specs.declared.term.Template.{Template}
use Rattle.js_world.specs.js_machine.Begun as begun
use Rattle.js_world.specs.js_machine.Begun.{Own, left_of, new_own, nothing_left}
use Rattle.js_world.specs.js_machine.Packages.{Package}
use Rattle.js_world.specs.js_machine.Views.{View}
use Rattle.js_world.specs.js_machine.declared.package.Module.{Module}
use Rattle.js_world.specs.Crossings.{Rests}
use Rattle.js_world.specs.First.{IsFirst, RestsFirst, as_new}
use Rattle.js_world.specs.Worlds.{Reads, WorldView, party_with}
use Rattle.js_world.specs.js_crossing.declared.leads.Lead.{Lead}
use Rattle.lava_start.specs.Applications.{PackageParts, PartyLink, PartyStart, RunParts, Surroundings, allowed_links, link_name, link_target, may_import, run_application}
use Rattle.lava_start.specs.Grants.{package_builtin, package_objects, root_global}
use Rattle.lava_start.specs.Making.{first_marks}
use Rattle.lava_start.specs.Templates.{HaveSources, loaded_source}
use Rattle.lava_start.specs.declared.first.Prepared.{Prepared}
use Rattle.lava_start.specs.declared.packages.PackageLink.{PackageLink}
use Rattle.lava_start.specs.declared.packages.PackageSource.{PackageSource}

-- LINKS

abbrev pub part_of_link : PackageLink → PartyLink
part_of_link l = record { name = l.name; party = l.party; allowed = l.allowed }

abbrev pub link_names : List PackageLink → List (List ℕ)
link_names ls = map link_name (map part_of_link ls)

-- the names of the links that may be imported over
-- LavaMoat policy, packages
abbrev pub allowed_names : List PackageLink → List (List ℕ)
allowed_names ls = map link_name (allowed_links (map part_of_link ls))

abbrev pub lead_of : PartyLink → Lead
lead_of l = record { link = l.name; party = l.party }

-- where they lead
abbrev pub leads_of : List PackageLink → List Lead
leads_of ls = map lead_of (allowed_links (map part_of_link ls))

-- the one link of the host leads to the application's own package
abbrev pub host_leads : List Lead
host_leads = record { link = root_link; party = 1 } ∷ []

abbrev pub leads_in : List PackageSource → List (List Lead)
leads_in xs = host_leads ∷ map (λ (x : PackageSource). leads_of x.links.items) xs

-- THE PACKAGES

-- the host has no modules, and links to the application's own package
abbrev pub host_things : Package
host_things = record { name = []; main = []; modules = []; links = root_link ∷ []; builtin = None; mapped = [] }

-- what a package has of its source, over its modules, with what its `require` of `fs` gives
abbrev pub package_with : PackageSource → List Module → Option (Value Ref MadeSymbol) → Package
package_with x modules builtin = record { name = x.name; main = x.main; modules = modules; links = link_names x.links.items; builtin = builtin; mapped = [] }

-- what a package is made of
abbrev pub parts_of : PackageSource → PackageParts
parts_of x = record {
  name = x.name;
  main = x.main;
  modules = map loaded_source x.modules.items;
  links = map part_of_link x.links.items;
  globals = x.globals;
  builtins = x.builtins;
}

-- HOW PARTIES STAND

-- the things of a party are those of its start, for the places that its modules have in a code
pub record StandsAs (s : PartyStart) (p : ℕ) (c : Tables) (o : Own) : Type 0 where
  pub me : o.me ≡ p
  pub own : s.own ≡ party_with s.own c o
  pub links : (l : List ℕ) → is_link l o.allowed ≡ may_import s.links (link_target s.links l)
  pub meter : s.own.meter ≡ None

-- the things of a package of this number over its modules
pub record IsOwnOf (p : ℕ) (x : PackageSource) (modules : List Module) (o : Own) : Type 0 where
  pub store : Owned
  pub party : store.party.0 ≡ p
  pub objects : store.objects ≡ package_objects p x.globals x.builtins
  pub is : o ≡ new_own store (package_with x modules (package_builtin p x.globals x.builtins)) (allowed_names x.links.items)

-- the same, where the modules have their places in a code
pub record IsPackageOver (c : Tables) (p : ℕ) (x : PackageSource) (o : Own) : Type 0 where
  pub modules : List Module
  pub have : HaveSources c modules x.modules.items
  pub own : IsOwnOf p x modules o

-- the things of packages, numbered from this party on
abbrev pub ArePackagesOver : Tables → (party : ℕ) → List PackageSource → List Own → Type 0
ArePackagesOver c p [] [] = ⊤
ArePackagesOver c p [] (o ∷ os) = ⊥
ArePackagesOver c p (x ∷ xs) [] = ⊥
ArePackagesOver c p (x ∷ xs) (o ∷ os) = IsPackageOver c p x o × ArePackagesOver c (suc p) xs os

-- they stand behind what was there
pub record AreAppended (old : List Own) (c : Tables) (xs : List PackageSource) (new : List Own) : Type 0 where
  pub owns : List Own
  pub are : new ≡ old ++ owns
  pub stand : ArePackagesOver c 1 xs owns

-- a place for the party in the machine, which has any things
pub record IsPlace (others : List Own) : Type 0 where
  pub place : Own
  pub are : others ≡ place ∷ []

-- they stand behind that place
pub record AreOthers (c : Tables) (xs : List PackageSource) (others : List Own) : Type 0 where
  pub place : Own
  pub owns : List Own
  pub are : others ≡ place ∷ owns
  pub stand : ArePackagesOver c 1 xs owns

-- what is known from the start: the host's objects, and the global of the application's own package
abbrev pub known_first : List (Ref × Marks)
known_first = with_marks same_ref root_global global_marks (first_marks (host_objects (naming_of 0)) (length (host_objects (naming_of 0))))

-- a new machine with the things of the host over a code, which may have one template more
pub record IsHostMachine (common : List CommonObject) (c : Tables) (places : List ℕ) (m : View) : Type 0 where
  pub extends : Extends c m.code
  pub store : Owned
  pub party : store.party.0 ≡ 0
  pub objects : store.objects ≡ host_objects (naming_of 0)
  pub new : m ≡ begun.as_new m.code store host_things (root_link ∷ []) common places known_first m.asked m.answer m.imported

-- THE WORLD

-- what a run is made of, by its packages as they are handed in
abbrev pub run_parts_of : List CommonObject → List Template → List PackageSource → RunParts
run_parts_of common templates sources = record { common = common; templates = templates; packages = map parts_of sources }

-- a new machine of all parties over prepared packages
pub record IsWorldOver (common : List CommonObject) (p : Prepared) (leads : List (List Lead)) (budget : ℕ) (v : WorldView) : Type 0 where
  pub machine : View
  pub host : IsHostMachine common p.code p.places.items machine
  pub new : v ≡ as_new machine p.others.items leads budget
  pub rests : RestsFirst v

-- all parties stand where a run begins, whatever is outside and however texts are read. Nothing is left to do in the machine
pub record IsFirstWorld (r : RunParts) (budget : ℕ) (v : WorldView) : Type 0 where
  pub first : (s : Surroundings) → Reads (run_application r s) → IsFirst (run_application r s) v
  pub rests : (s : Surroundings) → Reads (run_application r s) → Rests (run_application r s) (begins (run_application r s)) v
  pub parties : length v.others ≡ suc (length r.packages)
  pub idle : left_of v.machine ≡ nothing_left
  pub limit : v.budget ≡ budget
