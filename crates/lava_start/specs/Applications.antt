-- The application of a run before anything has happened: how each party stands, in the order of the parties.
use Rattle.std.specs.Prelude.{ℕ, zero, suc, nat_eq, Bool, true, false, not, ◌&&◌, ◌||◌, List, [], ◌∷◌, ◌++◌, length, map, get_or, Option, ℤ, ⊤, if◌then◌else◌}
use Rattle.std.specs.Map.{lookup}
use Rattle.std.specs.Option.{unwrap_or}
use Rattle.lava_base.specs.declared.ids.MadeSymbol.{MadeSymbol}
use Rattle.lava_base.specs.declared.ids.Ref.{Ref}
use Rattle.lava_base.specs.declared.marks.Marks.{Marks}
use Rattle.js_text.specs.Identities.{Identity}
use Rattle.js_text.specs.Naming.{naming_of}
use Rattle.js_text.specs.Texts.{same_units}
use Rattle.js_store.specs.Frozen.{CommonObject}
use Rattle.js_store.specs.Objects.{Object}
use Rattle.js_world.specs.js_run.Globals.{global_marks}
use Rattle.js_world.specs.js_run.Hosts.{host_objects}
use Rattle.js_world.specs.js_run.Journal.{Application, root_link}
use Rattle.js_world.specs.js_run.Outside.{OutsideCall, OutsideAnswer}
use Rattle.js_world.specs.js_run.Parties.{Loaded, Party}
use Rattle.js_world.specs.js_run.Starts.{blank, host_party, host_ref}
use Rattle.js_term.specs.declared.term.Template.{Template}
use Rattle.lava_start.specs.Grants.{Granted, InRange, package_builtin, package_names, package_objects, root_global}

-- HOW ONE PARTY STANDS

-- a link of a party: its name, the party that it leads to, and whether it may be imported over
-- LavaMoat policy, packages
pub record PartyLink : Type 0 where
  pub name : List ℕ
  pub party : ℕ
  pub allowed : Bool

-- a party before anything has happened: its own things, its links, the foreign names of its start in their order,
-- and its own objects that others have from the start, the first one last
pub record PartyStart : Type 0 where
  pub own : Party Ref MadeSymbol
  pub links : List PartyLink
  pub names : List (Identity Ref MadeSymbol)
  pub left : List ℕ

-- the numbers below one, the first one last
abbrev pub counted_down : ℕ → List ℕ
counted_down zero = []
counted_down (suc n) = n ∷ counted_down n

-- the host: its one link is to the application's own package, and its objects have fixed names
-- own: names in a trace
abbrev pub host_start : PartyStart
host_start = record {
  own = host_party;
  links = record { name = root_link; party = 1; allowed = true } ∷ [];
  names = [];
  left = counted_down (length (host_objects (naming_of 0)));
}

abbrev pub link_name : PartyLink → List ℕ
link_name l = l.name

-- what a package is made of: its canonical name, the path of its main module, its modules, its links, and what it is granted of globals and of builtin modules
-- LavaMoat policy
pub record PackageParts : Type 0 where
  pub name : List ℕ
  pub main : List ℕ
  pub modules : List Loaded
  pub links : List PartyLink
  pub globals : Granted
  pub builtins : Granted

-- the own objects of a package that others have from the start: the global of the application's own has a fixed name
-- own: names in a trace
abbrev pub left_at : (party : ℕ) → List ℕ
left_at zero = []
left_at (suc zero) = 0 ∷ []
left_at (suc (suc p)) = []

-- a package before anything has happened, with what its row grants it
-- LavaMoat policy, globals and builtin
abbrev pub package_start : (party : ℕ) → PackageParts → PartyStart
package_start p x = record {
  own = record blank {
    name = x.name;
    main = x.main;
    modules = x.modules;
    links = map link_name x.links;
    builtin = package_builtin p x.globals x.builtins;
    objects = package_objects p x.globals x.builtins;
  };
  links = x.links;
  names = package_names x.globals x.builtins;
  left = left_at p;
}

-- ALL PARTIES

-- past the last party there is nothing
abbrev pub no_start : PartyStart
no_start = record { own = blank; links = []; names = []; left = [] }

abbrev pub start_at : List PartyStart → ℕ → PartyStart
start_at starts p = get_or starts p no_start

-- packages, whose parties are numbered from one on
abbrev pub package_starts : (party : ℕ) → List PackageParts → List PartyStart
package_starts p [] = []
package_starts p (x ∷ xs) = package_start p x ∷ package_starts (suc p) xs

-- the host, and the packages behind it, the application's own first
abbrev pub all_starts : List PackageParts → List PartyStart
all_starts xs = host_start ∷ package_starts 1 xs

abbrev pub link_to : PartyLink → List ℕ × ℕ
link_to l = (l.name, l.party)

-- a link may be imported over where its package is allowed. None leads to the host
-- LavaMoat policy, packages
abbrev pub may_cross : PartyLink → Bool
may_cross l = l.allowed && not (nat_eq l.party 0)

abbrev pub allowed_links : List PartyLink → List PartyLink
allowed_links [] = []
allowed_links (l ∷ links) = if may_cross l then l ∷ allowed_links links else allowed_links links

-- where a link leads that may be imported over. Any other one leads to the host, which no party may import
abbrev pub link_target : List PartyLink → List ℕ → ℕ
link_target links name = unwrap_or (lookup (same_units name) (map link_to (allowed_links links))) 0

abbrev pub leads_there : List PartyLink → (party : ℕ) → Bool
leads_there [] q = false
leads_there (l ∷ links) q = nat_eq l.party q || leads_there links q

-- whether a party may be imported
abbrev pub may_import : List PartyLink → (party : ℕ) → Bool
may_import links q = leads_there (allowed_links links) q

-- the objects of a party with their marks, from a number on
abbrev pub marks_from : ℕ → List (Object Ref MadeSymbol) → List (Ref × Marks)
marks_from n [] = []
marks_from n (o ∷ os) = (host_ref n, o.marks) ∷ marks_from (suc n) os

-- what is of no party: how texts are read, as numbers, for a part and as programs, and what the outside answers
pub record Surroundings : Type 0 where
  pub number_of : List ℕ → Option ℤ
  pub find : List ℕ → List ℕ → ℕ → Option ℕ
  pub program : List ℕ → Option Template
  pub outside : List OutsideCall → OutsideAnswer

-- what starts name of others: objects of the host, and the global of the application's own package
abbrev pub first_known : List (Ref × Marks)
first_known = marks_from 0 (host_objects (naming_of 0)) ++ (root_global, global_marks) ∷ []

-- an application of these parties over a common part
abbrev pub begun_application : List CommonObject → List Template → List PartyStart → Surroundings → Application
begun_application common templates starts s =
    record {
      shared = record { objects = common; templates = templates; number_of = s.number_of; find = s.find; program = s.program };
      own = λ p. (start_at starts p).own;
      count = length starts;
      links = λ p name. link_target (start_at starts p).links name;
      allows = λ p q. may_import (start_at starts p).links q;
      starts = λ p. (start_at starts p).names;
      left = λ p. (start_at starts p).left;
      marks = first_known;
      outside = s.outside;
    }

-- what a run is made of: the common objects and their templates, and the packages, the application's own first
pub record RunParts : Type 0 where
  pub common : List CommonObject
  pub templates : List Template
  pub packages : List PackageParts

-- the application of a run
abbrev pub run_application : RunParts → Surroundings → Application
run_application r s = begun_application r.common r.templates (all_starts r.packages) s

-- each number of an object of the host that packages are granted is one
abbrev pub AllInRange : List PackageParts → Type 0
AllInRange [] = ⊤
AllInRange (x ∷ xs) = InRange x.globals x.builtins × AllInRange xs
