-- What packages are made of, and that what a policy grants of the host are objects that the host has.
use Rattle.std.proofs.Common.{◌≡◌, ℕ, suc, ◌<◌, ◌+◌, ◌==◌, Bool, true, false, List, [], ◌∷◌, ◌++◌, length, get_or, take, nat_eq, Option, Some, None, refl, sym, ap, ◌∙◌, arith, if◌then◌else◌}
use Rattle.std.proofs.lemmas.List.{append_assoc, length-take-le, take_more}
use Rattle.std.specs.List.{cons_option, filter_map}
use Rattle.js_desc.specs.declared.start.Grant.{Grant}
use Rattle.js_desc.specs.declared.start.Grant.TheVariants.{Live, LivePart, Part, Whole}
use Rattle.lava_start.specs.Applications.{AllInRange, PackageParts}
use Rattle.lava_start.specs.Grants.{AreInRange, InRange, IsInRange, MembersInRange, host_count}
use Rattle.pkg_graph.specs.declared.graph.Package.{Package}
use Rattle.pkg_load.specs.declared.module.LoadedModule.{LoadedModule}
use Rattle.pkg_source.specs.declared.code.ModuleCode.{ModuleCode}
use Rattle.policy_row.specs.Rows.{Entries, Rows, at_name, is_granting, is_write}
use Rattle.policy_row.specs.declared.grade.Grade.{Grade}
use Rattle.policy_row.specs.declared.row.Row.{Row}
use Rattle.policy_globals.specs.Hosts.{host_global, host_members, host_name, host_number, is_intrinsic}
use Rattle.policy_globals.specs.Keys.{firsts, seconds}
use Rattle.policy_globals.specs.Starts.{builtin_grant, builtin_list, builtins_of, deciding, globals_of, grant_for, grant_of, granted_members, host_grant, live_grant, live_part, member_if_granted, member_if_live, named_grant, start_for, whole_or_part, with_name}
use Rattle.policy_globals.specs.declared.host.HostObject.{HostObject}
use Rattle.policy_globals.specs.declared.host.HostObject.TheVariants.{Console, Input, Clock, Fs}
use Rattle.lava_packages.specs.Packages.{package_parts, parts_from}
use Rattle.lava_packages.specs.declared.packages.TheConstants.{OWN_PACKAGE}

abbrev OptionInRange : Option Grant → Type 0
OptionInRange None = Unit {0}
OptionInRange (Some g) = IsInRange g

-- members that are left of members
members_left : (parts : Entries) (whole : Grade) (ms : List (List ℕ × ℕ)) → MembersInRange ms → MembersInRange (granted_members parts whole ms)
members_left parts whole [] r = tt
members_left parts whole (m ∷ ms) r = by (deciding (at_name m.0 parts) whole) (members_left parts whole ms r.1)
  where
    rest : List (List ℕ × ℕ)
    rest = granted_members parts whole ms

    by : (b : Bool) → MembersInRange rest → MembersInRange (cons_option (if b then Some (m.0, m.1) else None) rest)
    by true h = (r.0, h)
    by false h = h

all_members : (o : HostObject) → MembersInRange (host_members o)
all_members Console = (omega arith, (omega arith, (omega arith, (omega arith, tt))))
all_members Input = (omega arith, tt)
all_members Clock = (omega arith, tt)
all_members Fs = (omega arith, (omega arith, tt))

all_numbers : (o : HostObject) → host_number o < host_count
all_numbers Console = omega arith
all_numbers Input = omega arith
all_numbers Clock = omega arith
all_numbers Fs = omega arith

whole_in_range : (number count : ℕ) (ms : List (List ℕ × ℕ)) → number < host_count → MembersInRange ms → OptionInRange (whole_or_part number count ms)
whole_in_range number count [] n r = tt
whole_in_range number count (m ∷ ms) n r = elim (length (m ∷ ms) == count) as (λ b. IsInRange (if b then Whole number else Part (m ∷ ms))) [ true ↦ n | false ↦ r ]

host_in_range : (parts : Entries) (o : HostObject) (whole : Grade) → OptionInRange (host_grant parts o whole)
host_in_range parts o whole = whole_in_range (host_number o) (length (host_members o)) (granted_members parts whole (host_members o)) (all_numbers o) (members_left parts whole (host_members o) (all_members o))

live_part_in_range : (ms : List (List ℕ × Bool)) → OptionInRange (live_part ms)
live_part_in_range [] = tt
live_part_in_range (m ∷ ms) = tt

grant_in_range : (object : Option HostObject) (parts : Entries) (whole : Grade) → OptionInRange (grant_for object parts whole)
grant_in_range None parts whole = elim (is_granting whole) as (λ b. OptionInRange (if b then Some (Live (is_write whole)) else live_part (filter_map member_if_live parts))) [ true ↦ tt | false ↦ live_part_in_range (filter_map member_if_live parts) ]
grant_in_range (Some o) parts whole = host_in_range parts o whole

named_in_range : (keys : Entries) (e : List ℕ × Grade) → OptionInRange (grant_of keys e)
named_in_range keys e = elim (is_intrinsic e.0) as (λ b. OptionInRange (if b then None else grant_for (host_global e.0) (seconds e.0 keys) e.1)) [ true ↦ tt | false ↦ grant_in_range (host_global e.0) (seconds e.0 keys) e.1 ]

globals_in_range : (keys es : Entries) → AreInRange (filter_map (named_grant keys) es)
globals_in_range keys [] = tt
globals_in_range keys (e ∷ es) = by (grant_of keys e) (named_in_range keys e) (globals_in_range keys es)
  where
    rest : List (List ℕ × Grant)
    rest = filter_map (named_grant keys) es

    by : (g : Option Grant) → OptionInRange g → AreInRange rest → AreInRange (cons_option (with_name e.0 g) rest)
    by None r h = h
    by (Some g) r h = (r, h)

builtin_in_range : (keys : Entries) (whole : Option Grade) → OptionInRange (builtin_grant keys whole)
builtin_in_range keys None = tt
builtin_in_range keys (Some whole) = host_in_range (seconds (host_name Fs) keys) Fs whole

listed_in_range : (g : Option Grant) → OptionInRange g → AreInRange (builtin_list g)
listed_in_range None r = tt
listed_in_range (Some g) r = (r, tt)

-- what a row grants
start_in_range : (row : Option Row) (trusted : Bool) → InRange (start_for row trusted).globals (start_for row trusted).builtins
start_in_range row true = ((omega arith, (omega arith, (omega arith, tt))), (omega arith, tt))
start_in_range None false = (tt, tt)
start_in_range (Some row) false =
    let whole = at_name (host_name Fs) (firsts row.builtin) in
    (globals_in_range row.globals (firsts row.globals), listed_in_range (builtin_grant row.builtin whole) (builtin_in_range row.builtin whole))

-- what all packages of an application are granted
pub parts_in_range : (packages : List Package) (ms : List (LoadedModule ModuleCode)) (policy : Rows) (owner : ℕ) (left : List Package) → AllInRange (parts_from packages ms policy owner left)
parts_in_range packages ms policy owner [] = tt
parts_in_range packages ms policy owner (p ∷ left) = (start_in_range (at_name p.name policy) (nat_eq owner OWN_PACKAGE), parts_in_range packages ms policy (suc owner) left)

-- ONE PACKAGE MORE

module _ (packages : List Package) (ms : List (LoadedModule ModuleCode)) (policy : Rows) where
  parts_more : (owner n : ℕ) (xs : List Package) (x : Package) → n ≡ owner + length xs → parts_from packages ms policy owner (xs ++ x ∷ []) ≡ parts_from packages ms policy owner xs ++ package_parts packages ms policy n x ∷ []
  parts_more owner n [] x e = let same : n ≡ owner = e ∙ omega arith in ap (λ k. package_parts packages ms policy k x ∷ []) (sym same)
  parts_more owner n (y ∷ xs) x e = ap (λ ps. package_parts packages ms policy owner y ∷ ps) (parts_more (suc owner) n xs x (e ∙ omega arith))

  pub parts_pushed : (old now after : List PackageParts) (all : List Package) (i n : ℕ) (x : Package) → now ≡ old ++ parts_from packages ms policy 0 (take i all) → after ≡ now ++ package_parts packages ms policy n x ∷ [] → n ≡ i → i < length all → x ≡ get_or all i x
      → after ≡ old ++ parts_from packages ms policy 0 (take (i + 1) all)
  parts_pushed old now after all i n x is pushed place within item =
      let size : length (take i all) ≡ i = length-take-le i all (omega (arith, within)) in
      let front : take i all ++ x ∷ [] ≡ take (i + 1) all = ap (λ y. take i all ++ y ∷ []) item ∙ sym (take_more all i x within) in
      let at : n ≡ 0 + length (take i all) = place ∙ sym size ∙ omega arith in
      pushed
      ∙ ap (λ ps. ps ++ package_parts packages ms policy n x ∷ []) is
      ∙ append_assoc old (parts_from packages ms policy 0 (take i all)) (package_parts packages ms policy n x ∷ [])
      ∙ ap (λ ps. old ++ ps) (sym (parts_more 0 n (take i all) x at) ∙ ap (parts_from packages ms policy 0) front)
