-- What the policy that the sources show grants of a literal request, in the run.
use Rattle.std.proofs.Common.{◌≡◌, ℕ, zero, suc, ◌&&◌, Bool, true, false, List, [], ◌∷◌, length, Option, Some, None, refl, ap, ◌∙◌, sym, subst, ⊎_elim}
use Rattle.std.proofs.lemmas.Bool.{both_ways, false_from_ne_true}
use Rattle.std.specs.List.{AllByRecursion, list_all, list_any}
use Rattle.std.specs.Option.{option_map}
use Rattle.std.specs.Prelude.{bytes_eq, is_some, slice_get}
use Rattle.js_desc.specs.declared.start.Start.{Start}
use Rattle.js_desc.specs.declared.start.Grant.{Grant}
use Rattle.js_desc.specs.declared.start.Grant.TheVariants.{Whole, Part, Live, LivePart}
use Rattle.js_text.specs.Naming.{naming_of}
use Rattle.js_text.specs.Texts.{utf8_of}
use Rattle.lava_base.specs.declared.ids.MadeSymbol.{MadeSymbol}
use Rattle.lava_base.specs.declared.ids.Ref.{Ref}
use Rattle.lava_base.specs.declared.marks.Marks.{Marks}
use Rattle.lava_packages.specs.Packages.{may_link, start_in}
use Rattle.lava_packages.specs.declared.common.CommonPart.{CommonPart}
use Rattle.lava_packages.specs.lava_start.Applications.{PartyStart, Surroundings, link_target, may_import}
use Rattle.lava_packages.specs.lava_start.Grants.{builtin_value, global_supply, supplied_objects}
use Rattle.lava_packages.specs.lava_start.js_run.Journal.{env_of}
use Rattle.lava_packages.specs.lava_start.js_run.Parties.{Party}
use Rattle.lava_packages.specs.lava_start.js_run.Requests.{is_builtin, is_link, link_of, parts_of}
use Rattle.lava_packages.specs.lava_start.js_run.Runs.{Env}
use Rattle.lava_packages.specs.pkg_source.declared.code.ModuleCode.{ModuleCode}
use Rattle.pkg_graph.specs.declared.graph.Package.{Package}
use Rattle.pkg_load.specs.Applications.{Application as App}
use Rattle.pkg_load.specs.Requirements.{linked_to, package_at}
use Rattle.policy_gen.specs.Generated.{generated}
use Rattle.policy_gen.specs.Imports.{import_of, import_of_kind}
use Rattle.policy_gen.specs.Laws.{Each_use_is_given, IsOther, owner_name}
use Rattle.policy_gen.specs.Needs.{gives_host, import_use, is_given, uses_of}
use Rattle.policy_gen.specs.declared.imports.Import.{Import}
use Rattle.policy_gen.specs.declared.imports.Import.TheVariants.{Builtin, Linked}
use Rattle.policy_globals.specs.Hosts.{host_name}
use Rattle.policy_globals.specs.Starts.{Grants, builtin_list, start_for}
use Rattle.policy_globals.specs.declared.host.HostObject.TheVariants.{Fs}
use Rattle.policy_row.specs.Rows.{at_name}
use Rattle.policy_row.specs.declared.row.Row.{Row}
use Rattle.lava_granted.specs.LiteralRequests.{Errors_name_no_literal_request, IsStateOf, Literal_requests_are_granted, generated_run, is_literal_request}
use Rattle.lava_granted.specs.ReadPackages.{HasReadLinks, IsReadApplication}
use Rattle.lava_granted.proofs.Act_laws.{IsDenied, same_call, thrown_by}
use Rattle.lava_granted.proofs.Link_laws.{HasLink, has_link, may_be_imported, party_links, some_crosses}
use Rattle.lava_granted.proofs.Request_laws.{Bridges, bridge, of_builtin, of_package}
use Rattle.lava_granted.proofs.Start_laws.{is_made, package_there, start_by_row, start_made}
use Rattle.lava_granted.proofs.Use_laws.{of_request}

-- THE BUILT-IN MODULE

abbrev gives_fs : Grants → Bool
gives_fs grants = list_any (λ g. bytes_eq (host_name Fs) g.0 && gives_host Fs None g.1) grants

fs_value : (p n : ℕ) (o : Option Grant) → gives_fs (builtin_list o) ≡ true → is_some (builtin_value p n (builtin_list o)) ≡ true
fs_value p n None e = e
fs_value p n (Some (Whole k)) e = refl
fs_value p n (Some (Part ms)) e = refl
fs_value p n (Some (Live write)) e = e
fs_value p n (Some (LivePart ms)) e = e

builtin_there : (p n : ℕ) (row : Option Row) → gives_fs (start_for row false).builtins ≡ true → is_some (builtin_value p n (start_for row false).builtins) ≡ true
builtin_there p n None e = e
builtin_there p n (Some row) e = fs_value p n _ e

-- LITERAL REQUESTS

all_at : {X : Type 0} (P : X → Type 0) (xs : List X) (k : ℕ) (x : X) → slice_get xs k ≡ Some x → AllByRecursion P xs → P x
all_at P [] k x e h = absurd (cc)
all_at P (y ∷ xs) zero x e h = let same : y ≡ x = cc in subst P same h.0
all_at P (y ∷ xs) (suc k) x e h = all_at P xs k x e h.1

module _ (app : App ModuleCode) (owner : ℕ) (read : IsReadApplication app) (other : IsOther app.packages owner) (given : list_all (is_given (generated app) (owner_name app owner)) (uses_of app owner) ≡ true) where
  abbrev Own : Package
  Own = package_at app.packages owner

  -- a literal request imports what the policy grants
  request_given : (text : List ℕ) (import : Import) → import_of app.packages owner (utf8_of text) ≡ Some import → is_literal_request app owner text ≡ true
      → is_given (generated app) (owner_name app owner) (import_use app.packages import) ≡ true
  request_given text import is any =
      of_request (is_given (generated app) (owner_name app owner)) app owner text (import_use app.packages import) read.modules (ap (option_map (import_use app.packages)) is) any given

  builtin_granted : (text : List ℕ) → is_literal_request app owner text ≡ true → is_builtin text ≡ true → is_some (start_made app owner).own.builtin ≡ true
  builtin_granted text any e =
      let kind = ap (import_of_kind app.packages owner (utf8_of text)) (of_builtin text e) in
      let start = start_in (generated app) owner Own.name in
      let n = suc (length (supplied_objects (global_supply (suc owner)) 1 start.globals)) in
      ap (λ (x : Start). is_some (builtin_value (suc owner) n x.builtins)) (start_by_row app owner Own.name other)
      ∙ builtin_there (suc owner) n (at_name Own.name (generated app)) (request_given text Builtin kind any)

  link_granted : (text : List ℕ) → is_literal_request app owner text ≡ true → is_builtin text ≡ false
      → is_link (link_of (parts_of text)).0 (start_made app owner).own.links ≡ true
      → may_import (start_made app owner).links (link_target (start_made app owner).links (link_of (parts_of text)).0) ≡ true
  link_granted text any other_kind linked =
      let packages = app.packages in
      let policy = generated app in
      let l = (link_of (parts_of text)).0 in
      let reads = all_at (HasReadLinks (length packages)) packages owner Own (package_there packages owner other.there) read.packages.links in
      let has : HasLink l (length packages) Own.links = has_link packages policy Own.name l (length packages) Own.links linked reads in
      let b : Bridges text l = bridge text l refl has.name in
      let import : import_of packages owner (utf8_of text) ≡ Some (Linked has.to) =
      ap (import_of_kind packages owner (utf8_of text)) (of_package text l b other_kind)
      ∙ ap (λ name. option_map Linked (linked_to Own.links name)) b.link ∙ ap (option_map Linked) has.leads in
      let may : may_link policy Own.name (slice_get packages has.to) ≡ true =
      ap (may_link policy Own.name) (package_there packages has.to has.there) ∙ request_given text (Linked has.to) import any in
      may_be_imported l (party_links packages policy Own.name Own.links) (some_crosses packages policy Own.name l (length packages) has.to Own.links reads has.leads may)

-- THE LAWS

-- the links and the built-in module of a state are those of the start that was made
state_links : (c : CommonPart) (app : App ModuleCode) (s : Surroundings) (owner : ℕ) (q : Party Ref MadeSymbol) → IsOther app.packages owner → IsStateOf (generated_run c app s) (suc owner) q → q.links ≡ (start_made app owner).own.links
state_links c app s owner q other state = state.links ∙ ap (λ (x : PartyStart). x.own.links) (is_made app owner other)

state_builtin : (c : CommonPart) (app : App ModuleCode) (s : Surroundings) (owner : ℕ) (q : Party Ref MadeSymbol) → IsOther app.packages owner → IsStateOf (generated_run c app s) (suc owner) q → q.builtin ≡ (start_made app owner).own.builtin
state_builtin c app s owner q other state = state.builtin ∙ ap (λ (x : PartyStart). x.own.builtin) (is_made app owner other)

abbrev env_in : CommonPart → App ModuleCode → Surroundings → (owner : ℕ) → (Ref → Marks) → Env Ref
env_in c app s owner marks = env_of (generated_run c app s) marks (suc owner)

allowed : Each_use_is_given → (c : CommonPart) (app : App ModuleCode) (s : Surroundings) (owner : ℕ) → IsReadApplication app → IsOther app.packages owner
    → (marks : Ref → Marks) (q : Party Ref MadeSymbol) → IsStateOf (generated_run c app s) (suc owner) q → (text : List ℕ) → is_literal_request app owner text ≡ true
    → is_builtin text ≡ false → is_link (link_of (parts_of text)).0 q.links ≡ true → (env_in c app s owner marks).allows (link_of (parts_of text)).0 ≡ true
allowed law c app s owner read other marks q state text any none linked =
    let l = (link_of (parts_of text)).0 in
    let given = law app owner read.packages.names other in
    ap (λ (x : PartyStart). may_import x.links (link_target x.links l)) (is_made app owner other)
    ∙ link_granted app owner read other given text any none (sym (ap (is_link l) (state_links c app s owner q other state)) ∙ linked)

there : Each_use_is_given → (c : CommonPart) (app : App ModuleCode) (s : Surroundings) (owner : ℕ) → IsReadApplication app → IsOther app.packages owner
    → (q : Party Ref MadeSymbol) → IsStateOf (generated_run c app s) (suc owner) q → (text : List ℕ) → is_literal_request app owner text ≡ true → is_builtin text ≡ true → is_some q.builtin ≡ true
there law c app s owner read other q state text any e =
    ap is_some (state_builtin c app s owner q other state) ∙ builtin_granted app owner read other (law app owner read.packages.names other) text any e

pub literal_requests_are_granted : Each_use_is_given → Literal_requests_are_granted
literal_requests_are_granted law c app s owner read other marks q state n text more any =
    record {
      link = same_call (naming_of (suc owner)) (env_in c app s owner marks) n text more q (allowed law c app s owner read other marks q state text any);
      builtin = there law c app s owner read other q state text any;
    }

not_denied : Each_use_is_given → (c : CommonPart) (app : App ModuleCode) (s : Surroundings) (owner : ℕ) → IsReadApplication app → IsOther app.packages owner
    → (marks : Ref → Marks) (q : Party Ref MadeSymbol) → IsStateOf (generated_run c app s) (suc owner) q → (text : List ℕ)
    → IsDenied (naming_of (suc owner)) (env_in c app s owner marks) text q → is_literal_request app owner text ≡ true → ⊥
not_denied law c app s owner read other marks q state text d any =
    ⊎_elim
    (λ (w : (is_builtin text ≡ true) × (is_some q.builtin ≡ false)). both_ways (is_some q.builtin) w.1 (there law c app s owner read other q state text any w.0))
    (λ w. both_ways ((env_in c app s owner marks).allows (link_of (parts_of text)).0) w.2 (allowed law c app s owner read other marks q state text any w.0 w.1))
    d.why

pub errors_name_no_literal_request : Each_use_is_given → Errors_name_no_literal_request
errors_name_no_literal_request law c app s owner read other marks q state n args request e =
    let d = thrown_by (naming_of (suc owner)) (env_in c app s owner marks) n args q request e in
    false_from_ne_true (is_literal_request app owner request) (not_denied law c app s owner read other marks q state request d)
