-- What a call of `require` comes to, in a package that runs under the policy which its sources show.
use Rattle.std.specs.Prelude.{◌≡◌, ◌≤◌, ℕ, suc, Bool, true, false, List, ◌∷◌, length, is_some}
use Rattle.std.specs.List.{list_any}
use Rattle.js_desc.specs.declared.reply.Reply.TheVariants.{Throw}
use Rattle.js_scope.specs.declared.finding.ModuleRequest.{ModuleRequest}
use Rattle.js_text.specs.Naming.{Naming, naming_of}
use Rattle.js_text.specs.Texts.{same_units}
use Rattle.js_text.specs.declared.text.TheConstants.{MAX_UNITS}
use Rattle.js_text.specs.declared.value.Value.{Value}
use Rattle.js_text.specs.declared.value.Value.TheVariants as value
use Rattle.lava_base.specs.declared.ids.MadeSymbol.{MadeSymbol}
use Rattle.lava_base.specs.declared.ids.Ref.{Ref}
use Rattle.lava_base.specs.declared.marks.Marks.{Marks}
use Rattle.lava_packages.specs.Packages.{run_parts}
use Rattle.lava_packages.specs.declared.common.CommonPart.{CommonPart}
use Rattle.lava_packages.specs.lava_start.Applications.{Surroundings, run_application}
use Rattle.lava_packages.specs.lava_start.js_run.Completions.{Replied}
use Rattle.lava_packages.specs.lava_start.js_run.Faults.{error_object}
use Rattle.lava_packages.specs.lava_start.js_run.Journal.{Application, env_of}
use Rattle.lava_packages.specs.lava_start.js_run.Modules.{not_allowed, requires}
use Rattle.lava_packages.specs.lava_start.js_run.Parties.{Party, made}
use Rattle.lava_packages.specs.lava_start.js_run.Requests.{is_builtin, not_allowed_text}
use Rattle.lava_packages.specs.lava_start.js_run.Runs.{Env, Move, Gives, answered}
use Rattle.lava_packages.specs.lava_start.js_run.declared.intrinsics.TheConstants.{ERROR_PROTOTYPE}
use Rattle.lava_packages.specs.pkg_source.declared.code.ModuleCode.{ModuleCode}
use Rattle.pkg_load.specs.Applications.{Application as App}
use Rattle.pkg_load.specs.declared.module.LoadedModule.{LoadedModule}
use Rattle.policy_gen.specs.Generated.{generated}
use Rattle.policy_gen.specs.Laws.{IsOther}
use Rattle.policy_gen.specs.Uses.{modules_of}
use Rattle.lava_granted.specs.ReadPackages.{IsReadApplication, literal_requests}

-- LITERAL REQUESTS

abbrev pub has_request : (text : List ℕ) → ModuleCode → Bool
has_request text code = list_any (λ (r : ModuleRequest). same_units r.text text) (literal_requests code)

-- some module of a package requests a text by a literal
-- LavaMoat policy generation
abbrev pub is_literal_request : App ModuleCode → (owner : ℕ) → (text : List ℕ) → Bool
is_literal_request app owner text = list_any (λ (m : LoadedModule ModuleCode). has_request text m.code) (modules_of app owner)

-- RUNS

-- the application of a run under the policy that the sources show. Party 0 is the host, and the packages stand behind it
-- LavaMoat policy
abbrev pub generated_run : CommonPart → App ModuleCode → Surroundings → Application
generated_run c app s = run_application (run_parts c app.packages app.modules (generated app)) s

-- a state of a party, with what `require` looks at as it was at the start
pub record HasStart (start q : Party Ref MadeSymbol) : Type 0 where
  pub links : q.links ≡ start.links
  pub builtin : q.builtin ≡ start.builtin

abbrev pub IsStateOf : Application → (party : ℕ) → Party Ref MadeSymbol → Type 0
IsStateOf run party q = HasStart (run.own party) q

-- what a call of the `require` of a module comes to
-- LavaMoat require
abbrev pub require_gives : (party : ℕ) → Env Ref → (module_number : ℕ) → List (Value Ref MadeSymbol) → Party Ref MadeSymbol → Move Ref MadeSymbol
require_gives party env n args q = answered (naming_of party) env (requires (naming_of party) n args q)

-- the same surroundings, but for a row that allows each link
abbrev pub all_links_allowed : Env Ref → Env Ref
all_links_allowed env = record env { allows = λ link. true }

-- a party makes and throws an Error `LavaMoat - not allowed` that names a request
-- LavaMoat policy
abbrev pub throws_not_allowed : Naming Ref MadeSymbol → (request : List ℕ) → Party Ref MadeSymbol → Move Ref MadeSymbol
throws_not_allowed names request q =
    let text = not_allowed_text q.name request in
    Gives (Replied (Throw (value.Ref (names.own (length q.objects))))) (made q (error_object names q.frozen_errors ERROR_PROTOTYPE text))

-- LAWS

-- So does each call that is not allowed, unless the text of the Error is past the limit of texts, which ends the run.
abbrev pub Not_allowed_throws : Type 0
Not_allowed_throws =
    (party : ℕ) (env : Env Ref) (request : List ℕ) (q : Party Ref MadeSymbol) → length (not_allowed_text q.name request) ≤ MAX_UNITS
    → answered (naming_of party) env (not_allowed (naming_of party) request q) ≡ throws_not_allowed (naming_of party) request q

-- What a call with a text comes to, is what it comes to where each link is allowed; and the built-in module is there, where the text requests it.
pub record IsGrantedRequest (party : ℕ) (env : Env Ref) (n : ℕ) (text : List ℕ) (more : List (Value Ref MadeSymbol)) (q : Party Ref MadeSymbol) : Type 0 where
  pub link : let args = value.Text text ∷ more in require_gives party env n args q ≡ require_gives party (all_links_allowed env) n args q
  pub builtin : is_builtin text ≡ true → is_some q.builtin ≡ true

-- Under the policy that the sources show, the row of a package denies no request that one of its modules makes by a literal.
abbrev pub Literal_requests_are_granted : Type 0
Literal_requests_are_granted =
    (c : CommonPart) (app : App ModuleCode) (s : Surroundings) (owner : ℕ) → IsReadApplication app → IsOther app.packages owner
    → (marks : Ref → Marks) (q : Party Ref MadeSymbol) → IsStateOf (generated_run c app s) (suc owner) q
    → (n : ℕ) (text : List ℕ) (more : List (Value Ref MadeSymbol)) → is_literal_request app owner text ≡ true
    → IsGrantedRequest (suc owner) (env_of (generated_run c app s) marks (suc owner)) n text more q

-- So each Error `LavaMoat - not allowed` that a call makes names a request that no module of the package makes by a literal.
abbrev pub Errors_name_no_literal_request : Type 0
Errors_name_no_literal_request =
    (c : CommonPart) (app : App ModuleCode) (s : Surroundings) (owner : ℕ) → IsReadApplication app → IsOther app.packages owner
    → (marks : Ref → Marks) (q : Party Ref MadeSymbol) → IsStateOf (generated_run c app s) (suc owner) q
    → (n : ℕ) (args : List (Value Ref MadeSymbol)) (request : List ℕ)
    → require_gives (suc owner) (env_of (generated_run c app s) marks (suc owner)) n args q ≡ throws_not_allowed (naming_of (suc owner)) request q
    → is_literal_request app owner request ≡ false
