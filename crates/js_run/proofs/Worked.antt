-- Applications that are run by the definitions alone: their crossings, steps and endings are computed.
use Rattle.std.proofs.Common.{◌≡◌, ℕ, zero, suc, Bool, true, false, List, [], ◌∷◌, Option, Some, None, refl, ap, ◌+◌}
use Rattle.std.specs.Prelude.{pos, codes, map, length, ◌++◌}
use Rattle.lava_base.specs.declared.ids.MadeSymbol.{MadeSymbol}
use Rattle.lava_base.specs.declared.ids.Ref.{Ref}
use Rattle.js_text.specs.CommonPaths.{common_paths}
use Rattle.js_text.specs.Naming.{Naming, naming_of}
use Rattle.js_text.specs.declared.value.Value as v
use Rattle.js_text.specs.declared.value.Value.TheVariants as value
use Rattle.js_text.specs.declared.value.Key.TheVariants as key
use Rattle.js_desc.specs.declared.ask.Ask.TheVariants as ask
use Rattle.js_desc.specs.declared.reply.Reply.{Reply}
use Rattle.js_desc.specs.declared.reply.Reply.TheVariants as reply
use Rattle.js_store.specs.Frozen.{bare_objects}
use Rattle.js_term.specs.declared.term.Arguments.TheVariants as arguments
use Rattle.js_term.specs.declared.term.Jump.TheVariants as jump
use Rattle.js_term.specs.declared.term.Literal.TheVariants as literal
use Rattle.js_term.specs.declared.term.Part.TheVariants as part
use Rattle.js_term.specs.declared.term.Template.{Template, roll-Template, out-roll-Template}
use Rattle.js_term.specs.declared.term.TemplateKind.{TemplateKind}
use Rattle.js_term.specs.declared.term.TemplateKind.TheVariants as kind
use Rattle.js_term.specs.declared.term.Term.{Term, out-Term}
use Rattle.js_run.specs.Rows.{row}
use Rattle.js_term.specs.declared.term.Arguments.TheOpen.{Term-F}
use Rattle.js_run.specs.Acts.{Next, give}
use Rattle.js_term.specs.declared.term.Term.TheVariants as term
use Rattle.js_term.specs.declared.term.Term.TheVariants.{outs-Lit, outs-Outside, outs-This, outs-NewTarget, outs-Local, outs-Global, outs-SetLocal, outs-SetGlobal, outs-Init, outs-Get, outs-Put, outs-Delete, outs-SuperGet, outs-Call, outs-CallOn, outs-CallSuper, outs-New, outs-SuperNew, outs-Unary, outs-Binary, outs-Short, outs-If, outs-Func, outs-Define, outs-Class, outs-Native, outs-Seq, outs-Scope, outs-Fresh, outs-Loop, outs-Label, outs-Jump, outs-Throw, outs-Try}
use Rattle.js_term.specs.declared.term.Arguments.TheVariants.{outs-Listed, outs-Of}
use Rattle.js_term.specs.declared.term.Jump.TheVariants.{outs-Break, outs-Continue, outs-Return}
use Rattle.js_term.specs.declared.term.Part.TheVariants.{outs-Data, outs-Method, outs-Getter, outs-Setter, outs-Spread, outs-Item, outs-Hole}
use Rattle.js_tree.specs.declared.operator.BinaryOperator.TheVariants as op
use Rattle.js_run.specs.Completions as halt
use Rattle.js_run.specs.Heap.{World, Control, Over_with, heap}
use Rattle.js_run.specs.Identities.{Message, Requests, Replies}
use Rattle.js_run.specs.Journal.{Application, Crossing, Ending, Done, Uncaught, Budget, Fault}
use Rattle.js_run.specs.Outside.{OutsideAnswer, AnswersUndefined}
use Rattle.js_run.specs.Parties.{Loaded, Party, Shared}
use Rattle.js_run.specs.Runs.{Asks, Env, Request, Gives, Point, Job, Imports, Over, Charge, Charged, Lacks, Stops, answered, charge, run, run_for, settle, work, Due, Begins, Sent, Short, Stop, Stopped, Gave}
use Rattle.js_run.specs.Local.{serves}
use Rattle.js_store.specs.Objects.{plain_marks}
use Rattle.js_run.specs.Completions.{Replied}
use Rattle.js_run.specs.Functions.{plain_object}
use Rattle.js_run.specs.Starts.{blank, host_party, host_ref, package_party, root_endowments}

-- TERMS

abbrev pub text : List ℕ → Term
text t = term.Lit (literal.Text t)

abbrev pub number : ℕ → Term
number n = term.Lit (literal.Int (pos n))

abbrev console_log : List Term → Term
console_log ts = term.CallOn (term.Global (codes "console") false) (text (codes "log")) (arguments.Listed ts)

abbrev require : List ℕ → Term
require r = term.Call (term.Local 0 1) (arguments.Listed (text r ∷ []))

abbrev exports : List ℕ → Term → Term
exports name t = term.Put (term.Local 0 0) (text name) t

abbrev pub module_exports : Term → Term
module_exports t = term.Put (term.Local 0 2) (text (codes "exports")) t

abbrev return : Term → Term
return t = term.Jump (jump.Return (Some t))

abbrev template : TemplateKind → (length slots : ℕ) → Term → Template
template k l n t = roll-Template (record { kind = k; name = []; length = l; params = l; rest = false; slots = n; undefined = []; body = t })

abbrev arrow : (params : ℕ) → Term → Term
arrow n t = term.Func (template kind.Arrow n n t)

abbrev pub module_of : (slots : ℕ) → List Term → Loaded
module_of n ts = record { path = codes "index.js"; template = roll-Template (record { kind = kind.Module; name = []; length = 0; params = 0; rest = false; slots = n; undefined = []; body = term.Seq ts }); begun = None }

-- APPLICATIONS

abbrev pub shared : Shared
shared = record { objects = []; templates = []; number_of = λ t. None; find = λ s t n. None; program = λ t. None }

abbrev pub root : Loaded → List (List ℕ) → Party Ref MadeSymbol
root m links = record blank { name = codes "$root$"; main = codes "index.js"; modules = m ∷ []; links = links; builtin = Some (value.Ref (host_ref 9)); objects = plain_object (naming_of 1) root_endowments ∷ [] }

abbrev library : (party : ℕ) → List ℕ → Loaded → List (List ℕ) → Party Ref MadeSymbol
library p name m links = package_party p name (codes "index.js") (m ∷ []) links None []

abbrev parties : List (Party Ref MadeSymbol) → ℕ → Party Ref MadeSymbol
parties [] p = blank
parties (x ∷ xs) zero = x
parties (x ∷ xs) (suc p) = parties xs p

abbrev application : List (Party Ref MadeSymbol) → (ℕ → List ℕ → ℕ) → Application
application ps links = record {
  shared = shared;
  own = parties (host_party ∷ ps);
  count = suc (length ps);
  links = links;
  allows = λ p q. true;
  starts = λ p. [];
  left = λ p. [];
  marks = [];
  outside = λ calls. AnswersUndefined;
}

abbrev alone : Loaded → Application
alone m = application (root m [] ∷ []) (λ p l. 1)

abbrev at_one : Stop Ref MadeSymbol → ℕ
at_one (Sent o p ks n) = n
at_one (Gave c p n) = n
at_one (Stopped e n) = 100
at_one (Short n) = 200

abbrev pub one : Party Ref MadeSymbol
one = root (module_of 3 []) []

abbrev pub surroundings : Env Ref
surroundings = record { marks = λ r. plain_marks; allows = λ l. true; outside = λ c. AnswersUndefined; free = false; first = None }

module _ {R S : Type 0} (names : Naming R S) (env : Env R) where
  by_charge : (n limit steps c : ℕ) (j : Job R S) (p : Party R S) (ks : List (Next R S)) → Charge → Stop R S
  by_charge n limit steps c j p ks ch = elim ch [
    | Charged ↦ run_for names shared env n limit (steps + suc c) (settle names shared env ks (answered names env (work names shared j p)))
    | Lacks ↦ Short steps
    | Stops e ↦ Stopped e steps
  ]

  pub step : (n limit steps c : ℕ) (j : Job R S) (p : Party R S) (ks : List (Next R S)) → charge p.meter steps limit (suc c) ≡ Charged
      → run_for names shared env (suc n) limit steps (Due c j p ks) ≡ run_for names shared env n limit (steps + suc c) (settle names shared env ks (answered names env (work names shared j p)))
  unfolding by_charge
  step n limit steps c j p ks e = ap (by_charge n limit steps c j p ks) e

-- what a run computes by: a step, and the layer of each term
pub ruleset computing = (step, out-roll-Template, outs-Lit, outs-Outside, outs-This, outs-NewTarget, outs-Local, outs-Global, outs-SetLocal, outs-SetGlobal, outs-Init, outs-Get, outs-Put, outs-Delete, outs-SuperGet, outs-Call, outs-CallOn, outs-CallSuper, outs-New, outs-SuperNew, outs-Unary, outs-Binary, outs-Short, outs-If, outs-Func, outs-Define, outs-Class, outs-Native, outs-Seq, outs-Scope, outs-Fresh, outs-Loop, outs-Label, outs-Jump, outs-Throw, outs-Try, outs-Listed, outs-Of, outs-Break, outs-Continue, outs-Return, outs-Data, outs-Method, outs-Getter, outs-Setter, outs-Spread, outs-Item, outs-Hole)

-- a run of at most so many charges more than n, for the sake of computing
abbrev pub twenty : ℕ → ℕ
twenty n = suc (suc (suc (suc (suc (suc (suc (suc (suc (suc (suc (suc (suc (suc (suc (suc (suc (suc (suc (suc n)))))))))))))))))))

abbrev pub runs : ℕ → ℕ → Point Ref MadeSymbol → Stop Ref MadeSymbol
runs n steps point = run_for (naming_of 1) shared surroundings (twenty n) 1000 steps point

-- what a party does that is given these replies to what it asks, one after the other
abbrev talk : ℕ → List (Reply Ref MadeSymbol) → Stop Ref MadeSymbol → Stop Ref MadeSymbol
talk n (r ∷ rs) (Sent o p ks steps) = talk n rs (runs n steps (settle (naming_of 1) shared surroundings ks (Gives (Replied r) p)))
talk n _ stop = stop

abbrev begins_with : ℕ → List Term → Stop Ref MadeSymbol
begins_with n ts = runs n 0 (serves (naming_of 1) shared surroundings (root (module_of 3 ts) []) (Imports [] []))

-- what is seen of a stop: its steps, and what was sent, given or met
pub data Seen : Type 0 where
  Asked : Request Ref MadeSymbol → ℕ → Seen
  Answered : Reply Ref MadeSymbol → ℕ → Seen
  Met : halt.Halt → ℕ → Seen
  Cut : ℕ → Seen

abbrev pub seen : Stop Ref MadeSymbol → Seen
seen (Sent o p ks n) = Asked o n
seen (Gave c p n) = Answered (halt.reply_of c) n
seen (Stopped e n) = Met e n
seen (Short n) = Cut n

abbrev pub gives : v.Value Ref MadeSymbol → Reply Ref MadeSymbol
gives v = reply.Value v

-- WORKED EXAMPLES

abbrev pub own : ℕ → v.Value Ref MadeSymbol
own i = value.Ref ((naming_of 1).own i)

abbrev foreign : ℕ → v.Value Ref MadeSymbol
foreign i = value.Ref ((naming_of 2).own i)

abbrev pub int : ℕ → v.Value Ref MadeSymbol
int n = value.Int (pos n)

-- the party that has answered serves another ask
abbrev serves_next : ℕ → Request Ref MadeSymbol → Stop Ref MadeSymbol → Stop Ref MadeSymbol
serves_next n x (Gave c p steps) = runs n steps (serves (naming_of 1) shared surroundings p x)
serves_next n x stop = stop

-- what the module's last call of `console.log` was given, where the first replies are those of `console`
abbrev log_replies : List (Reply Ref MadeSymbol)
log_replies = gives (value.Ref (host_ref 1)) ∷ gives value.Undefined ∷ []

abbrev logs : v.Value Ref MadeSymbol → ℕ → Seen
logs x n = Asked (Asks (host_ref 1) (ask.Call (value.Ref (host_ref 0)) (x ∷ []))) n

-- an empty module takes two steps: its Seq, and the Get of `exports`
pub empty_module : (n : ℕ) → seen (begins_with n []) ≡ Answered (gives (own 1)) 2
empty_module n = simp computing
