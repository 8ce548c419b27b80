-- Forms that are done at once: they give a value, and write a slot or a property.
use Rattle.std.specs.Prelude.{◌≡◌, ℕ, ◌+◌, ◌<◌, List}
use Rattle.lava_base.specs.declared.ids.MadeSymbol.{MadeSymbol}
use Rattle.lava_base.specs.declared.ids.Ref.{Ref}
use Rattle.js_text.specs.Naming.{naming_of}
use Rattle.js_term.specs.declared.term.Term.{out-Term}
use Rattle.js_code.specs.Decoded.{layer_of, term_at}
use Rattle.js_code.specs.declared.node.Node.{Node}
use Rattle.js_desc.specs.declared.reply.Reply.TheVariants as reply
use Rattle.js_store.specs.Frozen.{CommonObject}
use Rattle.js_store.specs.Objects.{Object}
use Rattle.js_state.specs.Scopes.{Scope}
use Rattle.js_operation.specs.Deeds.{MachineParty}
use Rattle.js_operation.specs.Operating.{MachineValue}
use Rattle.js_operation.specs.js_run.Acts.{Next}
use Rattle.js_operation.specs.js_run.Completions.{Replied}
use Rattle.js_operation.specs.js_run.Parties.{Shared, running}
use Rattle.js_operation.specs.js_run.Runs.{Begins, Charged, Due, Env, Gives, charge, run_for, settle}
use Rattle.js_operation.specs.js_run.declared.TheConstants.{MAX_DEPTH}
use Rattle.js_direct.specs.Direct.{Sight}

-- the form at a place gives a value after so many steps, where these can be paid together, and then there are these objects and scopes: of each party that has those of the sight, stands in its scope and may be two deeper (an object that waits for an answer is open meanwhile), beside these objects of the common part, whatever waits
pub record DoesAtOnce (s : Sight) (common : List CommonObject) (at : ℕ) (v : MachineValue) (objects : List (Object Ref MadeSymbol)) (scopes : List (Scope Ref MadeSymbol)) (k : ℕ) : Type 0 where
  pub does : (shared : Shared) (env : Env Ref) (p : MachineParty) (ks : List (Next Ref MadeSymbol)) (charges limit steps : ℕ)
      → shared.objects ≡ common → p.objects ≡ s.objects → p.scopes ≡ s.scopes → (running p).scope ≡ s.scope → p.depth + 2 < MAX_DEPTH → charge p.meter steps limit k ≡ Charged
      → run_for (naming_of s.me) shared env (k + charges) limit steps (Due 0 (Begins (term_at s.code at)) p ks)
      ≡ run_for (naming_of s.me) shared env charges limit (steps + k) (settle (naming_of s.me) shared env ks (Gives (Replied (reply.Value v)) (record p { objects = objects; scopes = scopes })))

-- the form at each place with this row does that
abbrev pub IsDoneRow : Sight → List CommonObject → Node → MachineValue → List (Object Ref MadeSymbol) → List (Scope Ref MadeSymbol) → ℕ → Type 0
IsDoneRow s common n v objects scopes k = (at : ℕ) → out-Term (term_at s.code at) ≡ layer_of s.code (term_at s.code) n → DoesAtOnce s common at v objects scopes k
