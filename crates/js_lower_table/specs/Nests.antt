-- A function value that lowers trees to a depth.
use Rattle.std.specs.Prelude.{◌≡◌, ℕ, Result, OnOk}
use denote.Ref.{MutBor}
use Rattle.lava_base.specs.declared.memory.OutOfMemory.{OutOfMemory}
use Rattle.js_frames.specs.Frames.{Env}
use Rattle.js_term_stack.specs.Stacks.{Stack}
use Rattle.js_lower_table.specs.declared.task.Task.{Task}
use Rattle.js_lower_table.specs.Table.{low, put_on}

-- it may be called, puts on the stack what the table says, and leaves the scopes as they were
pub record Nests (depth : ℕ) (pre : ℕ → MutBor Env → MutBor Stack → Task → Type 0)
    (post : ℕ → MutBor Env → MutBor Stack → Task → Result (Unit {0}) OutOfMemory → MutBor Env → MutBor Stack → Type 0) : Type 0 where
  pub callable : (scopes : MutBor Env) (terms : MutBor Stack) (t : Task) → pre depth scopes terms t
  pub lowers : (scopes scopes' : MutBor Env) (terms terms' : MutBor Stack) (t : Task) (r : Result (Unit {0}) OutOfMemory)
      → post depth scopes terms t r scopes' terms'
      → (OnOk r (terms'.now ≡ put_on (low depth) scopes.now t terms.now)) × (OnOk r (scopes'.now ≡ scopes.now))
