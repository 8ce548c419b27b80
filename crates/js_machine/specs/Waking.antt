-- How what waits is woken.
use Rattle.std.specs.Prelude.{Bool, true, false}
use Rattle.js_text.specs.Naming.{naming_of}
use Rattle.js_operation.specs.js_run.Going.{go_on}
use Rattle.js_machine.specs.Steps.{Follows}
use Rattle.js_machine.specs.Views.{View, next_of_wait}
use Rattle.js_machine.specs.declared.asked.Wait.{Wait}
use Rattle.js_machine.specs.declared.asked.Wait.TheVariants as wait
use Rattle.js_machine.specs.declared.frame.Mode.{Mode}
use Rattle.js_machine.specs.declared.frame.Mode.TheVariants as mode

-- a completion that is neither a value nor a throw
abbrev pub is_jump : Mode → Bool
is_jump mode.Return = true
is_jump (mode.Break l) = true
is_jump (mode.Continue l) = true
is_jump _ = false

-- what waits goes on with values alone, and a jump passes it; a decision takes a jump as a throw
abbrev pub passes_jumps : Wait → Bool
passes_jumps (wait.MethodGot o last k) = true
passes_jumps (wait.MethodCalled o last k) = true
passes_jumps (wait.Construct k args) = true
passes_jumps wait.Exports = true
passes_jumps _ = false

-- what waits goes on with a completion
abbrev pub WakesBy : Wait → Mode → (old new : View) → Mode → Type 0
WakesBy w m old new after = Follows (λ a d p. go_on (naming_of old.me) a.shared (next_of_wait (naming_of old.me) a.shared old.code w) d p) m old new after
