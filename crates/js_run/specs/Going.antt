-- How what waits goes on, and what is charged for.
use Rattle.std.specs.Prelude.{if◌then◌else◌}
use Rattle.js_text.specs.Naming.{Naming}
use Rattle.js_text.specs.declared.value.Value.TheVariants as value
use Rattle.js_run.specs.Acts.{Act, Closes, Decides_on, Evaluate, Inherits, Native_decides, Next, Proxy_decides, Tested, Then, Turned, Updated, after_turn, give, inherits_from, on_prototype, on_value}
use Rattle.js_run.specs.Completions.{Completion, reply_of}
use Rattle.js_run.specs.Decisions.{goes_on}
use Rattle.js_run.specs.NativeTurns.{native_goes_on}
use Rattle.js_run.specs.Parties.{Party, Shared, shallower}
use Rattle.js_run.specs.Proxies.{proxy_goes_on}
use Rattle.js_run.specs.Truth.{to_boolean}

module _ {R S : Type 0} (names : Naming R S) (shared : Shared) where
  -- what follows a completion
  abbrev pub go_on : Next R S → Completion R S → Party R S → Act R S
  go_on (Then f) c p = f c p
  go_on (Tested l) c p = on_value c p (λ v q. if to_boolean v then Evaluate l.body q (Turned l) else give value.Undefined q)
  go_on (Turned l) c p = after_turn l c p
  go_on (Updated l) c p = on_value c p (λ v q. Evaluate l.test q (Tested l))
  go_on (Inherits sought) c p = on_prototype c p (λ o q. inherits_from names sought o q)
  go_on (Decides_on me n) c p = goes_on names shared me n (reply_of c) p
  go_on (Proxy_decides n) c p = proxy_goes_on names shared n (reply_of c) p
  go_on (Native_decides which n) c p = native_goes_on names shared which n (reply_of c) p
  go_on (Closes k) c p = go_on k c (shallower p)
