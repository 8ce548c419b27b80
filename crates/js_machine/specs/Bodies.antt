-- The open bodies of a machine, which keeps the scope where the newest one stands apart.
use Rattle.std.specs.Prelude.{ℕ, Bool, nat_eq, List, [], ◌∷◌, Option, Some, None}
use Rattle.lava_base.specs.declared.ids.MadeSymbol.{MadeSymbol}
use Rattle.lava_base.specs.declared.ids.Ref.{Ref}
use Rattle.js_operation.specs.js_run.Parties as parties
use Rattle.js_operation.specs.js_run.Parties.{first_body, no_body, replaces_body}
use Rattle.js_machine.specs.declared.body.Body.{Body}

abbrev pub OpenBodies : Type 0
OpenBodies = List (parties.Body Ref MadeSymbol)

-- the bodies, the newest of which stands in a scope
abbrev pub bodies_of : ℕ → List Body → OpenBodies
bodies_of s [] = []
bodies_of s (b ∷ bs) = record { kind = b.kind; scope = s; this = b.this; new_target = b.new_target; function = b.function; home = b.home } ∷ bodies_of b.back bs

-- below the oldest body is the outermost scope
abbrev pub is_grounded : ℕ → List Body → Bool
is_grounded s [] = nat_eq s 0
is_grounded s (b ∷ bs) = is_grounded b.back bs

-- the scope where the body that runs stands
abbrev pub scope_of : OpenBodies → ℕ
scope_of bs = (first_body bs).scope

-- the body that runs stands in another scope
abbrev pub stood_in : ℕ → OpenBodies → OpenBodies
stood_in s bs = replaces_body (record (first_body bs) { scope = s }) bs

-- the body that runs, where it stands in a scope
abbrev pub running_of : ℕ → Option Body → parties.Body Ref MadeSymbol
running_of s None = no_body
running_of s (Some b) = record { kind = b.kind; scope = s; this = b.this; new_target = b.new_target; function = b.function; home = b.home }
