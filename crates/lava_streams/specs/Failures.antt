-- The calls of a memory form that are to fail.
use Rattle.std.specs.Prelude.{ℕ, ◌+◌, ◌-◌, ◌^◌, ◌==◌, min, Bool, List, [], ◌∷◌, ◌++◌, map, filter, nat_lt, if◌then◌else◌}
use Rattle.std.specs.List.{list_any}

-- How far off the calls are that are to fail, 1 being the next one, and the faults so far.
pub record Failures : Type 0 where
  pub due : List ℕ
  pub faults : ℕ

-- No call is to fail, and there was no fault.
abbrev pub no_failures : Failures
no_failures = record { due = []; faults = 0 }

-- The `n`-th call from now is to fail too.
abbrev pub failing_at : Failures → ℕ → Failures
failing_at f n = record f { due = f.due ++ n ∷ [] }

-- Whether the next call is to fail.
abbrev pub fails_next : Failures → Bool
fails_next f = list_any (λ n. n == 1) f.due

-- The distances after one call: each is one less, and a call that came is no longer due.
abbrev pub due_after_call : List ℕ → List ℕ
due_after_call due = map (λ n. n - 1) (filter (λ n. nat_lt 1 n) due)

-- A count of faults after one more, which stays at 2^64 - 1.
abbrev pub one_more : ℕ → ℕ
one_more faults = min (faults + 1) (2 ^ 64 - 1)

-- After one call: the distances are counted down, and the count rises exactly where the call was to fail.
abbrev pub after_call : Failures → Failures
after_call f = record { due = due_after_call f.due; faults = if fails_next f then one_more f.faults else f.faults }

-- After a fault that was not due.
abbrev pub after_fault : Failures → Failures
after_fault f = record f { faults = one_more f.faults }
