-- What a call does to a count of faults, and what holds where content is told.
use Rattle.std.specs.Prelude.{◌≡◌, ℕ, ◌-◌, ◌^◌, ◌<◌, ◌≤◌, ◌⊎◌, Option, Result, Ok, Err, IfSome}
use Rattle.lava_streams.specs.declared.fault.ReadFault.{ReadFault}
use Rattle.lava_streams.specs.declared.fault.ReadFault.TheVariants.{Failed, OutOfMemory}

-- The count has risen. One that stands at 2^64 - 1 counts as risen.
abbrev pub HasRisen : ℕ → ℕ → Type 0
HasRisen old new = (old < new) ⊎ (new ≡ 2 ^ 64 - 1)

-- The count has risen, and it has not fallen.
abbrev pub Rises : ℕ → ℕ → Type 0
Rises old new = (old ≤ new) × HasRisen old new

-- What a call that reads does to the count: it rises where the call answers Failed, and stays at every other answer.
abbrev pub Counts : {T : Type 0} → ℕ → ℕ → Result T ReadFault → Type 0
Counts old new (Ok x) = new ≡ old
Counts old new (Err Failed) = Rises old new
Counts old new (Err OutOfMemory) = new ≡ old

-- The same of a call whose one fault is that it failed.
abbrev pub CountsFailed : {T E : Type 0} → ℕ → ℕ → Result T E → Type 0
CountsFailed old new (Ok x) = new ≡ old
CountsFailed old new (Err e) = Rises old new

-- P of the content, where it is told.
abbrev pub ForTold : {X : Type 0} → Option X → (X → Type 0) → Type 0
ForTold told P = IfSome told P
