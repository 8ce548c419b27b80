-- Reading a token a character at a time, by a machine that is given as two functions.
use Rattle.std.specs.Prelude.{◌≡◌, ℕ, List, [], ◌∷◌, MatchResult, Result, Ok, Err}
use Rattle.js_lexer.specs.declared.machine.Step.{Step}
use Rattle.js_lexer.specs.declared.machine.Step.TheVariants.{Go, With, Before, Bad}
use Rattle.js_lexer.specs.declared.machine.Stop.{Stop}
use Rattle.js_lexer.specs.declared.machine.Stop.TheVariants as stops

-- what a reading comes to: what was read and the rest of the text, or why nothing was
abbrev pub Reading : Type 0 → Type 0
Reading K = Result (K × List ℕ) Stop

abbrev pub ended : {K : Type 0} → List ℕ → Result K Stop → Reading K
ended xs (Ok k) = Ok (k, xs)
ended xs (Err stop) = Err stop

-- what the step at a character comes to, where `go` reads on
abbrev pub stepped : {S K : Type 0} → (S → Reading K) → ℕ → List ℕ → Step S K → Reading K
stepped go c cs (Go s) = go s
stepped go c cs (With k) = Ok (k, cs)
stepped go c cs (Before k) = Ok (k, c ∷ cs)
stepped go c cs Bad = Err stops.Bad

-- what a machine reads: `step` says what a character does in
-- a state, and `stop` what the end of the text does
abbrev pub run : {S K : Type 0} → (S → ℕ → Step S K) → (S → Result K Stop) → S → List ℕ → Reading K
run step stop s [] = ended [] (stop s)
run step stop s (c ∷ cs) = stepped (λ t. run step stop t cs) c cs (step s c)

-- a function's answer and what it leaves of the text are this reading
abbrev pub Gives : {K E : Type 0} → Result (K × List ℕ) E → Result K E → List ℕ → Type 0
Gives reading answer left =
    MatchResult answer (λ k. reading ≡ Ok (k, left)) (λ stop. reading ≡ Err stop)
