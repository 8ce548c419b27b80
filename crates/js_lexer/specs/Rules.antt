-- The notation in which ECMA-262 writes its lexical
-- grammar: productions over characters, with lookahead.
use Rattle.std.specs.Prelude.{◌≡◌, ℕ, Bool, true, false, List, [], ◌∷◌, ◌++◌, ◌⊎◌}

-- the right side of a production
-- ECMA-262 Grammar Notation
pub data Rule : Type 0 where
  -- no alternative
  Never : Rule
  -- [empty]
  Nothing : Rule
  -- a character of a class
  One : (ℕ → Bool) → Rule
  -- [lookahead ∉ the class]: the text ends here, or goes on with a character of no such class
  NotBefore : (ℕ → Bool) → Rule
  -- one after the other
  Then : Rule → Rule → Rule
  -- either of two
  Or : Rule → Rule → Rule
  -- any number, one after the other
  Many : Rule → Rule
  -- but only if what it takes passes
  OnlyIf : Rule → (List ℕ → Bool) → Rule

-- a text begins with a character of the class
abbrev pub begins_with : (ℕ → Bool) → List ℕ → Bool
begins_with p [] = false
begins_with p (c ∷ cs) = p c

-- any number of steps, one after the other
pub data Steps (P : List ℕ → List ℕ → Type 0) : List ℕ → List ℕ → Type 0 where
  stay : (xs : List ℕ) → Steps P xs xs
  step : (xs ms ys : List ℕ) → P xs ms → Steps P ms ys → Steps P xs ys

-- a text, from its start, is by the rule until only this rest of it is left
-- ECMA-262 Grammar Notation
abbrev pub Leads : Rule → List ℕ → List ℕ → Type 0
Leads Never xs ys = ⊥
Leads Nothing xs ys = xs ≡ ys
Leads (One p) [] ys = ⊥
Leads (One p) (x ∷ xs) ys = (p x ≡ true) × (xs ≡ ys)
Leads (NotBefore p) xs ys = (xs ≡ ys) × (begins_with p xs ≡ false)
Leads (Then a b) xs ys = (ms : List ℕ) × Leads a xs ms × Leads b ms ys
Leads (Or a b) xs ys = Leads a xs ys ⊎ Leads b xs ys
Leads (Many a) xs ys = Steps (Leads a) xs ys
Leads (OnlyIf a test) xs ys = (w : List ℕ) × (xs ≡ w ++ ys) × (test w ≡ true) × Leads a xs ys
