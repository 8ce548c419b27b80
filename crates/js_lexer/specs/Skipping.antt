-- What is left behind the characters of a class.
use Rattle.std.specs.Prelude.{ℕ, Bool, List, [], ◌∷◌, if◌then◌else◌}

-- a text without the characters of a class at its start
abbrev pub skip : (ℕ → Bool) → List ℕ → List ℕ
skip p [] = []
skip p (c ∷ cs) = if p c then skip p cs else c ∷ cs

-- the characters of a class at the start of a text
abbrev pub keep : (ℕ → Bool) → List ℕ → List ℕ
keep p [] = []
keep p (c ∷ cs) = if p c then c ∷ keep p cs else []
