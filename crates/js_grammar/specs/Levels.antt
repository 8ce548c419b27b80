-- How deep trees, partial trees and what is open stand: within n levels, the first of them at a given level.
use Rattle.std.specs.Prelude.{ℕ, ◌+◌, ◌≤◌, [], ◌∷◌}
use Rattle.js_grammar.specs.declared.symbols.Production.{Production}
use Rattle.js_grammar.specs.Grammar.{Tree, Leaf, Node, Absent, Row, Nil, Then, Partial, Open, Within}
use Rattle.js_grammar.specs.Machine.{State}
use Rattle.js_grammar.specs.Table.{levels_of, lead_levels_of}

-- a production with these parts counts so many levels, and its next part stands so many levels below what the production stands in
module _ (cost step : Production → Row → ℕ) where
  abbrev mutual
    pub Low : ℕ → ℕ → Tree → Type 0
    Low a n (Leaf t) = Unit {0}
    Low a n (Node f r) = (a + cost f r ≤ n) × Lows f a n r
    Low a n Absent = Unit {0}

    pub Lows : Production → ℕ → ℕ → Row → Type 0
    Lows f a n Nil = Unit {0}
    Lows f a n (Then r x) = Lows f a n r × Low (a + step f r) n x

  abbrev pub LowPartial : ℕ → ℕ → Partial → Type 0
  LowPartial a n (Open f r) = (a + cost f r ≤ n) × Lows f a n r
  LowPartial a n (Within f r p) = (a + cost f r ≤ n) × Lows f a n r × LowPartial (a + step f r) n p

  -- the level below which the next part of the innermost open production stands
  abbrev pub level : State → ℕ
  level [] = 0
  level (i ∷ s) = level s + step i.production i.done

  abbrev pub Shallow : ℕ → State → Type 0
  Shallow n [] = Unit {0}
  Shallow n (i ∷ s) = (level s + cost i.production i.done ≤ n) × Lows i.production (level s) n i.done × Shallow n s

-- how many levels a production is
abbrev pub cost_of : Production → Row → ℕ
cost_of f r = levels_of f

-- how many levels its next part stands below what the production stands in: the first one may stand less deep
abbrev pub step_of : Production → Row → ℕ
step_of f Nil = lead_levels_of f
step_of f (Then r (Leaf t)) = step_of f r
step_of f (Then r (Node h q)) = levels_of f
step_of f (Then r Absent) = step_of f r
