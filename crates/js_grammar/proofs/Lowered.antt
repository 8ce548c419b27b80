-- What stands higher is no deeper.
use Rattle.std.proofs.Common.{ℕ, ◌+◌, ◌≤◌, arith}
use Rattle.js_grammar.specs.declared.symbols.Production.{Production}
use Rattle.js_grammar.specs.Grammar.{Tree, Leaf, Node, Absent, Row, Nil, Then, Partial, Open, Within}
use Rattle.js_grammar.specs.Levels.{Low, Lows, LowPartial}

below : (a b c n : ℕ) → b ≤ a → a + c ≤ n → b + c ≤ n
below a b c n h k = omega arith

pub less : (a b c n : ℕ) → b ≤ c → a + c ≤ n → a + b ≤ n
less a b c n h k = omega arith

more : (a b c : ℕ) → b ≤ a → b + c ≤ a + c
more a b c h = omega arith

pub no_less : (a c : ℕ) → a ≤ a + c
no_less a c = omega arith

module _ (cost step : Production → Row → ℕ) where
  -- what stands higher is no deeper
  mutual
    pub lower : (x : Tree) (a b n : ℕ) → b ≤ a → Low cost step a n x → Low cost step b n x
    lower (Leaf t) a b n h k = tt
    lower Absent a b n h k = tt
    lower (Node f r) a b n h k = (below a b (cost f r) n h k.0, lowers r f a b n h k.1)

    pub lowers : (r : Row) (f : Production) (a b n : ℕ) → b ≤ a → Lows cost step f a n r → Lows cost step f b n r
    lowers Nil f a b n h k = tt
    lowers (Then r x) f a b n h k = (lowers r f a b n h k.0, lower x (a + step f r) (b + step f r) n (more a b (step f r) h) k.1)

  pub lower_partial : (p : Partial) (a b n : ℕ) → b ≤ a → LowPartial cost step a n p → LowPartial cost step b n p
  lower_partial (Open f r) a b n h k = (below a b (cost f r) n h k.0, lowers r f a b n h k.1)
  lower_partial (Within f r p) a b n h k = (below a b (cost f r) n h k.0, lowers r f a b n h k.1, lower_partial p (a + step f r) (b + step f r) n (more a b (step f r) h) k.2)
