-- Trees, what tokens they spell, and which of them are in a grammar that is given as a table.
use Rattle.std.specs.Prelude.{◌≡◌, Bool, true, false, ◌&&◌, cond, List, [], ◌∷◌, ◌++◌, Option, Some, None}
use Rattle.js_grammar.specs.declared.lexeme.Lexeme.{Lexeme}
use Rattle.js_grammar.specs.declared.constituents.Terminals.{Terminals}
use Rattle.js_grammar.specs.declared.symbols.Nonterminal.{Nonterminal}
use Rattle.js_grammar.specs.declared.constituents.Repetition.{Repetition}
use Rattle.js_grammar.specs.declared.constituents.Repetition.TheVariants.{Once, Many, Listed}
use Rattle.js_grammar.specs.declared.constituents.Constituent.{Constituent}
use Rattle.js_grammar.specs.declared.constituents.Constituent.TheVariants.{Token, Part, Optional, Further}
use Rattle.js_grammar.specs.declared.symbols.Production.{Production}

-- a tree: a lexeme, a production with its parts (the last one first), or the end of a part that may be left out
mutual
  pub data Tree : Type 0 where
    Leaf : Lexeme → Tree
    Node : Production → Row → Tree
    Absent : Tree

  pub data Row : Type 0 where
    Nil : Row
    Then : Row → Tree → Row

-- the tokens of a tree, from left to right
abbrev mutual
  pub spell : Tree → List Lexeme
  spell (Leaf t) = t ∷ []
  spell (Node f r) = spells r
  spell Absent = []

  pub spells : Row → List Lexeme
  spells Nil = []
  spells (Then r x) = spells r ++ spell x

-- a grammar: the parts of each production, which productions a nonterminal has, a refinement of whole trees, what a set stands for,
-- which tokens a nonterminal may begin with, and after which productions a list is over
pub record Grammar : Type 0 where
  pub rule : Production → List Constituent
  pub may : Nonterminal → Production → Bool
  pub fits : Nonterminal → Production → Row → Bool
  pub stands : Terminals → Lexeme → Bool
  pub guard : Nonterminal → Lexeme → Bool
  pub ends : Production → Bool

abbrev pub after : {A : Type 0} → Option A → (A → Option A) → Option A
after None go = None
after (Some x) go = go x

abbrev pub only_if : {A : Type 0} → Bool → Option A → Option A
only_if true x = x
only_if false x = None

abbrev pub behind : List Constituent → List Constituent
behind [] = []
behind (p ∷ ps) = ps

-- the parts that are to come after an optional part that stands
abbrev pub follow : Bool → Nonterminal → Repetition → List Constituent → List Constituent
follow over c Once ps = cond over (behind ps) ps
follow over c Many ps = cond over ps (Optional c Many ∷ ps)
follow over c (Listed w) ps = cond over ps (Further c w ∷ ps)

module _ (g : Grammar) where
  -- the part at the front takes the tree; the flag says whether the tree is in the nonterminal
  abbrev pub takes : (Nonterminal → Bool) → List Constituent → Tree → Option (List Constituent)
  takes is [] x = None
  takes is (Token s ∷ ps) (Leaf t) = only_if (g.stands s t) (Some ps)
  takes is (Token s ∷ ps) (Node f r) = None
  takes is (Token s ∷ ps) Absent = None
  takes is (Part c ∷ ps) (Leaf t) = None
  takes is (Part c ∷ ps) (Node f r) = only_if (is c) (Some ps)
  takes is (Part c ∷ ps) Absent = None
  takes is (Optional c k ∷ ps) (Leaf t) = None
  takes is (Optional c k ∷ ps) (Node f r) = only_if (is c) (Some (follow (g.ends f) c k ps))
  takes is (Optional c k ∷ ps) Absent = Some ps
  takes is (Further c s ∷ ps) (Leaf t) = only_if (g.stands s t) (Some (Optional c (Listed s) ∷ ps))
  takes is (Further c s ∷ ps) (Node f r) = None
  takes is (Further c s ∷ ps) Absent = Some ps

  abbrev pub over : Option (List Constituent) → Bool
  over None = false
  over (Some []) = true
  over (Some (p ∷ ps)) = false

  -- the tokens begin as the nonterminal may
  abbrev pub led : Nonterminal → List Lexeme → Bool
  led c [] = true
  led c (t ∷ ts) = g.guard c t

  -- a tree is in a nonterminal: by its production, and all its parts stand
  abbrev mutual
    pub is : Tree → Nonterminal → Bool
    is (Leaf t) c = false
    is (Node f r) c = (g.fits c f r && led c (spells r)) && over (left f r)
    is Absent c = false

    -- what is left of a production's rule once these parts stand
    pub left : Production → Row → Option (List Constituent)
    left f Nil = Some (g.rule f)
    left f (Then r x) = after (left f r) (λ ps. takes (is x) ps x)

  abbrev pub fit : Nonterminal → Tree → Bool
  fit c (Leaf t) = false
  fit c (Node f r) = g.fits c f r && led c (spells r)
  fit c Absent = false

-- a partial tree: some first parts of a production stand whole; the next is partial or absent
pub data Partial : Type 0 where
  Open : Production → Row → Partial
  Within : Production → Row → Partial → Partial

abbrev pub begins : Partial → List Lexeme
begins (Open f r) = spells r
begins (Within f r p) = spells r ++ begins p

module _ (g : Grammar) where
  abbrev pub IsPart : (Nonterminal → Type 0) → Option (List Constituent) → Type 0
  IsPart P None = ⊥
  IsPart P (Some []) = ⊥
  IsPart P (Some (Token s ∷ ps)) = ⊥
  IsPart P (Some (Part c ∷ ps)) = P c
  IsPart P (Some (Optional c k ∷ ps)) = P c
  IsPart P (Some (Further c s ∷ ps)) = ⊥

  abbrev pub Stands : Option (List Constituent) → Type 0
  Stands None = ⊥
  Stands (Some ps) = Unit {0}

  abbrev pub IsPartial : Partial → Nonterminal → Type 0
  IsPartial (Open f r) c = (g.may c f ≡ true) × (led g c (spells r) ≡ true) × Stands (left g f r)
  IsPartial (Within f r p) c = (g.may c f ≡ true) × (led g c (spells r ++ begins p) ≡ true) × IsPart (IsPartial p) (left g f r)

  -- the two relations of the definition
  abbrev pub IsSpelled : Nonterminal → List Lexeme → Tree → Type 0
  IsSpelled c ts x = (is g x c ≡ true) × (spell x ≡ ts)

  abbrev pub HasPartial : Nonterminal → List Lexeme → Type 0
  HasPartial c ts = (p : Partial) × IsPartial p c × (begins p ≡ ts)
