-- Semicolons that are inserted, exactly where a rule stands at an offending lexeme.
use Rattle.std.specs.Prelude.{◌≡◌, Bool, true, false, cond, List, [], ◌∷◌, ◌++◌, Option, Some, None}
use Rattle.js_grammar.specs.declared.lexeme.Lexeme.{Lexeme}
use Rattle.js_grammar.specs.declared.symbols.Nonterminal.{Nonterminal}
use Rattle.js_grammar.specs.Grammar.{Tree, Grammar, IsSpelled, HasPartial, after}
use Rattle.js_grammar.specs.Machine.{State, Table, feed}

-- what is inserted before a lexeme: nothing, a semicolon, or one that only a do-while takes
pub data Insertion : Type 0 where
  Nothing : Insertion
  Ending : Insertion
  DoEnding : Insertion

abbrev pub Choice : Type 0
Choice = Insertion × Lexeme

abbrev pub plain : List Choice → List Lexeme
plain [] = []
plain ((m, t) ∷ xs) = t ∷ plain xs

module _ (g : Grammar) (root : Nonterminal) (semi : Lexeme) (do_semi : Lexeme) (rule_stands : Lexeme → Bool) where
  abbrev pub marked : List Choice → List Lexeme
  marked [] = []
  marked ((Nothing, t) ∷ xs) = t ∷ marked xs
  marked ((Ending, t) ∷ xs) = semi ∷ t ∷ marked xs
  marked ((DoEnding, t) ∷ xs) = do_semi ∷ t ∷ marked xs

  -- the tokens up to and with this one have no partial tree
  abbrev pub IsOffending : List Lexeme → Lexeme → Type 0
  IsOffending before t = HasPartial g root (before ++ t ∷ []) → ⊥

  -- each semicolon is inserted before an offending lexeme at which a rule stands; where no other does, one that ends a do-while
  -- ECMA-262 Rules of Automatic Semicolon Insertion
  abbrev pub Rightly : List Lexeme → List Choice → Type 0
  Rightly before [] = Unit {0}
  Rightly before ((Nothing, t) ∷ xs) = Rightly (before ++ t ∷ []) xs
  Rightly before ((Ending, t) ∷ xs) = IsOffending before t × (rule_stands t ≡ true) × Rightly (before ++ semi ∷ t ∷ []) xs
  Rightly before ((DoEnding, t) ∷ xs) = IsOffending before t × (rule_stands t ≡ false) × Rightly (before ++ do_semi ∷ t ∷ []) xs

  -- the relations of the definition, with semicolons inserted
  abbrev pub HasTree : List Lexeme → Tree → Type 0
  HasTree ts x = (xs : List Choice) × (plain xs ≡ ts) × Rightly [] xs × IsSpelled g root (marked xs) x

  abbrev pub IsBegun : List Lexeme → Type 0
  IsBegun ts = (xs : List Choice) × (plain xs ≡ ts) × Rightly [] xs × HasPartial g root (marked xs)

module _ (T : Table) (semi : Lexeme) (do_semi : Lexeme) (rule_stands : Lexeme → Bool) where
  abbrev pub pair : Lexeme → State → Lexeme → Option State
  pair m s t = after (feed T s m) (λ q. feed T q t)

  abbrev pub or_else : Option State → Option State → Option State
  or_else (Some q) x = Some q
  or_else None x = x

  -- one lexeme, with a semicolon before it where one is wanted
  abbrev pub step : State → Lexeme → Option State
  step s t = or_else (feed T s t) (cond (rule_stands t) (pair semi s t) (pair do_semi s t))

  abbrev pub steps : State → List Lexeme → Option State
  steps s [] = Some s
  steps s (t ∷ ts) = after (step s t) (λ q. steps q ts)
