-- The reader: open productions, and the tree that stands to their right.
use Rattle.std.specs.Prelude.{Bool, true, false, List, [], ◌∷◌, Option, Some, None}
use Rattle.js_grammar.specs.declared.lexeme.Lexeme.{Lexeme}
use Rattle.js_grammar.specs.declared.symbols.Nonterminal.{Nonterminal}
use Rattle.js_grammar.specs.declared.constituents.Repetition.TheVariants.{Listed}
use Rattle.js_grammar.specs.declared.constituents.Constituent.{Constituent}
use Rattle.js_grammar.specs.declared.constituents.Constituent.TheVariants.{Token, Part, Optional, Further}
use Rattle.js_grammar.specs.declared.symbols.Production.{Production}
use Rattle.js_grammar.specs.Grammar.{Tree, Leaf, Node, Absent, Row, Nil, Then, Grammar, fit, after, only_if, follow}

-- an open production: its parts that stand, and those to come
pub record Item : Type 0 where
  pub production : Production
  pub done : Row
  pub rest : List Constituent

-- what the reader has: the open productions, the innermost first
abbrev pub State : Type 0
State = List Item

-- the choices: which productions a nonterminal opens at a lexeme (outermost first; none: no tree begins so), and which production a tree goes on as
pub record Table : Type 0 where
  pub grammar : Grammar
  pub start : Nonterminal → Lexeme → List Production
  pub wrap : Nonterminal → Production → Lexeme → Option Production

abbrev pub item : Production → Row → List Constituent → Item
item f r ps = record { production = f; done = r; rest = ps }

abbrev pub or_else : List Production → Option State → Option State → Option State
or_else [] a b = a
or_else (f ∷ fs) a b = b

abbrev pub choose : Bool → Option State → Option State → Option State
choose true a b = a
choose false a b = b

abbrev pub joined : Option Production → Option State → (Production → Option State) → Option State
joined None a w = a
joined (Some f) a w = w f

module _ (T : Table) where
  -- the last production takes the lexeme as its first part
  abbrev pub begun : Production → List Constituent → State → Lexeme → Option State
  begun f [] s t = None
  begun f (Part c ∷ ps) s t = None
  begun f (Optional c k ∷ ps) s t = None
  begun f (Further c w ∷ ps) s t = None
  begun f (Token w ∷ ps) s t = only_if (T.grammar.stands w t) (Some (item f (Then Nil (Leaf t)) ps ∷ s))

  abbrev pub opened : List Production → State → Lexeme → Option State
  opened [] s t = None
  opened (f ∷ []) s t = begun f (T.grammar.rule f) s t
  opened (f ∷ h ∷ fs) s t = opened (h ∷ fs) (item f Nil (T.grammar.rule f) ∷ s) t

  -- a production with its parts so far, before a lexeme
  abbrev pub onward : (Tree → Option State) → State → Production → Row → List Constituent → Lexeme → Option State
  onward ended s f r [] t = ended (Node f r)
  onward ended s f r (Token w ∷ ps) t = only_if (T.grammar.stands w t) (Some (item f (Then r (Leaf t)) ps ∷ s))
  onward ended s f r (Part c ∷ ps) t = opened (T.start c t) (item f r (Part c ∷ ps) ∷ s) t
  onward ended s f r (Optional c k ∷ ps) t = or_else (T.start c t) (onward ended s f (Then r Absent) ps t) (opened (T.start c t) (item f r (Optional c k ∷ ps) ∷ s) t)
  onward ended s f r (Further c w ∷ ps) t = choose (T.grammar.stands w t) (Some (item f (Then r (Leaf t)) (Optional c (Listed w) ∷ ps) ∷ s)) (onward ended s f (Then r Absent) ps t)

  -- a tree is the first part of a production, whose second part is the lexeme
  abbrev pub wrapped : Production → List Constituent → State → Tree → Lexeme → Option State
  wrapped f (Part c ∷ Token w ∷ ps) s x t = only_if (fit T.grammar c x) (only_if (T.grammar.stands w t) (Some (item f (Then (Then Nil x) (Leaf t)) ps ∷ s)))
  wrapped f _ s x t = None

  -- a tree stands where a part of this nonterminal is wanted
  abbrev pub placed : (Tree → Option State) → State → Production → Row → Nonterminal → List Constituent → List Constituent → Tree → Lexeme → Option State
  placed ended s f r c all ps x t = only_if (fit T.grammar c x) (onward ended s f (Then r x) ps t)

  abbrev pub turned : State → Production → Row → List Constituent → Tree → Lexeme → Production → Option State
  turned s f r all x t h = wrapped h (T.grammar.rule h) (item f r all ∷ s) x t

  abbrev pub put : (Tree → Option State) → State → Production → Row → List Constituent → Tree → Lexeme → Option State
  put ended s f r (Part c ∷ ps) (Node h q) t = joined (T.wrap c h t) (placed ended s f r c (Part c ∷ ps) ps (Node h q) t) (turned s f r (Part c ∷ ps) (Node h q) t)
  put ended s f r (Optional c k ∷ ps) (Node h q) t = joined (T.wrap c h t) (placed ended s f r c (Optional c k ∷ ps) (follow (T.grammar.ends h) c k ps) (Node h q) t) (turned s f r (Optional c k ∷ ps) (Node h q) t)
  put ended s f r _ _ t = None

  -- a whole tree stands to the right of the open productions, before a lexeme
  abbrev pub complete : State → Tree → Lexeme → Option State
  complete [] x t = None
  complete (i ∷ s) x t = put (λ y. complete s y t) s i.production i.done i.rest x t

  abbrev pub feed : State → Lexeme → Option State
  feed [] t = None
  feed (i ∷ s) t = onward (λ y. complete s y t) s i.production i.done i.rest t

  abbrev pub feeds : State → List Lexeme → Option State
  feeds s [] = Some s
  feeds s (t ∷ ts) = after (feed s t) (λ q. feeds q ts)
