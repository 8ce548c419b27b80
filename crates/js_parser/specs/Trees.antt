-- What a tree of the grammar becomes, from the tokens of its source: of each production what its form makes of its parts.
use Rattle.std.specs.Prelude.{◌≡◌, ℕ, ◌<◌, List, [], ◌∷◌, get_or, take, drop, reverse}
use Rattle.js_fault.specs.declared.fault.SyntaxFault.{SyntaxFault}
use Rattle.js_grammar.specs.declared.event.Event.{Event}
use Rattle.js_grammar.specs.declared.event.Event.TheVariants as event
use Rattle.js_grammar.specs.declared.summary.TheConstants.{MAX_PARTS}
use Rattle.js_grammar.specs.declared.symbols.Production.TheVariants as production
use Rattle.js_grammar.specs.Grammar.{Tree, Leaf, Node, Absent, Row, Nil, Then}
use Rattle.js_lexer.specs.declared.token.Token.{Token}
use Rattle.js_lexer.specs.Sources.{IsTokens}
use Rattle.js_phrase.specs.declared.phrase.Phrase.{Phrase}
use Rattle.js_phrase.specs.declared.phrase.Phrase.TheVariants as phrase
use Rattle.js_phrase.specs.declared.places.TheConstants.{NO_TOKEN}
use Rattle.js_reader.specs.Reading.{IsTree, IsInLanguage}
use Rattle.js_parser.specs.Forms.{form}
use Rattle.js_parser.specs.Modules.{module_from}
use Rattle.js_phrase.specs.Phrases.{expression_of}
use Rattle.js_tree.specs.declared.tree.Expr.{Expr}
use Rattle.js_tree.specs.declared.tree.Module.{Module}
use Rattle.js_tree.specs.declared.tree.SourceKind.{SourceKind}

abbrev pub token_at : List Token → ℕ → Token
token_at tokens n = get_or tokens n NO_TOKEN

module _ (source : List ℕ) (tokens : List Token) where
  abbrev mutual
    pub phrase_of : Tree → Phrase
    phrase_of (Leaf t) = phrase.Token (token_at tokens t.at)
    phrase_of (Node f r) = form source f (phrases_of r [])
    phrase_of Absent = phrase.Absent

    -- the parts of a production, the first one first, before others
    pub phrases_of : Row → List Phrase → List Phrase
    phrases_of Nil later = later
    phrases_of (Then r x) later = phrases_of r (phrase_of x ∷ later)

  -- one event more
  abbrev pub made_on : Event → List Phrase → List Phrase
  made_on (event.Leaf t) l = phrase.Token (token_at tokens t.at) ∷ l
  made_on event.Absent l = phrase.Absent ∷ l
  made_on (event.Node f n) l = form source f (reverse (take n l)) ∷ drop n l

  -- the same from the events of a tree, the latest first
  abbrev pub made : List Event → List Phrase
  made [] = []
  made (e ∷ o) = made_on e (made o)

-- no production has too many parts to count them
abbrev pub IsCounted : Event → Type 0
IsCounted (event.Node f n) = n < MAX_PARTS
IsCounted _ = Unit {0}

abbrev pub AllCounted : List Event → Type 0
AllCounted [] = Unit {0}
AllCounted (e ∷ o) = IsCounted e × AllCounted o

-- the module of a tree with these parts
abbrev pub module_of : SourceKind → List ℕ → List Token → Row → Module
module_of kind source tokens parts = module_from kind (phrase_of source tokens (Node production.Module parts))

-- a module is that of the source's tree
-- ECMA-262 ParseText, with Module as the goal
abbrev pub IsModuleOf : SourceKind → List ℕ → Module → Type 0
IsModuleOf kind source m = (ts : List Token) × (parts : Row) × IsTokens source ts × IsTree source ts parts × IsInLanguage source ts × (m ≡ module_of kind source ts parts)

-- the expression that a tree of one becomes
-- ECMA-262 Expression
abbrev pub expression_in : List ℕ → List Token → Tree → Expr
expression_in source tokens x = expression_of (phrase_of source tokens x)
