-- Trees whose parts are each followed by a lexeme that does not go on with them.
use Rattle.std.proofs.Common.{Bool, true, false, not, ◌&&◌, cond, List, [], ◌∷◌, Option, Some, None}
use Rattle.js_grammar.specs.declared.lexeme.Lexeme.{Lexeme}
use Rattle.js_grammar.specs.declared.constituents.Constituent.{Constituent}
use Rattle.js_grammar.specs.declared.constituents.Constituent.TheVariants.{Token, Part, Optional, Further}
use Rattle.js_grammar.specs.declared.symbols.Production.{Production}
use Rattle.js_grammar.specs.Grammar.{Tree, Leaf, Node, Absent, Row, Nil, Then, left, spell, Partial, Open, Within, begins}
use Rattle.js_grammar.specs.Machine.{Table}
use Rattle.js_grammar.proofs.Ways.{is_none, is_nil, is_empty}

module _ (T : Table) (operator : Production → Bool) where
  abbrev pub word_stands : List Constituent → Lexeme → Bool
  word_stands [] t = false
  word_stands (Token w ∷ ps) t = T.grammar.stands w t
  word_stands (Part c ∷ ps) t = false
  word_stands (Optional c k ∷ ps) t = false
  word_stands (Further c w ∷ ps) t = false

  -- the lexeme does not go on with the tree at this part
  abbrev pub clear : Bool → Option (List Constituent) → Production → Lexeme → Bool
  clear first None x t = false
  clear first (Some []) x t = false
  clear first (Some (Token w ∷ ps)) x t = false
  clear first (Some (Part d ∷ ps)) x t = cond first (word_stands ps t) (is_none (T.wrap d x t))
  clear first (Some (Optional d k ∷ ps)) x t = is_none (T.wrap d x t)
  clear first (Some (Further d w ∷ ps)) x t = false

  abbrev pub not_started : Option (List Constituent) → Lexeme → Bool
  not_started None t = false
  not_started (Some []) t = false
  not_started (Some (Token w ∷ ps)) t = false
  not_started (Some (Part d ∷ ps)) t = false
  not_started (Some (Optional d k ∷ ps)) t = is_empty (T.start d t)
  not_started (Some (Further d w ∷ ps)) t = not (T.grammar.stands w t)

  -- the lexeme goes on with nothing at the right edge
  abbrev mutual
    pub quiet : Tree → Lexeme → Bool
    quiet (Leaf u) t = true
    quiet (Node f r) t = quiet_row f r t
    quiet Absent t = true

    pub quiet_row : Production → Row → Lexeme → Bool
    quiet_row f Nil t = true
    quiet_row f (Then r (Leaf u)) t = true
    quiet_row f (Then r (Node h q)) t = clear (operator f && is_nil r) (left T.grammar f r) h t && quiet_row h q t
    quiet_row f (Then r Absent) t = not_started (left T.grammar f r) t && quiet_row f r t

  abbrev pub before : Production → Row → List Lexeme → Bool
  before f r [] = true
  before f r (t ∷ ts) = quiet_row f r t

  -- each part is followed by a lexeme that does not go on with it
  abbrev mutual
    pub calm : Tree → Bool
    calm (Leaf u) = true
    calm (Node f r) = calm_row f r
    calm Absent = true

    pub calm_row : Production → Row → Bool
    calm_row f Nil = true
    calm_row f (Then r x) = calm_row f r && (calm x && before f r (spell x))

  abbrev pub calm_partial : Partial → Bool
  calm_partial (Open f r) = calm_row f r
  calm_partial (Within f r p) = calm_row f r && (calm_partial p && before f r (begins p))
