-- Which nonterminals ask for some first tokens, and the first lexeme of a list.
use Rattle.std.specs.Prelude.{Bool, true, false, not, List, [], ◌∷◌, Option, Some, None}
use Rattle.js_grammar.specs.declared.lexeme.Lexeme.{Lexeme}
use Rattle.js_grammar.specs.declared.symbols.Nonterminal.{Nonterminal}
use Rattle.js_grammar.specs.declared.constituents.Lookahead.{Lookahead}
use Rattle.js_grammar.specs.declared.constituents.Lookahead.TheVariants.{Any}
use Rattle.js_grammar.specs.Table.{guard_at_start}

abbrev pub is_any : Lookahead → Bool
is_any Any = true
is_any _ = false

abbrev pub is_guarded : Nonterminal → Bool
is_guarded c = not (is_any (guard_at_start c))

abbrev pub head_of : List Lexeme → Option Lexeme
head_of [] = None
head_of (t ∷ ts) = Some t
