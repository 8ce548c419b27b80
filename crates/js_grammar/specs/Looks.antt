-- What a look comes to.
use Rattle.std.specs.Prelude.{◌≡◌, ◌&&◌, Bool, true, false}
use Rattle.js_grammar.specs.declared.symbols.Production.{Production}
use Rattle.js_grammar.specs.declared.summary.Summary.{Summary}
use Rattle.js_grammar.specs.declared.lexeme.Lexeme.{Lexeme}
use Rattle.js_grammar.specs.declared.open.OpenProduction.{OpenProduction}
use Rattle.js_grammar.specs.declared.open.Remainder.{Remainder}
use Rattle.js_grammar.specs.declared.symbols.Nonterminal.{Nonterminal}
use Rattle.js_grammar.specs.Table.{rule_of, wrap_of}
use Rattle.js_grammar.specs.Fits.{with_node}
use Rattle.js_grammar.specs.Flat.{fit_by}
use Rattle.js_grammar.specs.Moves.{rest_of}
use Rattle.js_grammar.specs.Would.{put_would, joined_would, onward_would, wrapped_would}
use Rattle.js_grammar.specs.declared.prospect.Prospect as l
use Rattle.js_grammar.specs.declared.prospect.Prospect.TheVariants as look

-- a whole tree where an open production wants a part
abbrev pub put_looks : OpenProduction → Production → Summary → Lexeme → (Production → Summary → Bool) → Bool
put_looks i h x t k = put_would k i.production i.summary (rest_of i.rest) h x t

-- a whole tree as a part, before these constituents, or an operator that goes on with it
abbrev pub stood_looks : OpenProduction → Nonterminal → Remainder → Production → Summary → Lexeme → (Production → Summary → Bool) → Bool
stood_looks i c r h x t k = joined_would (wrap_of c h t.terminal) (fit_by c h x && onward_would k i.production (with_node i.summary h x) (rest_of r) t) (λ u. wrapped_would (rule_of u) h x t)

abbrev pub Looks_so : ((Production → Summary → Bool) → Bool) → l.Prospect → Type 0
Looks_so go look.Yes = (k : Production → Summary → Bool) → go k ≡ true
Looks_so go look.No = (k : Production → Summary → Bool) → go k ≡ false
Looks_so go (look.Ended f m) = (k : Production → Summary → Bool) → go k ≡ k f m
