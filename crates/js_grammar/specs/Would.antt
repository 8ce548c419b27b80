-- Whether the reader over flat output takes a lexeme.
use Rattle.std.specs.Prelude.{Bool, false, ◌&&◌, ◌||◌, List, [], ◌∷◌, Option, Some, None}
use Rattle.js_grammar.specs.declared.lexeme.Lexeme.{Lexeme}
use Rattle.js_grammar.specs.declared.constituents.Constituent.{Constituent}
use Rattle.js_grammar.specs.declared.constituents.Constituent.TheVariants.{Token, Part, Optional, Further}
use Rattle.js_grammar.specs.declared.symbols.Production.{Production}
use Rattle.js_grammar.specs.declared.summary.Summary.{Summary}
use Rattle.js_grammar.specs.Grammar.{follow}
use Rattle.js_grammar.specs.Table.{rule_of, ends_of, stands_of, start_of, wrap_of}
use Rattle.js_grammar.specs.Fits.{with_node, with_absent}
use Rattle.js_grammar.specs.Flat.{fit_by, Shape}

abbrev pub begun_would : List Constituent → Lexeme → Bool
begun_would (Token w ∷ ps) t = stands_of w t.terminal
begun_would _ t = false

abbrev pub opened_would : List Production → Lexeme → Bool
opened_would [] t = false
opened_would (f ∷ []) t = begun_would (rule_of f) t
opened_would (f ∷ h ∷ fs) t = opened_would (h ∷ fs) t

abbrev pub or_would : List Production → Bool → Bool → Bool
or_would [] a b = a
or_would (f ∷ fs) a b = b

abbrev pub onward_would : (Production → Summary → Bool) → Production → Summary → List Constituent → Lexeme → Bool
onward_would ended f m [] t = ended f m
onward_would ended f m (Token w ∷ ps) t = stands_of w t.terminal
onward_would ended f m (Part c ∷ ps) t = opened_would (start_of c t.terminal t.after_line) t
onward_would ended f m (Optional c k ∷ ps) t = or_would (start_of c t.terminal t.after_line) (onward_would ended f (with_absent m) ps t) (opened_would (start_of c t.terminal t.after_line) t)
onward_would ended f m (Further c w ∷ ps) t = stands_of w t.terminal || onward_would ended f (with_absent m) ps t

abbrev pub wrapped_would : List Constituent → Production → Summary → Lexeme → Bool
wrapped_would (Part c ∷ Token w ∷ ps) h x t = fit_by c h x && stands_of w t.terminal
wrapped_would _ h x t = false

abbrev pub joined_would : Option Production → Bool → (Production → Bool) → Bool
joined_would None a w = a
joined_would (Some f) a w = w f

abbrev pub put_would : (Production → Summary → Bool) → Production → Summary → List Constituent → Production → Summary → Lexeme → Bool
put_would ended f m (Part c ∷ ps) h x t = joined_would (wrap_of c h t.terminal) (fit_by c h x && onward_would ended f (with_node m h x) ps t) (λ u. wrapped_would (rule_of u) h x t)
put_would ended f m (Optional c k ∷ ps) h x t = joined_would (wrap_of c h t.terminal) (fit_by c h x && onward_would ended f (with_node m h x) (follow (ends_of h) c k ps) t) (λ u. wrapped_would (rule_of u) h x t)
put_would ended f m _ h x t = false

abbrev pub complete_would : List Shape → Production → Summary → Lexeme → Bool
complete_would [] h x t = false
complete_would (i ∷ s) h x t = put_would (λ f m. complete_would s f m t) i.production i.summary i.rest h x t

abbrev pub would : List Shape → Lexeme → Bool
would [] t = false
would (i ∷ s) t = onward_would (λ f m. complete_would s f m t) i.production i.summary i.rest t
