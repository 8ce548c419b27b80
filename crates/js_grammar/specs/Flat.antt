-- The reader over flat output: of each open production its summary and the parts to come, and one list of what stands, the latest first, each production behind its parts.
use Rattle.std.specs.Prelude.{Bool, true, false, ◌&&◌, List, [], ◌∷◌, Option, Some, None}
use Rattle.js_grammar.specs.declared.lexeme.Lexeme.{Lexeme}
use Rattle.js_grammar.specs.declared.symbols.Nonterminal.{Nonterminal}
use Rattle.js_grammar.specs.declared.constituents.Repetition.TheVariants.{Listed}
use Rattle.js_grammar.specs.declared.constituents.Constituent.{Constituent}
use Rattle.js_grammar.specs.declared.constituents.Constituent.TheVariants.{Token, Part, Optional, Further}
use Rattle.js_grammar.specs.declared.symbols.Production.{Production}
use Rattle.js_grammar.specs.declared.summary.Summary.{Summary}
use Rattle.js_grammar.specs.declared.event.Event.{Event}
use Rattle.js_grammar.specs.declared.nesting.Nesting.{Nesting}
use Rattle.js_grammar.specs.declared.event.Event.TheVariants as event
use Rattle.js_grammar.specs.Grammar.{Leaf, Node, Absent, Row, Nil, Then, only_if, follow}
use Rattle.js_grammar.specs.Machine.{State}
use Rattle.js_grammar.specs.Table.{rule_of, ends_of, stands_of, has_of, guard_of, start_of, wrap_of}
use Rattle.js_grammar.specs.Nesting.{outermost, nested}
use Rattle.js_grammar.specs.Fits.{refined_by, empty_summary, with_leaf, with_node, with_absent, summary_of}

abbrev pub led_by : Nonterminal → Option Lexeme → Bool
led_by c None = true
led_by c (Some t) = guard_of c t.terminal t.after_line

abbrev pub fit_by : Nonterminal → Production → Summary → Bool
fit_by c f m = (has_of c f && refined_by c f m) && led_by c m.first

-- an open production
pub record Shape : Type 0 where
  pub production : Production
  pub summary : Summary
  pub nesting : Nesting
  pub rest : List Constituent

abbrev pub shape : Production → Summary → Nesting → List Constituent → Shape
shape f m b ps = record { production = f; summary = m; nesting = b; rest = ps }

-- what is to be known around what is opened next
abbrev pub nesting_on : List Shape → Nesting
nesting_on [] = outermost
nesting_on (i ∷ s) = nested i.production i.summary i.nesting

-- the open productions, and what stands
pub record Flat : Type 0 where
  pub items : List Shape
  pub out : List Event

abbrev pub flat : List Shape → List Event → Flat
flat s o = record { items = s; out = o }

abbrev pub chosen_of : Bool → Option Flat → Option Flat → Option Flat
chosen_of true a b = a
chosen_of false a b = b

abbrev pub or_opened : List Production → Option Flat → Option Flat → Option Flat
or_opened [] a b = a
or_opened (f ∷ fs) a b = b

abbrev pub joined_to : Option Production → Option Flat → (Production → Option Flat) → Option Flat
joined_to None a w = a
joined_to (Some f) a w = w f

abbrev pub begun_flat : Production → List Constituent → List Shape → List Event → Lexeme → Option Flat
begun_flat f (Token w ∷ ps) s o t = only_if (stands_of w t.terminal) (Some (flat (shape f (with_leaf empty_summary t) (nesting_on s) ps ∷ s) (event.Leaf t ∷ o)))
begun_flat f _ s o t = None

abbrev pub opened_flat : List Production → List Shape → List Event → Lexeme → Option Flat
opened_flat [] s o t = None
opened_flat (f ∷ []) s o t = begun_flat f (rule_of f) s o t
opened_flat (f ∷ h ∷ fs) s o t = opened_flat (h ∷ fs) (shape f empty_summary (nesting_on s) (rule_of f) ∷ s) o t

abbrev pub onward_flat : (Production → Summary → List Event → Option Flat) → List Shape → List Event → Production → Summary → Nesting → List Constituent → Lexeme → Option Flat
onward_flat ended s o f m b [] t = ended f m (event.Node f m.parts ∷ o)
onward_flat ended s o f m b (Token w ∷ ps) t = only_if (stands_of w t.terminal) (Some (flat (shape f (with_leaf m t) b ps ∷ s) (event.Leaf t ∷ o)))
onward_flat ended s o f m b (Part c ∷ ps) t = opened_flat (start_of c t.terminal t.after_line) (shape f m b (Part c ∷ ps) ∷ s) o t
onward_flat ended s o f m b (Optional c k ∷ ps) t = or_opened (start_of c t.terminal t.after_line) (onward_flat ended s (event.Absent ∷ o) f (with_absent m) b ps t) (opened_flat (start_of c t.terminal t.after_line) (shape f m b (Optional c k ∷ ps) ∷ s) o t)
onward_flat ended s o f m b (Further c w ∷ ps) t = chosen_of (stands_of w t.terminal) (Some (flat (shape f (with_leaf m t) b (Optional c (Listed w) ∷ ps) ∷ s) (event.Leaf t ∷ o))) (onward_flat ended s (event.Absent ∷ o) f (with_absent m) b ps t)

abbrev pub wrapped_flat : Production → List Constituent → List Shape → List Event → Production → Summary → Lexeme → Option Flat
wrapped_flat f (Part c ∷ Token w ∷ ps) s o h x t = only_if (fit_by c h x) (only_if (stands_of w t.terminal) (Some (flat (shape f (with_leaf (with_node empty_summary h x) t) (nesting_on s) ps ∷ s) (event.Leaf t ∷ o))))
wrapped_flat f _ s o h x t = None

abbrev pub turned_flat : List Shape → List Event → Production → Summary → Nesting → List Constituent → Production → Summary → Lexeme → Production → Option Flat
turned_flat s o f m b all h x t u = wrapped_flat u (rule_of u) (shape f m b all ∷ s) o h x t

abbrev pub put_flat : (Production → Summary → List Event → Option Flat) → List Shape → List Event → Production → Summary → Nesting → List Constituent → Production → Summary → Lexeme → Option Flat
put_flat ended s o f m b (Part c ∷ ps) h x t = joined_to (wrap_of c h t.terminal) (only_if (fit_by c h x) (onward_flat ended s o f (with_node m h x) b ps t)) (turned_flat s o f m b (Part c ∷ ps) h x t)
put_flat ended s o f m b (Optional c k ∷ ps) h x t = joined_to (wrap_of c h t.terminal) (only_if (fit_by c h x) (onward_flat ended s o f (with_node m h x) b (follow (ends_of h) c k ps) t)) (turned_flat s o f m b (Optional c k ∷ ps) h x t)
put_flat ended s o f m b _ h x t = None

abbrev pub complete_flat : List Shape → List Event → Production → Summary → Lexeme → Option Flat
complete_flat [] o h x t = None
complete_flat (i ∷ s) o h x t = put_flat (λ f m o. complete_flat s o f m t) s o i.production i.summary i.nesting i.rest h x t

abbrev pub fed_flat : List Shape → List Event → Lexeme → Option Flat
fed_flat [] o t = None
fed_flat (i ∷ s) o t = onward_flat (λ f m o. complete_flat s o f m t) s o i.production i.summary i.nesting i.rest t

-- one token, at a whole state
abbrev pub fed_in : Flat → Lexeme → Option Flat
fed_in q t = fed_flat q.items q.out t

-- the flat form of trees and states
abbrev pub laid : Row → List Event → List Event
laid Nil o = o
laid (Then r (Leaf t)) o = event.Leaf t ∷ laid r o
laid (Then r Absent) o = event.Absent ∷ laid r o
laid (Then r (Node h q)) o = event.Node h (summary_of q).parts ∷ laid q (laid r o)

abbrev pub laid_out : State → List Event
laid_out [] = []
laid_out (i ∷ s) = laid i.done (laid_out s)

abbrev pub laid_open : State → List Shape
laid_open [] = []
laid_open (i ∷ s) = shape i.production (summary_of i.done) (nesting_on (laid_open s)) i.rest ∷ laid_open s

abbrev pub flat_of : State → Flat
flat_of s = flat (laid_open s) (laid_out s)
