-- What the program's partial tree stands for, and what its moves come to.
use Rattle.std.specs.Prelude.{◌≡◌, ℕ, Bool, true, false, List, [], ◌∷◌, Option, Some, None, reverse, map, take, ◌+◌, ◌≤◌, length}
use Rattle.js_grammar.specs.declared.lexeme.Lexeme.{Lexeme}
use Rattle.js_grammar.specs.declared.constituents.Constituent.{Constituent}
use Rattle.js_grammar.specs.declared.symbols.Production.{Production}
use Rattle.js_grammar.specs.declared.summary.Summary.{Summary}
use Rattle.js_grammar.specs.declared.event.Event.{Event}
use Rattle.js_grammar.specs.declared.event.Event.TheVariants as event
use Rattle.js_grammar.specs.declared.open.OpenProduction.{OpenProduction}
use Rattle.js_grammar.specs.declared.open.Remainder.{Remainder}
use Rattle.js_grammar.specs.declared.machine.Progress.{Progress}
use Rattle.js_grammar.specs.declared.machine.Progress.TheVariants as progress
use Rattle.std.specs.Global.{Vec}
use Rattle.js_grammar.specs.declared.rules.Opening.{Opening}
use Rattle.js_grammar.specs.Table.{rule_of, forms_of, wrap_of}
use Rattle.js_grammar.specs.Fits.{with_leaf, with_node}
use Rattle.js_grammar.specs.Grammar.{only_if}
use Rattle.js_grammar.specs.declared.symbols.Nonterminal.{Nonterminal}
use Rattle.js_grammar.specs.Flat.{Shape, shape, Flat, flat, begun_flat, opened_flat, onward_flat, wrapped_flat, put_flat, joined_to, turned_flat, fit_by, complete_flat, fed_flat}

abbrev pub constituents_of : Option Constituent → List Constituent → List Constituent
constituents_of None ps = []
constituents_of (Some p) ps = p ∷ ps

-- the constituents that are to come, as they stand in a rule
abbrev pub rest_of : Remainder → List Constituent
rest_of x = constituents_of x.next x.later.now

abbrev pub shape_in : OpenProduction → Shape
shape_in x = shape x.production x.summary x.nesting (rest_of x.rest)

-- the program's lists have the latest last
abbrev pub shapes_of : List OpenProduction → List Shape
shapes_of xs = map shape_in (reverse xs)

abbrev pub latest : List Event → List Event
latest es = reverse es

abbrev pub flat_in : List OpenProduction → List Event → Flat
flat_in xs es = flat (shapes_of xs) (latest es)

-- what follows a whole tree: its production, what is to be known of its parts, and what stands then
abbrev pub Ending : Type 0
Ending = Production → Summary → List Event → Option Flat

-- a move of the definition that may come to a whole tree
abbrev pub Move : Type 0
Move = List Shape → List Event → Ending → Option Flat

-- the moves of the definition, at the program's lists
abbrev pub begun_at : List OpenProduction → Vec Event → Production → Lexeme → Option Flat
begun_at xs es f t = begun_flat f (rule_of f) (shapes_of xs) (latest es.items) t

abbrev pub opened_at : List OpenProduction → Vec Event → Opening → Lexeme → Option Flat
opened_at xs es o t = opened_flat (forms_of o) (shapes_of xs) (latest es.items) t

abbrev pub fed_at : List OpenProduction → Vec Event → Lexeme → Option Flat
fed_at xs es t = fed_flat (shapes_of xs) (latest es.items) t

-- a token stands in a production, before these constituents
abbrev pub leaf_at : List OpenProduction → Vec Event → OpenProduction → Lexeme → Flat
leaf_at xs es i t = flat (shape i.production (with_leaf i.summary t) i.nesting (rest_of i.rest) ∷ shapes_of xs) (event.Leaf t ∷ latest es.items)

-- a part is opened within a production
abbrev pub part_at : List OpenProduction → Vec Event → OpenProduction → Opening → Lexeme → Option Flat
part_at xs es i o t = opened_flat (forms_of o) (shape_in i ∷ shapes_of xs) (latest es.items) t

-- an operator goes on with a whole tree within a production
abbrev pub turned_at : List OpenProduction → Vec Event → OpenProduction → Production → Production → Summary → Lexeme → Option Flat
turned_at xs es i f h x t = wrapped_flat f (rule_of f) (shape_in i ∷ shapes_of xs) (latest es.items) h x t

abbrev pub onward_at : OpenProduction → Lexeme → Move
onward_at i t s o k = onward_flat k s o i.production i.summary i.nesting (rest_of i.rest) t

-- a whole tree stands as a part, before these constituents, or an operator goes on with it
abbrev pub stood_at : OpenProduction → Nonterminal → Remainder → Production → Summary → Lexeme → Move
stood_at i c r h x t s o k = joined_to (wrap_of c h t.terminal) (only_if (fit_by c h x) (onward_flat k s o i.production (with_node i.summary h x) i.nesting (rest_of r) t)) (turned_flat s o i.production i.summary i.nesting (rest_of i.rest) h x t)

abbrev pub put_at : OpenProduction → Production → Summary → Lexeme → Move
put_at i h x t s o k = put_flat k s o i.production i.summary i.nesting (rest_of i.rest) h x t

-- events are as they were, and there may be more
abbrev pub Keeps : List Event → List Event → Type 0
Keeps base out = take (length base) out ≡ base

abbrev pub Grows : List Event → List Event → Type 0
Grows old out = (base : List Event) → Keeps base old → Keeps base out

-- what a move comes to above what is open below, whatever follows a whole tree: the token is taken, or refused, or a whole tree stands before it
abbrev pub Comes : List OpenProduction → Vec OpenProduction → Vec Event → Move → Vec OpenProduction → Vec Event → Progress → Type 0
Comes under xs es go ys out progress.Taken = (k : Ending) → go (shapes_of under) (latest es.items) k ≡ Some (flat_in ys.items out.items)
Comes under xs es go ys out progress.Refused = ((k : Ending) → go (shapes_of under) (latest es.items) k ≡ None) × (ys.items ≡ xs.items)
Comes under xs es go ys out (progress.Ended f m) = ((k : Ending) → go (shapes_of under) (latest es.items) k ≡ k f m (latest out.items)) × (ys.items ≡ xs.items)

-- the token is taken, or refused, and all is as it was
abbrev pub Takes : Option Flat → Flat → Flat → Bool → Type 0
Takes o old new true = o ≡ Some new
Takes o old new false = (o ≡ None) × (new ≡ old)

abbrev pub Opens : Option Flat → Vec OpenProduction → Vec OpenProduction → Vec Event → Bool → Type 0
Opens o xs ys es true = o ≡ Some (flat_in ys.items es.items)
Opens o xs ys es false = (o ≡ None) × (ys.items ≡ xs.items)

-- where a reader stands that has begun on a token
abbrev pub Stage : Option Flat → List OpenProduction → List OpenProduction → ℕ → List Event → Lexeme → Progress → Type 0
Stage o old new below out t progress.Taken = o ≡ Some (flat_in new out)
Stage o old new below out t progress.Refused = (o ≡ None) × (new ≡ old)
Stage o old new below out t (progress.Ended f m) = (o ≡ complete_flat (shapes_of (take below new)) (latest out) f m t) × (new ≡ old) × (below ≤ length new)

abbrev pub turns_left : ℕ → Progress → ℕ
turns_left below progress.Taken = 0
turns_left below progress.Refused = 0
turns_left below (progress.Ended f m) = 1 + below
