use Rattle.std.proofs.Common.{◌≡◌, List, length, reverse}
use mathlib.Core.List.{reverse_aux}
use Rattle.js_grammar.specs.declared.event.Event.{Event}
use Rattle.js_parser.specs.Trees.{made, AllCounted}
use Rattle.js_parser.proofs.maker.take_events.Given as goal

abbrev pub invariant-loop-rest : goal.invariant-loop-rest
invariant-loop-rest l =
    (o : List Event) × (l.stack ≡ made l.fn.source l.fn.tokens o) × AllCounted o
    × (reverse_aux l.rest o ≡ reverse l.fn.events)

abbrev pub decreases-loop-rest : goal.decreases-loop-rest
decreases-loop-rest l = length l.rest
