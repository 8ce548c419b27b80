use Rattle.std.proofs.Common.{◌+◌, ◌-◌, ◌<◌, length}
use Rattle.lava_base.specs.declared.ids.MadeSymbol.{MadeSymbol}
use Rattle.lava_base.specs.declared.ids.Ref.{Ref}
use Rattle.js_code.specs.Tables.{part_of}
use Rattle.js_machine.specs.Views.{Around}
use Rattle.js_machine.specs.js_run.Acts.{Next}
use Rattle.js_in_place.specs.Places.{ComesTo}
use Rattle.js_in_place.specs.Turns.{list_under}
use Rattle.js_in_place.proofs.turns.do_first.Given as goal

abbrev pub invariant-loop-i : goal.invariant-loop-i
invariant-loop-i g l = (next : Around → Next Ref MadeSymbol) → l.fn.most < length (part_of l.fn.start l.fn.count l.fn.machine.code.numbers) → l.fn.most < l.fn.count
    → (ComesTo l.fn.left l.fn.machine l.machine (list_under next l.fn.start l.fn.count l.fn.machine) (list_under next (l.fn.start + l.i) (l.fn.count - l.i) l.machine) l.left)
    × (l.fn.most - l.i < length (part_of (l.fn.start + l.i) (l.fn.count - l.i) l.machine.code.numbers))
