use Rattle.std.proofs.Common.{◌+◌, ◌∙◌, ap, get_or, arith}
use Rattle.js_machine.specs.Filling.{with_open_scope}
use Rattle.js_machine.specs.Views.{View}
use Rattle.js_machine.proofs.Filled.{one_more_started, opened_bare}
use Rattle.js_machine.proofs.machine.Machine.open_slots.Goals as goal

pub loop-i-init : goal.loop-i-init
loop-i-init g c = c.in_ok-scope.ensures.opened ∙ ap (λ xs. with_open_scope c.args.outer xs c.args.self.now) (opened_bare c.args.first c.args.row.params c.args.row.slots c.saturating_sub-others.result (omega arith))

pub loop-i-preserved : goal.loop-i-preserved
loop-i-preserved g c =
    one_more_started c.args.self.now c.loop-i.self c.start_slot.new.self c.args.row c.args.outer c.args.first c.in_ok-scope.scope c.loop-i.i c.number-slot.result
    c.loop-i.invariant c.in_ok-scope.ensures.number (omega (arith, c.in_ok-there.ensures.there)) (c.number-slot.ensures ∙ ap (λ (w : View). get_or w.code.numbers (c.args.row.undefined_start + c.loop-i.i) 0) c.loop-i.invariant) c.start_slot.ensures
