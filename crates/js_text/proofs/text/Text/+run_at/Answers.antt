-- A piece of one side, or of the shared list, is a piece of the text.
use Rattle.std.proofs.Common.{◌∙◌, arith}
use Rattle.js_text.proofs.Pieces.{seen, place_in_part, run_in_part, run_in_back}
use Rattle.js_text.proofs.text.Text.+run_at.Goals as goal

pub overflow_add-result : goal.overflow_add-result
overflow_add-result t c =
    let known = seen c.deref.ensures c.in-Part.is c.self.view_is c.self.invariant in
    let below = place_in_part c.in-Part.units.value.items c.args.self.now c.in-Part.from c.in-Part.to c.args.at known.0 known.1.1 c.requires in
    omega arith

pub returns-in-Part-clause-run : goal.returns-in-Part-clause-run
returns-in-Part-clause-run t c =
    let known = seen c.deref.ensures c.in-Part.is c.self.view_is c.self.invariant in
    run_in_part c.in-Part.units.value.items c.args.self.now c.in-Part.from c.in-Part.to c.args.at known.0 known.1.1 c.requires c.deref-in-Part-2.result.now (c.deref-in-Part-2.ensures.value ∙ (λ k. (c.deref-in-Part.ensures k).items))

pub returns-else-at-middle-clause-run : goal.returns-else-at-middle-clause-run
returns-else-at-middle-clause-run t c =
    let known = seen c.deref.ensures c.in-Join.is c.self.view_is c.self.invariant in
    run_in_back c.in-Join.left c.in-Join.right c.args.self.now c.run_at-else-at-middle.result.now c.len-middle.result c.args.at known.0 c.len-middle.ensures.len c.if-at-middle.false c.run_at-else-at-middle.ensures.run
