use Rattle.std.proofs.Common.{◌≡◌, ℕ, suc, ◌+◌, ◌++◌, ◌∷◌, map, sym, subst, arith}
use Rattle.js_tree_lines.specs.Lines.{line, node_of, operands_of}
use Rattle.js_tree_lines.specs.Pending_lines.{at_depth, pending}
use Rattle.js_tree_lines.proofs.Lines_laws.{GoesOn, goes_on_step, goes_to_end}
use Rattle.js_tree_lines.proofs.lines.all_lines.Goals as goal

pub returns-in-None : goal.returns-in-None
returns-in-None c =
    goes_to_end c.loop-left.out c.args.out.now (pending c.args.stack.now.items)
    (subst (λ p. GoesOn c.loop-left.out p c.args.out.now (pending c.args.stack.now.items)) c.in-None.ensures c.loop-left.invariant)

pub loop-left-preserved : goal.loop-left-preserved
loop-left-preserved c =
    let d = c.in-Some.next.depth in
    let n = node_of c.in-Some.next.node in
    let ps = pending c.pop.new.stack.items in
    let start = c.args.out.now in
    let all = pending c.args.stack.now.items in
    let deeper : d + 1 ≡ suc d = omega arith in
    let below : pending c.one_line.new.stack.items ≡ map (at_depth (suc d)) (operands_of n) ++ ps
    = subst (λ k. pending c.one_line.new.stack.items ≡ map (at_depth k) (operands_of n) ++ ps) deeper c.in_ok-one_line-in-Some.ensures.below in
    let before : GoesOn c.loop-left.out ((d, n) ∷ ps) start all
    = subst (λ p. GoesOn c.loop-left.out p start all) c.in-Some.ensures c.loop-left.invariant in
    let after : GoesOn (c.loop-left.out ++ line d n) (map (at_depth (suc d)) (operands_of n) ++ ps) start all
    = goes_on_step d n ps c.loop-left.out start all before in
    subst (λ p. GoesOn c.one_line.new.out p start all) (sym below)
    (subst (λ o. GoesOn o (map (at_depth (suc d)) (operands_of n) ++ ps) start all) (sym c.in_ok-one_line-in-Some.ensures.line) after)
