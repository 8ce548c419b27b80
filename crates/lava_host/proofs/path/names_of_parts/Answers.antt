-- Each part leads on from where the parts before it led.
use Rattle.std.proofs.Common.{[], Some, true, false, fold, rules}
use Rattle.lava_host.specs.Paths.{entered, entered_from, parts}
use Rattle.lava_host.proofs.Path_laws.{left, stayed, chosen}
use Rattle.lava_host.proofs.path.names_of_parts.Goals as goal

pub returns-then-not-branch : goal.returns-then-not-branch
returns-then-not-branch c =
    let l = c.loop-part in
    let part = c.in-Some.part.now in
    left l.names part (parts c.in-Some.more.now) (parts l.rest.now) (fold entered (Some []) (parts c.args.path.now)) (chosen c.in_ok-enter.field-0 false c.enter.new.names (entered_from l.names part) c.if-not-branch.true c.in_ok-enter.ensures) c.in-Some.ensures.some l.invariant.0

pub loop-part-preserved : goal.loop-part-preserved
loop-part-preserved c =
    let l = c.loop-part in
    let part = c.in-Some.part.now in (
      stayed l.names c.enter.new.names part (parts c.in-Some.more.now) (parts l.rest.now) (fold entered (Some []) (parts c.args.path.now)) (chosen c.in_ok-enter.field-0 true c.enter.new.names (entered_from l.names part) c.if-not-branch.false c.in_ok-enter.ensures) c.in-Some.ensures.some l.invariant.0,
      search rules,
    )
