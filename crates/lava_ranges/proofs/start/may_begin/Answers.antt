use Rattle.std.proofs.Common.{rules, ◌≡◌, true, arith}
use Rattle.lava_ranges.proofs.Start_laws.{one_party_more}
use Rattle.lava_ranges.proofs.start.may_begin.Goals as goal

pub loop-at-preserved : goal.loop-at-preserved
loop-at-preserved c =
    let may : c.in_ok-may_stand.field-0 ≡ true = search rules in
    one_party_more c.args.parties.now c.loop-at.at (omega (arith, c.loop-at-test.true, c.len-at-end.ensures)) c.loop-at.invariant (c.in_ok-may_stand.ensures may)
