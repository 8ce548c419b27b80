use Rattle.std.proofs.Common.{suc, arith, map, ap, ◌∙◌}
use Rattle.lava_start.specs.Firsts.{parts_of}
use Rattle.lava_packages.proofs.In_range.{parts_pushed}
use Rattle.lava_packages.proofs.packages.add_packages.Goals as goal

pub loop-read-preserved : goal.loop-read-preserved
loop-read-preserved c =
    let s = c.loop-read.invariant in
    record {
      place = c.in_ok-owner.ensures ∙ ap suc s.place ∙ omega arith;
      parts = parts_pushed c.args.packages.now c.args.modules.now c.args.policy.now (map parts_of c.args.made.now.items) (map parts_of c.loop-read.made.items) (map parts_of c.add_package.new.made.items) c.args.packages.now c.loop-read.read-index c.loop-read.owner c.read-item.result s.parts c.in_ok-add_package.ensures s.place c.loop-read-test.true c.read-item.is;
    }
