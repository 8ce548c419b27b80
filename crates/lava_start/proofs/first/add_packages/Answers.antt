use Rattle.std.proofs.Common.{suc, arith, ap, ◌∙◌}
use Rattle.lava_start.proofs.Kept_laws.{kept_on}
use Rattle.lava_start.proofs.Standing.{package_pushed}
use Rattle.lava_start.proofs.first.add_packages.Goals as goal

pub loop-source-preserved : goal.loop-source-preserved
loop-source-preserved c =
    let was = c.loop-source.code in
    let now = c.add_package.new.code in
    let s = c.loop-source.invariant in
    record {
      number = c.in_ok-party.ensures ∙ ap suc s.number ∙ omega arith;
      packages = package_pushed c.args.others.now.items was now c.args.packages.now c.loop-source.source-index c.loop-source.party c.loop-source.others.items c.push.new.self.items c.source-item.result c.in_ok-own.own s.packages c.in_ok-own.ensures.keeps c.in_ok-own.ensures.own c.in_ok-push.ensures.items s.number c.loop-source-test.true c.source-item.is;
      keeps = kept_on c.args.code.now was now s.keeps c.in_ok-own.ensures.keeps;
    }
