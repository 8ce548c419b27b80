use Rattle.lava_start.proofs.Kept_laws.{kept_on, source_pushed}
use Rattle.lava_start.proofs.modules.add_modules.Goals as goal

pub loop-source-preserved : goal.loop-source-preserved
loop-source-preserved c =
    let was = c.loop-source.code in
    let now = c.add_module.new.code in
    record {
      have = source_pushed was now c.loop-source.modules.items c.push.new.self.items c.args.sources.now c.loop-source.source-index c.in_ok-module.module c.source-item.result c.loop-source.invariant.have c.in_ok-module.ensures.keeps c.in_ok-module.ensures.module c.in_ok-push.ensures.items c.loop-source-test.true c.source-item.is;
      keeps = kept_on c.args.code.now was now c.loop-source.invariant.keeps c.in_ok-module.ensures.keeps;
    }
