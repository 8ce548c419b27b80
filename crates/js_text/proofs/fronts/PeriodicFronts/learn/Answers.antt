-- A front more is learnt where there is room.
use Rattle.js_text.proofs.Fronts_laws.{fronts_learnt, reached_learnt}
use Rattle.js_text.proofs.fronts.PeriodicFronts.learn.Goals as goal

pub returns-clause-fronts : goal.returns-clause-fronts
returns-clause-fronts c units are repeats = fronts_learnt units c.args.self.now c.push.new.self c.args.front c.push.result c.push.ensures c.requires are repeats

pub returns-clause-reached : goal.returns-clause-reached
returns-clause-reached c is long = reached_learnt c.args.self.now c.push.new.self c.args.front c.push.result c.push.ensures is
