use Rattle.std.proofs.Common.{IfOk, subst, sym}
use Rattle.js_in_place.specs.InPlace.{RunsTo}
use Rattle.js_in_place.specs.declared.spot.Spot.{Spot}
use Rattle.js_in_place.proofs.Gone.{still}
use Rattle.js_in_place.proofs.run.follow.Goals as goal

pub returns-in-Form : goal.returns-in-Form
returns-in-Form g c =
    subst (λ (p : Spot). IfOk c.begin.result (RunsTo p c.args.stand.left c.args.machine.now c.begin.new.machine)) (sym c.in-Form.is) c.begin.ensures

pub returns-in-Given : goal.returns-in-Given
returns-in-Given g c =
    subst (λ (p : Spot). IfOk c.deliver.result (RunsTo p c.args.stand.left c.args.machine.now c.deliver.new.machine)) (sym c.in-Given.is) c.deliver.ensures

pub returns-in-Other : goal.returns-in-Other
returns-in-Other g c = still c.args.stand.spot c.args.stand.left c.args.machine.now c.stopped_at.result c.stopped_at.ensures.spot c.stopped_at.ensures.left
