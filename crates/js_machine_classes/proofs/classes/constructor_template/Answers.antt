use Rattle.std.proofs.Common.{ap}
use Rattle.js_machine.specs.Views.{View}
use Rattle.js_machine.proofs.Defaulted.{default_is}
use Rattle.js_machine_classes.proofs.classes.constructor_template.Goals as goal

pub returns-in-None : goal.returns-in-None
returns-in-None g c =
    default_is c.default_place.result c.machine.inside.code c.args.row c.args.derived c.args.machine.now (ap (λ (v : View). v.code) c.machine.view_is) c.in-None.is c.default_place.ensures
