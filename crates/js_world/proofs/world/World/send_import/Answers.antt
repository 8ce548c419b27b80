use Rattle.js_world.proofs.Crossed.{imports_on}
use Rattle.js_world.proofs.world.World.send_import.Goals as goal

pub returns : goal.returns
returns g c =
    let away = c.in_ok-imported.ensures in
    imports_on c.args.steps c.in_ok-party.party c.here-from.result c.args.self.now c.import_away.new.self c.keep_import.new.self c.hand_import.new.self c.in_ok-imported.imported c.in_ok-mode.mode away.import away.there away.sent c.in_ok-party.ensures c.here-from.ensures
    c.in_ok-keep_import.ensures c.in_ok-mode.ensures
