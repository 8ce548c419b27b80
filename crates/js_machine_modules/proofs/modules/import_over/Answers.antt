use Rattle.std.proofs.Common.{◌<◌, ◌≤◌, ap, arith}
use Rattle.js_machine.specs.js_run.declared.TheConstants.{MAX_DEPTH}
use Rattle.js_machine.specs.Views.{View}
use Rattle.js_machine_modules.proofs.Evaluates.{denied, imported, no_room}
use Rattle.js_machine_modules.proofs.modules.import_over.Goals as goal

pub returns-then-machine-ge-MAX_DEPTH : goal.returns-then-machine-ge-MAX_DEPTH
returns-then-machine-ge-MAX_DEPTH g c =
    let deep : MAX_DEPTH ≤ c.args.machine.now.depth = omega (arith, ap (λ (w : View). w.depth) c.machine.view_is) in
    no_room c.args.request.now c.args.link c.args.path c.args.machine.now c.end_run.result c.end_run.new.self deep c.end_run.ensures

pub returns-then-may_import : goal.returns-then-may_import
returns-then-may_import g c =
    let room : c.args.machine.now.depth < MAX_DEPTH = omega (arith, ap (λ (w : View). w.depth) c.machine.view_is) in
    imported c.args.request.now c.args.link c.args.path c.args.machine.now c.send_import.result c.may_import.result c.send_import.new.machine room c.may_import.ensures c.if-may_import.true c.send_import.ensures.sent c.send_import.ensures.mode

pub returns : goal.returns
returns g c =
    let room : c.args.machine.now.depth < MAX_DEPTH = omega (arith, ap (λ (w : View). w.depth) c.machine.view_is) in
    denied c.args.request.now c.args.link c.args.path c.args.machine.now c.not_allowed.result c.may_import.result c.not_allowed.new.machine room c.may_import.ensures c.if-may_import.false c.not_allowed.ensures
