use Rattle.std.proofs.Common.{◌∙◌, sym, ap}
use Rattle.js_machine.specs.Requested.{imported_place}
use Rattle.js_machine_modules.proofs.Required.{import_led}
use Rattle.js_machine_modules.proofs.imports.import_module.Goals as goal

pub returns : goal.returns
returns g c =
    let own = c.args.machine.now.own_package in
    import_led c.import_there.result c.args.link.now c.args.path.now c.in_ok-request.request c.as_slice-4.result.now c.as_slice.result.now c.as_slice-2.result.now c.in_ok-number.number c.args.machine.now c.import_there.new.machine (c.as_slice.ensures ∙ c.in_ok-name.ensures.units)
    (c.as_slice-2.ensures ∙ c.in_ok-units.ensures.units) c.in_ok-request.ensures c.as_slice-4.ensures (c.in_ok-number.ensures ∙ ap (λ y. imported_place own.modules own.main y) (c.as_slice-3.ensures ∙ sym c.as_slice-2.ensures)) c.import_there.ensures
