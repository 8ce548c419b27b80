use Rattle.js_machine_modules.proofs.Required.{is_imported}
use Rattle.js_machine_modules.proofs.imports.import.Goals as goal

pub returns : goal.returns
returns g c = is_imported c.import_module.result c.args.link.now c.args.path.now c.args.machine.now c.import_module.new.machine c.requires c.import_module.ensures
