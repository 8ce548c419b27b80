use Rattle.std.proofs.Common.{refl, true, []}
use Rattle.js_text.specs.Naming.{naming_of}
use Rattle.js_desc.specs.declared.descriptor.Change.TheVariants as change
use Rattle.js_desc.specs.declared.descriptor.Descriptor.TheVariants.{Data}
use Rattle.js_machine.specs.js_run.Functions.{plain_object}
use Rattle.js_machine.specs.js_run.Modules.{exports_key}
use Rattle.js_machine.proofs.Created.{written_last}
use Rattle.js_machine_modules.proofs.modules.add_module.Goals as goal

pub returns-clause-made : goal.returns-clause-made
returns-clause-made g c =
    written_last (g.S.Store.objects c.args.store.now) (g.S.Store.objects c.make.new.self) (g.S.Store.objects c.apply.new.self) (plain_object (naming_of (g.S.Store.owner c.args.store.now).0) []) c.args.key exports_key (change.Write (Data c.args.exports true true true)) (change.Write (Data c.args.exports true true true)) c.in_ok-id.id.0 c.in_ok-id.ensures.ok c.in_ok-id.ensures.id
    c.requires refl c.in_ok-apply.ensures.ok
