use Rattle.std.proofs.Common.{◌∙◌, ap, true, false, codes}
use Rattle.js_text.specs.declared.value.Key.TheVariants as key
use Rattle.js_desc.specs.declared.descriptor.Change.TheVariants as change
use Rattle.js_desc.specs.declared.descriptor.Descriptor.TheVariants.{Data}
use Rattle.js_store.specs.Objects.{fresh}
use Rattle.js_operation.specs.js_run.Functions.{function_marks}
use Rattle.js_machine.proofs.Created.{written_last}
use Rattle.js_machine.proofs.functions.add_function.Goals as goal

pub returns-clause-made : goal.returns-clause-made
returns-clause-made g c =
    let os = g.S.Store.objects c.args.store.now in
    let bare = fresh c.args.prototype (function_marks c.args.constructor) c.args.slot in
    let arity = c.hidden-length.ensures ∙ ap (λ v. change.Write (Data v false false true)) c.count_value.ensures in
    let one = written_last os (g.S.Store.objects c.make.new.self) (g.S.Store.objects c.apply.new.self) bare _ (key.Text (codes "length")) _ _ c.in_ok-id.id.0 c.in_ok-id.ensures.ok c.in_ok-id.ensures.id c.in_ok-length_key.ensures arity c.in_ok-apply.ensures.ok in
    written_last os (g.S.Store.objects c.apply.new.self) (g.S.Store.objects c.apply-2.new.self) _ _ (key.Text (codes "name")) _ _ c.in_ok-id.id.0 one c.in_ok-id.ensures.id c.in_ok-name_key.ensures c.hidden-name.ensures c.in_ok-apply-2.ensures.ok
