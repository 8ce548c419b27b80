use Rattle.std.proofs.Common.{◌≡◌, ◌++◌, ◌∷◌, [], Some, true, false, codes, ap, ◌∙◌}
use Rattle.js_text.specs.declared.value.Value.TheVariants as value
use Rattle.js_desc.specs.declared.descriptor.Descriptor.TheVariants.{Data}
use Rattle.js_store.specs.Frozen.{common_ref}
use Rattle.js_store.specs.Objects.{fresh}
use Rattle.js_store.specs.declared.slot.Slot.TheVariants as slot
use Rattle.js_world.specs.js_run.Functions.{function_marks}
use Rattle.js_world.specs.js_run.declared.intrinsics.TheConstants.{FUNCTION_PROTOTYPE}
use Rattle.lava_start.specs.Making.{Thing, with_named}
use Rattle.lava_start.proofs.Made_laws.{Last, changed}
use Rattle.lava_start.proofs.accessors.put_function.Goals as goal

pub returns-clause-objects : goal.returns-clause-objects
returns-clause-objects c =
    let os = c.args.objects.now.objects in
    let o : Thing = fresh (Some (common_ref FUNCTION_PROTOTYPE)) (function_marks false) (slot.Held c.args.kept) in
    let at = c.in_ok-at.at.0 in
    let l0 : Last os o at c.make.new.self.objects = record { is = c.in_ok-at.ensures.ok ∙ (λ j. os ++ fresh (Some (c.common.ensures j)) (function_marks false) (slot.Held c.args.kept) ∷ []); at = c.in_ok-at.ensures.id } in
    let l1 = changed os o at c.make.new.self.objects c.put_property.new.objects.objects (with_named (codes "length") c.function_data.result) l0 c.in_ok-put_property.ensures.objects in
    let l2 = changed os (with_named (codes "length") c.function_data.result o) at c.put_property.new.objects.objects c.put_property-2.new.objects.objects (with_named (codes "name") c.function_data-2.result) l1 c.in_ok-put_property-2.ensures.objects in
    let d : c.function_data-2.result ≡ Data (value.Text []) false false true = c.function_data-2.ensures ∙ ap (λ t. Data (value.Text t) false false true) c.in_ok-word_text.ensures in
    l2.is ∙ (λ j. os ++ with_named (codes "name") (d j) (with_named (codes "length") (c.function_data.ensures j) o) ∷ [])
