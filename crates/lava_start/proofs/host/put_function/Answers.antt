use Rattle.std.proofs.Common.{◌≡◌, ◌++◌, ◌∷◌, [], Some, false, codes, ap, ◌∙◌}
use Rattle.js_text.specs.declared.value.Value.TheVariants as value
use Rattle.js_desc.specs.declared.descriptor.Descriptor.TheVariants.{Data}
use Rattle.js_store.specs.Frozen.{common_ref}
use Rattle.js_store.specs.Objects.{fresh, not_extensible}
use Rattle.js_store.specs.declared.slot.Slot.TheVariants as slot
use Rattle.js_world.specs.js_run.Functions.{function_marks}
use Rattle.js_world.specs.js_run.declared.intrinsics.TheConstants.{FUNCTION_PROTOTYPE}
use Rattle.lava_start.specs.Making.{with_named}
use Rattle.lava_start.proofs.Made_laws.{Last, changed}
use Rattle.lava_start.proofs.host.put_function.Goals as goal

pub returns-clause-objects : goal.returns-clause-objects
returns-clause-objects c =
    let os = c.args.objects.now.objects in
    let o = fresh (Some (common_ref FUNCTION_PROTOTYPE)) (function_marks false) slot.Plain in
    let at = c.in_ok-at.at.0 in
    let l0 : Last os o at c.put_object.new.objects.objects = record { is = c.in_ok-at.ensures.made; at = c.in_ok-at.ensures.id } in
    let l1 = changed os o at c.put_object.new.objects.objects c.put_property.new.objects.objects (with_named (codes "length") c.fixed.result) l0 c.in_ok-put_property.ensures.objects in
    let l2 = changed os (with_named (codes "length") c.fixed.result o) at c.put_property.new.objects.objects c.put_property-2.new.objects.objects (with_named (codes "name") c.fixed-2.result) l1 c.in_ok-put_property-2.ensures.objects in
    let l3 = changed os (with_named (codes "name") c.fixed-2.result (with_named (codes "length") c.fixed.result o)) at c.put_property-2.new.objects.objects c.prevent.new.self.objects not_extensible l2 c.prevent.ensures.objects in
    let d : c.fixed-2.result ≡ Data (value.Text c.args.name.now) false false false = c.fixed-2.ensures ∙ ap (λ t. Data (value.Text t) false false false) c.in_ok-word_text.ensures in
    l3.is ∙ (λ j. os ++ not_extensible (with_named (codes "name") (d j) (with_named (codes "length") (c.fixed.ensures j) o)) ∷ [])
