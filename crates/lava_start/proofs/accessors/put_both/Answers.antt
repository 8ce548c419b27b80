use Rattle.std.proofs.Common.{◌≡◌, ◌+◌, suc, length, ◌++◌, ◌∷◌, [], Some, true, ap, ◌∙◌, append_assoc, length-append, arith}
use Rattle.js_text.specs.Naming.{naming_of}
use Rattle.js_desc.specs.declared.descriptor.Descriptor.TheVariants.{Accessor}
use Rattle.js_store.specs.declared.slot.Held.TheVariants as held
use Rattle.lava_start.specs.Grants.{live_function}
use Rattle.lava_start.proofs.accessors.put_both.Goals as goal

pub returns-clause-objects : goal.returns-clause-objects
returns-clause-objects c =
    let os = c.args.objects.now.objects in
    let s = live_function (held.LiveSetter c.args.target) in
    c.in_ok-set.ensures.objects ∙ ap (λ t. t ++ s ∷ []) c.in_ok-get.ensures.objects
    ∙ (λ j. (os ++ live_function (held.LiveGetter (c.in_ok-copy_target.ensures j)) ∷ []) ++ s ∷ [])
    ∙ append_assoc os (live_function (held.LiveGetter c.args.target) ∷ []) (s ∷ [])

pub returns-clause-property : goal.returns-clause-property
returns-clause-property c =
    let os = c.args.objects.now.objects in
    let made = live_function (held.LiveGetter c.in_ok-copy_target.field-0) in
    let n : length c.put_half.new.objects.objects ≡ suc (length os) = ap length c.in_ok-get.ensures.objects ∙ (let k = length-append os (made ∷ []) in omega (arith, k)) in
    let set : c.in_ok-set.set ≡ (naming_of c.args.objects.now.party.0).own (suc (length os)) = c.in_ok-set.ensures.reference ∙ (λ j. (naming_of (c.in_ok-get.ensures.party j).0).own (n j)) in
    λ j. Accessor (Some (c.in_ok-get.ensures.reference j)) (Some (set j)) true c.args.configurable
