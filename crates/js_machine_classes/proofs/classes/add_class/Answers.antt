use Rattle.std.proofs.Common.{◌≡◌, ap, ◌∷◌, [], ◌++◌, ◌∙◌, suc, length, true, false, Some, codes, arith}
use Rattle.std.proofs.lemmas.List.{length-append}
use Rattle.js_text.specs.Naming.{naming_of}
use Rattle.js_text.specs.declared.value.Key.TheVariants as key
use Rattle.js_text.specs.declared.value.Value.TheVariants as value
use Rattle.js_desc.specs.declared.descriptor.Change.TheVariants as change
use Rattle.js_desc.specs.declared.descriptor.Descriptor.TheVariants.{Data}
use Rattle.js_machine.specs.Made.{new_function}
use Rattle.js_machine.proofs.Created.{written_last}
use Rattle.js_machine_classes.proofs.classes.add_class.Goals as goal

pub returns-clause-made : goal.returns-clause-made
returns-clause-made g c =
    let os = g.S.Store.objects c.args.store.now in
    let more = length-append os (_ ∷ []) in
    let count : c.count.result ≡ suc (length os) = c.count.ensures ∙ ap length c.in_ok-instances.ensures.ok ∙ more ∙ omega arith in
    let back = c.hidden-back.ensures ∙ ap (λ v. change.Write (Data v true false true)) (c.own.ensures ∙ (λ j. value.Ref ((naming_of (c.party-party.ensures j).0).own (count j)))) in
    let one = written_last os (g.S.Store.objects c.make.new.self) (g.S.Store.objects c.apply.new.self) _ _ (key.Text (codes "constructor")) _ _ c.in_ok-instances.instances.0 c.in_ok-instances.ensures.ok c.in_ok-instances.ensures.id c.in_ok-constructor_key.ensures back c.in_ok-apply.ensures.ok in
    let bare = new_function (Some c.args.over) c.args.constructor c.args.slot c.args.arity c.args.name [] in
    let two = c.in_ok-id.ensures.made ∙ ap (λ xs. xs ++ bare ∷ []) one in
    let at = c.in_ok-id.ensures.id ∙ ap length one in
    let next = c.hidden-prototype.ensures ∙ ap (λ v. change.Write (Data v false false false)) (c.own-2.ensures ∙ (λ j. value.Ref ((naming_of (c.party-party.ensures j).0).own (c.in_ok-instances.ensures.id j)))) in
    written_last _ (g.S.Store.objects c.add_function.new.store) (g.S.Store.objects c.apply-2.new.self) bare _ (key.Text (codes "prototype")) _ _ c.in_ok-id.id.0 two at c.in_ok-prototype_key.ensures next c.in_ok-apply-2.ensures.ok
