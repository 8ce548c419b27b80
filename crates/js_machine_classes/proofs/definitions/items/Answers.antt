use Rattle.std.proofs.Common.{IfOk, ◌≡◌, ◌∙◌, ap, subst}
use Rattle.lava_base.specs.Ids.{same_made_symbol}
use Rattle.js_store.specs.Objects.{object_at, ordinary_get_own_property}
use Rattle.js_machine.specs.Definitions.{items_in, property_says}
use Rattle.js_machine.specs.Views.{View}
use Rattle.js_machine_classes.proofs.definitions.items.Goals as goal

pub returns : goal.returns
returns g c =
    let o = object_at (g.S.Store.objects c.machine.inside.store) c.args.id.0 in
    subst (λ (w : View). IfOk c.length_said.result (λ n. n ≡ items_in w c.args.id.0)) c.machine.view_is
    (subst (λ there. IfOk c.length_said.result (λ n. n ≡ property_says there))
    (c.own.ensures ∙ ap (λ k. ordinary_get_own_property same_made_symbol k o.properties) c.length_key.ensures) c.length_said.ensures)
