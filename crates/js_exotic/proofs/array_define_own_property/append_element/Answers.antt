-- An element is written, and then the length.
use Rattle.std.proofs.Common.{◌≡◌, ◌+◌, ◌∙◌}
use Rattle.lava_base.specs.Ids.{same_made_symbol}
use Rattle.js_text.specs.Length.{length_key}
use Rattle.js_text.specs.declared.value.Key.TheVariants as key
use Rattle.js_store.specs.Objects.{at_place, with_change, with_replaced}
use Rattle.js_exotic.specs.ArrayLengths.{length_property}
use Rattle.js_exotic.proofs.Lowering_laws.{in_turn}
use Rattle.js_exotic.proofs.array_define_own_property.append_element.Goals as goal

pub returns-clause-ok : goal.returns-clause-ok
returns-clause-ok g c =
    let k : c.in_ok-key.key ≡ length_key = c.in_ok-key.ensures ∙ c.length_key.ensures in
    let p : c.length_property.result ≡ length_property c.args.current (c.args.index + 1) = c.length_property.ensures in
    in_turn (g.S.Store.objects c.args.store.now) (g.S.Store.objects c.apply.new.self) (g.S.Store.objects c.replace.new.self) c.args.id.0
    (with_change same_made_symbol (key.Index c.args.index) c.args.change)
    (with_replaced same_made_symbol length_key (length_property c.args.current (c.args.index + 1)))
    c.requires c.in_ok-apply.ensures.ok
    (c.replace.ensures.objects ∙ (λ j. at_place (g.S.Store.objects c.apply.new.self) c.args.id.0 (with_replaced same_made_symbol (k j) (p j))))
