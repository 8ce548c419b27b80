use Rattle.std.proofs.Common.{◌≡◌, ◌∙◌, true, sym, ap, arith}
use Rattle.js_machine.specs.Parts.{has_key}
use Rattle.js_machine_classes.proofs.Part_keys.{part_reached}
use Rattle.js_machine_classes.proofs.parts.part_primitive.Goals as goal

pub returns : goal.returns
returns g c =
    let there : c.has_key.result ≡ true = grind (arith, c.if-not-has_key.false) in
    part_reached c.part_comes.result c.args.enumerable c.args.at c.args.left c.take_holding-holding.result c.args.value c.args.machine.now c.take_holding-holding.new.machine c.part_comes.new.machine (ap has_key (sym c.part.ensures) ∙ sym c.has_key.ensures ∙ there) c.requires c.take_holding-holding.ensures.held c.take_holding-holding.ensures.rest c.part_comes.ensures
