use Rattle.js_machine_natives.proofs.Unit_laws.{item_other}
use Rattle.js_machine_natives.proofs.units.item_read.Goals as goal

pub returns-in_ok-to_number-in-None : goal.returns-in_ok-to_number-in-None
returns-in_ok-to_number-in-None c =
    λ read h. item_other read c.args.next c.args.value.now c.item_of_conversion.result c.in_ok-to_number-in-None.field-0 c.object_of_value.result c.object_of_value.ensures c.in-None.is (c.in_ok-to_number-in-None.ensures read h) c.item_of_conversion.ensures
