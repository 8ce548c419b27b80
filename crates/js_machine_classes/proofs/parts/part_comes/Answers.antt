use Rattle.js_code.specs.declared.node.PartRow.TheVariants as part_row
use Rattle.js_machine.specs.js_run.Parts.{holder}
use Rattle.js_machine.specs.Parts.{holders_of}
use Rattle.js_machine.specs.declared.holding.FunctionPart.TheVariants as function_part
use Rattle.js_machine_classes.proofs.Parted.{at_home, row_comes}
use Rattle.js_machine_classes.proofs.parts.part_comes.Goals as goal

pub returns-in-Data : goal.returns-in-Data
returns-in-Data g c = row_comes c.part_key_comes.result c.args.holding c.args.at c.args.left (part_row.Data c.in-Data.key c.in-Data.operand) c.args.value c.args.machine.now c.part_key_comes.new.machine c.in-Data.ensures c.part_key_comes.ensures

pub returns-in-Method : goal.returns-in-Method
returns-in-Method g c =
    row_comes c.function_comes.result c.args.holding c.args.at c.args.left (part_row.Method c.in-Method.is_static c.in-Method.key c.in-Method.template) c.args.value c.args.machine.now c.function_comes.new.machine c.in-Method.ensures
    (at_home c.function_comes.result c.args.holding c.args.at c.args.left c.holder-home.result (holder c.in-Method.is_static (holders_of c.args.holding)) c.in-Method.template function_part.Method c.args.value c.args.machine.now c.function_comes.new.machine c.holder-home.ensures c.function_comes.ensures)

pub returns-in-Getter : goal.returns-in-Getter
returns-in-Getter g c =
    row_comes c.function_comes-in-Getter.result c.args.holding c.args.at c.args.left (part_row.Getter c.in-Getter.is_static c.in-Getter.key c.in-Getter.template) c.args.value c.args.machine.now c.function_comes-in-Getter.new.machine c.in-Getter.ensures
    (at_home c.function_comes-in-Getter.result c.args.holding c.args.at c.args.left c.holder-home-in-Getter.result (holder c.in-Getter.is_static (holders_of c.args.holding)) c.in-Getter.template function_part.Getter c.args.value c.args.machine.now c.function_comes-in-Getter.new.machine c.holder-home-in-Getter.ensures c.function_comes-in-Getter.ensures)

pub returns-in-Setter : goal.returns-in-Setter
returns-in-Setter g c =
    row_comes c.function_comes-in-Setter.result c.args.holding c.args.at c.args.left (part_row.Setter c.in-Setter.is_static c.in-Setter.key c.in-Setter.template) c.args.value c.args.machine.now c.function_comes-in-Setter.new.machine c.in-Setter.ensures
    (at_home c.function_comes-in-Setter.result c.args.holding c.args.at c.args.left c.holder-home-in-Setter.result (holder c.in-Setter.is_static (holders_of c.args.holding)) c.in-Setter.template function_part.Setter c.args.value c.args.machine.now c.function_comes-in-Setter.new.machine c.holder-home-in-Setter.ensures c.function_comes-in-Setter.ensures)

pub returns-in-Item : goal.returns-in-Item
returns-in-Item g c = row_comes c.item_comes.result c.args.holding c.args.at c.args.left (part_row.Item c.in-Item.field-0) c.args.value c.args.machine.now c.item_comes.new.machine c.in-Item.ensures c.item_comes.ensures

pub returns-in-Hole : goal.returns-in-Hole
returns-in-Hole g c = row_comes c.part_behind.result c.args.holding c.args.at c.args.left part_row.Hole c.args.value c.args.machine.now c.part_behind.new.machine c.in-Hole.ensures c.part_behind.ensures

pub returns-in-Spread : goal.returns-in-Spread
returns-in-Spread g c = row_comes c.spread.result c.args.holding c.args.at c.args.left (part_row.Spread c.in-Spread.field-0) c.args.value c.args.machine.now c.spread.new.machine c.in-Spread.ensures c.spread.ensures
