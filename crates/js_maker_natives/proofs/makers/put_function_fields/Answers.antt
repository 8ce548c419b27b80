use Rattle.lava_base.specs.Ids.{same_made_symbol}
use Rattle.std.specs.Prelude.{codes, pos}
use Rattle.js_text.specs.declared.value.Value.TheVariants as value
use Rattle.js_maker_natives.proofs.New_objects as made
use Rattle.js_maker_natives.proofs.makers.put_function_fields.Goals as goal
use Rattle.js_maker_natives.specs.Makers as m

pub returns-clause-ok : goal.returns-clause-ok
returns-clause-ok g c = made.put_twice _ _ _ _ _ (m.with_fixed same_made_symbol (codes "length") (value.Int (pos 0))) (m.with_empty_name same_made_symbol) c.requires c.in_ok-put_fixed.ensures.ok c.put_empty_name.ensures.ok
