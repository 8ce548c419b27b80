use Rattle.lava_base.specs.Ids.{same_made_symbol}
use Rattle.js_maker_natives.proofs.New_objects as made
use Rattle.js_maker_natives.proofs.makers.new_array.Goals as goal
use Rattle.js_maker_natives.specs.Makers as m

pub returns-clause-ok : goal.returns-clause-ok
returns-clause-ok g c = made.made_and_put _ _ _ _ _ (m.with_array_length same_made_symbol c.args.len) c.in_ok-id.ensures.id c.in_ok-id.ensures.ok c.in_ok-put_length.ensures.ok
