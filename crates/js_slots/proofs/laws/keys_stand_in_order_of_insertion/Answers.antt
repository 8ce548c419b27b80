use Rattle.js_slots.proofs.Finite_maps as maps
use Rattle.js_slots.proofs.laws.keys_stand_in_order_of_insertion.Goals as goal

pub returns-clause-last : goal.returns-clause-last
returns-clause-last g c = maps.new_keys_go_last _ _

pub returns-clause-others : goal.returns-clause-others
returns-clause-others g c = maps.keys_keep_their_places _ _
