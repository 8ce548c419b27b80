use Rattle.js_slots.proofs.Finite_maps as maps
use Rattle.js_slots.proofs.laws.tables_are_finite_maps.Goals as goal

pub returns-clause-set : goal.returns-clause-set
returns-clause-set g c = maps.all_get_after_set _ _

pub returns-clause-delete : goal.returns-clause-delete
returns-clause-delete g c = maps.all_get_after_delete _ _

pub returns-clause-clear : goal.returns-clause-clear
returns-clause-clear g c = maps.nothing_after_clear _ _
