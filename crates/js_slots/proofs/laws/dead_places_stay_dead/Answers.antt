use Rattle.js_slots.proofs.Finite_maps as maps
use Rattle.js_slots.proofs.laws.dead_places_stay_dead.Goals as goal

pub returns : goal.returns
returns g c = maps.dead_places_stay_dead _ _
