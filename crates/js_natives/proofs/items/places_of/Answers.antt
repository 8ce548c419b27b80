use Rattle.js_natives.proofs.Sorted_once.{sorted_all}
use Rattle.js_natives.proofs.items.places_of.Goals as goal

pub returns : goal.returns
returns c = sorted_all (λ p. p.items) c.sorted_places.result c.in_ok-texts.texts _ c.places_are_sorted.ensures c.in_ok-texts.ensures c.sorted_places.ensures
