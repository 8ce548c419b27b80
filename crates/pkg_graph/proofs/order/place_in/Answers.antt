use Rattle.std.proofs.Common.{ℕ, Option, unwrap_or, bytes_eq, ap, ◌∙◌}
use Rattle.pkg_graph.proofs.NearestLemmas.{position-texts}
use Rattle.pkg_graph.proofs.order.place_in.Goals as goal

pub returns : goal.returns
returns c =
    c.unwrap_or.ensures ∙ ap (λ (o : Option ℕ). unwrap_or o 0) (c.get_index_of.ensures.index ∙ position-texts (bytes_eq c.args.name.now) c.args.places.now.keys)
