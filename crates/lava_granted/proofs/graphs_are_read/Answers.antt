use Rattle.lava_granted.proofs.Graph_laws as lemmas
use Rattle.lava_granted.proofs.graphs_are_read.Goals as goal

pub returns : goal.returns
returns c = lemmas.graphs_are_read c.graphs_are_named_in_order.ensures
