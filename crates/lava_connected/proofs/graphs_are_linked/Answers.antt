use Rattle.lava_connected.proofs.Graph_laws as lemmas
use Rattle.lava_connected.proofs.graphs_are_linked.Goals as goal

pub returns : goal.returns
returns c = lemmas.graphs_are_linked
