use Rattle.policy_gen.proofs.Graphs.{graphs_are_named_in_order}
use Rattle.policy_gen.proofs.laws.graphs_are_named_in_order.Goals as goal

pub returns : goal.returns
returns c = graphs_are_named_in_order
