use Rattle.std.proofs.Common.{rules}
use Rattle.pkg_graph.specs.Naming.{package_of}
use Rattle.pkg_graph.proofs.OrderLemmas.{map_more}
use Rattle.pkg_graph.proofs.order.packages_in.Goals as goal

pub loop-name-preserved : goal.loop-name-preserved
loop-name-preserved c =
    let made = package_of c.args.reading.now c.args.names.now c.args.order.now in
    map_more made _ c.args.order.now c.loop-name.name-index c.name-item.result c.loop-name.packages c.push.new.self (made c.name-item.result) c.loop-name-test.true c.name-item.is c.loop-name.invariant (search rules) (λ i. made c.name-item.result)
