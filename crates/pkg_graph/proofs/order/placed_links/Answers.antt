use Rattle.std.proofs.Common.{◌≡◌, [], ◌∷◌, ◌++◌, map, string_bytes, rules}
use Rattle.pkg_graph.specs.Naming.{placed_link}
use Rattle.pkg_graph.proofs.OrderLemmas.{map_more}
use Rattle.pkg_graph.proofs.order.placed_links.Goals as goal

pub loop-link-preserved : goal.loop-link-preserved
loop-link-preserved c =
    let order = map string_bytes c.args.order.now.keys in
    let put : c.push.new.self ≡ c.loop-link.placed ++ placed_link c.args.names.now order c.link-item.result ∷ [] = search rules in
    map_more (placed_link c.args.names.now order) _ c.args.links.now c.loop-link.link-index c.link-item.result c.loop-link.placed c.push.new.self (placed_link c.args.names.now order c.link-item.result) c.loop-link-test.true c.link-item.is c.loop-link.invariant put (λ i. placed_link c.args.names.now order c.link-item.result)
