use Rattle.std.proofs.Common.{◌≡◌, ◌++◌, drop, map, string_bytes}
use Rattle.pkg_graph.specs.Naming.{placed_link}
use Rattle.pkg_graph.proofs.order.placed_links.Given as goal

abbrev pub invariant-loop-link : goal.invariant-loop-link
invariant-loop-link l =
    map (placed_link l.names (map string_bytes l.order.keys)) l.links ≡ l.placed ++ map (placed_link l.names (map string_bytes l.order.keys)) (drop l.link-index l.links)
