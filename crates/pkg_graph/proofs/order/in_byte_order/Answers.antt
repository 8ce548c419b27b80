use Rattle.std.proofs.Common.{◌≡◌, string_bytes, ◌∙◌, rules}
use Rattle.pkg_graph.proofs.OrderLemmas.{in_order_more}
use Rattle.pkg_graph.proofs.order.in_byte_order.Goals as goal

pub loop-name-preserved : goal.loop-name-preserved
loop-name-preserved c =
    let same : string_bytes c.in_ok-from_str.field-0 ≡ c.name-item.result = search rules in
    c.loop-name.invariant ∙ in_order_more c.args.names.now c.loop-name.name-index c.name-item.result c.loop-name.set.keys c.insert.new.self.keys c.in_ok-from_str.field-0 c.loop-name-test.true c.name-item.is c.in_ok-insert.ensures.keys same
