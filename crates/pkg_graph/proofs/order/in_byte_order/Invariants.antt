use Rattle.std.proofs.Common.{◌≡◌, drop, fold}
use Rattle.lava_streams.specs.Files.{with_name, in_order}
use Rattle.pkg_graph.specs.Gathering.{texts_of}
use Rattle.pkg_graph.proofs.order.in_byte_order.Given as goal

abbrev pub invariant-loop-name : goal.invariant-loop-name
invariant-loop-name l = in_order l.names ≡ fold with_name (texts_of l.set) (drop l.name-index l.names)
