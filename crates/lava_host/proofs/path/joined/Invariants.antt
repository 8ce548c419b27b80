-- The names before the place are joined.
use Rattle.std.proofs.Common.{◌≡◌, take, string_bytes}
use Rattle.lava_host.specs.Paths.{path_below}
use Rattle.lava_host.proofs.path.joined.Given as goal

abbrev pub invariant-loop-name : goal.invariant-loop-name
invariant-loop-name l = string_bytes l.path ≡ path_below l.dir (take l.name-index l.names)
