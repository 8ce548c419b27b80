use Rattle.std.proofs.Common.{◌≡◌, map, string_bytes, fold}
use Rattle.std.specs.List.{list_all}
use Rattle.lava_streams.specs.Files.{with_name}
use Rattle.pkg_graph.specs.PackageNames.{is_package_name}
use Rattle.pkg_graph.specs.Gathering.{texts_of}
use Rattle.pkg_graph.proofs.manifest.add_keys.Given as goal

abbrev pub invariant-loop-key : goal.invariant-loop-key
invariant-loop-key l =
    (list_all is_package_name (map string_bytes l.initial.key-iterator) ≡ list_all is_package_name (map string_bytes l.key-iterator))
    × (fold with_name (texts_of l.initial.names) (map string_bytes l.initial.key-iterator) ≡ fold with_name (texts_of l.names) (map string_bytes l.key-iterator))
