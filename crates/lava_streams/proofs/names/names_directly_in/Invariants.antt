use Rattle.std.proofs.Common.{◌≡◌, fold, drop}
use Rattle.lava_streams.specs.Files.{names_in, with_name, in_order}
use Rattle.lava_streams.proofs.names.names_directly_in.Given as goal

abbrev pub invariant-loop-file : goal.invariant-loop-file
invariant-loop-file l = in_order (names_in l.files l.dir) ≡ fold with_name l.names.items (names_in (drop l.file-index l.files) l.dir)
