use Rattle.std.proofs.Common.{◌≡◌, ◌-◌, Some}
use Rattle.lava_streams.specs.Files.{Files}
use Rattle.pkg_graph.specs.Worlds.{world_of}
use Rattle.pkg_graph.specs.Reading.{read_on}
use Rattle.pkg_graph.specs.declared.limits.TheConstants.{PACKAGE_LIMIT}
use Rattle.pkg_graph.proofs.reading.read_on.Given as goal

abbrev pub invariant-loop-round : goal.invariant-loop-round
invariant-loop-round g l = record {
  told : (g.F.Folder.stand l.folder).told ≡ (g.F.Folder.stand l.initial.folder).told;
  count : (g.F.Folder.stand l.folder).count ≡ (g.F.Folder.stand l.initial.folder).count;
  rest : (files : Files) → (g.F.Folder.stand l.initial.folder).told ≡ Some files → read_on (world_of files l.root) PACKAGE_LIMIT l.initial.reading ≡ read_on (world_of files l.root) (PACKAGE_LIMIT - l.round) l.reading;
}
