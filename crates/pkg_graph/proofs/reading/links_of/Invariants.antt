use Rattle.std.proofs.Common.{◌≡◌, [], drop, Some}
use Rattle.lava_streams.specs.Files.{Files}
use Rattle.pkg_graph.specs.Worlds.{world_of}
use Rattle.pkg_graph.specs.Reading.{links_from}
use Rattle.pkg_graph.proofs.reading.links_of.Given as goal

abbrev pub invariant-loop-name : goal.invariant-loop-name
invariant-loop-name g l = record {
  told : (g.F.Folder.stand l.folder).told ≡ (g.F.Folder.stand l.initial.folder).told;
  count : (g.F.Folder.stand l.folder).count ≡ (g.F.Folder.stand l.initial.folder).count;
  rest : (files : Files) → (g.F.Folder.stand l.initial.folder).told ≡ Some files → links_from (world_of files l.root) l.at l.dir l.initial.reading [] l.name-items ≡ links_from (world_of files l.root) l.at l.dir l.reading l.links (drop l.name-index l.name-items);
}
