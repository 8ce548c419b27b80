-- What is written, and what is left to write.
use Rattle.std.proofs.Common.{◌≡◌, drop}
use Rattle.std.specs.List.{flat_map}
use Rattle.lava_journal.specs.Bodies.{all_spaced, module_items}
use Rattle.lava_journal.specs.Pages.{with_each}
use Rattle.lava_journal.proofs.asks.write_modules.Given as goal

abbrev pub invariant-loop-name : goal.invariant-loop-name
invariant-loop-name g l = with_each g.P.Page.with_piece l.page (all_spaced (flat_map module_items (drop l.name-index l.modules))) ≡ with_each g.P.Page.with_piece l.initial.page (all_spaced (flat_map module_items l.modules))
