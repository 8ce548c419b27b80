-- What is written, and what is left to write.
use Rattle.std.proofs.Common.{◌≡◌, drop}
use Rattle.std.specs.List.{flat_map}
use Rattle.lava_journal.specs.Bodies.{all_spaced, global_items}
use Rattle.lava_journal.specs.Pages.{with_each}
use Rattle.lava_journal.proofs.asks.write_globals.Given as goal

abbrev pub invariant-loop-key : goal.invariant-loop-key
invariant-loop-key g l = with_each g.P.Page.with_piece l.page (all_spaced (flat_map global_items (drop l.key-index l.globals))) ≡ with_each g.P.Page.with_piece l.initial.page (all_spaced (flat_map global_items l.globals))
