-- What is written, and what is left to write.
use Rattle.std.proofs.Common.{◌≡◌, drop, map}
use Rattle.lava_journal.specs.Bodies.{all_spaced, value_pieces}
use Rattle.lava_journal.specs.Pages.{with_each}
use Rattle.lava_journal.proofs.values.write_spaced_values.Given as goal

abbrev pub invariant-loop-value : goal.invariant-loop-value
invariant-loop-value g l = with_each g.P.Page.with_piece l.page (all_spaced (map value_pieces (drop l.value-index l.values))) ≡ with_each g.P.Page.with_piece l.initial.page (all_spaced (map value_pieces l.values))
