-- What is written, and what is left to write.
use Rattle.std.proofs.Common.{◌≡◌, drop, map}
use Rattle.lava_journal.specs.Bodies.{all_spaced, key_pieces}
use Rattle.lava_journal.specs.Pages.{with_each}
use Rattle.lava_journal.proofs.values.write_spaced_keys.Given as goal

abbrev pub invariant-loop-key : goal.invariant-loop-key
invariant-loop-key g l = with_each g.P.Page.with_piece l.page (all_spaced (map key_pieces (drop l.key-index l.keys))) ≡ with_each g.P.Page.with_piece l.initial.page (all_spaced (map key_pieces l.keys))
