-- The next one, and what is left behind it.
use Rattle.std.proofs.Common.{◌+◌, ap, drop, map, sym, ◌∙◌}
use Rattle.lava_journal.specs.Bodies.{all_spaced, key_pieces, spaced}
use Rattle.lava_journal.specs.Pages.{with_each}
use Rattle.lava_journal.proofs.Piece_laws.{left_spaced, none_spaced}
use Rattle.lava_journal.proofs.values.write_spaced_keys.Goals as goal

pub loop-key-preserved : goal.loop-key-preserved
loop-key-preserved g c =
    let xs = c.args.keys.now in
    let n = c.loop-key.key-index in
    let rest = all_spaced (map key_pieces (drop (n + 1) xs)) in
    ap (λ t. with_each g.P.Page.with_piece t rest) (c.in_ok-write_spaced_key.ensures ∙ ap (λ x. with_each g.P.Page.with_piece c.loop-key.page (spaced (key_pieces x))) c.key-item.is)
    ∙ sym (left_spaced g.P.Page.with_piece c.loop-key.page key_pieces xs n c.key-item.result c.loop-key-test.true) ∙ c.loop-key.invariant

pub returns : goal.returns
returns g c = sym (none_spaced g.P.Page.with_piece c.loop-key.page key_pieces c.args.keys.now c.loop-key.key-index c.loop-key-test.false) ∙ c.loop-key.invariant
