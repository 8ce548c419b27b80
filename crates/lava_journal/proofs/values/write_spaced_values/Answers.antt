-- The next one, and what is left behind it.
use Rattle.std.proofs.Common.{◌+◌, ap, drop, map, sym, ◌∙◌}
use Rattle.lava_journal.specs.Bodies.{all_spaced, value_pieces, spaced}
use Rattle.lava_journal.specs.Pages.{with_each}
use Rattle.lava_journal.proofs.Piece_laws.{left_spaced, none_spaced}
use Rattle.lava_journal.proofs.values.write_spaced_values.Goals as goal

pub loop-value-preserved : goal.loop-value-preserved
loop-value-preserved g c =
    let xs = c.args.values.now in
    let n = c.loop-value.value-index in
    let rest = all_spaced (map value_pieces (drop (n + 1) xs)) in
    ap (λ t. with_each g.P.Page.with_piece t rest) (c.in_ok-write_spaced_value.ensures ∙ ap (λ x. with_each g.P.Page.with_piece c.loop-value.page (spaced (value_pieces x))) c.value-item.is)
    ∙ sym (left_spaced g.P.Page.with_piece c.loop-value.page value_pieces xs n c.value-item.result c.loop-value-test.true) ∙ c.loop-value.invariant

pub returns : goal.returns
returns g c = sym (none_spaced g.P.Page.with_piece c.loop-value.page value_pieces c.args.values.now c.loop-value.value-index c.loop-value-test.false) ∙ c.loop-value.invariant
