-- The next one, and what is left behind it.
use Rattle.std.proofs.Common.{◌+◌, ap, drop, sym, ◌∙◌}
use Rattle.std.specs.List.{flat_map}
use Rattle.lava_journal.specs.Bodies.{all_spaced, global_items, key_pieces, spaced, value_pieces}
use Rattle.lava_journal.specs.Pages.{with_each}
use Rattle.lava_journal.proofs.Piece_laws.{left_pairs, none_in_pairs}
use Rattle.lava_journal.proofs.asks.write_globals.Goals as goal

pub loop-key-preserved : goal.loop-key-preserved
loop-key-preserved g c =
    let xs = c.args.globals.now in
    let n = c.loop-key.key-index in
    let x = c.loop-key-item.result in
    let s = c.loop-key.page in
    let rest = all_spaced (flat_map global_items (drop (n + 1) xs)) in
    ap (λ t. with_each g.P.Page.with_piece t rest)
    (c.in_ok-write_spaced_value.ensures ∙ ap (λ t. with_each g.P.Page.with_piece t (spaced (value_pieces x.1))) c.in_ok-write_spaced_key.ensures
    ∙ ap (λ y. with_each g.P.Page.with_piece (with_each g.P.Page.with_piece s (spaced (key_pieces y.0))) (spaced (value_pieces y.1))) c.loop-key-item.is)
    ∙ sym (left_pairs g.P.Page.with_piece s (λ g. key_pieces g.0) (λ g. value_pieces g.1) xs n x c.loop-key-test.true) ∙ c.loop-key.invariant

pub returns : goal.returns
returns g c = sym (none_in_pairs g.P.Page.with_piece c.loop-key.page (λ g. key_pieces g.0) (λ g. value_pieces g.1) c.args.globals.now c.loop-key.key-index c.loop-key-test.false) ∙ c.loop-key.invariant
