-- The next one, and what is left behind it.
use Rattle.std.proofs.Common.{◌+◌, ap, drop, sym, ◌∙◌}
use Rattle.std.specs.List.{flat_map}
use Rattle.lava_journal.specs.Bodies.{all_spaced, module_items, plain, spaced, value_pieces}
use Rattle.lava_journal.specs.Quotes.{quoted}
use Rattle.lava_journal.specs.Pages.{with_each}
use Rattle.lava_journal.proofs.Piece_laws.{left_pairs, none_in_pairs}
use Rattle.lava_journal.proofs.asks.write_modules.Goals as goal

pub loop-name-preserved : goal.loop-name-preserved
loop-name-preserved g c =
    let xs = c.args.modules.now in
    let n = c.loop-name.name-index in
    let x = c.loop-name-item.result in
    let s = c.loop-name.page in
    let rest = all_spaced (flat_map module_items (drop (n + 1) xs)) in
    ap (λ t. with_each g.P.Page.with_piece t rest)
    (c.in_ok-write_spaced_value.ensures ∙ ap (λ t. with_each g.P.Page.with_piece t (spaced (value_pieces x.1))) c.in_ok-write_spaced_text.ensures
    ∙ ap (λ y. with_each g.P.Page.with_piece (with_each g.P.Page.with_piece s (spaced (plain (quoted y.0)))) (spaced (value_pieces y.1))) c.loop-name-item.is)
    ∙ sym (left_pairs g.P.Page.with_piece s (λ g. plain (quoted g.0)) (λ g. value_pieces g.1) xs n x c.loop-name-test.true) ∙ c.loop-name.invariant

pub returns : goal.returns
returns g c = sym (none_in_pairs g.P.Page.with_piece c.loop-name.page (λ g. plain (quoted g.0)) (λ g. value_pieces g.1) c.args.modules.now c.loop-name.name-index c.loop-name-test.false) ∙ c.loop-name.invariant
