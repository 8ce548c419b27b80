-- The first key, and then those behind it.
use Rattle.std.proofs.Common.{◌≡◌, ◌-◌, OnOk, ap, drop, length, map, subst, take, ◌∙◌}
use Rattle.lava_journal.specs.Bodies.{all_spaced, key_pieces}
use Rattle.lava_journal.specs.Pages.{with_each}
use Rattle.lava_journal.proofs.Piece_laws.{first_parted, none_parted}
use Rattle.lava_journal.proofs.answers.write_parted_keys.Goals as goal

pub returns-then-is_empty : goal.returns-then-is_empty
returns-then-is_empty g c = none_parted g.P.Page.with_piece c.args.page.now key_pieces c.args.keys.now c.if-is_empty.ensures

pub returns : goal.returns
returns g c =
    let xs = c.args.keys.now in
    let s = c.args.page.now in
    let rest = all_spaced (map key_pieces (take (length xs - 1) (drop 1 xs))) in
    subst (λ t. OnOk c.write_spaced_keys.result (c.write_spaced_keys.new.page ≡ t))
    (ap (λ t. with_each g.P.Page.with_piece t rest) (c.in_ok-write_key.ensures ∙ ap (λ k. with_each g.P.Page.with_piece s (key_pieces k)) c.index-keys-0.is)
    ∙ first_parted g.P.Page.with_piece s key_pieces xs c.index-keys-0.result c.if-is_empty.ensures)
    c.write_spaced_keys.ensures
