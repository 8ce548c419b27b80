-- One name more.
use Rattle.std.proofs.Common.{◌≡◌, ◌<◌, length, get_or, ap, subst, ◌∙◌}
use Rattle.policy_globals.specs.Starts.{member_if_live}
use Rattle.policy_globals.proofs.Lists.{picked_more}
use Rattle.policy_globals.proofs.granted.live_members_of.Goals as goal

pub loop-name-preserved : goal.loop-name-preserved
loop-name-preserved c =
    let parts = c.args.parts.now in
    let i = c.loop-name.name-index in
    let e = c.loop-name-item.result in
    let slice : c.as_slice-name-items.result.now ≡ parts = c.as_slice-name-items.ensures in
    let here : e ≡ get_or parts i e = c.loop-name-item.is ∙ ap (λ xs. get_or xs i e) slice in
    let lt : i < length parts = subst (λ xs. i < length xs) slice c.loop-name-test.true in
    picked_more member_if_live parts i e c.loop-name.granted c.push_live.new.granted lt here c.loop-name.invariant c.in_ok-push_live.ensures
