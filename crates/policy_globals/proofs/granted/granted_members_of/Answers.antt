-- One member more.
use Rattle.std.proofs.Common.{List, ℕ, Bor, ap, ◌∙◌}
use Rattle.std.proofs.lemmas.List.{take_all}
use Rattle.std.specs.List.{filter_map}
use Rattle.policy_globals.specs.Starts.{host_member, member_if_granted}
use Rattle.policy_globals.proofs.Lists.{picked_at, picked_members}
use Rattle.policy_globals.proofs.granted.granted_members_of.Goals as goal

pub loop-name-preserved : goal.loop-name-preserved
loop-name-preserved c =
    picked_at (λ (m : Bor (List ℕ) × ℕ). host_member c.args.parts.now c.args.whole m.0.now m.1) c.args.members.now c.loop-name.name-index _ c.loop-name.granted c.push_member.new.granted c.loop-name-test.true c.loop-name.invariant c.in_ok-push_member.ensures

pub returns : goal.returns
returns c =
    let f = λ (m : Bor (List ℕ) × ℕ). host_member c.args.parts.now c.args.whole m.0.now m.1 in
    c.loop-name.invariant ∙ ap (filter_map f) (take_all c.loop-name.name-index c.args.members.now c.loop-name-test.false) ∙ picked_members (λ (name : Bor (List ℕ)). name.now) (member_if_granted c.args.parts.now c.args.whole) c.args.members.now
