-- There are as many members as the table has.
use Rattle.std.proofs.Common.{◌≡◌, List, ℕ, Bor, length, ap, sym, ◌∙◌}
use Rattle.policy_globals.specs.Hosts.{host_number, host_members, members_in}
use Rattle.policy_globals.specs.Starts.{granted_members, whole_or_part}
use Rattle.policy_globals.proofs.Lists.{length_members}
use Rattle.policy_globals.proofs.granted.host_grant_of.Goals as goal

pub returns : goal.returns
returns c =
    let object = c.args.object in
    let text = λ (name : Bor (List ℕ)). name.now in
    let members : members_in text c.members-members.result.now ≡ host_members object = c.members-members.ensures in
    let count : length c.members-members.result.now ≡ length (host_members object) = sym (length_members text c.members-members.result.now) ∙ ap length members in
    let granted : c.in_ok-granted.granted ≡ granted_members c.args.parts.now c.args.whole (host_members object) = c.in_ok-granted.ensures ∙ ap (granted_members c.args.parts.now c.args.whole) members in
    c.grant_of_members.ensures ∙ ap (λ n. whole_or_part n (length c.members-members.result.now) c.in_ok-granted.granted) c.number.ensures
    ∙ ap (λ n. whole_or_part (host_number object) n c.in_ok-granted.granted) count ∙ ap (whole_or_part (host_number object) (length (host_members object))) granted
