-- One name more.
use Rattle.std.proofs.Common.{◌≡◌, ◌++◌, ap, ◌∙◌}
use Rattle.std.specs.Option.{option_to_list}
use Rattle.policy_globals.specs.Starts.{grant_of, named_grant, with_name}
use Rattle.policy_globals.proofs.Lists.{picked_more}
use Rattle.policy_globals.proofs.granted.globals_of_keys.Goals as goal

pub loop-name-preserved : goal.loop-name-preserved
loop-name-preserved c =
    let keys = c.args.keys.now in
    let e = c.loop-name-item.result in
    let grant : c.in_ok-grant.grant ≡ grant_of keys e = c.in_ok-grant.ensures ∙ ap (λ name. grant_of keys (name, e.1)) c.as_str.ensures in
    picked_more (named_grant keys) c.as_slice-name-items.result.now c.loop-name.name-index e c.loop-name.globals c.push_grant.new.globals c.loop-name-test.true c.loop-name-item.is c.loop-name.invariant
    (c.in_ok-push_grant.ensures ∙ ap (λ grant. c.loop-name.globals ++ option_to_list (with_name e.0 grant)) grant)
